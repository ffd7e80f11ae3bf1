-- The shape of a record: which nodes are whose children, and which positions stand in whose leaf ranges (01, "Words, bytes and bounds").
-- It is what the bytes of a record, or the layout of a wide tree, say of both.
use Rattle.std.specs.Prelude.{◌≡◌, ℕ, zero, suc, ◌+◌, ◌<◌, ◌≤◌}
use Rattle.lists.specs.Sums.{sum}
use Rattle.soundness.specs.Range.{in_range}

-- Node i has the child range of `children i` nodes from `base i` on; its slot s has the leaf range of `count i s` positions from `start i s` on.
pub record Shape : Type 0 where
  pub nodes : ℕ
  pub positions : ℕ
  pub base : ℕ → ℕ
  pub children : ℕ → ℕ
  pub start : ℕ → ℕ → ℕ
  pub count : ℕ → ℕ → ℕ

-- node c stands in the child range of node p, its parent
pub record ChildOf (S : Shape) (p c : ℕ) : Type 0 where
  pub parent : p < S.nodes
  pub from : S.base p ≤ c
  pub before : c < S.base p + S.children p

-- position x stands in the leaf range of slot s of node i
pub record Holds (S : Shape) (i s x : ℕ) : Type 0 where
  pub node : i < S.nodes
  pub slot : s < 8
  pub from : S.start i s ≤ x
  pub before : x < S.start i s + S.count i s

-- in how many child ranges of the first k nodes x stands
abbrev pub parents : Shape → ℕ → ℕ → ℕ
parents S k x = sum (λ i. in_range x (S.base i) (S.children i)) k

-- in how many of node i's eight leaf ranges position x stands
abbrev pub positions_held : Shape → ℕ → ℕ → ℕ
positions_held S i x = sum (λ s. in_range x (S.start i s) (S.count i s)) 8

-- in how many leaf ranges of the first k nodes position x stands
abbrev pub holders : Shape → ℕ → ℕ → ℕ
holders S k x = sum (λ i. positions_held S i x) k

-- level 0 is the first node's, and any other node's is its parent's plus 1
unfoldable pub Level : Shape → ℕ → ℕ → Type 0
Level S zero v = v ≡ 0
Level S (suc l) v = (p : ℕ) × ChildOf S p v × Level S l p

-- what the node rule says of node i's ranges: children come later and exist, positions exist
pub record RangesPlaced (S : Shape) (i : ℕ) : Type 0 where
  pub later : 0 < S.children i → i < S.base i
  pub exist : 0 < S.children i → S.base i + S.children i ≤ S.nodes
  pub inside : (s : ℕ) → s < 8 → 0 < S.count i s → S.start i s + S.count i s ≤ S.positions
