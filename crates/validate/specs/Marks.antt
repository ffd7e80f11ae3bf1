-- Internal: what the pass over the nodes writes into the working words, for the contracts of its parts. Words of nodes come first, then those of
-- positions. A node's word becomes its level plus 1 when its parent is met, a position's word becomes 1.
use Rattle.std.specs.Prelude.{Bool, true, false, List, ◌⊎◌, ◌≡◌, ℕ, suc, ◌+◌, ◌<◌, ◌≤◌, min, ltb, length, get_or}
use Rattle.lists.specs.Below.{all_below}
use Rattle.lists.specs.Sums.{sum}
use Rattle.soundness.specs.Range.{in_range}
use Rattle.soundness.specs.Shape.{Shape, ChildOf}
use Rattle.record_shape.specs.Record.{node_count, RuleAt}

-- ---- what the parts are given

-- k words from a on lie in a slice of this length, if k is not 0
pub record MarkRoom (a k long : ℕ) : Type 0 where
  pub inside : 0 < k → a + k ≤ long

-- as many working words as the record has nodes and positions together
pub record WorkSized (bytes : List ℕ) (n m long : ℕ) : Type 0 where
  pub few : m ≤ 65535
  pub small : n ≤ 65536
  pub nodes : m ≡ node_count bytes
  pub words : long ≡ m + n

-- and node i meets the rule
pub record Ruled (bytes : List ℕ) (n i m long : ℕ) : Type 0 where
  pub sized : WorkSized bytes n m long
  pub below : i < m
  pub rule : RuleAt bytes n i

-- the words before the pass: there is a node, and all are zero
pub record Start (bytes : List ℕ) (n m : ℕ) (o : List ℕ) : Type 0 where
  pub sized : WorkSized bytes n m (length o)
  pub some : 0 < m
  pub zeros : (k : ℕ) → get_or o k 0 ≡ 0

-- ---- marks

-- 1 if word k is not zero
abbrev pub seen : List ℕ → ℕ → ℕ
seen o k = min 1 (get_or o k 0)

-- in how many of node i's first t leaf ranges word k stands, and in how many of all its ranges
abbrev pub position_marks : Shape → ℕ → ℕ → ℕ → ℕ
position_marks S i t k = sum (λ s. in_range k (S.nodes + S.start i s) (S.count i s)) t

abbrev pub node_marks : Shape → ℕ → ℕ → ℕ
node_marks S i k = in_range k (S.base i) (S.children i) + position_marks S i 8 k

-- words a, .., a + k − 1 were zero and are v now, the others as they were
pub record Filled (o : List ℕ) (a k v : ℕ) (q : List ℕ) : Type 0 where
  pub free : (x : ℕ) → a ≤ x → x < a + k → get_or o x 0 ≡ 0
  pub inside : (x : ℕ) → a ≤ x → x < a + k → get_or q x 0 ≡ v
  pub before : (x : ℕ) → x < a → get_or q x 0 ≡ get_or o x 0
  pub after : (x : ℕ) → a + k ≤ x → get_or q x 0 ≡ get_or o x 0

-- one of the words a, .., a + k − 1 was not zero
pub record Blocked (o : List ℕ) (a k : ℕ) : Type 0 where
  pub place : ℕ
  pub from : a ≤ place
  pub before : place < a + k
  pub taken : 1 ≤ get_or o place 0

unfoldable pub Fill : Bool → List ℕ → ℕ → ℕ → ℕ → List ℕ → Type 0
Fill true o a k v q = Filled o a k v q
Fill false o a k v q = Blocked o a k

-- the same of the words of slot s's positions
abbrev pub MarksSlot : Bool → Shape → ℕ → ℕ → List ℕ → List ℕ → Type 0
MarksSlot b S i s o q = Fill b o (S.nodes + S.start i s) (S.count i s) 1 q

-- the words of node i's first t leaf ranges are marked, and the words of nodes are as they were
pub record PositionsMarked (S : Shape) (i t : ℕ) (o q : List ℕ) : Type 0 where
  pub adds : (k : ℕ) → seen q k ≡ seen o k + position_marks S i t k
  pub nodes : (x : ℕ) → x < S.nodes → get_or q x 0 ≡ get_or o x 0

-- node i's leaf ranges would mark some word twice
pub record PositionTwice (S : Shape) (i : ℕ) (o : List ℕ) : Type 0 where
  pub word : ℕ
  pub within : word < S.nodes + S.positions
  pub count : 2 ≤ seen o word + position_marks S i 8 word

unfoldable pub MarksPositions : Bool → Shape → ℕ → List ℕ → List ℕ → Type 0
MarksPositions true S i o q = PositionsMarked S i 8 o q
MarksPositions false S i o q = PositionTwice S i o

-- all words of node i's ranges are marked, its children's by its own word plus 1
pub record NodeMarked (S : Shape) (i : ℕ) (o q : List ℕ) : Type 0 where
  pub adds : (k : ℕ) → seen q k ≡ seen o k + node_marks S i k
  pub sets : (x : ℕ) → x < S.nodes → (get_or q x 0 ≡ get_or o x 0) ⊎ (ChildOf S i x × (get_or q x 0 ≡ suc (get_or o i 0)))

-- node i would mark some word twice
pub record WordTwice (S : Shape) (i : ℕ) (o : List ℕ) : Type 0 where
  pub word : ℕ
  pub within : word < S.nodes + S.positions
  pub count : 2 ≤ seen o word + node_marks S i word

unfoldable pub MarksNode : Bool → Shape → ℕ → List ℕ → List ℕ → Type 0
MarksNode true S i o q = NodeMarked S i o q
MarksNode false S i o q = WordTwice S i o

-- none of the n words from m on is zero
unfoldable pub all_marked : List ℕ → ℕ → ℕ → Bool
all_marked o m n = all_below (λ x. ltb 0 (get_or o (m + x) 0)) n
