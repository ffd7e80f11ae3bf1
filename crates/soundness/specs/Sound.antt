-- Sound records and their deepest level (01, "Words, bytes and bounds").
use Rattle.std.specs.Prelude.{◌⊎◌, ◌≡◌, ℕ, ◌<◌, ◌≤◌}
use Rattle.soundness.specs.Shape.{Shape, ChildOf, Holds, parents, holders, Level}

-- Every node meets the rule; the first node stands in no child range and every other in exactly one; every position stands in exactly one
-- leaf range; no level is over 31.
pub record Sound (S : Shape) (Rule : ℕ → Type 0) : Type 0 where
  pub rule : (i : ℕ) → i < S.nodes → Rule i
  pub first : parents S S.nodes 0 ≡ 0
  pub others : (v : ℕ) → 0 < v → v < S.nodes → parents S S.nodes v ≡ 1
  pub filled : (x : ℕ) → x < S.positions → holders S S.nodes x ≡ 1
  pub levels : (v l : ℕ) → v < S.nodes → Level S l v → l ≤ 31

-- the deepest level is d: no node's is greater, and some node's is d; without nodes it is 0
pub record Deepest (S : Shape) (d : ℕ) : Type 0 where
  pub most : (v l : ℕ) → v < S.nodes → Level S l v → l ≤ d
  pub some : ((S.nodes ≡ 0) × (d ≡ 0)) ⊎ ((v : ℕ) × (v < S.nodes) × Level S d v)

-- The same by naming the one range instead of counting: exactly one node is v's parent, and exactly one slot of one node holds position x. And
-- exactly
-- one level is v's.
pub record OneParent (S : Shape) (v : ℕ) : Type 0 where
  pub parent : ℕ
  pub child : ChildOf S parent v
  pub only : (p : ℕ) → ChildOf S p v → p ≡ parent

pub record OneHolder (S : Shape) (x : ℕ) : Type 0 where
  pub node : ℕ
  pub slot : ℕ
  pub holds : Holds S node slot x
  pub only : (i s : ℕ) → Holds S i s x → (i ≡ node) × (s ≡ slot)

pub record OneLevel (S : Shape) (v : ℕ) : Type 0 where
  pub level : ℕ
  pub has : Level S level v
  pub only : (l : ℕ) → Level S l v → l ≡ level
