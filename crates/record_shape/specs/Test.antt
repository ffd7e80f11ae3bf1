-- Soundness and the deepest level (01, "Words, bytes and bounds") as tests that compute. Law `record-tells` says that the test of a record's nodes
-- passes exactly if the record is sound, and `record-deepest` that the level is then its deepest.
use Rattle.std.specs.Prelude.{Bool, ◌&&◌, ℕ, zero, suc, min, max, eqb, leb}
use Rattle.lists.specs.Below.{all_below}
use Rattle.soundness.specs.Range.{in_range}
use Rattle.soundness.specs.Shape.{Shape, parents, holders}
use Rattle.node_rule.specs.Rule.{node_rule}
use Rattle.record_shape.specs.Record.{Nodes, shape_in}

-- a where the number is not 0, else b
abbrev pub if_nonzero : ℕ → ℕ → ℕ → ℕ
if_nonzero zero a b = b
if_nonzero (suc k) a b = a

-- the last of the first k nodes in whose child range v stands; 0 if v stands in none
unfoldable pub parent_among : Shape → ℕ → ℕ → ℕ
parent_among S zero v = 0
parent_among S (suc k) v = if_nonzero (in_range v (S.base k) (S.children k)) k (parent_among S k v)

-- v's level, or g if it is more: as many steps as lead from v up to the first node
unfoldable pub level_upto : Shape → ℕ → ℕ → ℕ
unfolding parent_among
level_upto S zero v = 0
level_upto S (suc g) zero = 0
level_upto S (suc g) (suc v) = suc (level_upto S g (parent_among S S.nodes (suc v)))

-- the greatest of f 0, .., f (k − 1), and 0 if k is 0
unfoldable pub greatest : (ℕ → ℕ) → ℕ → ℕ
greatest f zero = 0
greatest f (suc k) = max (greatest f k) (f k)

-- Every node passes the rule; the first node stands in no child range and every other in one; every position stands in one leaf range; no level
-- is over 31.
unfoldable pub sound_test : Shape → (ℕ → Bool) → Bool
unfolding level_upto
sound_test S rule =
    all_below rule S.nodes
    && all_below (λ v. eqb (parents S S.nodes v) (min 1 v)) S.nodes
    && all_below (λ x. eqb (holders S S.nodes x) 1) S.positions
    && all_below (λ v. leb (level_upto S 32 v) 31) S.nodes

unfoldable pub deepest_of : Shape → ℕ
unfolding level_upto greatest
deepest_of S = greatest (level_upto S 32) S.nodes

-- the same of a record's nodes, taken to have n positions
module _ (N : Nodes) (n : ℕ) where
  unfoldable pub sound_nodes : Bool
  unfolding sound_test shape_in
  sound_nodes = sound_test (shape_in N n) (λ i. node_rule (N.node i) N.count n i)

  unfoldable pub deepest_nodes : ℕ
  unfolding deepest_of shape_in
  deepest_nodes = deepest_of (shape_in N n)
