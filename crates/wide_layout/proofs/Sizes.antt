-- How much the slots of a node hold.
use mathlib.Core.List.{◌++◌}
use mathlib.Core.Logic.{◌⊎◌, inl, inr}
use mathlib.Core.Path.{◌≡◌, refl, sym, ap, ◌∙◌}
use Prim.Native.Nat.{ℕ, zero, suc, ◌+◌, ◌*◌, ◌≤◌, ◌<◌, ◌-◌, max}
use native.Mathlib.Omega.{arith}
use lib.ListN.{length, length-append}
use Rattle.lists.specs.Sums.{sum}
use Rattle.lists.proofs.Sums.{sum-zero, sum_front}
use Rattle.wide_layout.specs.Wide.{Slots, end, empty, leaf, inner, Wide}
use Rattle.wide_layout.specs.Sizes.{children, inner_children, inner_before, inner_at, nodes_below, own_positions, own_count, own_before, own_at}
use Rattle.wide_layout.specs.Sizes.{positions_below, count_below, slots_positions, SmallLeaves, Branching}
use Rattle.wide_layout.specs.Layout.{nodes, index_list, index_count}

-- ---- children

pub inner_most : {w : ℕ} (s : Slots w) → inner_children s ≤ children s
inner_most end = omega arith
inner_most (empty s) = inner_most s
inner_most (leaf b ps s) = omega (arith, inner_most s)
inner_most (inner b t s) = omega (arith, inner_most s)

-- the rank of an inner child among the inner children
pub rank_below : {w : ℕ} (s : Slots w) (k : ℕ) → inner_at s k ≡ 1 → inner_before s k < inner_children s
rank_below end k h = absurd (omega arith)
rank_below (empty s) zero h = absurd (omega arith)
rank_below (empty s) (suc k) h = rank_below s k h
rank_below (leaf b ps s) zero h = absurd (omega arith)
rank_below (leaf b ps s) (suc k) h = rank_below s k h
rank_below (inner b t s) zero h = omega arith
rank_below (inner b t s) (suc k) h = omega (arith, rank_below s k h)

-- a rank is a count of the slots before that have an inner child
pub rank_sum : {w : ℕ} (s : Slots w) (k : ℕ) → inner_before s k ≡ sum (λ j. inner_at s j) k
unfolding sum
rank_sum end k = sym (sum-zero (λ j. 0) k (λ j h. refl))
rank_sum (empty s) zero = refl
rank_sum (empty s) (suc k) = rank_sum s k ∙ omega (arith, sum_front (λ j. inner_at (empty s) j) k)
rank_sum (leaf b ps s) zero = refl
rank_sum (leaf b ps s) (suc k) = rank_sum s k ∙ omega (arith, sum_front (λ j. inner_at (leaf b ps s) j) k)
rank_sum (inner b t s) zero = refl
rank_sum (inner b t s) (suc k) = ap suc (rank_sum s k) ∙ omega (arith, sum_front (λ j. inner_at (inner b t s) j) k)

-- ---- positions

pub own_length : {w : ℕ} (s : Slots w) → length (own_positions s) ≡ own_count s
own_length end = refl
own_length (empty s) = own_length s
own_length (leaf b ps s) = omega (arith, length-append ps (own_positions s), own_length s)
own_length (inner b t s) = own_length s

pub below_length : {w : ℕ} (s : Slots w) → length (positions_below s) ≡ count_below s
below_length end = refl
below_length (empty s) = below_length s
below_length (leaf b ps s) = below_length s
below_length (inner b t s) =
    omega (
      arith,
      length-append (own_positions t ++ positions_below t) (positions_below s),
      length-append (own_positions t) (positions_below t),
      own_length t,
      below_length t,
      below_length s,
    )

pub index_length : (t : Wide) → length (index_list t) ≡ index_count t
index_length t = omega (arith, length-append (own_positions t.slots) (positions_below t.slots), own_length t.slots, below_length t.slots)

pub positions-length : {w : ℕ} (s : Slots w) → length (slots_positions s) ≡ own_count s + count_below s
positions-length end = refl
positions-length (empty s) = positions-length s
positions-length (leaf b ps s) = omega (arith, length-append ps (slots_positions s), positions-length s)
positions-length (inner b t s) = omega (arith, length-append (slots_positions t) (slots_positions s), positions-length t, positions-length s)

-- a slot's leaf range lies among the node's own positions
pub own_inside : {w : ℕ} (s : Slots w) (k : ℕ) → own_before s k + own_at s k ≤ own_count s
own_inside end k = omega arith
own_inside (empty s) zero = omega arith
own_inside (empty s) (suc k) = own_inside s k
own_inside (leaf b ps s) zero = omega arith
own_inside (leaf b ps s) (suc k) = omega (arith, own_inside s k)
own_inside (inner b t s) zero = omega arith
own_inside (inner b t s) (suc k) = own_inside s k

-- one to three positions to a leaf child: a node of w slots has at most 3 w of its own
pub own_most : {w : ℕ} (s : Slots w) → SmallLeaves s → own_count s ≤ 3 * w
own_most end h = omega arith
own_most (empty s) h = omega (arith, own_most s h)
own_most (leaf b ps s) h = omega (arith, h.1, own_most s h.2)
own_most (inner b t s) h = omega (arith, own_most s h.1)

pub own_at_most : {w : ℕ} (s : Slots w) (k : ℕ) → SmallLeaves s → own_at s k ≤ 3
own_at_most end k h = omega arith
own_at_most (empty s) zero h = omega arith
own_at_most (empty s) (suc k) h = own_at_most s k h
own_at_most (leaf b ps s) zero h = h.1
own_at_most (leaf b ps s) (suc k) h = own_at_most s k h.2
own_at_most (inner b t s) zero h = omega arith
own_at_most (inner b t s) (suc k) h = own_at_most s k h.1

-- ---- few nodes: where every node has two children or more, there is a node less than there are positions, at least

below_few : {w : ℕ} (s : Slots w) → SmallLeaves s → Branching s → inner_children s + nodes_below s + children s ≤ own_count s + count_below s
below_few end h k = omega arith
below_few (empty s) h k = below_few s h k
below_few (leaf b ps s) h k = omega (arith, h.0, below_few s h.2 k)
below_few (inner b t s) h k = omega (arith, k.0, below_few t h.0 k.1, below_few s h.1 k.2)

pub nodes_few : (t : Wide) → SmallLeaves t.slots → Branching t.slots → 2 ≤ children t.slots → nodes t + 1 ≤ index_count t
nodes_few t h k two = omega (arith, below_few t.slots h k)

-- a root with one child has a leaf child there
pub nodes_most : (t : Wide) → SmallLeaves t.slots → Branching t.slots → (2 ≤ children t.slots) ⊎ (nodes t ≡ 1)
    → nodes t ≤ max 1 (index_count t - 1)
nodes_most t h k (inl two) = omega (arith, nodes_few t h k two)
nodes_most t h k (inr one) = omega arith
