-- Where the ranges of a layout's nodes lie: children after their node, and all within the record and the index list.
use Prim.Native.Nat.{ℕ, ◌+◌, ◌≤◌}
use native.Mathlib.Omega.{arith}
use Rattle.wide_layout.specs.Wide.{Slots, end, empty, leaf, inner, Wide}
use Rattle.wide_layout.specs.Sizes.{inner_children, nodes_below, own_count, count_below, SmallLeaves}
use Rattle.wide_layout.specs.Layout.{entries, layout, EachEntry, nodes, index_count}
use Rattle.wide_layout.specs.Shape.{EntryInside}
use Rattle.wide_layout.proofs.Sizes.{own_most}
use Rattle.wide_layout.proofs.Each.{each_append, each_map}

pub inside_below : {w : ℕ} (s : Slots w) (l p k i c q m n : ℕ) → i + inner_children s ≤ c → c + nodes_below s ≤ m → q + count_below s ≤ n
    → EachEntry (EntryInside m n) (entries s l p k i c q)
inside_below end l p k i c q m n h u v = tt
inside_below (empty s) l p k i c q m n h u v = inside_below s l p (k + 1) i c q m n h u v
inside_below (leaf b ps s) l p k i c q m n h u v = inside_below s l p (k + 1) i c q m n h u v
inside_below (inner b t s) l p k i c q m n h u v = (
  record { number = omega arith; later = omega arith; nodes = omega arith; positions = omega arith },
  each_append (EntryInside m n) (entries t (l + 1) i 0 c (c + inner_children t) (q + own_count t))
      (entries s l p (k + 1) (i + 1) (c + (inner_children t + nodes_below t)) (q + (own_count t + count_below t)))
      (inside_below t (l + 1) i 0 c (c + inner_children t) (q + own_count t) m n (omega arith) (omega arith) (omega arith))
      (inside_below s l p (k + 1) (i + 1) (c + (inner_children t + nodes_below t)) (q + (own_count t + count_below t)) m n (omega arith) (omega arith)
      (omega arith)),
)

pub inside : (t : Wide) → EachEntry (EntryInside (nodes t) (index_count t)) (layout t)
inside t = (
  record { number = omega arith; later = omega arith; nodes = omega arith; positions = omega arith },
  inside_below t.slots 1 0 0 1 (1 + inner_children t.slots) (0 + own_count t.slots) (nodes t) (index_count t) (omega arith) (omega arith)
      (omega arith),
)

-- with one to three positions to a leaf child, no node has over 24 positions of its own
pub small_below : {w : ℕ} (s : Slots w) (l p k i c q : ℕ) → SmallLeaves s → EachEntry (λ e. SmallLeaves e.slots) (entries s l p k i c q)
small_below end l p k i c q h = tt
small_below (empty s) l p k i c q h = small_below s l p (k + 1) i c q h
small_below (leaf b ps s) l p k i c q h = small_below s l p (k + 1) i c q h.2
small_below (inner b t s) l p k i c q h = (
  h.0,
  each_append (λ e. SmallLeaves e.slots) (entries t (l + 1) i 0 c (c + inner_children t) (q + own_count t))
      (entries s l p (k + 1) (i + 1) (c + (inner_children t + nodes_below t)) (q + (own_count t + count_below t)))
      (small_below t (l + 1) i 0 c (c + inner_children t) (q + own_count t) h.0)
      (small_below s l p (k + 1) (i + 1) (c + (inner_children t + nodes_below t)) (q + (own_count t + count_below t)) h.1),
)

pub small : (t : Wide) → SmallLeaves t.slots → EachEntry (λ e. SmallLeaves e.slots) (layout t)
small t h = (h, small_below t.slots 1 0 0 1 (1 + inner_children t.slots) (0 + own_count t.slots) h)

pub own_24 : (t : Wide) → SmallLeaves t.slots → EachEntry (λ e. own_count e.slots ≤ 24) (layout t)
own_24 t h = each_map (λ e. SmallLeaves e.slots) (λ e. own_count e.slots ≤ 24) (layout t) (λ e k. own_most e.slots k) (small t h)

-- there is a node
pub some-node : (t : Wide) → 1 ≤ nodes t
some-node t = omega arith
