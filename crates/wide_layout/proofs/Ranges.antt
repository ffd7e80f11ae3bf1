-- In the order written, the child ranges are 1, 2, .., m − 1 and the leaf ranges 0, 1, .., n − 1.
use mathlib.Core.List.{List, [], ◌∷◌, ◌++◌, append_assoc}
use mathlib.Core.Path.{◌≡◌, refl, ap, ◌∙◌}
use Prim.Native.Nat.{ℕ, ◌+◌}
use lib.ListN.{length}
use Rattle.lists.specs.Counts.{count, upto}
use Rattle.lists.proofs.Counts.{upto-append}
use Rattle.soundness.specs.Range.{in_range}
use Rattle.soundness.proofs.Range.{count_range}
use Rattle.wide_layout.specs.Wide.{Slots, end, empty, leaf, inner, Wide}
use Rattle.wide_layout.specs.Sizes.{inner_children, nodes_below, own_count, count_below}
use Rattle.wide_layout.specs.Layout.{Entry, entries, layout, index_count}
use Rattle.wide_layout.specs.Ranges.{slot_ranges, child_ranges, leaf_ranges}

child_append : (a b : List Entry) → child_ranges (a ++ b) ≡ child_ranges a ++ child_ranges b
child_append [] b = refl
child_append (e ∷ a) b = rw (child_append a b, append_assoc)

leaf_append : (a b : List Entry) → leaf_ranges (a ++ b) ≡ leaf_ranges a ++ leaf_ranges b
leaf_append [] b = refl
leaf_append (e ∷ a) b = rw (leaf_append a b, append_assoc)

-- a node's leaf ranges are adjacent
pub slot_ranges_lem : {w : ℕ} (s : Slots w) (q : ℕ) → slot_ranges s q ≡ upto q (own_count s)
unfolding upto
slot_ranges_lem end q = refl
slot_ranges_lem (empty s) q = slot_ranges_lem s q
slot_ranges_lem (leaf b ps s) q = rw (slot_ranges_lem s (q + length ps), upto-append)
slot_ranges_lem (inner b t s) q = slot_ranges_lem s q

pub child_ranges_below : {w : ℕ} (s : Slots w) (l p k i c q : ℕ) → child_ranges (entries s l p k i c q) ≡ upto c (nodes_below s)
unfolding upto
child_ranges_below end l p k i c q = refl
child_ranges_below (empty s) l p k i c q = child_ranges_below s l p (k + 1) i c q
child_ranges_below (leaf b ps s) l p k i c q = child_ranges_below s l p (k + 1) i c q
child_ranges_below (inner b t s) l p k i c q =
    simp (
      child_append,
      child_ranges_below t (l + 1) i 0 c (c + inner_children t) (q + own_count t),
      child_ranges_below s l p (k + 1) (i + 1) (c + (inner_children t + nodes_below t)) (q + (own_count t + count_below t)),
      upto-append,
      append_assoc,
    )

pub leaf_ranges_below : {w : ℕ} (s : Slots w) (l p k i c q : ℕ) → leaf_ranges (entries s l p k i c q) ≡ upto q (count_below s)
unfolding upto
leaf_ranges_below end l p k i c q = refl
leaf_ranges_below (empty s) l p k i c q = leaf_ranges_below s l p (k + 1) i c q
leaf_ranges_below (leaf b ps s) l p k i c q = leaf_ranges_below s l p (k + 1) i c q
leaf_ranges_below (inner b t s) l p k i c q =
    simp (
      leaf_append,
      slot_ranges_lem t q,
      leaf_ranges_below t (l + 1) i 0 c (c + inner_children t) (q + own_count t),
      leaf_ranges_below s l p (k + 1) (i + 1) (c + (inner_children t + nodes_below t)) (q + (own_count t + count_below t)),
      upto-append,
      append_assoc,
    )

-- the child ranges of the whole layout, written one after another, are 1, 2, .., m − 1
pub child_ranges_lem : (t : Wide) → child_ranges (layout t) ≡ upto 1 (inner_children t.slots + nodes_below t.slots)
child_ranges_lem t = simp (child_ranges_below, upto-append)

-- the leaf ranges are 0, 1, .., n − 1
pub leaf_ranges_lem : (t : Wide) → leaf_ranges (layout t) ≡ upto 0 (index_count t)
leaf_ranges_lem t = simp (slot_ranges_lem t.slots 0, leaf_ranges_below, upto-append)

-- ---- by counting

-- child ranges hold the nodes from 1 on, each once, and nothing else
pub child_count_lem : (t : Wide) (v : ℕ) → count v (child_ranges (layout t)) ≡ in_range v 1 (inner_children t.slots + nodes_below t.slots)
child_count_lem t v = ap (λ (l : List ℕ). count v l) (child_ranges_lem t) ∙ count_range v 1 (inner_children t.slots + nodes_below t.slots)

-- every place of the index list stands in one leaf range, and no range holds another number
pub leaf_count_lem : (t : Wide) (x : ℕ) → count x (leaf_ranges (layout t)) ≡ in_range x 0 (index_count t)
leaf_count_lem t x = ap (λ (l : List ℕ). count x l) (leaf_ranges_lem t) ∙ count_range x 0 (index_count t)
