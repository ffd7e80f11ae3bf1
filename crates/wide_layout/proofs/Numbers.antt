-- The numbers of a layout's nodes are 0, 1, .., m − 1, each once.
use mathlib.Core.List.{List, [], ◌∷◌, ◌++◌}
use mathlib.Core.Path.{◌≡◌, refl, ◌∙◌}
use Prim.Native.Nat.{ℕ, suc, ◌+◌, ◌≤◌, ◌<◌}
use native.Mathlib.Omega.{arith}
use Rattle.lists.specs.Counts.{count}
use Rattle.lists.proofs.Counts.{count-append}
use Rattle.soundness.specs.Range.{in_range}
use Rattle.soundness.proofs.Range.{same_range, range_none, range_split, in_range_lem, after_range}
use Rattle.wide_layout.specs.Wide.{Slots, end, empty, leaf, inner, Wide}
use Rattle.wide_layout.specs.Sizes.{inner_children, nodes_below, own_count, count_below}
use Rattle.wide_layout.specs.Layout.{Entry, entries, layout, numbers, nodes}

pub numbers-append : (a b : List Entry) → numbers (a ++ b) ≡ numbers a ++ numbers b
numbers-append [] b = refl
numbers-append (e ∷ a) b = rw (numbers-append a b)

next : (x i n : ℕ) → in_range x i (suc n) ≡ in_range x i 1 + in_range x (i + 1) n
next x i n = let e : 1 + n ≡ suc n = omega arith in rw e at (range_split x i 1 n)

-- the inner children are numbered from i on, and the nodes below them from c on
pub numbers_below : (x : ℕ) {w : ℕ} (s : Slots w) (l p k i c q : ℕ) → count x (numbers (entries s l p k i c q))
    ≡ in_range x i (inner_children s) + in_range x c (nodes_below s)
unfolding count
numbers_below x end l p k i c q = omega (arith, range_none x i, range_none x c)
numbers_below x (empty s) l p k i c q = numbers_below x s l p (k + 1) i c q
numbers_below x (leaf b ps s) l p k i c q = numbers_below x s l p (k + 1) i c q
numbers_below x (inner b t s) l p k i c q =
    simp (
      numbers-append,
      count-append,
      same_range,
      numbers_below x t (l + 1) i 0 c (c + inner_children t) (q + own_count t),
      numbers_below x s l p (k + 1) (i + 1) (c + (inner_children t + nodes_below t)) (q + (own_count t + count_below t)),
      range_split,
      next x i (inner_children s),
    )
    (omega arith)

pub numbers_once : (t : Wide) (x : ℕ) → count x (numbers (layout t)) ≡ in_range x 0 (nodes t)
unfolding count
numbers_once t x = simp (numbers_below, range_split, same_range) (omega arith)

pub number_below : (t : Wide) (x : ℕ) → x < nodes t → count x (numbers (layout t)) ≡ 1
number_below t x h = numbers_once t x ∙ in_range_lem x 0 (nodes t) (omega arith) (omega arith)

pub number_past : (t : Wide) (x : ℕ) → nodes t ≤ x → count x (numbers (layout t)) ≡ 0
number_past t x h = numbers_once t x ∙ after_range x 0 (nodes t) (omega arith)
