-- Where each child of a wide node has a slot of its own, the levels below the node are those of its children in any order.
use mathlib.Core.Path.{◌≡◌}
use mathlib.Core.List.{List, [], ◌∷◌, ◌++◌}
use Prim.Native.Nat.{ℕ, zero, suc, ◌≤◌, ◌<◌, max}
use native.Mathlib.Omega.{arith}
use lib.ListN.{length}
use Rattle.wide_layout.specs.Wide.{Slots, end, empty}
use Rattle.wide_layout.specs.Wide as W
use Rattle.wide_layout.specs.Content.{Content, content_at}
use Rattle.wide_layout.specs.Content as C
use Rattle.wide_layout.specs.Sizes.{levels_below}
use Rattle.wide_tree.specs.WideTree.{Child, leaf_child, inner_child, hold, slots_from}
use Rattle.wide_tree.proofs.Slots.{OneToOne, held_as, held_at, own_slot, EachChild, slots_each}

-- what a slot's content adds to its node's levels
abbrev content_levels : Content → ℕ
content_levels C.none = 0
content_levels (C.leaf_child b ps) = 0
content_levels (C.inner_child b s) = suc (levels_below s)

-- what a child adds, in any slot
abbrev pub child_levels : Child → ℕ
child_levels c = content_levels (held_as c)

-- the most that one of a list adds
unfoldable pub deepest : List Child → ℕ
deepest [] = 0
deepest (c ∷ cs) = max (child_levels c) (deepest cs)

pub deepest_one : (c : Child) → deepest (c ∷ []) ≡ child_levels c
unfolding deepest
deepest_one c = omega arith

pub deepest_append : (s t : List Child) → deepest (s ++ t) ≡ max (deepest s) (deepest t)
unfolding deepest
deepest_append [] t = omega arith
deepest_append (c ∷ s) t = omega (arith, deepest_append s t)

-- ---- no slot is deeper than all children
each_most : (cs : List Child) (m : ℕ) → deepest cs ≤ m → EachChild (λ c. child_levels c ≤ m) cs
unfolding deepest EachChild
each_most [] m h = tt
each_most (c ∷ cs) m h = (omega arith, each_most cs m (omega arith))

hold_most : (m w : ℕ) (c : Child) (s : Slots w) → child_levels c ≤ m → levels_below s ≤ m → levels_below (hold c s) ≤ m
hold_most m w (leaf_child b ps) s k q = q
hold_most m w (inner_child b t) s k q = omega arith

slots_most : (child : ℕ → ℕ) (cs : List Child) → levels_below (slots_from child cs 0 8) ≤ deepest cs
slots_most child cs =
    let m = deepest cs in
    slots_each (λ w s. levels_below s ≤ m) (λ c. child_levels c ≤ m) (omega arith) (λ w s q. q) (hold_most m) child cs 0 8
    (each_most cs m (omega arith))

-- ---- nor is a child deeper than its slot
held_most : {w : ℕ} (s : Slots w) (k : ℕ) → content_levels (content_at s k) ≤ levels_below s
unfolding content_at
held_most end k = omega arith
held_most (empty s) zero = omega arith
held_most (empty s) (suc k) = held_most s k
held_most (W.leaf b ps s) zero = omega arith
held_most (W.leaf b ps s) (suc k) = held_most s k
held_most (W.inner b t s) zero = omega arith
held_most (W.inner b t s) (suc k) = omega (arith, held_most s k)

each_at : (cs : List Child) (m : ℕ) → ((c : ℕ) → c < length cs → content_levels (held_at cs c) ≤ m) → deepest cs ≤ m
unfolding deepest
each_at [] m h = omega arith
each_at (c ∷ cs) m h = omega (arith, h 0 (omega arith), each_at cs m (λ i u. h (suc i) (omega arith)))

pub slots_deepest : (child : ℕ → ℕ) (cs : List Child) → OneToOne (length cs) child → levels_below (slots_from child cs 0 8) ≡ deepest cs
slots_deepest child cs h = omega (arith, slots_most child cs, each_at cs (levels_below (slots_from child cs 0 8)) least)
  where
    least : (c : ℕ) → c < length cs → content_levels (held_at cs c) ≤ levels_below (slots_from child cs 0 8)
    least c u = rw (own_slot child cs h c u) at (held_most (slots_from child cs 0 8) (h.slot c))
