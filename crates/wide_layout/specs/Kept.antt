-- Internal: what is met and reached below a node of a wide tree, child by child (01, "Walking"; 02, [6]), for any test of children and any test of
-- positions. A child's test sees its parent's box, its own box and the positions below it, and neither its slot nor its number.
use Rattle.std.specs.Prelude.{Bool, cond, List, [], ◌++◌, ℕ, ◌+◌}
use Rattle.std.specs.List.{filter}
use Rattle.aabb.specs.declared.Aabb.{Aabb}
use Rattle.wide_layout.specs.Wide.{Slots, end, empty, leaf, inner}
use Rattle.wide_layout.specs.Sizes.{slots_positions}

module _ (keep : Aabb → Aabb → List ℕ → Bool) where
  -- What the kept children of a node of box b give, joined slot by slot: a leaf child what its positions give; an inner child what it gives itself,
  -- and what its own kept children give.
  module _ {A : Type 0} (none : A) (join : A → A → A) (of_leaf : List ℕ → A) (of_inner : A) where
    unfoldable pub kept : {w : ℕ} → Aabb → Slots w → A
    kept b end = none
    kept b (empty s) = kept b s
    kept b (leaf c ps s) = join (cond (keep b c ps) (of_leaf ps) none) (kept b s)
    kept b (inner c t s) = join (cond (keep b c (slots_positions t)) (join of_inner (kept c t)) none) (kept b s)

  -- the positions met: those of kept leaf children that pass a test of their own
  abbrev pub met_below : {w : ℕ} → (ℕ → Bool) → Aabb → Slots w → List ℕ
  met_below own b s = kept [] ◌++◌ (filter own) [] b s

  -- how many nodes are reached below
  abbrev pub reached_below : {w : ℕ} → Aabb → Slots w → ℕ
  reached_below b s = kept 0 ◌+◌ (λ ps. 0) 1 b s
