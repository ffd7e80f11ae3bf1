-- Internal: what stands in the slots of a node.
use Rattle.std.specs.Prelude.{List, ℕ, zero, suc}
use Rattle.aabb.specs.declared.Aabb.{Aabb}
use Rattle.wide_layout.specs.Wide.{Slots, end, empty, leaf, inner}

-- nothing, a leaf child with its box and positions, or an inner child with its box and slots
pub data Content : Type 0 where
  none : Content
  leaf_child : Aabb → List ℕ → Content
  inner_child : Aabb → Slots 8 → Content

-- what stands in slot k
unfoldable pub content_at : {w : ℕ} → Slots w → ℕ → Content
content_at end k = none
content_at (empty s) zero = none
content_at (empty s) (suc k) = content_at s k
content_at (leaf b ps s) zero = leaf_child b ps
content_at (leaf b ps s) (suc k) = content_at s k
content_at (inner b t s) zero = inner_child b t
content_at (inner b t s) (suc k) = content_at s k
