-- A layout computed: base fields count on also where a node has no inner child or no leaf child.
use mathlib.Core.List.{[], ◌∷◌}
use mathlib.Core.Path.{◌≡◌, refl}
use Rattle.aabb.specs.declared.Aabb.{Aabb}
use Rattle.wide_layout.specs.Wide.{Slots, end, empty, leaf, inner, Wide}
use Rattle.wide_layout.specs.Layout.{entry, layout, nodes, index_list, level}
use Rattle.wide_layout.specs.Shape.{layout_entry}

-- one leaf child in the first slot; one inner child in the last slot; and both beside a second inner child
abbrev one : Aabb → Slots 8
one b = leaf b (7 ∷ []) (empty (empty (empty (empty (empty (empty (empty end)))))))

abbrev chain : Aabb → Slots 8
chain b = empty (empty (empty (empty (empty (empty (empty (inner b (one b) end)))))))

abbrev mixed : Aabb → Slots 8
mixed b = leaf b (9 ∷ []) (inner b (chain b) (empty (leaf b (4 ∷ 5 ∷ []) (inner b (one b) (empty (empty (empty end)))))))

abbrev tree : Aabb → Wide
tree b = record { box = b; slots = mixed b }

-- entry box slots level parent slot number child_base position_base
layout_is : (b : Aabb) → layout (tree b) ≡ entry b (mixed b) 0 0 0 0 1 0 ∷ entry b (chain b) 1 0 1 1 3 3 ∷ entry b (one b) 2 1 7 3 4 3 ∷ entry b
    (one b) 1 0 4 2 4 4 ∷ []
layout_is b = refl

index_is : (b : Aabb) → index_list (tree b) ≡ 9 ∷ 4 ∷ 5 ∷ 7 ∷ 7 ∷ []
index_is b = refl

sizes_are : (b : Aabb) → (nodes (tree b) ≡ 4) × (level (tree b) ≡ 2)
sizes_are b = (refl, refl)

node_is : (b : Aabb) → layout_entry (tree b) 2 ≡ entry b (one b) 1 0 4 2 4 4
unfolding layout_entry
node_is b = refl
