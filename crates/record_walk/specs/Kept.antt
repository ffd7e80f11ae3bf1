-- Internal: whether a ray passes a child's box, as its parent's record node has it (01, "Walking"; 02, [6]).
use Rattle.std.specs.Prelude.{Bool}
use Rattle.ray.specs.declared.Ray.{Ray}
use Rattle.aabb.specs.declared.Aabb.{Aabb}
use Rattle.node.specs.declared.Node.{Node}
use Rattle.node_slot.specs.Slot.{passes}
use Rattle.wide_layout.specs.Wide.{end, empty}
use Rattle.wide_layout.specs.Layout.{entry}
use Rattle.record.specs.Record.{grid_box, node_of}

-- a record node of box b that has no children: all that the slot test reads of a node is its box's
unfoldable pub bare_node : Aabb → Node
unfolding node_of
bare_node b = node_of (entry b (empty (empty (empty (empty (empty (empty (empty (empty end)))))))) 0 0 0 0 0 0)

-- the ray passes box c on the grid of box b
unfoldable pub box_kept : Ray → Aabb → Aabb → Bool
unfolding bare_node grid_box passes
box_kept r b c = passes (bare_node b) (grid_box b c) r
