-- Internal: what an accepted tree ensures of its wide tree (01, "Words, bytes and bounds"; "Causes of refusal", 2 and 6): every node fits a record's
-- fields, whatever the levels are.
use Rattle.std.specs.Prelude.{ℕ, ◌≤◌, T}
use Rattle.std.specs.Float.{binary32}
use Rattle.std.specs.Float.Ieee.{fits}
use Rattle.aabb.specs.declared.Aabb.{Aabb}
use Rattle.aabb.specs.Aabb.{accepted_box}
use Rattle.wide_layout.specs.Wide.{Slots, end, empty, leaf, inner, Wide}
use Rattle.wide_layout.specs.Sizes.{SmallLeaves}
use Rattle.wide_layout.specs.Layout.{nodes, index_count}

-- a node's box: accepted, and its lower corner, which the record keeps, made of f32 values
pub record NodeBox (b : Aabb) : Type 0 where
  pub accepted : T (accepted_box b)
  pub x : T (fits binary32 b.min.x)
  pub y : T (fits binary32 b.min.y)
  pub z : T (fits binary32 b.min.z)

-- the boxes of the inner children, here and further down
abbrev pub NodeBoxes : {w : ℕ} → Slots w → Type 0
NodeBoxes end = Unit {0}
NodeBoxes (empty s) = NodeBoxes s
NodeBoxes (leaf b ps s) = NodeBoxes s
NodeBoxes (inner b t s) = NodeBox b × NodeBoxes t × NodeBoxes s

-- every node's box is such a box, each leaf child has one to three positions, and nodes and positions are within the bounds
pub record Writable (t : Wide) : Type 0 where
  pub root : NodeBox t.box
  pub boxes : NodeBoxes t.slots
  pub leaves : SmallLeaves t.slots
  pub nodes : nodes t ≤ 65535
  pub positions : index_count t ≤ 65536
