-- Internal: a node's grid: its lower corner, the exponent byte of each axis, and the reciprocal of each scale.
use Rattle.aabb.specs.declared.Aabb.{Aabb}
use Rattle.quantization.specs.Exponent.{exponent_of}
use Rattle.std.specs.Prelude.{Float}
use Rattle.std.specs.Float.{binary32}
use Rattle.std.specs.Float.Ieee.{sub, mul}
use Rattle.quantization.specs.Ends.{quant_min, quant_max, reciprocal_of}
use Rattle.node.specs.declared.Slot.{Slot}
use Rattle.emit.specs.declared.Grid.{Grid}

unfoldable pub grid_of : Aabb → Grid
grid_of b = record {
  min = b.min;
  ex = exponent_of b.min.x b.max.x;
  ey = exponent_of b.min.y b.max.y;
  ez = exponent_of b.min.z b.max.z;
  rx = reciprocal_of (exponent_of b.min.x b.max.x);
  ry = reciprocal_of (exponent_of b.min.y b.max.y);
  rz = reciprocal_of (exponent_of b.min.z b.max.z);
}

-- a coordinate on an axis of the grid
abbrev pub along : Float → Float → Float → Float
along low rcp x = mul binary32 (sub binary32 x low) rcp

-- a child's box on the grid
unfoldable pub box_on : Grid → Aabb → Slot
box_on g c = record {
  min_x = quant_min (along g.min.x g.rx c.min.x);
  min_y = quant_min (along g.min.y g.ry c.min.y);
  min_z = quant_min (along g.min.z g.rz c.min.z);
  max_x = quant_max (along g.min.x g.rx c.max.x);
  max_y = quant_max (along g.min.y g.ry c.max.y);
  max_z = quant_max (along g.min.z g.rz c.max.z);
}
