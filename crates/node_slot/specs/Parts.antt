-- Internal: what the parts of the test of eight slots compute, for their contracts.
use Rattle.std.specs.Prelude.{Bool, cond, List, ◌≡◌, ℕ, ◌+◌, ◌-◌, ◌*◌, ◌%◌, ◌^◌, ◌<◌, Float, get_or}
use Rattle.std.specs.Float.{binary32}
use Rattle.std.specs.Float.Ieee.{of_bits, le}
use Rattle.float.specs.Compare.{min_of, max_of}
use Rattle.float.specs.PowerOfTwo.{scale_of}
use Rattle.words.specs.Fields.{field}
use Rattle.words.specs.Ors.{or_of}
use Rattle.ray.specs.declared.Vec3.{Vec3}
use Rattle.ray.specs.declared.Ray.{Ray}
use Rattle.ray.specs.Ray.{below_zero}
use Rattle.node.specs.declared.Node.{Node}
use Rattle.node.specs.Node.{slot_offset}
use Rattle.node_slot.specs.Slot.{near_limit, adjusted_inverse, adjusted_origin, plane_at}
use Rattle.node_slot.specs.Mask.{only_if}
use Rattle.node_slot.specs.declared.RayGrid.{RayGrid}
use Rattle.node_slot.specs.declared.Ends.{Ends}

-- the three extents of a node
abbrev pub extents_of : ℕ → ℕ → ℕ → Vec3
extents_of ex ey ez = record { x = scale_of ex; y = scale_of ey; z = scale_of ez }

-- the corner p of a node
abbrev pub point_of : Node → Vec3
point_of v = record { x = of_bits binary32 v.px; y = of_bits binary32 v.py; z = of_bits binary32 v.pz }

-- the ray in a node's grid
unfoldable pub ray_grid_of : Node → Ray → RayGrid
unfolding adjusted_inverse adjusted_origin near_limit
ray_grid_of v r = record {
  inverse = record {
    x = adjusted_inverse v.ex r.inverse.x;
    y = adjusted_inverse v.ey r.inverse.y;
    z = adjusted_inverse v.ez
        r.inverse.z;
  };
  origin =
      record {
        x = adjusted_origin v.px r.origin.x r.inverse.x;
        y = adjusted_origin v.py r.origin.y r.inverse.y;
        z = adjusted_origin v.pz r.origin.z r.inverse.z;
      };
  near = near_limit r;
  tmax = r.tmax;
}

-- the end of an axis that is met first
abbrev pub near_end : Float → ℕ
near_end direction = cond (below_zero direction) 1 0

abbrev pub ends_of : Vec3 → Ends
ends_of d = record { x = near_end d.x; y = near_end d.y; z = near_end d.z }

-- a box of six bytes, the three met first and the three others
unfoldable pub box_passes : ℕ → ℕ → ℕ → ℕ → ℕ → ℕ → RayGrid → Bool
unfolding max_of min_of plane_at
box_passes nx ny nz fx fy fz g =
    le
    (max_of (max_of (max_of (plane_at nx g.inverse.x g.origin.x) (plane_at ny g.inverse.y g.origin.y))
    (plane_at nz g.inverse.z g.origin.z)) g.near)
    (min_of (min_of (min_of (plane_at fx g.inverse.x g.origin.x) (plane_at fy g.inverse.y g.origin.y))
    (plane_at fz g.inverse.z g.origin.z)) g.tmax)

-- slot k of the node at o
unfoldable pub slot_passes : List ℕ → ℕ → Ends → RayGrid → ℕ → Bool
unfolding box_passes
slot_passes s o e g k =
    box_passes
    (get_or s (o + slot_offset 0 e.x k) 0) (get_or s (o + slot_offset 1 e.y k) 0) (get_or s (o + slot_offset 2 e.z k) 0)
    (get_or s (o + slot_offset 0 (1 - e.x) k) 0) (get_or s (o + slot_offset 1 (1 - e.y) k) 0) (get_or s (o + slot_offset 2 (1 - e.z) k) 0)
    g

-- a byte for each slot: 7 where it is passed, 0 where not
pub record Marks (pass : ℕ → Bool) (w : ℕ) : Type 0 where
  pub byte : (k : ℕ) → k < 8 → field 8 k w ≡ only_if (pass k) 7

-- what slot k puts in, by the words of child bits and of indices
unfoldable pub word_hit : ℕ → ℕ → ℕ → ℕ
unfolding field
word_hit child index k = (field 8 k child * 2 ^ field 8 k index) % 2 ^ 32

-- the first n slots
unfoldable pub word_mask : ℕ → ℕ → ℕ → ℕ
unfolding or_of word_hit
word_mask n child index = or_of n (word_hit child index)

-- each index is a place of a word of 32 bits
pub record PlacesFit (index : ℕ) : Type 0 where
  pub place : (k : ℕ) → k < 8 → field 8 k index < 32
