-- The parts of the test of a slot make up its definition.
use mathlib.Core.Path.{◌≡◌, refl, ap, ◌∙◌}
use mathlib.Core.Bool.{Bool, true, false, cond}
use mathlib.Core.List.{List}
use Prim.Native.Nat.{ℕ, ◌+◌, ◌-◌}
use lib.Ieee.{Float, binary32, round, of_bits}
use lib.ListN.{get_or}
use Rattle.ray.specs.declared.Ray.{Ray}
use Rattle.ray.specs.Ray.{below_zero}
use Rattle.node.specs.declared.Node.{Node}
use Rattle.node.specs.Node.{slot_offset, slot_from}
use Rattle.float.specs.Compare.{max_of}
use Rattle.node_slot.specs.Slot.{least_limit, near_limit, near_of, far_of, passes}
use Rattle.node_slot.specs.Parts.{ray_grid_of, ends_of, box_passes, slot_passes}

-- 0.0001 as code writes it
least_is : of_bits binary32 953267991 ≡ least_limit
unfolding least_limit of_bits round
least_is = refl

-- the near limit as code takes it
pub limit_is : (r : Ray) (limit : Float) → limit ≡ max_of r.tmin (of_bits binary32 953267991) → limit ≡ near_limit r
unfolding near_limit
limit_is r limit e = e ∙ ap (max_of r.tmin) least_is

-- the bytes at the near ends and at the far ends
module _ (s : List ℕ) (o k : ℕ) where
  near_x_lem : (b : Bool) → get_or s (o + slot_offset 0 (cond b 1 0) k) 0 ≡ cond b (slot_from s o k).max_x (slot_from s o k).min_x
  unfolding slot_from
  near_x_lem true = refl
  near_x_lem false = refl

  near_y_lem : (b : Bool) → get_or s (o + slot_offset 1 (cond b 1 0) k) 0 ≡ cond b (slot_from s o k).max_y (slot_from s o k).min_y
  unfolding slot_from
  near_y_lem true = refl
  near_y_lem false = refl

  near_z_lem : (b : Bool) → get_or s (o + slot_offset 2 (cond b 1 0) k) 0 ≡ cond b (slot_from s o k).max_z (slot_from s o k).min_z
  unfolding slot_from
  near_z_lem true = refl
  near_z_lem false = refl

  far_x_lem : (b : Bool) → get_or s (o + slot_offset 0 (1 - cond b 1 0) k) 0 ≡ cond b (slot_from s o k).min_x (slot_from s o k).max_x
  unfolding slot_from
  far_x_lem true = refl
  far_x_lem false = refl

  far_y_lem : (b : Bool) → get_or s (o + slot_offset 1 (1 - cond b 1 0) k) 0 ≡ cond b (slot_from s o k).min_y (slot_from s o k).max_y
  unfolding slot_from
  far_y_lem true = refl
  far_y_lem false = refl

  far_z_lem : (b : Bool) → get_or s (o + slot_offset 2 (1 - cond b 1 0) k) 0 ≡ cond b (slot_from s o k).min_z (slot_from s o k).max_z
  unfolding slot_from
  far_z_lem true = refl
  far_z_lem false = refl

  pub slot_is : (v : Node) (r : Ray) → slot_passes s o (ends_of r.direction) (ray_grid_of v r) k ≡ passes v (slot_from s o k) r
  unfolding slot_passes box_passes passes near_of far_of ray_grid_of
  slot_is v r =
      rw (
        near_x_lem (below_zero r.direction.x),
        near_y_lem (below_zero r.direction.y),
        near_z_lem (below_zero r.direction.z),
        far_x_lem (below_zero r.direction.x),
        far_y_lem (below_zero r.direction.y),
        far_z_lem (below_zero r.direction.z),
      )
