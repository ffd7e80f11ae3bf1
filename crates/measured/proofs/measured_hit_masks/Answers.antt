-- `measured_hit_masks`: an octant is below 8.
use mathlib.Core.Path.{◌≡◌}
use Prim.Native.Nat.{ℕ, ◌<◌}
use native.Mathlib.Omega.{arith}
use Rattle.ray.specs.declared.Vec3.{Vec3}
use Rattle.ray.specs.Ray.{octant_of}
use Rattle.ray.proofs.Bounds.{octant_lt}
use Rattle.measured.proofs.measured_hit_masks.Goals as goal

below : (d : Vec3) (o : ℕ) → o ≡ octant_of d → o < 8
below d o e = omega (arith, octant_lt d)

pub fill_masks-requires : goal.fill_masks-requires
fill_masks-requires c = (below _ _ c.octant.ensures, omega arith, omega arith)
