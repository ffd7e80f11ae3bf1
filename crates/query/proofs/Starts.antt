-- What holds once nothing has refused a query on entry.
use mathlib.Core.Bool.{Bool, false}
use mathlib.Core.List.{List}
use mathlib.Core.Path.{◌≡◌}
use Prim.Native.Nat.{ℕ, ◌<◌}
use native.Mathlib.Omega.{arith}
use lib.ListN.{length}
use Rattle.ray.specs.declared.Beam.{Beam}
use Rattle.ray.specs.Ray.{ray_from}
use Rattle.record_shape.specs.Record.{node_count}
use Rattle.walk_record.specs.WalkRay.{walk_ray, forged_ray}
use Rattle.walk_record.proofs.WalkRay.{begun_accepted}
use Rattle.query.specs.Entry.{entry_cause}
use Rattle.query.proofs.Entry.{Entered, entered}

module _ (fits : Bool) (b : Beam) (bytes : List ℕ) (n between : ℕ) (none : entry_cause fits (length bytes) n between (ray_from b) ≡ 0) where
  pub enters : Entered fits (length bytes) n between (ray_from b)
  enters = entered fits (length bytes) n between (ray_from b) none

  pub unforged : forged_ray (walk_ray (ray_from b)) ≡ false
  unforged = begun_accepted b.origin b.direction b.tmin b.tmax enters.accepted

  -- there are nodes where there are bytes
  pub some_nodes : (length bytes ≡ 0 → ⊥) → 0 < node_count bytes
  some_nodes some = omega (arith, enters.sizes.whole, some)
