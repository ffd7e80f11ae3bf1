use mathlib.Core.Path.{refl}
use Rattle.std.proofs.Common.{rules}
use Prim.Native.Nat.{ℕ}
use Rattle.lists.proofs.Ranges.{all_in_range}
use Rattle.ray.specs.Ray.{accepted_ray}
use Rattle.packed.specs.Packed.{ray_in, ray_count, rays_accepted}
use Rattle.packed.proofs.rays_accepted.Goals as goal

pub returns : goal.returns
unfolding rays_accepted
returns c =
    let s = c.args.s.now in
    all_in_range (λ (k : ℕ). accepted_ray (ray_in s k)) (ray_count s) c.all.ensures.ran refl (λ x b q k. search rules)
