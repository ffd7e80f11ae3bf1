-- The ray of a walker: when it is not forged, that its octant is one of eight then, and that telling leaves octant and acceptance as they were.
use mathlib.Core.Bool.{Bool, true, false, not, ◌&&◌, cond}
use mathlib.Core.Path.{◌≡◌, refl, sym, ◌∙◌, subst}
use Prim.Native.Nat.{ℕ, ◌^◌, ◌<◌}
use native.Mathlib.Omega.{arith}
use lib.Dec.{T, eqb}
use lib.Ieee.{Float, eq, is_nan}
use lib.Ieee.Bits.{is_true}
use borrow.Author.Tests.{eqb-true, eq-eqb}
use Rattle.ray.specs.declared.Vec3.{Vec3}
use Rattle.ray.specs.Ray.{safe_inverse, octant_of, unsigned_vec, ray_of, reaching, accepted_ray}
use Rattle.ray.proofs.Bounds.{accepted, reaching_accepted, inverse_within}
use Rattle.ray.proofs.Bounds
use Rattle.ray.proofs.Counts.{counts_below}
use Rattle.ray.proofs.Entered.{entered_plain}
use Rattle.float.specs.Magnitude.{Within}
use Rattle.float.proofs.Magnitude.{atmost_no_nan}
use Rattle.float.proofs.Sign.{no_nan_lt_l, self_equal}
use Rattle.lists.proofs.Tells.{both_pass}
use Rattle.gate.specs.Gates.{Gates}
use Rattle.walk.proofs.Cases.{not_false_true, or_false}
use Rattle.walk_record.specs.Record.{RayLaws, AllPresent}
use Rattle.walk_record.specs.WalkRay.{WalkRay, walk_ray, plain_ray, own_inverse, forged_ray, told_walk_ray, rays_of, by_boxes}

-- what a ray must have that is not forged
pub record Unforged (b : WalkRay) : Type 0 where
  pub accepted : accepted_ray b.ray ≡ true
  pub plain : plain_ray b.ray ≡ true
  pub inverse : own_inverse b.ray ≡ true
  pub octant : b.octant ≡ octant_of b.ray.direction

-- and these are all that it takes
module _ (b : WalkRay) where
  pub unforged : forged_ray b ≡ false → Unforged b
  unforged f =
      let turned = eqb b.octant (octant_of b.ray.direction) in
      let three = both_pass (accepted_ray b.ray && plain_ray b.ray && own_inverse b.ray) turned (not_false_true _ f) in
      let two = both_pass (accepted_ray b.ray && plain_ray b.ray) (own_inverse b.ray) three.0 in
      let one = both_pass (accepted_ray b.ray) (plain_ray b.ray) two.0 in
      record {
        accepted = one.0;
        plain = one.1;
        inverse = two.1;
        octant = eqb-true b.octant (octant_of b.ray.direction) three.1;
      }

  pub not_forged : Unforged b → forged_ray b ≡ false
  not_forged u = rw (u.accepted, u.plain, u.inverse, eq-eqb b.octant (octant_of b.ray.direction) u.octant)

octant_lt : (b : WalkRay) → forged_ray b ≡ false → b.octant < 8
octant_lt b f = omega (arith, (unforged b f).octant, Bounds.octant_lt b.ray.direction)

-- a ray that is not forged stays so with another reach, if that is no NaN
reach_accepted : (t : Float) (b : WalkRay) (c : Bool) → (c ≡ true → T (not (is_nan t))) → forged_ray b ≡ false
    → forged_ray (record { ray = cond c (reaching t b.ray) b.ray; octant = b.octant }) ≡ false
reach_accepted t b false n f = f
reach_accepted t b true n f =
    let u = unforged b f in
    not_forged (record { ray = reaching t b.ray; octant = b.octant }) (record {
      accepted = reaching_accepted b.ray t u.accepted (n refl);
      plain = u.plain;
      inverse = u.inverse;
      octant = u.octant;
    })

told_accepted : (t : Float) (b : WalkRay) → forged_ray b ≡ false → forged_ray (told_walk_ray t b) ≡ false
told_accepted t b = reach_accepted t b _ (λ e. no_nan_lt_l t b.ray.tmax (counts_below b.ray t e))

-- beside any gates
module _ (g : Gates) where
  -- a ray that is not forged there is forged by no means
  pub gated_accepted : (b : WalkRay) → (rays_of g).forged b ≡ false → (g.forged ≡ false) × (forged_ray b ≡ false)
  gated_accepted b f = or_false g.forged (forged_ray b) f

  pub gated_forged : (b : WalkRay) → g.forged ≡ false → forged_ray b ≡ false → (rays_of g).forged b ≡ false
  gated_forged b h f = rw (h, f)

  pub walk_ray_laws : RayLaws (rays_of g)
  walk_ray_laws = record {
    octant_lt = λ b f. octant_lt b (gated_accepted b f).1;
    octant_told = λ t b. refl;
    admits_told = λ t b. refl;
    told_accepted = λ t b f. let h = gated_accepted b f in gated_forged (told_walk_ray t b) h.0 (told_accepted t b h.1);
  }

pub by_boxes_present : (n : ℕ) → AllPresent by_boxes n
by_boxes_present n b p h = refl

-- ---- a walker just begun

inverse_self : (v : Float) → Within 40 v → eq (safe_inverse v) (safe_inverse v) ≡ true
inverse_self v h = let i = safe_inverse v in self_equal i ∙ is_true (not (is_nan i)) (atmost_no_nan i (2 ^ 23) 1 (inverse_within v h))

-- its ray is not forged, if no cause of refusal holds of it
pub begun_accepted : (o d : Vec3) (near far : Float) → accepted_ray (ray_of o d near far) ≡ true → forged_ray (walk_ray (ray_of o d near far)) ≡ false
unfolding ray_of
begun_accepted o d near far h =
    let a = accepted (ray_of o d near far) (subst T (sym h) tt) in
    let p = entered_plain o d near far in
    not_forged (walk_ray (ray_of o d near far)) (record {
      accepted = h;
      plain = rw (p.0, p.1);
      inverse =
          let v = unsigned_vec d in
          rw (inverse_self v.x a.direction.x, inverse_self v.y a.direction.y, inverse_self v.z a.direction.z);
      octant = refl;
    })
