-- A ray as it enters (02, [2]): the signs of its zeros alter nothing, it holds no -0, and it is accepted by what was given.
use mathlib.Core.Path.{◌≡◌, sym, ap, ◌∙◌, subst}
use mathlib.Core.Bool.{true, false, not, ◌&&◌}
use lib.Dec.{T}
use lib.Ieee.{Float, binary32, fits, is_nan}
use lib.Ieee.Bits.{is_true}
use lib.Ieee.Fits.{and_l, and_r}
use borrow.Author.Tests.{not-true}
use Rattle.float.specs.Compare.{is_minus_zero}
use Rattle.float.proofs.Unsigned.{unsigned_plain, unsigned_again, unsigned_other, unsigned_bounds}
use Rattle.ray.specs.declared.Vec3.{Vec3}
use Rattle.ray.specs.declared.Ray.{Ray}
use Rattle.ray.specs.Ray.{unsigned_vec, plain_vec, inverse_of, ray_of, bounded_vec, accepted_ray}

-- ---- vectors

-- an f32 holds each component, as it does in every program
abbrev pub FitsVec : Vec3 → Type 0
FitsVec v = T (fits binary32 v.x) × T (fits binary32 v.y) × T (fits binary32 v.z)

-- no component is -0
pub record Plain (v : Vec3) : Type 0 where
  pub x : is_minus_zero v.x ≡ false
  pub y : is_minus_zero v.y ≡ false
  pub z : is_minus_zero v.z ≡ false

module _ (v : Vec3) where
  pub plain : plain_vec v ≡ true → Plain v
  unfolding plain_vec
  plain h =
      let x = not (is_minus_zero v.x) in
      let y = not (is_minus_zero v.y) in
      let z = not (is_minus_zero v.z) in
      let all = subst T (sym h) tt in
      let xy = and_l (x && y) z all in
      record {
        x = not-true _ (is_true x (and_l x y xy));
        y = not-true _ (is_true y (and_r x y xy));
        z = not-true _ (is_true z (and_r (x && y) z all));
      }

  -- what is read is plain,
  pub unsigned_vec_plain : plain_vec (unsigned_vec v) ≡ true
  unfolding plain_vec unsigned_vec
  unsigned_vec_plain = rw (unsigned_plain v.x, unsigned_plain v.y, unsigned_plain v.z)

  -- and reads as itself,
  pub unsigned_vec_again : unsigned_vec (unsigned_vec v) ≡ unsigned_vec v
  unfolding unsigned_vec
  unsigned_vec_again = rw (unsigned_again v.x, unsigned_again v.y, unsigned_again v.z)

  -- as everything without a -0 does
  pub unsigned_vec_plain_same : FitsVec v → plain_vec v ≡ true → unsigned_vec v ≡ v
  unfolding unsigned_vec
  unsigned_vec_plain_same f h =
      let p = plain h in
      rw (
        unsigned_other v.x binary32 f.0 p.x,
        unsigned_other v.y binary32 f.1 p.y,
        unsigned_other v.z binary32 f.2 p.z,
      )

  -- -0 is within the bounds, as +0 is
  pub unsigned_vec_bounded : bounded_vec (unsigned_vec v) ≡ bounded_vec v
  unfolding bounded_vec unsigned_vec
  unsigned_vec_bounded = λ i. unsigned_bounds v.x i && unsigned_bounds v.y i && unsigned_bounds v.z i

-- ---- rays

-- two rays that differ in nothing but the signs of zeros of their origins and directions enter as one
pub signs_alike : (o o' d d' : Vec3) (near far : Float) → unsigned_vec o ≡ unsigned_vec o' → unsigned_vec d ≡ unsigned_vec d'
    → ray_of o d near far ≡ ray_of o' d' near far
unfolding ray_of
signs_alike o o' d d' near far e f = rw (e, f)

module _ (o d : Vec3) (near far : Float) where
  -- a ray enters as its neighbour does whose zeros are +0
  pub zeros_read : ray_of o d near far ≡ ray_of (unsigned_vec o) (unsigned_vec d) near far
  zeros_read =
      signs_alike o (unsigned_vec o) d (unsigned_vec d) near far (sym (unsigned_vec_again o)) (sym (unsigned_vec_again d))

  -- one without a -0 enters as it was given
  pub plain_as_given : FitsVec o → FitsVec d → plain_vec o ≡ true → plain_vec d ≡ true
      → ray_of o d near far ≡ record { origin = o; direction = d; inverse = inverse_of d; tmin = near; tmax = far }
  unfolding ray_of
  plain_as_given f g p q = rw (unsigned_vec_plain_same o f p, unsigned_vec_plain_same d g q)

  -- one that has entered, entering again, stays as it is
  pub entered_again : (r : Ray) → r ≡ ray_of o d near far → ray_of r.origin r.direction r.tmin r.tmax ≡ ray_of o d near far
  unfolding ray_of
  entered_again r e = ap (λ (q : Ray). ray_of q.origin q.direction q.tmin q.tmax) e ∙ sym zeros_read

  -- it holds no -0,
  pub entered_plain : (plain_vec (ray_of o d near far).origin ≡ true) × (plain_vec (ray_of o d near far).direction ≡ true)
  unfolding ray_of
  entered_plain = (unsigned_vec_plain o, unsigned_vec_plain d)

  -- and is accepted exactly if what was given is within the bounds and no NaN
  pub accepted_as_given : accepted_ray (ray_of o d near far) ≡ bounded_vec o && bounded_vec d && not (is_nan near) && not (is_nan far)
  unfolding accepted_ray ray_of
  accepted_as_given = λ i. unsigned_vec_bounded o i && unsigned_vec_bounded d i && not (is_nan near) && not (is_nan far)
