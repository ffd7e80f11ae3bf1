-- The signs of a ray (02, [2]): of an accepted ray without -0 in its direction, direction and inverse have one sign on each axis. So on a node that
-- meets the rule no axis of the slot test is inside out: of a slot whose bytes are in order, the near value is at most the far value.
use mathlib.Core.Path.{◌≡◌, refl, sym, ap, ◌∙◌, subst}
use mathlib.Core.Bool.{Bool, true, false, not, cond}
use Prim.Native.Nat.{ℕ, ◌^◌, ◌≤◌, ◌<◌}
use native.Mathlib.Omega.{arith}
use lib.Dec.{T, lit≤}
use lib.IntN.{pos}
use lib.Ieee.{Float, nan, inf, fin, binary32, of_bits, minus, of_int, mul, le, is_nan}
use lib.Ieee.Scale.{finite}
use Rattle.float.specs.Compare.{is_minus_zero, in_bounds}
use Rattle.float.specs.Magnitude.{Within}
use Rattle.float.specs.Sign.{sign_bit}
use Rattle.float.proofs.Magnitude.{atmost_finite, mul_within}
use Rattle.float.proofs.Monotone.{add_mono, mul_mono_left, mul_mono_neg, of_nat_mono}
use Rattle.float.proofs.Order.{le_self}
use Rattle.float.proofs.PowerOfTwo.{scale_power}
use Rattle.float.proofs.Sign.{mul_sign}
use Rattle.ray.specs.declared.Vec3.{Vec3}
use Rattle.ray.specs.declared.Ray.{Ray}
use Rattle.ray.specs.Ray.{safe_inverse, below_zero, plain_vec, ray_of, accepted_ray}
use Rattle.ray.proofs.Bounds.{Accepted, accepted, inverse_within, inverse_below}
use Rattle.ray.proofs.Entered.{plain, entered_plain}
use Rattle.node.specs.declared.Slot.{Slot}
use Rattle.node.specs.declared.Node.{Node}
use Rattle.node_rule.specs.Rule.{Exponent, Head}
use Rattle.node_slot.specs.Slot.{adjusted_inverse, adjusted_origin, plane_at, near_x, near_y, near_z, far_x, far_y, far_z}
use Rattle.node_hits.proofs.Terms.{Inverted, SlotBytes, byte_within, axis_terms, within_no_nan}

-- on each axis the inverse has the sign bit exactly if the direction is below zero
pub record SignsAgree (r : Ray) : Type 0 where
  pub x : below_zero r.direction.x ≡ sign_bit r.inverse.x
  pub y : below_zero r.direction.y ≡ sign_bit r.inverse.y
  pub z : below_zero r.direction.z ≡ sign_bit r.inverse.z

sign_agrees : (direction inverse : Float) → Within 40 direction → inverse ≡ safe_inverse direction → is_minus_zero direction ≡ false
    → below_zero direction ≡ sign_bit inverse
sign_agrees direction inverse w e h = inverse_below direction (within_no_nan 40 direction w) h ∙ ap sign_bit (sym e)

-- so it is for an accepted ray with the inverse of its direction, where that holds no -0
pub signs_agree : (r : Ray) → Accepted r → Inverted r → plain_vec r.direction ≡ true → SignsAgree r
signs_agree r a i h =
    let p = plain r.direction h in
    record {
      x = sign_agrees r.direction.x r.inverse.x a.direction.x i.x p.x;
      y = sign_agrees r.direction.y r.inverse.y a.direction.y i.y p.y;
      z = sign_agrees r.direction.z r.inverse.z a.direction.z i.z p.z;
    }

-- ---- one axis
-- the byte q is met no later than q': the lower one first, or with the sign bit the upper one
abbrev Sooner : Bool → ℕ → ℕ → Type 0
Sooner false q q' = q ≤ q'
Sooner true q q' = q' ≤ q

abbrev byte : ℕ → Float
byte q = of_int binary32 (pos q)

byte_finite : (q : ℕ) → q < 256 → T (finite (byte q))
byte_finite q h = atmost_finite (byte q) (2 ^ 8) 1 (byte_within q h)

steps_finite : (q : ℕ) (i : Float) → q < 256 → Within 63 i → T (finite (mul binary32 (byte q) i))
steps_finite q i h w = atmost_finite (mul binary32 (byte q) i) (2 ^ 71) 1 (mul_within binary32 8 63 (byte q) i (lit≤ tt) (byte_within q h) w)

steps_sooner : (q q' : ℕ) (i : Float) → q < 256 → q' < 256 → Within 63 i → Sooner (sign_bit i) q q'
    → T (le (mul binary32 (byte q) i) (mul binary32 (byte q') i))
steps_sooner q q' nan l l' w h = absurd w
steps_sooner q q' (inf s) l l' w h = absurd w
steps_sooner q q' (fin false n d) l l' w h =
    mul_mono_left binary32 (byte q) (byte q') n d (byte_finite q l) (byte_finite q' l') (of_nat_mono binary32 q q' h)
steps_sooner q q' (fin true n d) l l' w h =
    mul_mono_neg binary32 (byte q') (byte q) n d (byte_finite q' l') (byte_finite q l) (of_nat_mono binary32 q' q h)

-- the distance of the plane at q is at most that of the plane at q'
planes_sooner : (q q' : ℕ) (i o : Float) → q < 256 → q' < 256 → Within 63 i → Within 64 o → Sooner (sign_bit i) q q'
    → T (le (plane_at q i o) (plane_at q' i o))
unfolding plane_at
planes_sooner q q' i o l l' w v h =
    let f = atmost_finite o (2 ^ 64) 1 v in
    add_mono binary32 (mul binary32 (byte q) i) (mul binary32 (byte q') i) o o (steps_finite q i l w) (steps_finite q' i l' w) f f
    (steps_sooner q q' i l l' w h) (le_self o (within_no_nan 64 o v))

-- what a step of the grid adds to the distance has the sign of the inverse
step_sign : (e : ℕ) (inverse : Float) → Exponent e → T (not (is_nan inverse)) → sign_bit (adjusted_inverse e inverse) ≡ sign_bit inverse
unfolding adjusted_inverse
step_sign e inverse h p = rw (scale_power e (omega arith) (omega arith)) (mul_sign binary32 0 (minus e 127) inverse p)

-- the planes of an axis, by the node's p and e and the ray's direction, origin and inverse: for a direction below zero the distance at x is at most
-- that at an x' not above x, for any other the distance at y is at most that at a y' not below y
abbrev pub AxisOrder : ℕ → ℕ → Float → Float → Float → Type 0
AxisOrder p e direction origin inverse =
    (x y x' y' : ℕ) → x' ≤ x → y ≤ y' → x < 256 → y' < 256
    → T (le (plane_at (cond (below_zero direction) x y) (adjusted_inverse e inverse) (adjusted_origin p origin inverse))
    (plane_at (cond (below_zero direction) x' y') (adjusted_inverse e inverse) (adjusted_origin p origin inverse)))

pub axis_order : (p e : ℕ) (direction origin inverse : Float) → T (in_bounds (of_bits binary32 p)) → Exponent e → Within 40 direction
    → Within 40 origin → inverse ≡ safe_inverse direction → below_zero direction ≡ sign_bit inverse → AxisOrder p e direction origin inverse
axis_order p e direction origin inverse hp he hd ho hi agree x y x' y' h k l m =
    let b = below_zero direction in
    let c = met b in
    let t = axis_terms p e (cond b x y) (cond b x' y') direction origin inverse hp he c.0 c.1 hd ho hi in
    let n : T (not (is_nan inverse)) = rw hi (within_no_nan 23 (safe_inverse direction) (inverse_within direction hd)) in
    planes_sooner (cond b x y) (cond b x' y') (adjusted_inverse e inverse) (adjusted_origin p origin inverse) c.0 c.1 t.step t.start
    (subst (λ (s : Bool). Sooner s (cond b x y) (cond b x' y')) (agree ∙ sym (step_sign e inverse he n)) c.2)
  where
    met : (b : Bool) → (cond b x y < 256) × (cond b x' y' < 256) × Sooner b (cond b x y) (cond b x' y')
    met true = (l, omega arith, h)
    met false = (omega arith, m, k)

-- ---- the three axes
pub record AxesOrder (v : Node) (r : Ray) : Type 0 where
  pub x : AxisOrder v.px v.ex r.direction.x r.origin.x r.inverse.x
  pub y : AxisOrder v.py v.ey r.direction.y r.origin.y r.inverse.y
  pub z : AxisOrder v.pz v.ez r.direction.z r.origin.z r.inverse.z

pub axes_order : (v : Node) (r : Ray) → Head v → Accepted r → Inverted r → plain_vec r.direction ≡ true → AxesOrder v r
axes_order v r h a i p =
    let s = signs_agree r a i p in
    let o = a.origin in
    let d = a.direction in
    record {
      x = axis_order v.px v.ex r.direction.x r.origin.x r.inverse.x h.px h.ex d.x o.x i.x s.x;
      y = axis_order v.py v.ey r.direction.y r.origin.y r.inverse.y h.py h.ey d.y o.y i.y s.y;
      z = axis_order v.pz v.ez r.direction.z r.origin.z r.inverse.z h.pz h.ez d.z o.z i.z s.z;
    }

-- a slot's bytes are in order
pub record BytesInOrder (t : Slot) : Type 0 where
  pub x : t.min_x ≤ t.max_x
  pub y : t.min_y ≤ t.max_y
  pub z : t.min_z ≤ t.max_z

-- the near value of each axis is at most its far value
pub record InOrder (v : Node) (t : Slot) (r : Ray) : Type 0 where
  pub x : T (le (near_x v t r) (far_x v t r))
  pub y : T (le (near_y v t r) (far_y v t r))
  pub z : T (le (near_z v t r) (far_z v t r))

-- so it is on a node that meets the rule: no axis is inside out
pub axes_in_order : (v : Node) (t : Slot) (r : Ray) → Head v → SlotBytes t → Accepted r → Inverted r → plain_vec r.direction ≡ true
    → BytesInOrder t → InOrder v t r
axes_in_order v t r h b a i p o =
    let s = axes_order v r h a i p in
    record {
      x = s.x t.max_x t.min_x t.min_x t.max_x o.x o.x b.max_x b.max_x;
      y = s.y t.max_y t.min_y t.min_y t.max_y o.y o.y b.max_y b.max_y;
      z = s.z t.max_z t.min_z t.min_z t.max_z o.z o.z b.max_z b.max_z;
    }

-- ---- a ray as it enters, whatever the signs of its zeros were
module _ (o d : Vec3) (near far : Float) where
  pub entered-inverted : Inverted (ray_of o d near far)
  unfolding ray_of
  entered-inverted = record { x = refl; y = refl; z = refl }

  pub entered_signs_agree : accepted_ray (ray_of o d near far) ≡ true → SignsAgree (ray_of o d near far)
  entered_signs_agree h =
      let r = ray_of o d near far in
      signs_agree r (accepted r (subst T (sym h) tt)) entered-inverted (entered_plain o d near far).1

  pub entered_in_order : (v : Node) (t : Slot) → Head v → SlotBytes t → BytesInOrder t → accepted_ray (ray_of o d near far) ≡ true
      → InOrder v t (ray_of o d near far)
  entered_in_order v t h b k e =
      let r = ray_of o d near far in
      axes_in_order v t r h b (accepted r (subst T (sym e) tt)) entered-inverted (entered_plain o d near far).1 k
