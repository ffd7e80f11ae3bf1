-- A ray with a lower reach or a greater near limit passes no more slots, and sets no more bits of the hit mask: for any node and any floats.
use mathlib.Core.Path.{◌≡◌, refl, sym, ap, ◌∙◌, subst}
use mathlib.Core.Bool.{Bool, true, false, not, ◌&&◌, cond}
use Prim.Native.Nat.{ℕ}
use native.Mathlib.Omega.{arith}
use lib.Dec.{T}
use lib.ListN.{get_or}
use lib.Ieee.{Float, nan, inf, fin, lt, le, is_nan}
use lib.Ieee.Bits.{is_true}
use Rattle.float.specs.Compare.{min_of, max_of}
use Rattle.float.proofs.Order.{le_self, le_transitive, le_of_lt, le_of_not_lt}
use Rattle.words.specs.Fields.{field}
use Rattle.words.proofs.Ors.{bit_from, bit_to, zero_bit}
use Rattle.ray.specs.declared.Ray.{Ray}
use Rattle.ray.specs.Ray.{starting_at, reaching}
use Rattle.node.specs.declared.Slot.{Slot}
use Rattle.gate.specs.Gates.{Gates}
use Rattle.node.specs.declared.Node.{Node}
use Rattle.node.specs.Node.{no_slot}
use Rattle.node_slot.specs.Slot.{near_limit, near_x, near_y, near_z, far_x, far_y, far_z, near_of, far_of, passes}
use Rattle.node_slot.specs.Mask.{only_if, hit_bits, passes_open, slot_hit, hit_mask_of, hit_mask}
use Rattle.node_hits.proofs.Limit.{limit_number, number_right, limit_rises}

-- two rays that differ in start and reach alone: the first has no lower near limit and no higher reach
pub record Narrower (r s : Ray) : Type 0 where
  pub origin : r.origin ≡ s.origin
  pub direction : r.direction ≡ s.direction
  pub inverse : r.inverse ≡ s.inverse
  pub limit : T (le (near_limit s) (near_limit r))
  pub reach : T (le r.tmax s.tmax)

-- a lower reach alone, and a later start alone, are such
pub lower_reach : (r : Ray) (t : Float) → T (le t r.tmax) → Narrower (reaching t r) r
unfolding near_limit
lower_reach r t h = record { origin = refl; direction = refl; inverse = refl; limit = le_self (near_limit r) (limit_number r); reach = h }

pub later_start : (r : Ray) (t : Float) → T (le r.tmin t) → T (not (is_nan r.tmax)) → Narrower (starting_at t r) r
later_start r t h n = record {
  origin = refl;
  direction = refl;
  inverse = refl;
  limit = limit_rises (starting_at t r) r h;
  reach = le_self r.tmax n;
}

-- what is at most something is no NaN
no_nan_left : (x y : Float) → T (le x y) → T (not (is_nan x))
unfolding le is_nan
no_nan_left nan y h = h
no_nan_left (inf s) y h = tt
no_nan_left (fin s m e) y h = tt

-- what is at most the lesser of x and a is at most the lesser of x and b, if a is at most b
min_rises : (n x a b : Float) → T (le a b) → T (le n (min_of x a)) → T (le n (min_of x b))
unfolding min_of
min_rises n x a b h = go (lt x a) refl (lt x b) refl
  where
    go : (c : Bool) → lt x a ≡ c → (d : Bool) → lt x b ≡ d → T (le n (cond c x a)) → T (le n (cond d x b))
    go true e true f p = p
    go true e false f p = le_transitive n x b p (le_transitive x a b (le_of_lt x a e) h)
    go false e true f p = le_transitive n a x p (le_of_not_lt x a (no_nan_left x b (le_of_lt x b f)) (no_nan_left a b h) e)
    go false e false f p = le_transitive n a b p h

-- the greater of x and b is at most n if the greater of x and a is, and b is at most a
max_falls : (n x a b : Float) → T (le b a) → T (le (max_of x a) n) → T (le (max_of x b) n)
unfolding max_of
max_falls n x a b h = go (lt a x) refl (lt b x) refl
  where
    go : (c : Bool) → lt a x ≡ c → (d : Bool) → lt b x ≡ d → T (le (cond c x a) n) → T (le (cond d x b) n)
    go true e true f p = p
    go true e false f p = le_transitive b x n (le_transitive b a x h (le_of_lt a x e)) p
    go false e true f p = le_transitive x a n (le_of_not_lt a x (number_right b a h) (number_right b x (le_of_lt b x f)) e) p
    go false e false f p = le_transitive b a n h p

-- the first ray is the second with its own start and reach
as_narrowed : (r s : Ray) → Narrower r s
    → r ≡ record { origin = s.origin; direction = s.direction; inverse = s.inverse; tmin = r.tmin; tmax = r.tmax }
as_narrowed r s l = rw (← l.origin, ← l.direction, ← l.inverse)

-- a slot that the narrower ray passes is passed by the other
pub passes_fewer : (v : Node) (t : Slot) (r s : Ray) → Narrower r s → passes v t r ≡ true → passes v t s ≡ true
unfolding passes near_of far_of
passes_fewer v t r s l h =
    let near = max_of (max_of (near_x v t s) (near_y v t s)) (near_z v t s) in
    let far = min_of (min_of (far_x v t s) (far_y v t s)) (far_z v t s) in
    is_true (passes v t s)
    (min_rises (near_of v t s) far r.tmax s.tmax l.reach
    (max_falls (min_of far r.tmax) near (near_limit r) (near_limit s) l.limit
    (subst T (sym (ap (passes v t) (sym (as_narrowed r s l)) ∙ h)) tt)))

-- a test of slots that passes no more than another sets no more bits of a hit mask
pub fewer_hits : (a b : ℕ → Bool) (v : Node) (octant j : ℕ) → ((k : ℕ) → a k ≡ true → b k ≡ true) → field 1 j (hit_mask_of a v octant) ≡ 1
    → field 1 j (hit_mask_of b v octant) ≡ 1
unfolding hit_mask_of slot_hit
fewer_hits a b v octant j h e =
    let w = bit_from 8 j (slot_hit a v octant) e in
    let k : ℕ = w.0 in
    bit_to 8 j k (slot_hit b v octant) w.1 (kept (hit_bits octant (get_or v.child_meta k 0)) (a k) (b k) (h k) w.2)
  where
    kept : (x : ℕ) (c d : Bool) → (c ≡ true → d ≡ true) → field 1 j (only_if c x) ≡ 1 → field 1 j (only_if d x) ≡ 1
    kept x true d h e = ap (λ (b : Bool). field 1 j (only_if b x)) (h refl) ∙ e
    kept x false d h e = absurd (omega (arith, zero_bit j))

-- so each bit of the narrower ray's hit mask is one of the other's
pub narrower_hits_fewer : (g : Gates) (number : ℕ) (v : Node) (r s : Ray) (octant j : ℕ) → Narrower r s
    → field 1 j (hit_mask g number v r octant) ≡ 1 → field 1 j (hit_mask g number v s octant) ≡ 1
unfolding hit_mask
narrower_hits_fewer g number v r s octant j l =
    fewer_hits (passes_open g number v r) (passes_open g number v s) v octant j
    (λ k. open_too (g.opens number k) (passes_fewer v (get_or v.slots k no_slot) r s l))
  where
    open_too : (a : Bool) {b c : Bool} → (b ≡ true → c ≡ true) → a && b ≡ true → a && c ≡ true
    open_too true h = h
    open_too false h = λ e. e
