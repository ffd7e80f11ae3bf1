-- The near limit of a ray (02, [1]): the larger of its start and 0.0001, whatever float the start is; and what follows for starts up to 0.0001.
use mathlib.Core.Path.{◌≡◌, refl, sym, ap, ◌∙◌, subst}
use mathlib.Core.Bool.{Bool, true, false, not, ◌&&◌, cond}
use mathlib.Core.Logic.{◌⊎◌, inl, inr}
use Prim.Native.Nat.{ℕ}
use lib.Dec.{T}
use lib.ListN.{get_or}
use lib.Ieee.{Float, round, lt, le, is_nan}
use lib.Ieee.Bits.{is_true}
use Rattle.lists.proofs.Tells.{clash}
use Rattle.float.specs.Compare.{min_of, max_of, plus_zero}
use Rattle.float.proofs.Order.{le_self, le_of_lt, le_of_not_lt, le_transitive, lt_excludes_le}
use Rattle.float.proofs.Sign.{no_nan_lt_r, no_nan_le_r}
use Rattle.words.proofs.Ors.{or_of_congr}
use Rattle.ray.specs.declared.Ray.{Ray}
use Rattle.ray.specs.Ray.{starting_at}
use Rattle.node.specs.declared.Slot.{Slot}
use Rattle.gate.specs.Gates.{Gates}
use Rattle.node.specs.declared.Node.{Node}
use Rattle.node.specs.Node.{no_slot}
use Rattle.node_slot.specs.Slot.{least_limit, near_limit, near_x, near_y, near_z, far_x, far_y, far_z, near_of, far_of, passes}
use Rattle.node_slot.specs.Mask.{only_if, hit_bits, passes_open, slot_hit, hit_mask_of, hit_mask}

-- 0.0001 is a number
least_number : T (not (is_nan least_limit))
unfolding least_limit round is_nan
least_number = tt

module _ (r : Ray) where
  -- by the test of the start
  limit_cases : (P : Float → Type 0) → (lt least_limit r.tmin ≡ true → P r.tmin) → (lt least_limit r.tmin ≡ false → P least_limit)
      → P (near_limit r)
  unfolding near_limit max_of
  limit_cases P f g = go (lt least_limit r.tmin) refl
    where
      go : (c : Bool) → lt least_limit r.tmin ≡ c → P (cond c r.tmin least_limit)
      go true e = f e
      go false e = g e

  -- it is a number, whatever the start
  pub limit_number : T (not (is_nan (near_limit r)))
  limit_number = limit_cases (λ x. T (not (is_nan x))) (λ e. no_nan_lt_r least_limit r.tmin e) (λ e. least_number)

  -- it is not below 0.0001,
  pub limit_from_least : T (le least_limit (near_limit r))
  limit_from_least = limit_cases (λ x. T (le least_limit x)) (λ e. le_of_lt least_limit r.tmin e) (λ e. le_self least_limit least_number)

  -- nor below the start, if that is a number;
  pub limit_from_start : T (not (is_nan r.tmin)) → T (le r.tmin (near_limit r))
  limit_from_start h =
      limit_cases (λ x. T (le r.tmin x)) (λ e. le_self r.tmin h) (λ e. le_of_not_lt least_limit r.tmin least_number h e)

  -- and it is one of the two
  pub limit_larger : (near_limit r ≡ r.tmin) ⊎ (near_limit r ≡ least_limit)
  limit_larger = limit_cases (λ x. (x ≡ r.tmin) ⊎ (x ≡ least_limit)) (λ e. inl refl) (λ e. inr refl)

  -- 0.0001 for a start that is not above it, and so for a NaN
  pub limit_least : lt least_limit r.tmin ≡ false → near_limit r ≡ least_limit
  limit_least h = limit_cases (λ x. x ≡ least_limit) (λ e. clash (sym h ∙ e)) (λ e. refl)

-- what something is at most is a number
pub number_right : (x y : Float) → T (le x y) → T (not (is_nan y))
number_right x y h = no_nan_le_r x y (is_true (le x y) h)

-- a later start has no lower limit
pub limit_rises : (r s : Ray) → T (le s.tmin r.tmin) → T (le (near_limit s) (near_limit r))
limit_rises r s h =
    limit_cases s (λ x. T (le x (near_limit r))) (λ e. le_transitive s.tmin r.tmin (near_limit r) h
    (limit_from_start r (number_right s.tmin r.tmin h))) (λ e. limit_from_least r)

-- ---- starts past the reach

-- a slot is passed only if the near limit is at most the reach, whatever floats there are
within_reach : (v : Node) (t : Slot) (r : Ray) → T (passes v t r) → T (le (near_limit r) r.tmax)
unfolding passes near_of far_of max_of min_of
within_reach v t r h =
    let near = max_of (max_of (near_x v t r) (near_y v t r)) (near_z v t r) in
    let far = min_of (min_of (far_x v t r) (far_y v t r)) (far_z v t r) in
    low near r.tmax (lt (near_limit r) near) refl (high (max_of near (near_limit r)) far (lt far r.tmax) refl h)
  where
    -- the near limit is at most the larger of it and x, and the lesser of y and the reach at most the reach
    low : (x z : Float) (c : Bool) → lt (near_limit r) x ≡ c → T (le (cond c x (near_limit r)) z) → T (le (near_limit r) z)
    low x z true e p = le_transitive (near_limit r) x z (le_of_lt (near_limit r) x e) p
    low x z false e p = p

    high : (x y : Float) (c : Bool) → lt y r.tmax ≡ c → T (le x (cond c y r.tmax)) → T (le x r.tmax)
    high x y true e p = le_transitive x y r.tmax p (le_of_lt y r.tmax e)
    high x y false e p = p

-- so a ray that starts past its reach passes none
pub start_past_reach : (v : Node) (t : Slot) (r : Ray) → lt r.tmax r.tmin ≡ true → passes v t r ≡ false
start_past_reach v t r h = go (passes v t r) refl
  where
    go : (c : Bool) → passes v t r ≡ c → passes v t r ≡ false
    go false e = e
    go true e =
        absurd (lt_excludes_le r.tmax r.tmin h
        (le_transitive r.tmin (near_limit r) r.tmax (limit_from_start r (no_nan_lt_r r.tmax r.tmin h))
        (within_reach v t r (subst T (sym e) tt))))

-- ---- starts up to 0.0001

zero_early : lt least_limit plus_zero ≡ false
unfolding least_limit round lt
zero_early = refl

module _ (r : Ray) (early : lt least_limit r.tmin ≡ false) where
  -- all these have the limit of a ray that starts at 0,
  pub limit_early : near_limit r ≡ near_limit (starting_at plus_zero r)
  limit_early = limit_least r early ∙ sym (limit_least (starting_at plus_zero r) zero_early)

  -- and so pass the same slots
  pub passes_early : (v : Node) (t : Slot) → passes v t r ≡ passes v t (starting_at plus_zero r)
  unfolding passes near_of far_of
  passes_early v t = rw limit_early

  -- and have the same hit masks
  pub hits_early : (g : Gates) (number : ℕ) (v : Node) (octant : ℕ) → hit_mask g number v r octant
      ≡ hit_mask g number v (starting_at plus_zero r) octant
  unfolding hit_mask hit_mask_of slot_hit
  hits_early g number v octant =
      or_of_congr 8 (slot_hit (passes_open g number v r) v octant) (slot_hit (passes_open g number v (starting_at plus_zero r)) v octant)
      (λ k _. ap (λ (b : Bool). only_if (g.opens number k && b) (hit_bits octant (get_or v.child_meta k 0)))
      (passes_early v (get_or v.slots k no_slot)))
