-- When a ray passes a slot box, value by value: each near value and the near limit are at most each far value and tmax.
-- So the nesting of the maxima and minima does not matter.
use mathlib.Core.Path.{◌≡◌, refl}
use mathlib.Core.Bool.{Bool, true, false, not, cond}
use mathlib.Core.Logic.{◌↔◌}
use lib.Dec.{T}
use lib.Ieee.{Float, lt, le, is_nan}
use Rattle.float.specs.Compare.{min_of, max_of}
use Rattle.float.proofs.Order.{le_transitive, le_of_lt, le_of_not_lt}
use Rattle.ray.specs.declared.Ray.{Ray}
use Rattle.ray.proofs.Bounds.{Accepted}
use Rattle.node.specs.declared.Slot.{Slot}
use Rattle.node.specs.declared.Node.{Node}
use Rattle.node_rule.specs.Rule.{Head}
use Rattle.node_slot.specs.Slot.{near_limit, near_x, near_y, near_z, far_x, far_y, far_z, near_of, far_of, passes}
use Rattle.node_hits.proofs.Terms.{Inverted, SlotBytes, Terms, terms_finite, max_no_nan, min_no_nan, within_no_nan}

-- a value is at most each far value and tmax
pub record AtMostFar (v : Node) (t : Slot) (r : Ray) (a : Float) : Type 0 where
  pub x : T (le a (far_x v t r))
  pub y : T (le a (far_y v t r))
  pub z : T (le a (far_z v t r))
  pub tmax : T (le a r.tmax)

-- the greater of two is at most x exactly if both are
module _ (a b x : Float) (p : T (not (is_nan a))) (q : T (not (is_nan b))) where
  pub max_to : T (le (max_of a b) x) → T (le a x) × T (le b x)
  unfolding max_of
  max_to = go (lt b a) refl
    where
      go : (c : Bool) → lt b a ≡ c → T (le (cond c a b) x) → T (le a x) × T (le b x)
      go true e h = (h, le_transitive b a x (le_of_lt b a e) h)
      go false e h = (le_transitive a b x (le_of_not_lt b a q p e) h, h)

  pub max_from : T (le a x) → T (le b x) → T (le (max_of a b) x)
  unfolding max_of
  max_from h k = go (lt b a)
    where
      go : (c : Bool) → T (le (cond c a b) x)
      go true = h
      go false = k

  -- x is at most the lesser of two exactly if it is at most both
  pub min_to : T (le x (min_of a b)) → T (le x a) × T (le x b)
  unfolding min_of
  min_to = go (lt a b) refl
    where
      go : (c : Bool) → lt a b ≡ c → T (le x (cond c a b)) → T (le x a) × T (le x b)
      go true e h = (h, le_transitive x a b h (le_of_lt a b e))
      go false e h = (le_transitive x b a h (le_of_not_lt a b p q e), h)

  pub min_from : T (le x a) → T (le x b) → T (le x (min_of a b))
  unfolding min_of
  min_from h k = go (lt a b)
    where
      go : (c : Bool) → T (le x (cond c a b))
      go true = h
      go false = k

-- ---- the box
-- every near value is at most every far value
pub record Passing (v : Node) (t : Slot) (r : Ray) : Type 0 where
  pub near_x_lem : AtMostFar v t r (near_x v t r)
  pub near_y_lem : AtMostFar v t r (near_y v t r)
  pub near_z_lem : AtMostFar v t r (near_z v t r)
  pub limit : AtMostFar v t r (near_limit r)

module _ (v : Node) (t : Slot) (r : Ray) (f : Terms v t r) where
  near_nan_x : T (not (is_nan (near_x v t r)))
  near_nan_x = within_no_nan 72 (near_x v t r) f.x.near

  near_nan_y : T (not (is_nan (near_y v t r)))
  near_nan_y = within_no_nan 72 (near_y v t r) f.y.near

  near_nan_z : T (not (is_nan (near_z v t r)))
  near_nan_z = within_no_nan 72 (near_z v t r) f.z.near

  near_nan_xy : T (not (is_nan (max_of (near_x v t r) (near_y v t r))))
  near_nan_xy = max_no_nan (near_x v t r) (near_y v t r) near_nan_x near_nan_y

  near_nan_xyz : T (not (is_nan (max_of (max_of (near_x v t r) (near_y v t r)) (near_z v t r))))
  near_nan_xyz = max_no_nan (max_of (near_x v t r) (near_y v t r)) (near_z v t r) near_nan_xy near_nan_z

  far_nan_x : T (not (is_nan (far_x v t r)))
  far_nan_x = within_no_nan 72 (far_x v t r) f.x.far

  far_nan_y : T (not (is_nan (far_y v t r)))
  far_nan_y = within_no_nan 72 (far_y v t r) f.y.far

  far_nan_z : T (not (is_nan (far_z v t r)))
  far_nan_z = within_no_nan 72 (far_z v t r) f.z.far

  far_nan_xy : T (not (is_nan (min_of (far_x v t r) (far_y v t r))))
  far_nan_xy = min_no_nan (far_x v t r) (far_y v t r) far_nan_x far_nan_y

  far_nan_xyz : T (not (is_nan (min_of (min_of (far_x v t r) (far_y v t r)) (far_z v t r))))
  far_nan_xyz = min_no_nan (min_of (far_x v t r) (far_y v t r)) (far_z v t r) far_nan_xy far_nan_z

  far_to : (a : Float) → T (le a (far_of v t r)) → AtMostFar v t r a
  unfolding far_of
  far_to a h =
      let w = min_to (min_of (min_of (far_x v t r) (far_y v t r)) (far_z v t r)) r.tmax a far_nan_xyz f.tmax h in
      let xyz = min_to (min_of (far_x v t r) (far_y v t r)) (far_z v t r) a far_nan_xy far_nan_z w.0 in
      let xy = min_to (far_x v t r) (far_y v t r) a far_nan_x far_nan_y xyz.0 in
      record { x = xy.0; y = xy.1; z = xyz.1; tmax = w.1 }

  far_from : (a : Float) → AtMostFar v t r a → T (le a (far_of v t r))
  unfolding far_of
  far_from a h =
      min_from (min_of (min_of (far_x v t r) (far_y v t r)) (far_z v t r)) r.tmax a far_nan_xyz f.tmax
      (min_from (min_of (far_x v t r) (far_y v t r)) (far_z v t r) a far_nan_xy far_nan_z
      (min_from (far_x v t r) (far_y v t r) a far_nan_x far_nan_y h.x h.y) h.z) h.tmax

  passes_to : T (passes v t r) → Passing v t r
  unfolding passes near_of
  passes_to h =
      let far = far_of v t r in
      let w = max_to (max_of (max_of (near_x v t r) (near_y v t r)) (near_z v t r)) (near_limit r) far near_nan_xyz f.limit h in
      let xyz = max_to (max_of (near_x v t r) (near_y v t r)) (near_z v t r) far near_nan_xy near_nan_z w.0 in
      let xy = max_to (near_x v t r) (near_y v t r) far near_nan_x near_nan_y xyz.0 in
      record {
        near_x_lem = far_to (near_x v t r) xy.0;
        near_y_lem = far_to (near_y v t r) xy.1;
        near_z_lem = far_to (near_z v t r) xyz.1;
        limit = far_to
            (near_limit r) w.1;
      }

  passes_from : Passing v t r → T (passes v t r)
  unfolding passes near_of
  passes_from h =
      let far = far_of v t r in
      max_from (max_of (max_of (near_x v t r) (near_y v t r)) (near_z v t r)) (near_limit r) far near_nan_xyz f.limit
      (max_from (max_of (near_x v t r) (near_y v t r)) (near_z v t r) far near_nan_xy near_nan_z
      (max_from (near_x v t r) (near_y v t r) far near_nan_x near_nan_y (far_from (near_x v t r) h.near_x_lem) (far_from (near_y v t r) h.near_y_lem))
      (far_from (near_z v t r) h.near_z_lem))
      (far_from (near_limit r) h.limit)

-- On a node that meets the rule, for an accepted ray: the box is passed exactly if every near value is at most every far value.
pub passes_iff : (v : Node) (t : Slot) (r : Ray) → Head v → SlotBytes t → Accepted r → Inverted r → T (passes v t r) ↔ Passing v t r
passes_iff v t r h b a i = let f = terms_finite v t r h b a i in (passes_to v t r f, passes_from v t r f)
