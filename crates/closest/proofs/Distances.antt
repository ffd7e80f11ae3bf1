-- The distance of an accepted box from an accepted ray is a number, the same whatever reach the ray has; and such distances stand in a strict order.
use mathlib.Core.Bool.{Bool, true, false, not, ◌&&◌, cond}
use mathlib.Core.List.{List}
use mathlib.Core.Path.{◌≡◌, refl, sym, ap, ◌∙◌, subst}
use Prim.Native.Nat.{ℕ, ◌/◌, ◌<◌}
use lib.Dec.{T, lit<, lit≤}
use lib.Ieee.{Float, inf, lt, le, eq, is_nan}
use lib.ListN.{length}
use borrow.Author.Tests.{lt-ltb}
use Rattle.float.specs.Compare.{plus_zero, unsigned_zero}
use Rattle.float.specs.Magnitude.{Within}
use Rattle.float.proofs.Magnitude.{sub_within, mul_within}
use Rattle.float.proofs.Order.{lt_through, lt_self, lt_between}
use Rattle.ray.specs.declared.Ray.{Ray}
use Rattle.ray.specs.declared.Vec3.{Vec3}
use Rattle.ray.specs.Ray.{unsigned_vec, ray_of, reaching, counts, seen_at, accepted_ray}
use Rattle.ray.proofs.Bounds.{inverse_within}
use Rattle.ray.proofs.Bounds as R
use Rattle.ray.proofs.Counts.{counts-seen, seen_itself}
use Rattle.aabb.specs.declared.Aabb.{Aabb}
use Rattle.aabb.specs.Aabb.{plane_distance, slab_near, box_near, box_far, entry_distance, accepted_box}
use Rattle.aabb.proofs.Bounds as B
use Rattle.packed.specs.Packed.{box_in}
use Rattle.node_hits.proofs.Terms.{max_no_nan, min_no_nan, within_no_nan}
use Rattle.walk.specs.Queries.{distance}
use Rattle.walk.proofs.Nearest.{Order}
use Rattle.walk.proofs.Noted.{Reaching}
use Rattle.walk_record.specs.WalkRay.{WalkRay, told_walk_ray}
use Rattle.closest.specs.Panes.{pane_met, pane_of, nearer}

-- no NaN
abbrev pub Number : Float → Type 0
Number x = T (not (is_nan x))

pub distances_ordered : Order lt Number
distances_ordered = record { through = lt_through; self = lt_self; between = lt_between }

-- ---- an accepted box and an accepted ray

plane_number : (plane origin inverse : Float) → Within 40 plane → Within 40 origin → Within 23 inverse → Number (plane_distance plane origin inverse)
plane_number plane origin inverse p o i =
    within_no_nan 64 (plane_distance plane origin inverse) (mul_within _ 41 23 _ inverse (lit≤ tt) (sub_within _ 40 plane origin (lit< tt) p o) i)

near_number : (lo hi origin inverse : Float) → Within 40 lo → Within 40 hi → Within 40 origin → Within 23 inverse
    → Number (slab_near lo hi origin inverse)
unfolding slab_near
near_number lo hi origin inverse l h o i = min_no_nan _ _ (plane_number lo origin inverse l o i) (plane_number hi origin inverse h o i)

zero_number : (x : Float) → Number x → Number (unsigned_zero x)
unfolding unsigned_zero is_nan
zero_number x h = go (eq x plus_zero)
  where
    go : (c : Bool) → Number (cond c plus_zero x)
    go true = tt
    go false = h

pub distance_number : (b : Aabb) (o d : Vec3) (near far : Float) → accepted_box b ≡ true → accepted_ray (ray_of o d near far) ≡ true
    → Number (entry_distance b (ray_of o d near far))
unfolding entry_distance box_near ray_of is_nan
distance_number b o d near far p q =
    let r = ray_of o d near far in go (le (box_near b r) (box_far b r) && le plus_zero (box_far b r))
  where
    box : B.Accepted b
    box = B.accepted b (subst T (sym p) tt)

    ray : R.Accepted (ray_of o d near far)
    ray = R.accepted (ray_of o d near far) (subst T (sym q) tt)

    number : Number (box_near b (ray_of o d near far))
    number =
        max_no_nan _ _
        (max_no_nan _ _
        (near_number _ _ _ _ box.low.x box.high.x ray.origin.x (inverse_within (unsigned_vec d).x ray.direction.x))
        (near_number _ _ _ _ box.low.y box.high.y ray.origin.y (inverse_within (unsigned_vec d).y ray.direction.y)))
        (near_number _ _ _ _ box.low.z box.high.z ray.origin.z (inverse_within (unsigned_vec d).z ray.direction.z))

    go : (c : Bool) → Number (cond c (unsigned_zero (box_near b (ray_of o d near far))) (inf false))
    go true = zero_number _ number
    go false = tt

-- ---- panes

module _ (indices : List ℕ) (panes : List Float) where
  -- a pane that is there and has an accepted box is met at its distance
  pub met_there : (k : ℕ) (r : Ray) → k < length panes / 6 → accepted_box (box_in panes k) ≡ true
      → pane_met panes k r ≡ distance (entry_distance (box_in panes k) r)
  unfolding pane_met
  met_there k r h a = rw (lt-ltb k (length panes / 6) h, a)

  -- and another reach moves none
  reach_pane : (p : ℕ) (t : Float) (b : WalkRay) (c : Bool)
      → pane_of indices panes p (record { ray = cond c (reaching t b.ray) b.ray; octant = b.octant }) ≡ pane_of indices panes p b
  unfolding pane_of pane_met entry_distance box_near box_far
  reach_pane p t b true = refl
  reach_pane p t b false = refl

  pub told_pane : (p : ℕ) (t : Float) (b : WalkRay) → pane_of indices panes p (told_walk_ray t b) ≡ pane_of indices panes p b
  told_pane p t b = reach_pane p t b (counts b.ray t)

  -- nor what is seen where
  reach_seen : (t x : Float) (b : WalkRay) (c : Bool) → seen_at (cond c (reaching t b.ray) b.ray) x ≡ seen_at b.ray x
  unfolding seen_at
  reach_seen t x b true = refl
  reach_seen t x b false = refl

  told_reach : (t : Float) (b : WalkRay) → lt (seen_at b.ray t) b.ray.tmax ≡ true → (told_walk_ray t b).ray.tmax ≡ t
  told_reach t b e = ap (λ (c : Bool). (cond c (reaching t b.ray) b.ray).tmax) (counts-seen b.ray t ∙ e)

  pub panes_reached : Reaching told_walk_ray (pane_of indices panes) nearer lt (λ b. b.ray.tmax) (λ b. seen_at b.ray)
  panes_reached = record {
    nearer_is = λ t b. counts-seen b.ray t;
    seen_is = λ t x b. seen_itself b.ray t x;
    told_reach = told_reach;
    told_pane = told_pane;
    told_seen = λ t x b. reach_seen t x b (counts b.ray t);
  }
