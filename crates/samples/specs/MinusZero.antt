-- The samples of a ray's zeros (02, [2]) over T. `proofs/MinusZero.antt` computes them.
use Rattle.std.specs.Prelude.{◌≡◌, false, List, [], ◌∷◌, ℕ, Float}
use Rattle.std.specs.Float.{inf}
use Rattle.std.specs.Float.Ieee.{neg}
use Rattle.ray.specs.declared.Vec3.{Vec3}
use Rattle.ray.specs.declared.Ray.{Ray}
use Rattle.ray.specs.Ray.{ray_of}
use Rattle.walk.specs.Step.{Answer, tested, refused}
use Rattle.walk.specs.WordStep.{fresh_words}
use Rattle.walk_record.specs.WalkRay.{walk_ray}
use Rattle.traverse.specs.Walker.{started, step_bytes}
use Rattle.closest.specs.Panes.{hit_at, blocked, closest_of, miss_of}
use Rattle.any_hit.specs.AnyHit.{listed, any_hit_of, list_after}
use Rattle.samples.specs.TreeT.{number, minus_zero, indices_t, panes_t, bytes_t}
use Rattle.samples.specs.Further.{closest_is, miss_is}
use Rattle.samples.specs.NearLimit.{halves, minus_one}

abbrev pub vec : Float → Float → Float → Vec3
vec x y z = record { x = x; y = y; z = z }

-- from an origin along a direction, as far as can be
abbrev pub endless : Vec3 → Vec3 → Ray
endless origin direction = ray_of origin direction (number 0) (inf false)

-- from (−1, 0.5, 0.5) along (1, 0, −0.0); and from (−1, −0.0, 0.5) along (1, 0, 0)
abbrev pub turned_z : Ray
turned_z = endless (vec minus_one (halves 1) (halves 1)) (vec (number 1) (number 0) minus_zero)

abbrev pub from_zero : Ray
from_zero = endless (vec minus_one minus_zero (halves 1)) (vec (number 1) (number 0) (number 0))

-- from (0, 0, 0) along (−0.0, −0.0, −0.0)
abbrev pub still : Ray
still = endless (vec (number 0) (number 0) (number 0)) (vec minus_zero minus_zero minus_zero)

-- from (−0.0, −0.0, −0.0) along (1, −0.0, −0.0), with a start and a reach of −0.0
abbrev pub all_signed : Ray
all_signed = ray_of (vec minus_zero minus_zero minus_zero) (vec (number 1) minus_zero minus_zero) minus_zero minus_zero

-- what any-hit lists, with room for two positions
abbrev pub listed_by : Ray → List ℕ
listed_by r = list_after bytes_t 2 r (7 ∷ 7 ∷ [])

-- a walker by hand, from (−1, 0.5, 0.5) along (1, y, 0), whose inverse there is so much, octant 7: what a step of it answers
abbrev pub step_by_hand : Float → Float → Answer
step_by_hand y inverse = (step_bytes bytes_t 2 (fresh_words (record {
  ray = record {
    origin = vec minus_one (halves 1) (halves 1);
    direction = vec (number 1) y (number 0);
    inverse = vec (number 1) inverse (number 8388608);
    tmin = number 0;
    tmax = inf false;
  };
  octant = 7;
}))).answer

pub record MinusZeros : Type 0 where
  -- along (1, 0, −0.0)
  pub turned_z_any_hit : any_hit_of bytes_t 2 turned_z 2 ≡ record { answer = listed 2; tests = 1 }
  pub turned_z_listed : listed_by turned_z ≡ 1 ∷ 0 ∷ []
  pub turned_z_closest : closest_of bytes_t indices_t panes_t turned_z ≡ closest_is (hit_at 0 (number 1)) 1
  pub turned_z_miss : miss_of bytes_t indices_t panes_t turned_z ≡ miss_is blocked 1
  -- from (−1, −0.0, 0.5)
  pub from_zero_any_hit : any_hit_of bytes_t 2 from_zero 2 ≡ record { answer = listed 2; tests = 1 }
  pub from_zero_listed : listed_by from_zero ≡ 1 ∷ 0 ∷ []
  pub from_zero_closest : closest_of bytes_t indices_t panes_t from_zero ≡ closest_is (hit_at 0 (number 1)) 1
  pub from_zero_miss : miss_of bytes_t indices_t panes_t from_zero ≡ miss_is blocked 1
  -- a direction of −0.0 alone is accepted; its inverse is 2 ^ 23 on each axis, and its octant 7
  pub still_accepted : (started still).refused ≡ 0
  pub still_inverse : still.inverse ≡ vec (number 8388608) (number 8388608) (number 8388608)
  pub still_octant : (walk_ray still).octant ≡ 7
  -- origin and direction lose their signs, start and reach keep theirs
  pub signed_origin : all_signed.origin ≡ vec (number 0) (number 0) (number 0)
  pub signed_direction : all_signed.direction ≡ vec (number 1) (number 0) (number 0)
  pub signed_start : all_signed.tmin ≡ minus_zero
  pub signed_reach : all_signed.tmax ≡ minus_zero
  -- by hand −0.0 is forged, with an inverse of its own and with that of +0.0; +0.0 is not
  pub by_hand_own : step_by_hand minus_zero (neg (number 8388608)) ≡ refused 10
  pub by_hand_other : step_by_hand minus_zero (number 8388608) ≡ refused 10
  pub by_hand_plus : step_by_hand (number 0) (number 8388608) ≡ tested 0
