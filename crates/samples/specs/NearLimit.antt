-- The samples of a ray's start (02, [1]) over T, along (1, 0, 0): from (−1, 0.5, 0.5), A is entered at 1 and left at 2, B entered at 3 and left at 4.
-- `proofs/NearLimit.antt` computes them.
use Rattle.std.specs.Prelude.{◌≡◌, false, List, [], ◌∷◌, ℕ, Float}
use Rattle.std.specs.Float.{binary32, nan, inf}
use Rattle.std.specs.Float.Ieee.{of_bits, div}
use Rattle.ray.specs.declared.Ray.{Ray}
use Rattle.ray.specs.Ray.{ray_of, starting_at}
use Rattle.walk.specs.WordStep.{WalkerWords}
use Rattle.walk_record.specs.WalkRay.{WalkRay}
use Rattle.traverse.specs.Walker.{started, told_walker}
use Rattle.closest.specs.Panes.{hit_at, no_hit, refused_closest, missed, blocked, refused_miss, closest_of, miss_of}
use Rattle.any_hit.specs.AnyHit.{listed, refused, any_hit_of, list_after}
use Rattle.samples.specs.TreeT.{number, indices_t, panes_t, bytes_t}
use Rattle.samples.specs.Samples.{ahead}
use Rattle.samples.specs.Further.{closest_is, miss_is}

-- k halves; and −1 and −0.5
abbrev pub halves : ℕ → Float
halves k = div binary32 (number k) (number 2)

abbrev pub minus_one : Float
minus_one = of_bits binary32 0xbf80_0000

abbrev pub minus_half : Float
minus_half = of_bits binary32 0xbf00_0000

-- the samples' ray with another start
abbrev pub ahead_from : Float → Ray
ahead_from start = starting_at start ahead

-- the ray from the middle of A
abbrev pub within_a : Float → Ray
within_a start = ray_of (record { x = halves 1; y = halves 1; z = halves 1 }) (record { x = number 1; y = number 0; z = number 0 }) start (inf false)

-- what any-hit lists, with room for two positions
abbrev pub listed_from : Float → List ℕ
listed_from start = list_after bytes_t 2 (ahead_from start) (7 ∷ 7 ∷ [])

-- a walker with start 2 after some tellings, the last in front, and its reach then
abbrev pub told_from2 : List Float → WalkerWords WalkRay
told_from2 [] = (started (ahead_from (number 2))).walker
told_from2 (t ∷ l) = told_walker t (told_from2 l)

abbrev pub reach_after : List Float → Float
reach_after l = (told_from2 l).ray.ray.tmax

pub record NearLimits : Type 0 where
  -- a start inside A: its slot is passed, its pane is passed over
  pub in_A_listed : listed_from (halves 3) ≡ 1 ∷ 0 ∷ []
  pub in_A_closest : closest_of bytes_t indices_t panes_t (ahead_from (halves 3)) ≡ closest_is (hit_at 1 (number 3)) 1
  -- where A ends it still is,
  pub leaving_A_listed : listed_from (number 2) ≡ 1 ∷ 0 ∷ []
  -- and past it no more
  pub past_A_listed : listed_from (halves 5) ≡ 1 ∷ 7 ∷ []
  pub past_A_closest : closest_of bytes_t indices_t panes_t (ahead_from (halves 5)) ≡ closest_is (hit_at 1 (number 3)) 1
  -- B's own distance as the start
  pub at_B_closest : closest_of bytes_t indices_t panes_t (ahead_from (number 3)) ≡ closest_is (hit_at 1 (number 3)) 1
  pub at_B_miss : miss_of bytes_t indices_t panes_t (ahead_from (number 3)) ≡ miss_is blocked 1
  -- a start inside B
  pub in_B_listed : listed_from (halves 7) ≡ 1 ∷ 7 ∷ []
  pub in_B_closest : closest_of bytes_t indices_t panes_t (ahead_from (halves 7)) ≡ closest_is no_hit 1
  pub in_B_miss : miss_of bytes_t indices_t panes_t (ahead_from (halves 7)) ≡ miss_is missed 1
  -- a start past both, and one without end: the first node is tested, and nothing passes
  pub past_B_any_hit : any_hit_of bytes_t 2 (ahead_from (halves 9)) 2 ≡ record { answer = listed 0; tests = 1 }
  pub endless_any_hit : any_hit_of bytes_t 2 (ahead_from (inf false)) 2 ≡ record { answer = listed 0; tests = 1 }
  -- no start
  pub nan_any_hit : any_hit_of bytes_t 2 (ahead_from nan) 2 ≡ record { answer = refused 9; tests = 0 }
  pub nan_closest : closest_of bytes_t indices_t panes_t (ahead_from nan) ≡ closest_is (refused_closest 9) 0
  pub nan_miss : miss_of bytes_t indices_t panes_t (ahead_from nan) ≡ miss_is (refused_miss 9) 0
  -- from inside A, which was entered at −0.5: passed over from 0 on, and hit from −1 on
  pub within_0 : closest_of bytes_t indices_t panes_t (within_a (number 0)) ≡ closest_is (hit_at 1 (halves 3)) 1
  pub within_minus_1 : closest_of bytes_t indices_t panes_t (within_a minus_one) ≡ closest_is (hit_at 0 minus_half) 1
  -- told 1, below the start: nothing; told 3, then 2: the reach falls to each
  pub told_1 : told_from2 (number 1 ∷ []) ≡ told_from2 []
  pub told_3 : reach_after (number 3 ∷ []) ≡ number 3
  pub told_3_2 : reach_after (number 2 ∷ number 3 ∷ []) ≡ number 2
