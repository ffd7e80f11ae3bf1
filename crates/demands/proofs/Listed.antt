-- Any-hit's answer and list on any bytes, where nothing refuses it on entry: what its walk gives, and, that not being refused, its positions.
use mathlib.Core.Bool.{true}
use mathlib.Core.List.{List}
use mathlib.Core.Path.{◌≡◌, refl}
use Prim.Native.Nat.{ℕ, ◌≤◌}
use lib.ListN.{length}
use Rattle.causes.proofs.Sizes.{Fit}
use Rattle.ray.specs.declared.Ray.{Ray}
use Rattle.ray.specs.Ray.{accepted_ray}
use Rattle.gate.specs.Gates.{all_open}
use Rattle.walk.specs.Queries.{Ended}
use Rattle.walk_record.specs.WalkRay.{walk_ray, by_boxes}
use Rattle.walk_record.specs.Walk.{any_hit_at}
use Rattle.any_hit.specs.AnyHit.{listed, fitted, walk_of, any_hit_of, list_after}
use Rattle.any_hit_walk.proofs.Found as F
use Rattle.demands.specs.Walks.{found, counted, list_left}

module _ (bytes : List ℕ) (n : ℕ) (r : Ray) (sizes : Fit (length bytes) n) (accepted : accepted_ray r ≡ true) where
  -- with room for so many positions
  pub any_hit_walked : (room : ℕ) → any_hit_of bytes n r room ≡ walk_of all_open bytes n (walk_ray r) room
  unfolding any_hit_of
  any_hit_walked = F.any_hit_walked all_open bytes n 0 r sizes refl accepted

  module _ (ends : Ended (any_hit_at bytes by_boxes n (walk_ray r)).ended) where
    pub any_hit_fitted : (room : ℕ) → any_hit_of bytes n r room ≡ fitted (length (found bytes r n)) (counted bytes r n) room
    unfolding any_hit_of
    any_hit_fitted = F.any_hit_fitted all_open bytes n 0 r sizes refl accepted ends

    -- into a list that is long enough
    module _ (before : List ℕ) (room : length (found bytes r n) ≤ length before) where
      pub answers_listed : any_hit_of bytes n r (length before) ≡ record { answer = listed (length (found bytes r n)); tests = counted bytes r n }
      unfolding any_hit_of
      answers_listed = F.answers_listed all_open bytes n 0 r sizes refl accepted ends before room

      pub list_found : list_left bytes r n before ≡ found bytes r n
      unfolding list_after
      list_found = F.list_found all_open bytes n 0 r sizes refl accepted ends before room
