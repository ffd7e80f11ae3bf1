-- Any-hit (01, "Walking"; "Causes of refusal", 10 and 11): the positions that a walk reports, in its order.
use Rattle.std.specs.Prelude.{true, false, List, ℕ, leb, length}
use Rattle.std.specs.Prelude as P
use Rattle.lists.specs.Splice.{splice}
use Rattle.causes.specs.Refusal.{cause_number}
use Rattle.ray.specs.declared.Ray.{Ray}
use Rattle.gate.specs.Gates.{Gates}
use Rattle.walk_record.specs.WalkRay.{WalkRay, walk_ray, rays_of}
use Rattle.walk_record.specs.Walk.{any_hit_at}
use Rattle.causes.specs.Causes.{first_cause}
use Rattle.query.specs.Entry.{entry_conditions, entry_cause}
use Rattle.query.specs.Result.{Result, unanswered, walked, entered}
use Rattle.any_hit_walk.specs.declared.AnyHit.{AnyHit}
use Rattle.any_hit_walk.specs.declared.AnyHitError.{AnyHitError}
use Rattle.any_hit_walk.specs.declared.AnyHitError.TheVariants.{Short, Refused}

-- so many positions listed; or refused with a number; or refused with a number and the length needed
pub data AnyHitAnswer : Type 0 where
  listed : (count : ℕ) → AnyHitAnswer
  refused : (number : ℕ) → AnyHitAnswer
  lacking : (number needed : ℕ) → AnyHitAnswer

-- the cases of the answer in the requirements' terms
unfoldable pub any_hit_answer : P.Result AnyHit AnyHitError → AnyHitAnswer
any_hit_answer (P.Ok found) = listed found.count
any_hit_answer (P.Err (Short needed)) = lacking 11 needed
any_hit_answer (P.Err (Refused refusal)) = refused (cause_number refusal)

-- the result with its tests: none beside a refusal
unfoldable pub result_of : P.Result AnyHit AnyHitError → Result AnyHitAnswer
unfolding any_hit_answer
result_of (P.Ok found) = record { answer = any_hit_answer (P.Ok found); tests = found.tests }
result_of (P.Err e) = unanswered (any_hit_answer (P.Err e))

-- so many positions after so many tests: a list that is long enough, or short
unfoldable pub fitted : (count tests room : ℕ) → Result AnyHitAnswer
fitted count tests room = elim (leb count room) [ true ↦ record { answer = listed count; tests = tests } | false ↦ unanswered (lacking 11 count) ]

-- the list at the end: the positions in front of what was there, and at a refusal as it was
unfoldable pub list_for : AnyHitAnswer → List ℕ → List ℕ → List ℕ
list_for (listed count) found before = splice before 0 found
list_for (refused number) found before = before
list_for (lacking number needed) found before = before

-- ---- beside gates

module _ (g : Gates) (bytes : List ℕ) (n : ℕ) where
  -- the answer of a whole walk, with room for so many positions: its refusals come before a short list
  unfoldable pub walk_of : WalkRay → ℕ → Result AnyHitAnswer
  unfolding fitted walked any_hit_at
  walk_of b room = let o = any_hit_at bytes (rays_of g) n b in walked refused (λ noted tests. fitted (length noted) tests room) o o.ended

  -- the list after a whole walk
  unfoldable pub list_walked : WalkRay → List ℕ → List ℕ
  unfolding walk_of list_for
  list_walked b before = list_for (walk_of b (length before)).answer (any_hit_at bytes (rays_of g) n b).accumulator before

  -- the answer for a ray, room for so many positions, and a cause between 2 and 9
  unfoldable pub gated_any_hit : (between : ℕ) → Ray → ℕ → Result AnyHitAnswer
  unfolding entry_conditions first_cause walk_of entered
  gated_any_hit between r room = entered refused (entry_cause true (length bytes) n between r) (walk_of (walk_ray r) room)

  unfoldable pub gated_list : (between : ℕ) → Ray → List ℕ → List ℕ
  unfolding gated_any_hit list_for
  gated_list between r before =
      list_for (gated_any_hit between r (length before)).answer (any_hit_at bytes (rays_of g) n (walk_ray r)).accumulator before
