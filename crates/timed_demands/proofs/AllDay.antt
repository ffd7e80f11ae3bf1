-- Where every slot that is not empty and every pane has the whole day, a timed call that is not refused answers as the untimed call, its list and its
-- tests included; so does a timed step, whatever the walker.
use mathlib.Core.Bool.{true}
use mathlib.Core.List.{List, []}
use mathlib.Core.Path.{◌≡◌, refl, sym, ap, ◌∙◌, subst}
use Prim.Native.Nat.{ℕ, zero, suc}
use lib.ListN.{length}
use Rattle.ray.specs.declared.Ray.{Ray}
use Rattle.walk.specs.Calls.{Answered}
use Rattle.walk.specs.Queries.{append}
use Rattle.walk.specs.WordStep.{SteppedWords}
use Rattle.walk_record.specs.WalkRay.{WalkRay, walk_ray, by_boxes}
use Rattle.walk_record.specs.Walk.{any_hit_at}
use Rattle.query.specs.Entry.{entry_cause}
use Rattle.query.specs.Result.{entered}
use Rattle.traverse.specs.Walker.{step_bytes}
use Rattle.traverse.proofs.Calls.{step_whole}
use Rattle.any_hit.specs.AnyHit.{refused, fitted, list_for, walk_of, any_hit_of, list_after}
use Rattle.any_hit_walk.specs.AnyHit.{gated_any_hit, gated_list}
use Rattle.timed.specs.Hours.{Timetable, gates_at}
use Rattle.timed.specs.Walk.{timed_query, timed_any_hit}
use Rattle.timed.specs.AllDay.{AllDay}
use Rattle.timed.proofs.AllDay.{all_day_step, all_day_query}
use Rattle.timed_entry.specs.Entry.{timetable, timed_cause}
use Rattle.timed_entry.proofs.AllDay.{walked_answered, all_day_answer}
use Rattle.any_hit_timed.specs.Timed.{any_hit_timed_of, list_timed}
use Rattle.traverse_timed.specs.Walker.{TimedWords, at_quarter, step_over, timed_step_bytes}
use Rattle.timed_demands.proofs.Entry.{Enters, refuses, walks, enters}

-- ---- any-hit

module _ {bytes : List ℕ} {h : Timetable} (day : AllDay bytes h) (ray : Ray) where
  abbrev n : ℕ
  n = length h.indices

  module _ (room : ℕ) (answers : (k : ℕ) → (any_hit_timed_of bytes h ray room).answer ≡ refused k → ⊥) where
    -- what is answered, and the tests beside it
    pub all_day_any_hit : any_hit_timed_of bytes h ray room ≡ any_hit_of bytes n ray room
    unfolding any_hit_timed_of any_hit_of gated_any_hit walk_of any_hit_at
    all_day_any_hit = all_day_answer refused (λ noted tests. fitted (length noted) tests room) bytes h day append [] ray true answers

    -- its walk is the untimed one
    same_walk : timed_any_hit bytes h ray ≡ any_hit_at bytes by_boxes n (walk_ray ray)
    unfolding any_hit_timed_of gated_any_hit walk_of any_hit_at entered
    same_walk = go (entry_cause true (length bytes) n (timed_cause bytes h) ray) answers
      where
        go : (c : ℕ) → ((k : ℕ) → (entered refused c (walk_of (gates_at h) bytes n (walk_ray ray) room)).answer ≡ refused k → ⊥)
            → timed_any_hit bytes h ray ≡ any_hit_at bytes by_boxes n (walk_ray ray)
        go zero g =
            all_day_query day append [] ray
            (walked_answered refused (λ noted tests. fitted (length noted) tests room) bytes h day append [] ray true
            (timed_query bytes h append [] ray).ended g)
        go (suc c) g = absurd (g (suc c) refl)

  -- and the list that is left
  pub all_day_list : (before : List ℕ) → ((k : ℕ) → (any_hit_timed_of bytes h ray (length before)).answer ≡ refused k → ⊥)
      → list_timed bytes h ray before ≡ list_after bytes n ray before
  unfolding list_timed list_after gated_list any_hit_timed_of any_hit_of
  all_day_list before answers =
      let a = all_day_any_hit (length before) answers in
      let w = same_walk (length before) answers in
      λ i. list_for (a i).answer (w i).accumulator before

-- ---- steps

module _ (bytes side indices : List ℕ) (panes : ℕ) (spans : List ℕ) (w : TimedWords) where
  pub all_day_stepped : AllDay bytes (timetable side indices panes spans w.quarter)
      → Answered (timed_step_bytes bytes side indices panes spans w).answer
      → timed_step_bytes bytes side indices panes spans w ≡ at_quarter w.quarter (step_bytes bytes (length indices) w.walker)
  all_day_stepped day answered = ap (at_quarter w.quarter) (go (enters bytes side indices panes spans))
    where
      go : Enters bytes side indices panes spans
          → step_over bytes side indices panes spans w.quarter w.walker ≡ step_bytes bytes (length indices) w.walker
      go (refuses some same) = absurd (subst Answered (ap (λ (r : SteppedWords WalkRay). r.answer) (same w.quarter w.walker)) answered)
      go (walks none fit same) =
          let e = same w.quarter w.walker in
          e
          ∙ all_day_step day w.walker (subst Answered (ap (λ (r : SteppedWords WalkRay). r.answer) e) answered)
          ∙ sym (step_whole bytes fit.whole (length indices) w.walker)
