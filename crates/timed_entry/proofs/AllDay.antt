-- Over spans of the whole day a timed query that is not refused gives what the untimed one gives, its tests included.
use mathlib.Core.Bool.{Bool}
use mathlib.Core.List.{List}
use mathlib.Core.Path.{◌≡◌, refl, sym, ap, ◌∙◌}
use Prim.Native.Nat.{ℕ, zero, suc}
use lib.Ieee.{Float}
use lib.ListN.{length}
use Rattle.ray.specs.declared.Ray.{Ray}
use Rattle.walk.specs.Step as S
use Rattle.walk.specs.Calls.{Answered}
use Rattle.walk.specs.Queries.{Reaction}
use Rattle.walk.specs.WordQueries.{OutcomeWords}
use Rattle.walk_record.specs.WalkRay.{WalkRay, walk_ray, by_boxes}
use Rattle.walk_record.specs.Walk.{query_at}
use Rattle.query.specs.Entry.{entry_cause}
use Rattle.query.specs.Result.{Result, walked, entered}
use Rattle.query.proofs.Entry as E
use Rattle.timed.specs.Hours.{Timetable}
use Rattle.timed.specs.Walk.{timed_query}
use Rattle.timed.specs.AllDay.{AllDay}
use Rattle.timed.proofs.AllDay.{all_day_query}
use Rattle.timed_entry.specs.Entry.{timed_cause}

module _ {A N : Type 0} (refuse : ℕ → A) (found : N → ℕ → Result A) (bytes : List ℕ) (h : Timetable) (day : AllDay bytes h)
    (react : ℕ → WalkRay → N → Reaction Float N) (x : N) (r : Ray) (fits : Bool) where
  -- what a query gives by its walk and by its own cause between 2 and 9
  abbrev by_walk : OutcomeWords WalkRay N → Result A
  by_walk o = walked refuse found o o.ended

  abbrev cause_with : (between : ℕ) → ℕ
  cause_with between = entry_cause fits (length bytes) (length h.indices) between r

  abbrev untimed : OutcomeWords WalkRay N
  untimed = query_at bytes by_boxes react x (length h.indices) (walk_ray r)

  -- a walk that is not refused is the untimed one
  pub walked_answered : (b : S.Answer) → ((k : ℕ) → (walked refuse found (timed_query bytes h react x r) b).answer ≡ refuse k → ⊥) → Answered b
  unfolding walked
  walked_answered (S.tested v) g = tt
  walked_answered (S.position p) g = tt
  walked_answered S.done g = tt
  walked_answered (S.refused k) g = absurd (g k refl)

  pub all_day_answer :
      ((k : ℕ) → (entered refuse (cause_with (timed_cause bytes h)) (by_walk (timed_query bytes h react x r))).answer ≡ refuse k → ⊥)
      → entered refuse (cause_with (timed_cause bytes h)) (by_walk (timed_query bytes h react x r)) ≡ entered refuse (cause_with 0) (by_walk untimed)
  unfolding entered
  all_day_answer = go (cause_with (timed_cause bytes h)) refl
    where
      go : (c : ℕ) → cause_with (timed_cause bytes h) ≡ c
          → ((k : ℕ) → (entered refuse c (by_walk (timed_query bytes h react x r))).answer ≡ refuse k → ⊥)
          → entered refuse c (by_walk (timed_query bytes h react x r)) ≡ entered refuse (cause_with 0) (by_walk untimed)
      go zero e g =
          let none = (E.entered fits (length bytes) (length h.indices) (timed_cause bytes h) r e).none in
          ap by_walk (all_day_query day react x r (walked_answered (timed_query bytes h react x r).ended g))
          ∙ ap (λ (c : ℕ). entered refuse c (by_walk untimed)) (sym (ap cause_with (sym none) ∙ e))
      go (suc c) e g = absurd (g (suc c) refl)
