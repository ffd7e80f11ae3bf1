-- The first cause by the tests that the code makes in turn, and what holds where there is none.
use mathlib.Core.Path.{◌≡◌, refl, ap, ◌∙◌}
use mathlib.Core.Bool.{Bool, true, false}
use mathlib.Core.List.{List, [], ◌∷◌}
use Prim.Native.Nat.{ℕ, zero, suc, ◌≤◌, ◌<◌}
use native.Mathlib.Omega.{arith}
use borrow.Author.Tests.{eq-eqb, ne_eqb}
use Rattle.causes.specs.Causes.{Condition, ◌unless◌, first_cause, given}
use Rattle.causes.specs.Sizes.{record_conditions, record_cause}
use Rattle.causes.proofs.Causes.{first_here, first_later, passed_none, append_first, append_later}
use Rattle.causes.proofs.Sizes.{Fit, record_passed, none_record}
use Rattle.ray.specs.declared.Ray.{Ray}
use Rattle.ray.specs.Ray.{accepted_ray}
use Rattle.walk.specs.Step as S
use Rattle.walk.specs.Queries.{Ended}
use Rattle.walk.specs.WordQueries.{OutcomeWords}
use Rattle.walk_record.specs.WalkRay.{WalkRay}
use Rattle.query.specs.Ending.{Ending, ending}
use Rattle.query.specs.Entry.{entry_conditions, entry_cause}
use Rattle.query.specs.Result.{Result}
use Rattle.query.specs.Result as R

module _ (fits : Bool) (bytes n between : ℕ) (r : Ray) where
  -- behind the sizes
  abbrev own : List Condition
  own = given between ∷ 9 unless accepted_ray r ∷ []

  pub entry_unfit : fits ≡ false → entry_cause fits bytes n between r ≡ 1
  unfolding entry_conditions
  entry_unfit e = first_here _ e

  module _ (f : fits ≡ true) where
    pub entry_sizes : (record_cause bytes n ≡ 0 → ⊥) → entry_cause fits bytes n between r ≡ record_cause bytes n
    unfolding entry_conditions
    entry_sizes h = first_later 1 _ f ∙ append_first (record_conditions bytes n) own h

    module _ (fit : Fit bytes n) where
      behind : entry_cause fits bytes n between r ≡ first_cause own
      unfolding entry_conditions
      behind = first_later 1 _ f ∙ append_later (record_conditions bytes n) own (record_passed bytes n fit)

      pub entry_between : (between ≡ 0 → ⊥) → entry_cause fits bytes n between r ≡ between
      entry_between h = behind ∙ first_here _ (ne_eqb between 0 h)

      pub entry_ray : between ≡ 0 → accepted_ray r ≡ false → entry_cause fits bytes n between r ≡ 9
      entry_ray z h = behind ∙ first_later between _ (eq-eqb between 0 z) ∙ first_here _ h

      pub entry_none : between ≡ 0 → accepted_ray r ≡ true → entry_cause fits bytes n between r ≡ 0
      entry_none z h = behind ∙ passed_none own (eq-eqb between 0 z, (h, tt))

-- what holds of a query that is not refused on entry
pub record Entered (fits : Bool) (bytes n between : ℕ) (r : Ray) : Type 0 where
  pub fit : fits ≡ true
  pub sizes : Fit bytes n
  pub none : between ≡ 0
  pub accepted : accepted_ray r ≡ true

pub entered : (fits : Bool) (bytes n between : ℕ) (r : Ray) → entry_cause fits bytes n between r ≡ 0 → Entered fits bytes n between r
entered fits bytes n between r e = lists fits refl
  where
    ray : fits ≡ true → Fit bytes n → between ≡ 0 → (b : Bool) → accepted_ray r ≡ b → Entered fits bytes n between r
    ray f s z true h = record { fit = f; sizes = s; none = z; accepted = h }
    ray f s z false h = absurd (omega (arith, e, entry_ray fits bytes n between r f s z h))

    own : fits ≡ true → Fit bytes n → (k : ℕ) → between ≡ k → Entered fits bytes n between r
    own f s zero z = ray f s z (accepted_ray r) refl
    own f s (suc k) z = absurd (omega (arith, e, z, entry_between fits bytes n between r f s (λ h. omega (arith, h, z))))

    sizes : fits ≡ true → (k : ℕ) → record_cause bytes n ≡ k → Entered fits bytes n between r
    sizes f zero z = own f (none_record bytes n z) between refl
    sizes f (suc k) z = absurd (omega (arith, e, z, entry_sizes fits bytes n between r f (λ h. omega (arith, h, z))))

    lists : (b : Bool) → fits ≡ b → Entered fits bytes n between r
    lists true f = sizes f (record_cause bytes n) refl
    lists false f = absurd (omega (arith, e, entry_unfit fits bytes n between r f))

-- ---- answers by the cause on entry

-- a cause found on entry is the answer
pub by_cause : {A : Type 0} (refuse : ℕ → A) (k c : ℕ) (w : Result A) → k ≡ c → 0 < k → record { answer = refuse k; tests = 0 } ≡ R.entered refuse c w
unfolding R.entered
by_cause refuse k zero w e h = absurd (omega arith)
by_cause refuse k (suc c) w e h = ap (λ (j : ℕ). record { answer = refuse j; tests = 0 }) e

-- and without one the walk's is
pub without_cause : {A : Type 0} (refuse : ℕ → A) (k c : ℕ) (w : Result A) → k ≡ c → k ≤ 0 → w ≡ R.entered refuse c w
unfolding R.entered
without_cause refuse k zero w e h = refl
without_cause refuse k (suc c) w e h = absurd (omega arith)

-- a walk that was not refused gives what it has found
pub found_at_end : {A N : Type 0} (refuse : ℕ → A) (found : N → ℕ → Result A) (cause : ℕ) (o : OutcomeWords WalkRay N) (b : S.Answer) → 0 ≡ cause
    → Ended b → R.entered refuse cause (R.walked refuse found o b) ≡ found o.accumulator o.walker.tests
unfolding R.entered R.walked
found_at_end refuse found zero o (S.tested v) e h = absurd h
found_at_end refuse found zero o (S.position p) e h = refl
found_at_end refuse found zero o S.done e h = refl
found_at_end refuse found zero o (S.refused k) e h = absurd h
found_at_end refuse found (suc c) o b e h = absurd (omega arith)

-- what a walk gives that ended like this
module _ {A N : Type 0} (refuse : ℕ → A) (found : N → ℕ → Result A) (o : OutcomeWords WalkRay N) (noted : N) (tests : ℕ) where
  abbrev by_end : Ending N → Result A
  by_end x = R.walked refuse found o x.ended

  pub ended_done : record { noted = noted; tests = tests; ended = S.done } ≡ ending o → found noted tests ≡ R.walked refuse found o o.ended
  unfolding R.walked
  ended_done e = ap (λ (x : Ending N). found x.noted x.tests) e ∙ ap by_end e

  pub ended_refused : (k : ℕ) → record { noted = noted; tests = tests; ended = S.refused k } ≡ ending o
      → R.unanswered (refuse k) ≡ R.walked refuse found o o.ended
  unfolding R.walked
  ended_refused k e = ap by_end e

  pub ended_stopped : (p : ℕ) → record { noted = noted; tests = tests; ended = S.position p } ≡ ending o
      → found noted tests ≡ R.walked refuse found o o.ended
  unfolding R.walked
  ended_stopped p e = ap (λ (x : Ending N). found x.noted x.tests) e ∙ ap by_end e

-- where a cause of the query's own holds it does not matter what the walk would give
pub own_cause_alike : {A : Type 0} (refuse : ℕ → A) (fits : Bool) (bytes n between : ℕ) (r : Ray) (w u : Result A) → (between ≡ 0 → ⊥)
    → R.entered refuse (entry_cause fits bytes n between r) w ≡ R.entered refuse (entry_cause fits bytes n between r) u
unfolding R.entered
own_cause_alike refuse fits bytes n between r w u h = go (entry_cause fits bytes n between r) refl
  where
    go : (k : ℕ) → entry_cause fits bytes n between r ≡ k → R.entered refuse k w ≡ R.entered refuse k u
    go zero e = absurd (h (entered fits bytes n between r e).none)
    go (suc k) e = refl
