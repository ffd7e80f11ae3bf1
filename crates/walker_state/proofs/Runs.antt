-- Whatever is called, the words hold the walker of that run: a refused step leaves the walker that it took.
use mathlib.Core.Bool.{Bool, true, false, ◌&&◌}
use mathlib.Core.List.{List, [], ◌∷◌}
use mathlib.Core.Path.{◌≡◌, refl, sym, ap, subst, ◌∙◌}
use Prim.Native.Nat.{ℕ, ◌%◌}
use lib.Dec.{T, eqb, leb}
use lib.ListN.{length}
use Rattle.walk.specs.Step.{Answer, tested, position, done, refused}
use Rattle.causes.specs.Sizes.{sizes_fit}
use Rattle.ray.specs.declared.Ray.{Ray}
use Rattle.ray.specs.Ray.{accepted_ray}
use Rattle.walk.specs.WordStep.{WalkerWords, SteppedWords, RunWords, NodeWords, fresh_words, leaving, past_skips}
use Rattle.walk.specs.WordStep.{forged_words, only_first_words, turn_words, advance_words, step_words}
use Rattle.walk.proofs.Cases.{cond_elim}
use Rattle.walk_record.specs.WalkRay.{WalkRay, walk_ray, by_boxes}
use Rattle.walk_record.specs.Record.{node_words_at}
use Rattle.walk_record.specs.Walk.{step_at}
use Rattle.record_shape.specs.Record.{node_count}
use Rattle.traverse.specs.Calls.{RecordOp, step_on, tells, run_each}
use Rattle.traverse.specs.Walker.{started, step_bytes}
use Rattle.traverse.proofs.Begun.{starts_fresh}
use Rattle.walker_state.specs.State.{HeldWords, is_refused, Leaves}
use Rattle.walker_state.specs.Calls.{held_by, CallsLead, none, steps, told}

not-true : {A : Type 0} → ◌≡◌ {A = Bool} false true → A
not-true e = absurd (subst T (sym e) tt)

-- ---- a refused step gives back the walker that it took

module _ {RayData Distance : Type 0} (m : ℕ) (N : NodeWords RayData Distance) (n : ℕ) (w : WalkerWords RayData) where
  abbrev Stays : SteppedWords RayData → Type 0
  Stays r = is_refused r.answer ≡ true → r.walker ≡ w

  left : (a : Answer) (u : WalkerWords RayData) → is_refused a ≡ true → leaving w a u ≡ w
  left (tested v) u e = not-true e
  left (position p) u e = not-true e
  left done u e = not-true e
  left (refused k) u e = refl

  step_stays : Stays (step_words m N n w)
  unfolding step_words advance_words
  step_stays =
      cond_elim Stays (sizes_fit m n) _ _
      (λ _. cond_elim Stays (forged_words m N w) _ _ (λ _ _. refl)
      (λ _. cond_elim Stays (leb m 0 && only_first_words m N (past_skips N w)) _ _ (λ _ e. not-true e)
      (λ _. left (turn_words m N n (past_skips N w)).answer (turn_words m N n (past_skips N w)).walker)))
      (λ _ _. refl)

bytes-stay : (bytes : List ℕ) (n : ℕ) (w : WalkerWords WalkRay) → is_refused (step_bytes bytes n w).answer ≡ true → (step_bytes bytes n w).walker ≡ w
unfolding step_bytes step_at
bytes-stay bytes n w = go (eqb (length bytes % 80) 0)
  where
    r : Bool → SteppedWords WalkRay
    r b = elim b [ false ↦ record { walker = w; answer = refused 1 } | true ↦ step_at bytes by_boxes n w ]

    go : (b : Bool) → is_refused (r b).answer ≡ true → (r b).walker ≡ w
    go false e = refl
    go true e = step_stays (node_count bytes) (node_words_at bytes by_boxes) n w e

-- ---- what the words hold

-- after a step they hold its walker, refused or not
pub step_holds : (s t : HeldWords) (bytes : List ℕ) (n : ℕ)
    → Leaves (is_refused (step_bytes bytes n (held_by s)).answer) s t (step_bytes bytes n (held_by s)).walker
    → held_by t ≡ (step_bytes bytes n (held_by s)).walker
unfolding Leaves
step_holds s t bytes n = go (is_refused (step_bytes bytes n (held_by s)).answer) refl
  where
    go : (b : Bool) → is_refused (step_bytes bytes n (held_by s)).answer ≡ b → Leaves b s t (step_bytes bytes n (held_by s)).walker
        → held_by t ≡ (step_bytes bytes n (held_by s)).walker
    go true e h = ap held_by h ∙ sym (bytes-stay bytes n (held_by s) e)
    go false e h = h

-- a run with an answer before its own
abbrev after : Answer → RunWords WalkRay → RunWords WalkRay
after a r = record { walker = r.walker; answers = a ∷ r.answers }

-- after any list of calls they hold the walker of that run, and the answers are the run's
pub run_holds : (l : List RecordOp) (s u : HeldWords) (answers : List Answer) → CallsLead l s u answers
    → record { walker = held_by u; answers = answers } ≡ run_each l (held_by s)
unfolding run_each
run_holds [] s u answers none = refl
run_holds (step_on bytes n ∷ l) s u answers (steps {t = t} {answers = bs} h k) =
    ap (after (step_bytes bytes n (held_by s)).answer) (run_holds l t u bs k ∙ ap (run_each l) (step_holds s t bytes n h))
run_holds (tells x ∷ l) s u answers (told {t = t} h k) = run_holds l t u answers k ∙ ap (run_each l) h

-- from words in which a walker was begun on an accepted ray it is the run of a walker just begun
pub run_begun : (r : Ray) → accepted_ray r ≡ true → (before s u : HeldWords) → Leaves false before s (started r).walker
    → (l : List RecordOp) (answers : List Answer) → CallsLead l s u answers
    → record { walker = held_by u; answers = answers } ≡ run_each l (fresh_words (walk_ray r))
unfolding Leaves
run_begun r a before s u h l answers k = run_holds l s u answers k ∙ ap (run_each l) (h ∙ starts_fresh r a)
