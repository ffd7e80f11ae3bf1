-- A step by its parts.
use mathlib.Core.Bool.{Bool, true, false, not, ◌||◌, cond}
use mathlib.Core.List.{List}
use mathlib.Core.Path.{◌≡◌, refl, sym, ap, ◌∙◌, subst}
use Prim.Native.Nat.{ℕ, ◌^◌, ◌≤◌, ◌<◌}
use lib.Dec.{ltb}
use lib.Ieee.{Float}
use lib.ListN.{length}
use borrow.Author.Tests.{le-leb, lt-leb, lt-ltb}
use Rattle.std.specs.Prelude.{Ok, Err}
use Rattle.causes.specs.declared.Refusal.{Refusal}
use Rattle.causes.proofs.Sizes.{Fit, sizes_tell}
use Rattle.lists.proofs.Tells.{tells_true}
use Rattle.faststack.specs.Stack.{capacity}
use Rattle.gate.specs.Gates.{Gates, all_open}
use Rattle.gate.proofs.Says.{Said}
use Rattle.record_shape.specs.Record.{node_count}
use Rattle.walk.specs.Step as S
use Rattle.walk.specs.Words.{Group, first_position, rest_of, past_skipped}
use Rattle.walk.specs.WordStep.{WalkerWords, SteppedWords, NodeWords, stay_words, emptied_words, leaving, past_skips, report_words, turn_words}
use Rattle.walk.specs.WordStep.{advance_words, seek_words, step_words}
use Rattle.walk.proofs.Words.{empty_front, front_stays, rest_past}
use Rattle.walk.proofs.WordKept.{Rests, turn_rests, unskipped_turn}
use Rattle.walk.proofs.Cases.{or_false}
use Rattle.walk_record.proofs.WalkRay.{walk_ray_laws}
use Rattle.walk_record.specs.WalkRay.{WalkRay, forged_ray, rays_of}
use Rattle.walk_record.specs.Record.{node_words_at}
use Rattle.advance.specs.declared.Answer.{Answer}
use Rattle.advance.specs.declared.Answer.TheVariants as A
use Rattle.advance.specs.Turn.{step_answer}
use Rattle.walk_step.specs.Parts.{is_forged, is_over, passes_over, due_report, left_by}

-- ---- what a turn leaves

module _ (w u : WalkerWords WalkRay) where
  pub left_refused : (a : Answer) {refusal : _} → a ≡ A.Refused refusal
      → record { walker = w; answer = step_answer a } ≡ left_by w (record { walker = u; answer = step_answer a })
  unfolding step_answer
  left_refused a e = rw e refl

  pub left_other : (a : Answer) → ((refusal : _) → a ≡ A.Refused refusal → ⊥)
      → record { walker = u; answer = step_answer a } ≡ left_by w (record { walker = u; answer = step_answer a })
  unfolding step_answer
  left_other (A.Tested v) h = refl
  left_other (A.Position p) h = refl
  left_other A.Done h = refl
  left_other (A.Refused r) h = absurd (h r refl)

-- ---- a report

module _ (g : Gates) (n : ℕ) (w : WalkerWords WalkRay) (p : ℕ) (named : p ≡ first_position w.positions) where
  pub report_absent : g.absent p ≡ true → stay_words w (S.refused 10) ≡ due_report g n w
  report_absent e = rw (← named, e) refl

  pub report_past : g.absent p ≡ false → n ≤ p → stay_words w (S.refused 10) ≡ due_report g n w
  unfolding report_words
  report_past e h = rw (← named, e, le-leb n p h) refl

  pub report_made : g.absent p ≡ false → p < n → (q : Group) → q ≡ rest_of w.positions
      → record {
        walker = record { ray = w.ray; tests = w.tests; positions = q; current = w.current; depth = w.depth; stack = w.stack };
        answer = S.position p;
      } ≡ due_report g n w
  unfolding report_words
  report_made e h q f = rw (← named, e, lt-leb n p h) (λ i. record {
    walker = record { ray = w.ray; tests = w.tests; positions = f i; current = w.current; depth = w.depth; stack = w.stack };
    answer = S.position p;
  })

-- ---- a step over a record's bytes

module _ (g : Gates) (bytes : List ℕ) (n : ℕ) (w : WalkerWords WalkRay) where
  abbrev m : ℕ
  m = node_count bytes

  abbrev N : NodeWords WalkRay Float
  N = node_words_at bytes (rays_of g)

  -- a turn reports where a position is in hand, and else searches for one test
  pub report_due : 0 < w.positions.bits → due_report g n w ≡ turn_words m N n w
  unfolding turn_words
  report_due h = rw (lt-ltb 0 w.positions.bits h) refl

  pub search_due : w.positions.bits ≤ 0 → seek_words m N 0 n w ≡ turn_words m N n w
  unfolding seek_words
  search_due h = unskipped_turn m N n w (empty_front (N.skips w.ray) w.positions h)

  -- the stack that a turn leaves is the walker's where it is refused
  abbrev with_stack : List ℕ → WalkerWords WalkRay
  with_stack s = record { ray = w.ray; tests = w.tests; positions = w.positions; current = w.current; depth = w.depth; stack = s }

  left_same : (r : SteppedWords WalkRay) → Rests m N n (past_skips N w) r.answer r.walker → left_by (with_stack r.walker.stack) r ≡ left_by w r
  left_same r h = ap (λ (u : WalkerWords WalkRay). record { walker = u; answer = r.answer }) (go r.answer h)
    where
      go : (a : S.Answer) → Rests m N n (past_skips N w) a r.walker → leaving (with_stack r.walker.stack) a r.walker ≡ leaving w a r.walker
      go (S.tested v) h = refl
      go (S.position p) h = refl
      go S.done h = refl
      go (S.refused k) h = ap (λ (u : WalkerWords WalkRay). with_stack u.stack) h

  module _ (f : Fit (length bytes) n) where
    -- by whether the gate or the walker is forged, and whether the walk is over
    abbrev by : Bool → Bool → Bool → SteppedWords WalkRay
    by a b c = cond (a || b) (stay_words w (S.refused 10)) (cond c (emptied_words (past_skips N w)) (advance_words m N n w))

    abbrev forged : Bool
    forged = is_forged w.ray.ray w.ray.octant w.depth w.tests m

    abbrev over : Bool
    over = let u = past_skips N w in is_over m u.positions u.current u.depth u.ray.octant

    three : (a b c d : Bool) → ((a || b) || c || d) ≡ (a || (b || c || d))
    three true b c d = refl
    three false b c d = refl

    is : step_words m N n w ≡ by g.forged forged over
    unfolding step_words
    is = rw (tells_true (sizes_tell m n) (f.few, f.small), three g.forged (forged_ray w.ray) (ltb capacity w.depth) (ltb m w.tests)) refl

    pub step_gate : g.forged ≡ true → stay_words w (S.refused 10) ≡ step_words m N n w
    step_gate e = sym (is ∙ ap (λ (a : Bool). by a forged over) e)

    module _ (unforged : g.forged ≡ false) where
      pub step_forged : forged ≡ true → stay_words w (S.refused 10) ≡ step_words m N n w
      step_forged e = sym (is ∙ (λ i. by (unforged i) (e i) over))

      module _ (own : forged ≡ false) where
        pub octant_lt : w.ray.octant < 8
        octant_lt =
            (walk_ray_laws all_open).octant_lt w.ray (or_false (forged_ray w.ray) (ltb capacity w.depth)
            (or_false (forged_ray w.ray || ltb capacity w.depth) (ltb m w.tests)
            (grouped (forged_ray w.ray) (ltb capacity w.depth) (ltb m w.tests) own)).0).0
          where
            grouped : (a b c : Bool) → (a || b || c) ≡ false → ((a || b) || c) ≡ false
            grouped true b c e = e
            grouped false b c e = e

        pub step_over : over ≡ true → emptied_words (past_skips N w) ≡ step_words m N n w
        step_over e = sym (is ∙ (λ i. by (unforged i) (own i) (e i)))

        pub step_turns : over ≡ false → (r : SteppedWords WalkRay) → r ≡ turn_words m N n (past_skips N w)
            → left_by (with_stack r.walker.stack) r ≡ step_words m N n w
        unfolding advance_words
        step_turns e r q =
            left_same r (subst (λ (x : SteppedWords WalkRay). Rests m N n (past_skips N w) x.answer x.walker) (sym q)
            (turn_rests m N n (past_skips N w)))
            ∙ ap (left_by w) q ∙ sym (is ∙ (λ i. by (unforged i) (own i) (e i)))

-- ---- positions that are passed over

module _ (g : Gates) (p : ℕ) where
  pub passed_by : (b : Bool) → Said g p (Ok b) → not b ≡ passes_over g p
  passed_by true s = rw (s.0, s.1) refl
  passed_by false s = rw (s.0, s.1) refl

  pub stays_by : (refusal : Refusal) → Said g p (Err refusal) → false ≡ passes_over g p
  stays_by refusal s = rw s.0 refl

module _ (skips : ℕ → Bool) (held : Group) where
  -- a group without positions, or whose first stays, is whole
  pub whole_empty : held.bits ≤ 0 → held ≡ past_skipped skips 32 held
  whole_empty h = sym (front_stays skips 32 held (empty_front skips held h))

  pub whole_first : (p : ℕ) → p ≡ first_position held → skips p ≡ false → held ≡ past_skipped skips 32 held
  whole_first p e h = sym (front_stays skips 32 held (rw (← e, h) refl))

  -- and else what follows is left
  pub left_rest : (p : ℕ) → p ≡ first_position held → skips p ≡ true → 0 < held.bits → held.bits < 2 ^ 32 → (q : Group) → q ≡ rest_of held
      → past_skipped skips 32 q ≡ past_skipped skips 32 held
  left_rest p e h some word q f =
      ap (past_skipped skips 32) f ∙ sym (rest_past skips held (ap skips (sym e) ∙ h) some word)
