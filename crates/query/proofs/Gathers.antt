-- Any-hit's walk, position after position: what it has noted stays in front, and it notes at most one a step. And the number that refuses a walk
-- over a record of fitting sizes is 10, whatever the query.
use mathlib.Core.Bool.{true, ◌&&◌}
use mathlib.Core.List.{List, [], ◌∷◌, ◌++◌, append_assoc, append-nil}
use mathlib.Core.Path.{◌≡◌, refl, sym, ap, ◌∙◌, subst}
use Prim.Native.Nat.{ℕ, zero, suc, ◌+◌, ◌-◌, ◌≤◌}
use native.Mathlib.Omega.{arith}
use lib.Dec.{leb, ltb}
use lib.ListN.{length, length-append}
use Rattle.lists.proofs.Tells.{clash}
use Rattle.causes.specs.Sizes.{sizes_fit}
use Rattle.faststack.specs.Stack.{top_of}
use Rattle.walk.specs.Step as S
use Rattle.walk.specs.Queries.{Reaction, append}
use Rattle.walk.specs.Words.{Group, first_position, unpacked, has_child, waiting_depth}
use Rattle.walk.specs.WordStep.{WalkerWords, SteppedWords, NodeWords, past_skips, bad_child, forged_words, only_first_words}
use Rattle.walk.specs.WordStep.{report_words, visit_words, pop_words, turn_words, advance_words, step_words}
use Rattle.walk.specs.WordQueries.{OutcomeWords, follow_words, query_words}
use Rattle.walk.proofs.Cases.{cond_elim}
use Rattle.query.specs.Ending.{Ending}
use Rattle.query.proofs.Leads.{Leads}

module _ {RayData Distance : Type 0} (m : ℕ) (N : NodeWords RayData Distance) (n : ℕ) where
  abbrev noting : ℕ → WalkerWords RayData → List ℕ → OutcomeWords RayData (List ℕ)
  noting f w x = query_words m N append f n w x

  noted_front : (f : ℕ) (w : WalkerWords RayData) (x : List ℕ) → (noting f w x).accumulator ≡ x ++ (noting f w []).accumulator
  unfolding query_words
  noted_front zero w x = sym (append-nil x)
  noted_front (suc f) w x = go (step_words m N n w).answer (step_words m N n w).walker (noted_front f)
    where
      after : S.Answer → WalkerWords RayData → List ℕ → List ℕ
      after b u y = (follow_words m N append b u y (query_words m N append f n)).accumulator

      go : (b : S.Answer) (u : WalkerWords RayData)
          → ((v : WalkerWords RayData) (y : List ℕ) → (noting f v y).accumulator ≡ y ++ (noting f v []).accumulator) → after b u x ≡ x ++ after b u []
      go (S.tested v) u r = r u x
      go (S.position p) u r =
          r u (x ++ (p ∷ [])) ∙ append_assoc x (p ∷ []) (noting f u []).accumulator ∙ ap (λ (l : List ℕ). x ++ l) (sym (r u (p ∷ [])))
      go S.done u r = sym (append-nil x)
      go (S.refused k) u r = sym (append-nil x)

  pub noted_few : (f : ℕ) (w : WalkerWords RayData) (x : List ℕ) → length (noting f w x).accumulator ≤ length x + f
  unfolding query_words
  noted_few zero w x = omega arith
  noted_few (suc f) w x = go (step_words m N n w).answer (step_words m N n w).walker (noted_few f)
    where
      go : (b : S.Answer) (u : WalkerWords RayData)
          → ((v : WalkerWords RayData) (y : List ℕ) → length (noting f v y).accumulator ≤ length y + f)
          → length (follow_words m N append b u x (query_words m N append f n)).accumulator ≤ length x + suc f
      go (S.tested v) u r = omega (arith, r u x)
      go (S.position p) u r = omega (arith, r u (x ++ (p ∷ [])), length-append x (p ∷ []))
      go S.done u r = omega arith
      go (S.refused k) u r = omega arith

  -- what a walk has noted stands in front of what it will have
  pub leads_front : {goal : Ending (List ℕ)} {w : WalkerWords RayData} {x : List ℕ} → Leads m N n append goal w x
      → (rest : List ℕ) × (goal.noted ≡ x ++ rest)
  leads_front {goal} {w} {x} L =
      ((noting L.steps w []).accumulator, ap (λ (o : Ending (List ℕ)). o.noted) (sym L.rest) ∙ noted_front L.steps w x)

  -- ---- refusals

  -- an answer that is a refusal is 10
  abbrev Ten : S.Answer → Type 0
  Ten (S.tested v) = Unit {0}
  Ten (S.position p) = Unit {0}
  Ten S.done = Unit {0}
  Ten (S.refused k) = k ≡ 10

  abbrev TenAt : SteppedWords RayData → Type 0
  TenAt r = Ten r.answer

  visit_ten : (w : WalkerWords RayData) (g : Group) (d : ℕ) → TenAt (visit_words m N n w g d)
  unfolding visit_words
  visit_ten w g d = cond_elim TenAt (bad_child m N n w g d) _ _ (λ _. refl) (λ _. tt)

  report_ten : (w : WalkerWords RayData) → TenAt (report_words n w)
  unfolding report_words
  report_ten w = cond_elim TenAt (leb n (first_position w.positions)) _ _ (λ _. refl) (λ _. tt)

  pop_ten : (w : WalkerWords RayData) (d : ℕ) → TenAt (pop_words m N n w d)
  unfolding pop_words
  pop_ten w d = cond_elim TenAt (ltb 0 d) _ _ (λ _. visit_ten w (unpacked (top_of w.stack d)) (d - 1)) (λ _. tt)

  turn_ten : (w : WalkerWords RayData) → TenAt (turn_words m N n w)
  unfolding turn_words
  turn_ten w =
      cond_elim TenAt (ltb 0 w.positions.bits) _ _
      (λ _. cond_elim TenAt (N.absent w.ray (first_position w.positions)) _ _ (λ _. refl) (λ _. report_ten w))
      (λ _. cond_elim TenAt (has_child w.current) _ _ (λ _. visit_ten w w.current w.depth)
      (λ _. pop_ten w (waiting_depth w.stack w.depth)))

  step_ten : sizes_fit m n ≡ true → (w : WalkerWords RayData) → TenAt (step_words m N n w)
  unfolding step_words advance_words
  step_ten fit w =
      cond_elim TenAt (sizes_fit m n) _ _
      (λ _. cond_elim TenAt (forged_words m N w) _ _ (λ _. refl)
      (λ _. cond_elim TenAt (leb m 0 && only_first_words m N (past_skips N w)) _ _ (λ _. tt) (λ _. turn_ten (past_skips N w))))
      (λ e. clash (sym e ∙ fit))

  -- whatever the query
  pub query_ten : {a : Type 0} (react : ℕ → RayData → a → Reaction Distance a) → sizes_fit m n ≡ true → (f : ℕ) (w : WalkerWords RayData) (x : a)
      → (k : ℕ) → (query_words m N react f n w x).ended ≡ S.refused k → k ≡ 10
  unfolding query_words
  query_ten {a} react fit f w x k e = subst Ten e (all f w x)
    where
      all : (f : ℕ) (w : WalkerWords RayData) (x : a) → Ten (query_words m N react f n w x).ended
      all zero w x = tt
      all (suc f) w x = go (step_words m N n w).answer (step_words m N n w).walker (step_ten fit w) (all f)
        where
          go : (b : S.Answer) (u : WalkerWords RayData) → Ten b → ((v : WalkerWords RayData) (y : a) → Ten (query_words m N react f n v y).ended)
              → Ten (follow_words m N react b u x (query_words m N react f n)).ended
          go (S.tested v) u h r = r u x
          go (S.position p) u h r =
              cond_elim (λ (o : OutcomeWords RayData a). Ten o.ended) (react p u.ray x).stop _ _ (λ _. tt) (λ _. r _ _)
          go S.done u h r = tt
          go (S.refused j) u h r = h
