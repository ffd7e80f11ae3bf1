-- The cases of a step: refused, done, a report or a test, each with what is then known.
use mathlib.Core.Bool.{Bool, true, false, not, ◌&&◌, ◌||◌, cond}
use mathlib.Core.List.{List, [], ◌∷◌}
use mathlib.Core.Path.{◌≡◌, refl, subst}
use Prim.Native.Nat.{ℕ, zero, suc, ◌<◌}
use native.Mathlib.Omega.{arith}
use lib.Dec.{leb, ltb}
use lib.ListN.{length}
use borrow.Author.Tests.{leb-true, leb-false}
use Rattle.lists.proofs.Tells.{clash, both_pass}
use Rattle.walk.specs.Tests.{Tests}
use Rattle.causes.specs.Sizes.{sizes_fit}
use Rattle.walk.specs.Step.{Walker, Answer, tested, position, done, refused, Stepped, Due, report, test, nothing, due_of, forged_walker}
use Rattle.walk.specs.Step.{no_room, bad_position, bad_node, only_first, stay, emptied, after_report, after_test, advance, step_of}

-- ---- tests

pub cond_elim : {A : Type 0} (P : A → Type 0) (b : Bool) (x y : A) → (b ≡ true → P x) → (b ≡ false → P y) → P (cond b x y)
cond_elim P true x y f g = f refl
cond_elim P false x y f g = g refl

pub or_false : (a b : Bool) → a || b ≡ false → (a ≡ false) × (b ≡ false)
or_false false b e = (refl, e)
or_false true b e = absurd (let z : ◌≡◌ {A = ℕ} 0 1 = cc in omega arith)

pub not_false_true : (b : Bool) → not b ≡ false → b ≡ true
not_false_true true e = refl
not_false_true false e = absurd (let z : ◌≡◌ {A = ℕ} 0 1 = cc in omega arith)

pub and-false : (a : Bool) → a && false ≡ false
and-false true = refl
and-false false = refl

-- ---- only the first node in hand

first_put_down : (h g : List ℕ) (st : List (List ℕ)) → only_first h g st ≡ true → due_of h [] st ≡ nothing
first_put_down [] (zero ∷ []) [] e = refl
first_put_down [] (zero ∷ []) (g ∷ st) e = clash e
first_put_down [] (zero ∷ x ∷ r) st e = clash e
first_put_down [] (suc c ∷ r) st e = clash e
first_put_down [] [] st e = clash e
first_put_down (p ∷ ps) g st e = clash e

nothing_not_first : (h g : List ℕ) (st : List (List ℕ)) → due_of h g st ≡ nothing → only_first h g st ≡ false
nothing_not_first [] (zero ∷ []) [] e = absurd (let z : ◌≡◌ {A = ℕ} 0 1 = cc in omega arith)
nothing_not_first [] (zero ∷ []) (g ∷ st) e = refl
nothing_not_first [] (zero ∷ x ∷ r) st e = refl
nothing_not_first [] (suc c ∷ r) st e = refl
nothing_not_first [] [] st e = refl
nothing_not_first (p ∷ ps) g st e = refl

-- ---- the cases

module _ {RayData Distance : Type 0} (m : ℕ) (T : Tests RayData Distance) (n : ℕ) (w : Walker RayData) where
  -- what is due
  abbrev pub due : Due
  due = due_of w.positions w.group w.stack

  -- why a step is refused
  pub data Refusal : Type 0 where
    too_many : sizes_fit m n ≡ false → Refusal
    forgery : forged_walker m T w ≡ true → Refusal
    no_position : (p : ℕ) (ps : List ℕ) → due ≡ report p ps → bad_position T n w.ray p ≡ true → Refusal
    no_node : (c : ℕ) (r : List ℕ) (st : List (List ℕ)) → due ≡ test c r st → bad_node m T n w.tests c r st ≡ true → Refusal

  -- what holds at a report, and at a test
  pub record Reports (p : ℕ) (ps : List ℕ) : Type 0 where
    pub is_due : due ≡ report p ps
    pub present : T.absent w.ray p ≡ false
    pub below : p < n

  pub record Visits (c : ℕ) (r : List ℕ) (st : List (List ℕ)) : Type 0 where
    pub is_due : due ≡ test c r st
    pub accepted : T.forged w.ray ≡ false
    pub room : no_room r st ≡ false
    pub node : c < m
    pub untested : w.tests < m
    pub rule : T.rule n c ≡ true

  pub record Cases (P : Stepped RayData → Type 0) : Type 0 where
    pub refuses : (e : ℕ) → Refusal → P (stay w (refused e))
    pub ends : forged_walker m T w ≡ false → due ≡ nothing → P (stay w done)
    pub empties : forged_walker m T w ≡ false → m ≡ 0 → only_first w.positions w.group w.stack ≡ true → P (emptied w)
    pub reports : (p : ℕ) (ps : List ℕ) → Reports p ps → P (after_report w p ps)
    pub visits : (c : ℕ) (r : List ℕ) (st : List (List ℕ)) → Visits c r st → P (after_test T w c r st)

  visits_if : (c : ℕ) (r : List ℕ) (st : List (List ℕ)) → forged_walker m T w ≡ false → due ≡ test c r st → bad_node m T n w.tests c r st ≡ false
      → Visits c r st
  visits_if c r st f e b =
      let a = or_false (no_room r st || leb m c || leb m w.tests) (not (T.rule n c)) b in
      let a2 = or_false (no_room r st || leb m c) (leb m w.tests) a.0 in
      let a3 = or_false (no_room r st) (leb m c) a2.0 in
      let g = or_false (T.forged w.ray) (ltb 32 (length w.stack))
      (or_false (T.forged w.ray || ltb 32 (length w.stack)) (ltb m w.tests) f).0 in
      record {
        is_due = e;
        accepted = g.0;
        room = a3.0;
        node = leb-false m c a3.1;
        untested = leb-false m w.tests a2.1;
        rule = not_false_true (T.rule n c) a.1;
      }

  pub step_cases : (P : Stepped RayData → Type 0) → Cases P → P (step_of m T n w)
  unfolding step_of
  step_cases P C =
      cond_elim P (sizes_fit m n) _ _
      (λ _. cond_elim P (forged_walker m T w) _ _ (λ f. C.refuses 10 (forgery f))
      (λ f. cond_elim P (leb m 0 && only_first w.positions w.group w.stack) _ _ (λ a. only f a) (λ a. go f due refl)))
      (λ a. C.refuses 2 (too_many a))
    where
      only : forged_walker m T w ≡ false → leb m 0 && only_first w.positions w.group w.stack ≡ true → P (emptied w)
      only f a = let b = both_pass (leb m 0) _ a in C.empties f (omega (arith, leb-true m 0 b.0)) b.1

      go : forged_walker m T w ≡ false → (x : Due) → due ≡ x → P (advance m T n w x)
      go f (report p ps) e =
          cond_elim P (bad_position T n w.ray p) _ _ (λ b. C.refuses 10 (no_position p ps e b))
          (λ b. let c = or_false (T.absent w.ray p) (leb n p) b in
          C.reports p ps (record { is_due = e; present = c.0; below = leb-false n p c.1 }))
      go f (test c r st) e =
          cond_elim P (bad_node m T n w.tests c r st) _ _ (λ b. C.refuses 10 (no_node c r st e b)) (λ b. C.visits c r st (visits_if c r st f e b))
      go f nothing e = C.ends f e

  -- a refused step leaves the walker as it was, and one that is done leaves nothing due
  abbrev pub Leaves : Answer → Walker RayData → Type 0
  Leaves (tested v) u = Unit {0}
  Leaves (position p) u = Unit {0}
  Leaves done u = (due_of u.positions u.group u.stack ≡ nothing) × (forged_walker m T u ≡ false)
  Leaves (refused e) u = u ≡ w

  pub step_leaves : Leaves (step_of m T n w).answer (step_of m T n w).walker
  step_leaves =
      step_cases (λ (r : Stepped RayData). Leaves r.answer r.walker)
      (record {
        refuses = λ e c. refl;
        ends = λ f e. (e, f);
        empties = λ f z o. (first_put_down w.positions w.group w.stack o, f);
        reports = λ p ps h. tt;
        visits = λ c r st h. tt;
      })

-- where nothing is due a step leaves the walker as it is, and is done if nothing refuses it
pub nothing_due_done : {RayData Distance : Type 0} (m : ℕ) (T : Tests RayData Distance) (n : ℕ) (w : Walker RayData)
    → due m T n w ≡ nothing → sizes_fit m n ≡ true → forged_walker m T w ≡ false → step_of m T n w ≡ stay w done
unfolding step_of
nothing_due_done m T n w e z f = rw (z, f, nothing_not_first w.positions w.group w.stack e, and-false (leb m 0), e)

-- a walker that is done stays so, whatever count a later step brings, if it is no cause of refusal
pub done_stays : {RayData Distance : Type 0} (m : ℕ) (T : Tests RayData Distance) (n : ℕ) (w : Walker RayData) → (step_of m T n w).answer ≡ done
    → (k : ℕ) → sizes_fit m k ≡ true
    → step_of m T k (step_of m T n w).walker ≡ stay (step_of m T n w).walker done
done_stays m T n w e k z =
    let l = subst (λ (a : Answer). Leaves m T n w a (step_of m T n w).walker) e (step_leaves m T n w) in
    nothing_due_done m T k (step_of m T n w).walker l.0 z l.1
