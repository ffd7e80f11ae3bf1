-- Every list of steps and tellings on a sound record: the waiting groups do not outnumber the deepest node's level.
use mathlib.Core.List.{List, [], ◌∷◌}
use mathlib.Core.Path.{◌≡◌, refl, subst}
use Prim.Native.Nat.{ℕ, suc, ◌≤◌, ◌<◌}
use native.Mathlib.Omega.{arith}
use lib.ListN.{length}
use Rattle.soundness.specs.Range.{in_range}
use Rattle.soundness.specs.Shape.{Shape, Level}
use Rattle.soundness.specs.Sound.{Deepest}
use Rattle.soundness.proofs.Once.{counts_child}
use Rattle.soundness.proofs.Sound.{child_node}
use Rattle.walk.specs.Tests.{Tests}
use Rattle.walk.specs.Step.{Walker, fresh, Stepped, Due, report, test, nothing, due_on_stack, due_of, push, after_test, step_of, tell_of}
use Rattle.walk.specs.Calls.{Op, step, tell, run_ops}
use Rattle.walk.specs.Listing.{In}
use Rattle.walk.specs.Lawful.{SoundTests}
use Rattle.walk.proofs.Lists.{in_head, in_tail, in_none}
use Rattle.walk.proofs.Dues.{test_hand, no_hand}
use Rattle.walk.proofs.Cases.{Visits, step_cases}

module _ {RayData Distance : Type 0} {S : Shape} {Rule : ℕ → Type 0} {T : Tests RayData Distance} (K : SoundTests S Rule T) where
  -- node c exists and lies at level a or deeper
  pub record Deep (a c : ℕ) : Type 0 where
    pub node : c < S.nodes
    pub level : ℕ
    pub at_level : Level S level c
    pub deep : a ≤ level

  -- so do all members of a list
  abbrev pub AllDeep : ℕ → List ℕ → Type 0
  AllDeep a l = (c : ℕ) → In c l → Deep a c

  -- a waiting group is not empty, and its nodes lie deeper than there are groups below it
  abbrev pub Waiting : List (List ℕ) → Type 0
  Waiting [] = Unit {0}
  Waiting ([] ∷ st) = ⊥
  Waiting ((c ∷ r) ∷ st) = AllDeep (suc (length st)) (c ∷ r) × Waiting st

  -- the node due lies at least as deep as there will be waiting groups when it is tested, the others of its group deeper than there are now
  abbrev pub InHand : List ℕ → List (List ℕ) → Type 0
  InHand [] st = Unit {0}
  InHand (c ∷ r) st = (c < S.nodes → Deep (length (push r st)) c) × AllDeep (suc (length st)) r

  pub record Levels (w : Walker RayData) : Type 0 where
    pub in_hand_lem : InHand w.group w.stack
    pub waiting : Waiting w.stack

  push-length : (r : List ℕ) (st : List (List ℕ)) → length (push r st) ≤ suc (length st)
  push-length [] st = omega arith
  push-length (x ∷ r) st = omega arith

  less_deep : (a b c : ℕ) → a ≤ b → Deep b c → Deep a c
  less_deep a b c h e = record { node = e.node; level = e.level; at_level = e.at_level; deep = omega (arith, e.deep) }

  -- the node due, what is left of its group and what waits
  pub record AtNode (c : ℕ) (r : List ℕ) (st : List (List ℕ)) : Type 0 where
    pub this : c < S.nodes → Deep (length (push r st)) c
    pub rest : AllDeep (suc (length st)) r
    pub below : Waiting st

  abbrev Ready : Due → Type 0
  Ready (report p ps) = Unit {0}
  Ready (test c r st) = AtNode c r st
  Ready nothing = Unit {0}

  stack_ready : (st : List (List ℕ)) → Waiting st → Ready (due_on_stack st)
  stack_ready [] h = tt
  stack_ready ([] ∷ st) h = absurd h
  stack_ready ((c ∷ r) ∷ st) h = record {
    this = λ _. less_deep (length (push r st)) (suc (length st)) c (push-length r st) (h.0 c (in_head c r));
    rest = λ x i. h.0 x (in_tail x c r i);
    below = h.1;
  }

  group_ready : (g : List ℕ) (st : List (List ℕ)) → InHand g st → Waiting st → Ready (due_of [] g st)
  group_ready (c ∷ r) st i h = record { this = i.0; rest = i.1; below = h }
  group_ready [] st i h = stack_ready st h

  pub at_node : (w : Walker RayData) (c : ℕ) (r : List ℕ) (st : List (List ℕ)) → Levels w → due_of w.positions w.group w.stack ≡ test c r st
      → AtNode c r st
  at_node w c r st l e =
      subst Ready (no_hand w.positions w.group w.stack (test c r st) (test_hand w.positions w.group w.stack c r st e) e)
      (group_ready w.group w.stack l.in_hand_lem l.waiting)

  -- a child lies one level deeper
  child_deep : (a c x : ℕ) → Deep a c → 0 < in_range x (S.base c) (S.children c) → Deep (suc a) x
  unfolding Level
  child_deep a c x h i =
      let k = counts_child S c x h.node i in
      record {
        node = (child_node S Rule K.lawful.placed K.sound c x k).1;
        level = suc h.level;
        at_level = (c, k, h.at_level);
        deep = omega (arith, h.deep);
      }

  hand_of : (l : List ℕ) (st : List (List ℕ)) → AllDeep (suc (length st)) l → InHand l st
  hand_of [] st f = tt
  hand_of (c ∷ r) st f = (
    λ _. less_deep (length (push r st)) (suc (length st)) c (push-length r st) (f c (in_head c r)),
    λ x i. f x
        (in_tail x c r i),
  )

  push_waiting : (r : List ℕ) (st : List (List ℕ)) → AllDeep (suc (length st)) r → Waiting st → Waiting (push r st)
  push_waiting [] st f w = w
  push_waiting (x ∷ r) st f w = (f, w)

  pub test_levels : (n : ℕ) (w : Walker RayData) (c : ℕ) (r : List ℕ) (st : List (List ℕ)) → Levels w → Visits S.nodes T n w c r st
      → Levels (after_test T w c r st).walker
  test_levels n w c r st l v =
      let a = at_node w c r st l v.is_due in
      record {
        in_hand_lem = hand_of (T.children w.ray c) (push r st) (λ x i.
            child_deep (length (push r st)) c x (a.this v.node)
            (omega (arith, K.lawful.own_children w.ray c x v.accepted v.node (K.sound.rule c v.node))));
        waiting = push_waiting r st a.rest a.below;
      }

  step_levels : (n : ℕ) (w : Walker RayData) → Levels w → Levels (step_of S.nodes T n w).walker
  step_levels n w l =
      step_cases S.nodes T n w (λ (r : Stepped RayData). Levels r.walker)
      (record {
        refuses = λ e c. l;
        ends = λ f e. l;
        empties = λ f z o. record { in_hand_lem = tt; waiting = l.waiting };
        reports = λ p ps h. record { in_hand_lem = l.in_hand_lem; waiting = l.waiting };
        visits = λ c r st v. test_levels n w c r st l v;
      })

  pub run_levels : (l : List (Op Distance)) (w : Walker RayData) → Levels w → Levels (run_ops S.nodes T l w).walker
  unfolding run_ops
  run_levels [] w h = h
  run_levels (step n ∷ l) w h = run_levels l (step_of S.nodes T n w).walker (step_levels n w h)
  run_levels (tell y ∷ l) w h = run_levels l (tell_of T y w) (record { in_hand_lem = h.in_hand_lem; waiting = h.waiting })

  pub fresh-levels : (ray : RayData) → Levels (fresh ray)
  unfolding Level
  fresh-levels ray = record
      { in_hand_lem = (λ h. record { node = h; level = 0; at_level = refl; deep = omega arith }, λ c i. in_none c i); waiting = tt }

  -- as many groups as wait, so deep lies the first node of the last
  pub waiting_few : (e : ℕ) → ((v l : ℕ) → v < S.nodes → Level S l v → l ≤ e) → (st : List (List ℕ)) → Waiting st → length st ≤ e
  waiting_few e most [] h = omega arith
  waiting_few e most ([] ∷ st) h = absurd h
  waiting_few e most ((c ∷ r) ∷ st) h = let z = h.0 c (in_head c r) in omega (arith, most c z.level z.node z.at_level, z.deep)

  -- the waiting groups do not outnumber the deepest level
  pub calls_wait_few : (e : ℕ) → Deepest S e → (l : List (Op Distance)) (ray : RayData)
      → length (run_ops S.nodes T l (fresh ray)).walker.stack ≤ e
  calls_wait_few e deepest l ray = waiting_few e deepest.most (run_ops S.nodes T l (fresh ray)).walker.stack
      (run_levels l (fresh ray) (fresh-levels ray)).waiting
