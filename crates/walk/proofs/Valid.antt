-- On a sound record no step that brings the record's own count of positions is refused, whatever was told before.
use mathlib.Core.Bool.{true, false}
use mathlib.Core.List.{List, [], ◌∷◌}
use mathlib.Core.Path.{◌≡◌, refl, sym, ◌∙◌, subst}
use Prim.Native.Nat.{ℕ, ◌+◌, ◌≤◌, ◌<◌}
use native.Mathlib.Omega.{arith}
use native.Mathlib.Decide.{dec_lt}
use lib.ListN.{length}
use borrow.Author.Tests.{le-leb, lt-leb, le-ltb}
use Rattle.lists.specs.Counts.{count}
use Rattle.lists.specs.Sums.{sum_over}
use Rattle.lists.proofs.Tells.{clash}
use Rattle.soundness.specs.Shape.{Shape}
use Rattle.walk.specs.Tests.{Tests}
use Rattle.causes.specs.Sizes.{sizes_fit}
use Rattle.walk.specs.Step.{Walker, done, fresh, Stepped, Due, report, test, nothing, due_on_stack, due_of, forged_walker, no_room, bad_position}
use Rattle.walk.specs.Step.{bad_node, stay, emptied, after_report, after_test, step_of, tell_of}
use Rattle.walk.specs.Calls.{All, Op, step, tell, run_ops, Answered, StepsWith}
use Rattle.walk.specs.Listing.{In}
use Rattle.walk.specs.Lawful.{SoundTests, Unrefused}
use Rattle.walk.proofs.Lists.{in_head, in_tail, in_none, in_one}
use Rattle.walk.proofs.Dues.{report_hand, test_hand, test_sum, no_hand}
use Rattle.walk.proofs.Cases.{Refusal, too_many, forgery, no_position, no_node, Visits, Reports, step_cases, nothing_due_done}
use Rattle.walk.proofs.Subtrees.{total, total_is, child_rises, held_ends, total_ones}
use Rattle.walk.proofs.Once.{left, left_falls, children-part}
use Rattle.walk.proofs.Levels.{Waiting, Levels, at_node, test_levels, fresh-levels, waiting_few}

pub fits : (m n : ℕ) → n ≤ 65536 → m ≤ 65535 → sizes_fit m n ≡ true
fits m n h k = rw (le-leb n 65536 h, le-leb m 65535 k)

-- room for the rest of a group
has_room_lem : (r : List ℕ) (st : List (List ℕ)) → length st < 32 → no_room r st ≡ false
has_room_lem [] st h = refl
has_room_lem (x ∷ r) st h = lt-leb 32 (length st) h

module _ {RayData Distance : Type 0} {S : Shape} {Rule : ℕ → Type 0} {T : Tests RayData Distance} (K : SoundTests S Rule T) where
  -- what every walker that comes of a fresh one has
  pub record Valid (w : Walker RayData) : Type 0 where
    pub accepted : T.forged w.ray ≡ false
    pub levels : Levels K w
    pub positions : (p : ℕ) → In p w.positions → p < S.positions
    pub nodes : (c : ℕ) → In c w.group → c < S.nodes
    -- the tests made and the nodes left, with all below them, are no more than there are nodes
    pub few : w.tests + left (total S (λ v. 1)) w ≤ S.nodes

  -- ---- the node due exists

  abbrev Exists : Due → Type 0
  Exists (report p ps) = Unit {0}
  Exists (test c r st) = c < S.nodes
  Exists nothing = Unit {0}

  stack_exists : (st : List (List ℕ)) → Waiting K st → Exists (due_on_stack st)
  stack_exists [] h = tt
  stack_exists ([] ∷ st) h = absurd h
  stack_exists ((c ∷ r) ∷ st) h = (h.0 c (in_head c r)).node

  group_exists : (g : List ℕ) (st : List (List ℕ)) → ((c : ℕ) → In c g → c < S.nodes) → Waiting K st → Exists (due_of [] g st)
  group_exists (c ∷ r) st i h = i c (in_head c r)
  group_exists [] st i h = stack_exists st h

  node_exists : (w : Walker RayData) → Valid w → (c : ℕ) (r : List ℕ) (st : List (List ℕ)) → due_of w.positions w.group w.stack ≡ test c r st
      → c < S.nodes
  node_exists w v c r st e =
      subst Exists (no_hand w.positions w.group w.stack (test c r st) (test_hand w.positions w.group w.stack c r st e) e)
      (group_exists w.group w.stack v.nodes v.levels.waiting)

  -- ---- no refusal

  few_groups : (w : Walker RayData) → Valid w → length w.stack ≤ 31
  few_groups w v = waiting_few K 31 K.sound.levels w.stack v.levels.waiting

  not_forged : (w : Walker RayData) → Valid w → forged_walker S.nodes T w ≡ false
  not_forged w v =
      rw (v.accepted, le-ltb 32 (length w.stack) (omega (arith, few_groups w v)), le-ltb S.nodes w.tests (omega (arith, v.few)))

  pub no_refusal : Unrefused S T → (w : Walker RayData) → Valid w → Refusal S.nodes T S.positions w → ⊥
  no_refusal U w v (too_many e) = clash (sym e ∙ fits S.nodes S.positions U.positions U.nodes)
  no_refusal U w v (forgery e) = clash (sym (not_forged w v) ∙ e)
  no_refusal U w v (no_position p ps e b) =
      let h = report_hand w.positions w.group w.stack p ps e in
      let k : p < S.positions = v.positions p (subst (λ (l : List ℕ). In p l) (sym h) (in_head p ps)) in
      let z : bad_position T S.positions w.ray p ≡ false = rw (U.present w.ray p k, lt-leb S.positions p k) in
      clash (sym z ∙ b)
  no_refusal U w v (no_node c r st e b) =
      let k = node_exists w v c r st e in
      let a = at_node K w c r st v.levels e in
      let t : w.tests < S.nodes =
      omega (
        arith,
        v.few,
        test_sum w.positions w.group w.stack c r st e (total S (λ u. 1)),
        total_is S Rule K.lawful.placed K.sound (λ u. 1) c k,
      ) in
      let z : bad_node S.nodes T S.positions w.tests c r st ≡ false =
      rw (
        has_room_lem r st (omega (arith, waiting_few K 31 K.sound.levels st a.below)),
        lt-leb S.nodes c k,
        lt-leb S.nodes w.tests t,
        K.lawful.passes_rule c k (K.sound.rule c k),
      ) in
      clash (sym z ∙ b)

  -- ---- validity is kept

  pub test_valid : (n : ℕ) (w : Walker RayData) (c : ℕ) (r : List ℕ) (st : List (List ℕ)) → Valid w → Visits S.nodes T n w c r st
      → Valid (after_test T w c r st).walker
  test_valid n w c r st v h =
      record {
        accepted = v.accepted;
        levels = test_levels K n w c r st v.levels h;
        positions = λ p i. below p i (dec_lt p S.positions);
        nodes = λ x i.
            let part = children-part K w.ray c x h.accepted h.node in
            (child_rises S Rule K.lawful.placed K.sound c h.node x (omega (arith, part))).1;
        few = omega (arith, v.few, left_falls K (λ u. 1) n w c r st h);
      }
    where
      below : (p : ℕ) → In p (T.positions w.ray c) → Dec (p < S.positions) → p < S.positions
      below p i (yes k) = k
      below p i (no k) =
          let own = K.lawful.own_positions_lem w.ray c p h.accepted h.node (K.sound.rule c h.node) in
          absurd (omega (arith, own, held_ends S Rule K.lawful.placed K.sound c p h.node (omega arith)))

  pub report_valid : (n : ℕ) (w : Walker RayData) (p : ℕ) (ps : List ℕ) → Valid w → Reports S.nodes T n w p ps → Valid (after_report w p ps).walker
  report_valid n w p ps v h =
      record {
        accepted = v.accepted;
        levels = record { in_hand_lem = v.levels.in_hand_lem; waiting = v.levels.waiting };
        positions = λ q i. v.positions q (subst (λ (l : List ℕ). In q l) (sym (report_hand w.positions w.group w.stack p ps h.is_due))
            (in_tail q p ps i));
        nodes = v.nodes;
        few = v.few;
      }

  empty_valid : (w : Walker RayData) → Valid w → Valid (emptied w).walker
  unfolding sum_over
  empty_valid w v =
      record {
        accepted = v.accepted;
        levels = record { in_hand_lem = tt; waiting = v.levels.waiting };
        positions = v.positions;
        nodes = λ c i. in_none c i;
        few = omega (arith, v.few);
      }

  pub step_valid : (n : ℕ) (w : Walker RayData) → Valid w → Valid (step_of S.nodes T n w).walker
  step_valid n w v =
      step_cases S.nodes T n w (λ (r : Stepped RayData). Valid r.walker)
      (record {
        refuses = λ e c. v;
        ends = λ f e. v;
        empties = λ f z o. empty_valid w v;
        reports = λ p ps h. report_valid n w p ps v h;
        visits = λ c r st h. test_valid n w c r st v h;
      })

  pub step_answered : Unrefused S T → (w : Walker RayData) → Valid w
      → Answered (step_of S.nodes T S.positions w).answer
  step_answered U w v =
      step_cases S.nodes T S.positions w (λ (r : Stepped RayData). Answered r.answer)
      (record {
        refuses = λ e c. absurd (no_refusal U w v c);
        ends = λ f e. tt;
        empties = λ f z o. tt;
        reports = λ p ps h. tt;
        visits = λ c r st h. tt;
      })

  pub tell_valid : (x : Distance) (w : Walker RayData) → Valid w → Valid (tell_of T x w)
  tell_valid x w v =
      record {
        accepted = K.lawful.told_accepted x w.ray v.accepted;
        levels = record { in_hand_lem = v.levels.in_hand_lem; waiting = v.levels.waiting };
        positions = v.positions;
        nodes = v.nodes;
        few = v.few;
      }

  pub fresh_valid : 0 < S.nodes → (ray : RayData) → T.forged ray ≡ false → Valid (fresh ray)
  unfolding sum_over count
  fresh_valid h ray f =
      record {
        accepted = f;
        levels = fresh-levels K ray;
        positions = λ p i. in_none p i;
        nodes = λ c i. let e : c ≡ 0 = in_one c 0 i in rw e h;
        few = omega (arith, total_ones S Rule K.lawful.placed K.sound h);
      }

  -- ---- lists of calls

  run_answered : Unrefused S T → (l : List (Op Distance)) (w : Walker RayData) → All (StepsWith S.positions) l
      → Valid w → All Answered (run_ops S.nodes T l w).answers
  unfolding run_ops
  run_answered U [] w a v = tt
  run_answered U (step n ∷ l) w a v =
      let e : n ≡ S.positions = a.0 in
      let g : Answered (step_of S.nodes T n w).answer = rw e (step_answered U w v) in
      (g, run_answered U l (step_of S.nodes T n w).walker a.1 (step_valid n w v))
  run_answered U (tell x ∷ l) w a v = run_answered U l (tell_of T x w) a.1 (tell_valid x w v)

-- without nodes a walker just begun is done without a test
pub empty_step : {RayData Distance : Type 0} (T : Tests RayData Distance) (n : ℕ) (ray : RayData) → n ≤ 65536 → T.forged ray ≡ false
    → step_of 0 T n (fresh ray) ≡ emptied (fresh ray)
unfolding step_of
empty_step T n ray h f = rw (le-leb n 65536 h, f)

module _ {RayData Distance : Type 0} {S : Shape} {Rule : ℕ → Type 0} {T : Tests RayData Distance} (K : SoundTests S Rule T) where
  -- a walker that holds nothing is done at every step
  over_answered : S.nodes ≡ 0 → S.positions ≤ 65536 → (l : List (Op Distance)) (ray : RayData) → T.forged ray ≡ false
      → All (StepsWith S.positions) l
      → All Answered (run_ops S.nodes T l (emptied (fresh ray)).walker).answers
  unfolding run_ops
  over_answered e h [] ray f a = tt
  over_answered e h (step n ∷ l) ray f a =
      let z : step_of S.nodes T n (emptied (fresh ray)).walker ≡ stay (emptied (fresh ray)).walker done =
      nothing_due_done S.nodes T n (emptied (fresh ray)).walker refl (fits S.nodes n (omega (arith, a.0)) (omega arith))
      (rw (f, le-ltb S.nodes 0 (omega arith))) in
      rw z (tt, over_answered e h l ray f a.1)
  over_answered e h (tell x ∷ l) ray f a = over_answered e h l (T.told x ray) (K.lawful.told_accepted x ray f) a.1

  empty_answered : S.nodes ≡ 0 → S.positions ≤ 65536 → (l : List (Op Distance)) (ray : RayData) → T.forged ray ≡ false
      → All (StepsWith S.positions) l
      → All Answered (run_ops S.nodes T l (fresh ray)).answers
  unfolding run_ops
  empty_answered e h [] ray f a = tt
  empty_answered e h (step n ∷ l) ray f a =
      let k : n ≤ 65536 = omega (arith, a.0) in
      let z : step_of S.nodes T n (fresh ray) ≡ emptied (fresh ray) = rw e (empty_step T n ray k f) in
      rw z (tt, over_answered e h l ray f a.1)
  empty_answered e h (tell x ∷ l) ray f a = empty_answered e h l (T.told x ray) (K.lawful.told_accepted x ray f) a.1

  -- no step of any list that brings the record's own count is refused
  pub calls_answered : Unrefused S T → (l : List (Op Distance)) (ray : RayData) → T.forged ray ≡ false
      → All (StepsWith S.positions) l
      → All Answered (run_ops S.nodes T l (fresh ray)).answers
  calls_answered U l ray f a = go (dec_lt 0 S.nodes)
    where
      go : Dec (0 < S.nodes) → All Answered (run_ops S.nodes T l (fresh ray)).answers
      go (yes h) = run_answered K U l (fresh ray) a (fresh_valid K h ray f)
      go (no h) = empty_answered (omega arith) U.positions l ray f a
