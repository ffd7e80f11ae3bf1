-- Every list of steps and tellings on a sound record: no position is reported twice, whatever is told and whatever counts the steps bring.
use mathlib.Core.Bool.{false}
use mathlib.Core.List.{List, [], ◌∷◌, Nodup}
use mathlib.Core.Path.{◌≡◌, ap}
use Prim.Native.Nat.{ℕ, ◌+◌, ◌≤◌, ◌<◌}
use native.Mathlib.Omega.{arith}
use Rattle.lists.specs.Counts.{same, count}
use Rattle.lists.specs.Sums.{sum_over}
use Rattle.lists.proofs.Counts.{count-append}
use Rattle.lists.proofs.Perms.{no_duplicates}
use Rattle.soundness.specs.Shape.{Shape, positions_held}
use Rattle.soundness.proofs.Range.{count_range}
use Rattle.walk.specs.Tests.{Tests}
use Rattle.walk.specs.Step.{Walker, fresh, Stepped, after_test, step_of, tell_of}
use Rattle.walk.specs.Calls.{Op, step, tell, run_ops, position_in, reported}
use Rattle.walk.specs.Lawful.{SoundTests}
use Rattle.walk.proofs.Lists.{sum_over_part}
use Rattle.walk.proofs.Dues.{sums, push_sums, report_hand, test_hand, test_sum}
use Rattle.walk.proofs.Cases.{Visits, step_cases}
use Rattle.walk.proofs.Subtrees.{child_range, total, total_is, range_ends, total_once}

-- the sum of a weight over all nodes left to test, whether the ray passes them or not
abbrev pub left : {RayData : Type 0} → (ℕ → ℕ) → Walker RayData → ℕ
left f w = sum_over f w.group + sums f w.stack

module _ {RayData Distance : Type 0} {S : Shape} {Rule : ℕ → Type 0} {T : Tests RayData Distance} (K : SoundTests S Rule T) where
  -- the children that a ray passes are a part of the child range
  pub children-part : (ray : RayData) (v c : ℕ) → T.forged ray ≡ false → v < S.nodes → count c (T.children ray v) ≤ count c (child_range S v)
  children-part ray v c f h = omega (arith, K.lawful.own_children ray v c f h (K.sound.rule v h), count_range c (S.base v) (S.children v))

  -- a test of c takes c's own weight from what is left, and perhaps more
  pub left_falls : (f : ℕ → ℕ) (n : ℕ) (w : Walker RayData) (c : ℕ) (r : List ℕ) (st : List (List ℕ)) → Visits S.nodes T n w c r st
      → f c + left (total S f) (after_test T w c r st).walker ≤ left (total S f) w
  left_falls f n w c r st v =
      omega (
        arith,
        test_sum w.positions w.group w.stack c r st v.is_due (total S f),
        total_is S Rule K.lawful.placed K.sound f c v.node,
        push_sums (total S f) r st,
        sum_over_part S.nodes (total S f) (T.children w.ray c) (child_range S c) (λ x. children-part w.ray c x v.accepted v.node)
            (λ x l. range_ends S Rule K.lawful.placed K.sound c x v.node l),
      )

  -- how often x is in hand, or held by a node that is left to test or lies below one
  abbrev pub remaining : ℕ → Walker RayData → ℕ
  remaining x w = count x w.positions + left (total S (λ v. positions_held S v x)) w

  step_remaining : (x n : ℕ) (w : Walker RayData)
      → count x (position_in (step_of S.nodes T n w).answer) + remaining x (step_of S.nodes T n w).walker ≤
      remaining x w
  unfolding count sum_over
  step_remaining x n w =
      step_cases S.nodes T n w (λ (r : Stepped RayData). count x (position_in r.answer) + remaining x r.walker ≤ remaining x w)
      (record {
        refuses = λ e c. omega arith;
        ends = λ f e. omega arith;
        empties = λ f z o. omega arith;
        reports = λ p ps h. let e : count x w.positions
            ≡ same x p + count x ps = ap (count x) (report_hand w.positions w.group w.stack p ps h.is_due) in omega arith;
        visits = λ c r st v.
            let e : count x w.positions ≡ 0 = ap (count x) (test_hand w.positions w.group w.stack c r st v.is_due) in
            let own = K.lawful.own_positions_lem w.ray c x v.accepted v.node (K.sound.rule c v.node) in
            omega (arith, left_falls (λ u. positions_held S u x) n w c r st v, own);
      })

  run_remaining : (x : ℕ) (l : List (Op Distance)) (w : Walker RayData)
      → count x (reported (run_ops S.nodes T l w).answers) + remaining x (run_ops S.nodes T l w).walker ≤ remaining x w
  unfolding run_ops count
  run_remaining x [] w = omega arith
  run_remaining x (step n ∷ l) w =
      omega (
        arith,
        step_remaining x n w,
        run_remaining x l (step_of S.nodes T n w).walker,
        count-append x (position_in (step_of S.nodes T n w).answer) (reported (run_ops S.nodes T l (step_of S.nodes T n w).walker).answers),
      )
  run_remaining x (tell y ∷ l) w = run_remaining x l (tell_of T y w)

  pub reported_once : (l : List (Op Distance)) (ray : RayData) (x : ℕ) → count x (reported (run_ops S.nodes T l (fresh ray)).answers) ≤ 1
  unfolding count sum_over
  reported_once l ray x = omega (arith, run_remaining x l (fresh ray), total_once S Rule K.lawful.placed K.sound x)

  -- no position is reported twice
  pub calls_report_once : (l : List (Op Distance)) (ray : RayData) → Nodup (reported (run_ops S.nodes T l (fresh ray)).answers)
  calls_report_once l ray = no_duplicates (reported (run_ops S.nodes T l (fresh ray)).answers) (reported_once l ray)
