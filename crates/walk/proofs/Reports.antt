-- What a query has noted are its reactions to the positions that its steps reported; miss reports what closest and any-hit do, up to the first
-- that stops it.
use mathlib.Core.Bool.{Bool, true, false, cond}
use mathlib.Core.List.{List, [], ◌∷◌, ◌++◌}
use mathlib.Core.Path.{◌≡◌, refl, sym, ap, subst, ◌∙◌}
use Prim.Native.Nat.{ℕ, zero, suc, ◌+◌, ◌<◌}
use native.Mathlib.Omega.{arith}
use lib.ListN.{length, length-append}
use Rattle.walk.specs.Tests.{Tests}
use Rattle.walk.specs.Step.{Walker, Answer, tested, position, done, refused, Stepped, step_of, tell_of}
use Rattle.walk.specs.Calls.{All, Op, step, tell, Run, run_ops, position_in, reported}
use Rattle.walk.specs.Queries.{Reaction, told_all, follow, query, calls_after, query_calls, append}
use Rattle.walk.specs.Queries.{Pane, distance, faulty, Found, none, hit, closest, miss, lower, lower_at, block_at}
use Rattle.walk.specs.Reports.{test_of, tested_nodes, told_ray, query_reports, Notes, up_to}
use Rattle.lists.proofs.Tells.{clash}
use Rattle.walk.proofs.Cases.{step_cases}
use Rattle.walk.proofs.Ends.{tell_run}

module _ {RayData Distance : Type 0} (m : ℕ) (T : Tests RayData Distance) where
  -- a step leaves the ray as it was
  step_ray : (n : ℕ) (w : Walker RayData) → (step_of m T n w).walker.ray ≡ w.ray
  step_ray n w =
      step_cases m T n w (λ (r : Stepped RayData). r.walker.ray ≡ w.ray)
      (record { refuses = λ e c. refl; ends = λ f e. refl; empties = λ f z o. refl; reports = λ p ps h. refl; visits = λ c r st h. refl })

  -- and reports positions that exist
  abbrev Exists : ℕ → Answer → Type 0
  Exists n (tested v) = Unit {0}
  Exists n (position p) = p < n
  Exists n done = Unit {0}
  Exists n (refused e) = Unit {0}

  step_exists : (n : ℕ) (w : Walker RayData) → Exists n (step_of m T n w).answer
  step_exists n w =
      step_cases m T n w (λ (r : Stepped RayData). Exists n r.answer)
      (record { refuses = λ e c. tt; ends = λ f e. tt; empties = λ f z o. tt; reports = λ p ps h. h.below; visits = λ c r st h. tt })

  -- the tests that a walker counts are the nodes that its calls tested
  step_tests : (n : ℕ) (w : Walker RayData) → (step_of m T n w).walker.tests ≡ w.tests + length (test_of (step_of m T n w).answer)
  step_tests n w =
      step_cases m T n w (λ (r : Stepped RayData). r.walker.tests ≡ w.tests + length (test_of r.answer))
      (record {
        refuses = λ e c. omega arith;
        ends = λ f e. omega arith;
        empties = λ f z o. omega arith;
        reports = λ p ps h. omega arith;
        visits = λ c r st h. omega arith;
      })

  pub run_tests : (l : List (Op Distance)) (w : Walker RayData)
      → (run_ops m T l w).walker.tests ≡ w.tests + length (tested_nodes (run_ops m T l w).answers)
  unfolding run_ops
  run_tests [] w = omega arith
  run_tests (step n ∷ l) w =
      let e = length-append (test_of (step_of m T n w).answer) (tested_nodes (run_ops m T l (step_of m T n w).walker).answers) in
      omega (arith, run_tests l (step_of m T n w).walker, step_tests n w)
  run_tests (tell x ∷ l) w = run_tests l (tell_of T x w)

  told_ray_lem : (l : List Distance) (w : Walker RayData) → (told_all T l w).ray ≡ told_ray T l w.ray
  told_ray_lem [] w = refl
  told_ray_lem (x ∷ l) w = told_ray_lem l (tell_of T x w)

  module _ {a : Type 0} (react : ℕ → RayData → a → Reaction Distance a) where
    -- ---- what a query reports from an answer on, and from a reaction on

    abbrev from_answer : ℕ → ℕ → Answer → Walker RayData → a → List ℕ
    from_answer f n b v x = position_in b ++ reported (run_ops m T (calls_after m T react b v x (query_calls m T react f n)) v).answers

    abbrev from_reaction : ℕ → ℕ → Walker RayData → Reaction Distance a → List ℕ
    from_reaction f n v r = let u = told_all T r.tells v in reported
        (run_ops m T (cond r.stop [] (query_calls m T react f n u r.accumulator)) u).answers

    from_position : (f n p : ℕ) (v : Walker RayData) (x : a) → from_answer f n (position p) v x ≡ p ∷ from_reaction f n v (react p v.ray x)
    from_position f n p v x = ap (λ (r : Run RayData). p ∷ reported r.answers) (tell_run m T react (react p v.ray x).tells _ v)

    -- ---- what it notes

    abbrev NotesOn : ℕ → ℕ → Type 0
    NotesOn f n = (u : Walker RayData) (y : a) → Notes m T react u.ray y (query_reports m T react f n u y) (query m T react f n u y).accumulator

    stops_or_notes : (f n p : ℕ) (v : Walker RayData) → NotesOn f n → (r : Reaction Distance a) (t : Bool) →
        let u = told_all T r.tells v in
        let rest : List ℕ = reported (run_ops m T (cond t [] (query_calls m T react f n u r.accumulator)) u).answers in
        let y : a = (cond t (record { walker = u; accumulator = r.accumulator; ended = position p })
        (query m T react f n u r.accumulator)).accumulator in
        elim t as (λ (b : Bool). Type 0) [
          | true ↦ (rest ≡ []) × (y ≡ r.accumulator)
          | false ↦ Notes m T react (told_ray T r.tells v.ray) r.accumulator rest y
        ]
    unfolding run_ops
    stops_or_notes f n p v h r true = (refl, refl)
    stops_or_notes f n p v h r false =
        let u = told_all T r.tells v in
        subst (λ (q : RayData). Notes m T react q r.accumulator (query_reports m T react f n u r.accumulator)
        (query m T react f n u r.accumulator).accumulator)
        (told_ray_lem r.tells v) (h u r.accumulator)

    pub query_notes : (f n : ℕ) (w : Walker RayData) (x : a)
        → Notes m T react w.ray x (query_reports m T react f n w x) (query m T react f n w x).accumulator
    unfolding run_ops query query_calls
    query_notes zero n w x = refl
    query_notes (suc f) n w x =
        let v = (step_of m T n w).walker in
        let b = (step_of m T n w).answer in
        subst (λ (r : RayData). Notes m T react r x (from_answer f n b v x) (follow m T react b v x (query m T react f n)).accumulator) (step_ray n w)
        (go b v (query_notes f n))
      where
        go : (b : Answer) (v : Walker RayData) → NotesOn f n
            → Notes m T react v.ray x (from_answer f n b v x) (follow m T react b v x (query m T react f n)).accumulator
        go (tested c) v h = h v x
        go (position p) v h =
            let r : Reaction Distance a = react p v.ray x in
            subst (λ (l : List ℕ). Notes m T react v.ray x l (follow m T react (position p) v x (query m T react f n)).accumulator)
            (sym (from_position f n p v x)) (stops_or_notes f n p v h r r.stop)
        go done v h = refl
        go (refused k) v h = refl

    -- ---- every position reported exists

    pub reports_exist : (f n : ℕ) (w : Walker RayData) (x : a) → All (λ p. p < n) (query_reports m T react f n w x)
    unfolding run_ops query_calls
    reports_exist zero n w x = tt
    reports_exist (suc f) n w x = go (step_of m T n w).answer (step_of m T n w).walker (step_exists n w) (reports_exist f n)
      where
        by : ((u : Walker RayData) (y : a) → All (λ p. p < n) (query_reports m T react f n u y))
            → (r : Reaction Distance a) (t : Bool) (u : Walker RayData)
            → All (λ q. q < n) (reported (run_ops m T (cond t [] (query_calls m T react f n u r.accumulator)) u).answers)
        by h r true u = tt
        by h r false u = h u r.accumulator

        go : (b : Answer) (v : Walker RayData) → Exists n b → ((u : Walker RayData) (y : a) → All (λ p. p < n) (query_reports m T react f n u y))
            → All (λ p. p < n) (from_answer f n b v x)
        go (tested c) v e h = h v x
        go (position p) v e h =
            let r : Reaction Distance a = react p v.ray x in
            subst (All (λ q. q < n)) (sym (from_position f n p v x)) (e, by h r r.stop (told_all T r.tells v))
        go done v e h = tt
        go (refused k) v e h = tt

  -- ---- miss reports what a query does that goes along with it, up to the first position that stops it, for any panes

  module _ (pane : ℕ → RayData → Pane Distance) (nearer : Distance → RayData → Bool) where
    abbrev near : ℕ → RayData → Found Distance → Reaction Distance (Found Distance)
    near = closest pane nearer

    abbrev block : ℕ → RayData → Found Distance → Reaction Distance (Found Distance)
    block = miss pane nearer

    abbrev cut : RayData → List ℕ → List ℕ
    cut r = up_to (λ p. (block p r none).stop)

    module _ {a : Type 0} (react : ℕ → RayData → a → Reaction Distance a) where
      -- where no position stops miss, none stops the other, which tells nothing there
      abbrev GoesAlong : Type 0
      GoesAlong = (p : ℕ) (r : RayData) (x : a) → (block p r none).stop ≡ false → ((react p r x).stop ≡ false) × ((react p r x).tells ≡ [])

      abbrev Cuts : ℕ → ℕ → Type 0
      Cuts f n = (u : Walker RayData) (x : a) → query_reports m T block f n u none ≡ cut u.ray (query_reports m T react f n u x)

      goes_on : (f n : ℕ) (v : Walker RayData) (r : Reaction Distance a) → r.stop ≡ false → r.tells ≡ []
          → from_reaction react f n v r ≡ query_reports m T react f n v r.accumulator
      goes_on f n v r e g = rw (e, g)

      module _ (along : GoesAlong) where
        -- after a position whose pane is at a distance, nearer or not; and after any
        cuts_at : (f n p : ℕ) (v : Walker RayData) (x : a) → Cuts f n → (t : Distance) (c : Bool)
            → (c ≡ false → from_reaction react f n v (react p v.ray x) ≡ query_reports m T react f n v (react p v.ray x).accumulator)
            → from_reaction block f n v (record { accumulator = cond c (hit p t) none; tells = []; stop = c })
            ≡ cond c [] (cut v.ray (from_reaction react f n v (react p v.ray x)))
        unfolding run_ops
        cuts_at f n p v x h t true g = refl
        cuts_at f n p v x h t false g = h v (react p v.ray x).accumulator ∙ ap (cut v.ray) (sym (g refl))

        cuts_pane : (f n p : ℕ) (v : Walker RayData) (x : a) → Cuts f n → (q : Pane Distance) → pane p v.ray ≡ q
            → from_reaction block f n v (block_at pane nearer q p v.ray none)
            ≡ cond (block_at pane nearer q p v.ray none).stop [] (cut v.ray (from_reaction react f n v (react p v.ray x)))
        unfolding run_ops
        cuts_pane f n p v x h (distance t) e =
            cuts_at f n p v x h t (nearer t v.ray)
            (λ c. let k = along p v.ray x (ap (λ (q : Pane Distance). (block_at pane nearer q p v.ray none).stop) e ∙ c) in
            goes_on f n v (react p v.ray x) k.0 k.1)
        cuts_pane f n p v x h (faulty k) e = refl

        pub reports_cut : (f n : ℕ) (w : Walker RayData) (x : a)
            → query_reports m T block f n w none ≡ up_to (λ p. (block p w.ray none).stop) (query_reports m T react f n w x)
        unfolding run_ops query_calls
        reports_cut zero n w x = refl
        reports_cut (suc f) n w x =
            let v = (step_of m T n w).walker in
            let b = (step_of m T n w).answer in
            subst (λ (r : RayData). from_answer block f n b v none ≡ cut r (from_answer react f n b v x)) (step_ray n w) (go b v (reports_cut f n))
          where
            go : (b : Answer) (v : Walker RayData) → Cuts f n → from_answer block f n b v none ≡ cut v.ray (from_answer react f n b v x)
            go (tested c) v h = h v x
            go (position p) v h =
                from_position block f n p v none
                ∙ ap (p ∷◌) (cuts_pane f n p v x h (pane p v.ray) refl)
                ∙ ap (cut v.ray) (sym (from_position react f n p v x))
            go done v h = refl
            go (refused k) v h = refl

    -- closest goes along
    near_along : GoesAlong near
    near_along p r x e = go (pane p r) e
      where
        lowers : (c : Bool) (t : Distance) → c ≡ false → ((lower pane nearer c p t x).stop ≡ false) × ((lower pane nearer c p t x).tells ≡ [])
        lowers false t e = (refl, refl)
        lowers true t e = clash (sym e)

        go : (q : Pane Distance) → (block_at pane nearer q p r none).stop ≡ false
            → ((lower_at pane nearer q p r x).stop ≡ false) × ((lower_at pane nearer q p r x).tells ≡ [])
        go (distance t) e = lowers (nearer t r) t e
        go (faulty k) e = clash (sym e)

    pub miss_reports_lem : (f n : ℕ) (w : Walker RayData) (x : Found Distance)
        → query_reports m T block f n w none ≡ up_to (λ p. (block p w.ray none).stop) (query_reports m T near f n w x)
    miss_reports_lem = reports_cut near near_along

    -- and so does any-hit
    pub miss_listed_lem : (f n : ℕ) (w : Walker RayData) (x : List ℕ)
        → query_reports m T block f n w none ≡ up_to (λ p. (block p w.ray none).stop) (query_reports m T append f n w x)
    miss_listed_lem = reports_cut append (λ p r x e. (refl, refl))
