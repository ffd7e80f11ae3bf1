-- Every query ends, on any record at all; on a sound record the walk does not refuse it. And a query is the list of calls that it makes.
use mathlib.Core.Bool.{Bool, true, false, cond}
use mathlib.Core.List.{List, [], ◌∷◌, ◌++◌, append_assoc, append-nil}
use mathlib.Core.Path.{◌≡◌, refl, sym, ap, ◌∙◌, subst}
use Prim.Native.Nat.{ℕ, zero, suc, ◌+◌, ◌-◌, ◌*◌, ◌<◌}
use native.Mathlib.Omega.{arith}
use native.Mathlib.Decide.{dec_lt}
use lib.ListN.{length}
use Rattle.soundness.specs.Shape.{Shape}
use Rattle.walk.specs.Tests.{Tests}
use Rattle.walk.specs.Step.{Walker, Answer, tested, position, done, refused, fresh, Stepped, step_of, tell_of}
use Rattle.walk.specs.Calls.{Op, run_ops, position_in, reported, Answered}
use Rattle.walk.specs.Queries.{Reaction, QueryOutcome, told_all, follow, query, tellings, calls_after, query_calls, steps_for, append, Going}
use Rattle.walk.specs.Queries.{Halted, Ended}
use Rattle.walk.specs.Lawful.{SoundTests, Unrefused, Narrow}
use Rattle.walk.proofs.Dues.{report_hand}
use Rattle.walk.proofs.Cases.{cond_elim, step_cases}
use Rattle.walk.proofs.Valid.{Valid, step_valid, step_answered, tell_valid, fresh_valid, empty_step}

-- ---- what follows an answer

module _ {RayData Distance a : Type 0} (m : ℕ) (T : Tests RayData Distance) (react : ℕ → RayData → a → Reaction Distance a)
    (P : QueryOutcome RayData a → Type 0) where
  pub follow_cases : (b : Answer) (u : Walker RayData) (x : a) (go : Walker RayData → a → QueryOutcome RayData a)
      → (Going b → (l : List Distance) (y : a) → P (go (told_all T l u) y))
      → ((p : ℕ) (l : List Distance) (y : a) → P (record { walker = told_all T l u; accumulator = y; ended = position p }))
      → P (record { walker = u; accumulator = x; ended = done })
      → ((e : ℕ) → b ≡ refused e → P (record { walker = u; accumulator = x; ended = refused e }))
      → P (follow m T react b u x go)
  follow_cases (tested c) u x go on stopped over refusal = on tt [] x
  follow_cases (position p) u x go on stopped over refusal =
      let r : Reaction Distance a = react p u.ray x in
      cond_elim P r.stop _ _ (λ _. stopped p r.tells r.accumulator) (λ _. on tt r.tells r.accumulator)
  follow_cases done u x go on stopped over refusal = over
  follow_cases (refused e) u x go on stopped over refusal = refusal e refl

-- ---- the measure

-- no more steps than this are left: each test brings at most 24 positions
abbrev pub steps_left : {RayData : Type 0} → ℕ → Walker RayData → ℕ
steps_left m w = 25 * (m - w.tests) + length w.positions

module _ {RayData Distance : Type 0} (m : ℕ) (T : Tests RayData Distance) (narrow : Narrow m T) where
  pub step_falls : (n : ℕ) (w : Walker RayData) → Going (step_of m T n w).answer → steps_left m (step_of m T n w).walker < steps_left m w
  step_falls n w =
      step_cases m T n w (λ (r : Stepped RayData). Going r.answer → steps_left m r.walker < steps_left m w)
      (record {
        refuses = λ e c g. absurd g;
        ends = λ f e g. absurd g;
        empties = λ f z o g. absurd g;
        reports = λ p ps h g. let e : length w.positions
            ≡ suc (length ps) = ap length (report_hand w.positions w.group w.stack p ps h.is_due) in omega arith;
        visits = λ c r st v g. omega (arith, v.untested, narrow w.ray n c v.accepted v.node v.rule);
      })

  module _ {a : Type 0} (react : ℕ → RayData → a → Reaction Distance a) where
    pub told_left : (l : List Distance) (w : Walker RayData) → steps_left m (told_all T l w) ≡ steps_left m w
    told_left [] w = refl
    told_left (x ∷ l) w = told_left l (tell_of T x w)

    -- ---- any record

    halts : (f n : ℕ) (w : Walker RayData) (x : a) → steps_left m w < f → Halted (query m T react f n w x).ended
    unfolding query
    halts zero n w x h = absurd (omega arith)
    halts (suc f) n w x h =
        follow_cases m T react (λ (o : QueryOutcome RayData a). Halted o.ended) (step_of m T n w).answer (step_of m T n w).walker x
        (query m T react f n)
        (λ g l y. halts f n (told_all T l (step_of m T n w).walker) y (omega (arith, step_falls n w g, told_left l (step_of m T n w).walker)))
        (λ p l y. tt) tt (λ e z. tt)

    -- a query from a walker just begun ends within the steps that it is given
    pub query_halts : (n : ℕ) (ray : RayData) (x : a) → Halted (query m T react (steps_for m) n (fresh ray) x).ended
    query_halts n ray x = halts (steps_for m) n (fresh ray) x (omega arith)

    -- more steps change nothing
    pub query_enough : (f g n : ℕ) (w : Walker RayData) (x : a) → steps_left m w < f → steps_left m w < g
        → query m T react f n w x ≡ query m T react g n w x
    unfolding query
    query_enough zero g n w x h k = absurd (omega arith)
    query_enough (suc f) zero n w x h k = absurd (omega arith)
    query_enough (suc f) (suc g) n w x h k = go (step_of m T n w).answer (step_of m T n w).walker (step_falls n w) (query_enough f g n)
      where
        go : (b : Answer) (u : Walker RayData) → (Going b → steps_left m u < steps_left m w)
            → ((u : Walker RayData) (x : a) → steps_left m u < f → steps_left m u < g → query m T react f n u x ≡ query m T react g n u x)
            → follow m T react b u x (query m T react f n) ≡ follow m T react b u x (query m T react g n)
        go (tested c) u l i = i u x (omega (arith, l tt)) (omega (arith, l tt))
        go (position p) u l i =
            let r : Reaction Distance a = react p u.ray x in
            let z = told_left r.tells u in
            ap (λ (o : QueryOutcome RayData a). cond r.stop
            (record { walker = told_all T r.tells u; accumulator = r.accumulator; ended = position p }) o)
            (i (told_all T r.tells u) r.accumulator (omega (arith, l tt)) (omega (arith, l tt)))
        go done u l i = refl
        go (refused e) u l i = refl

-- ---- a query is its list of calls

module _ {RayData Distance a : Type 0} (m : ℕ) (T : Tests RayData Distance) (react : ℕ → RayData → a → Reaction Distance a) where
  pub tell_run : (l : List Distance) (k : List (Op Distance)) (w : Walker RayData) → run_ops m T (tellings l ++ k) w ≡ run_ops m T k (told_all T l w)
  unfolding run_ops
  tell_run [] k w = refl
  tell_run (x ∷ l) k w = tell_run l k (tell_of T x w)

  -- the walker that a query ends with is the one that its calls lead to
  pub query_run : (f n : ℕ) (w : Walker RayData) (x : a) → (run_ops m T (query_calls m T react f n w x) w).walker ≡ (query m T react f n w x).walker
  unfolding run_ops query query_calls
  query_run zero n w x = refl
  query_run (suc f) n w x = go (step_of m T n w).answer (step_of m T n w).walker (query_run f n)
    where
      go : (b : Answer) (v : Walker RayData) → ((u : Walker RayData) (y : a) → (run_ops m T (query_calls m T react f n u y) u).walker
          ≡ (query m T react f n u y).walker)
          → (run_ops m T (calls_after m T react b v x (query_calls m T react f n)) v).walker ≡ (follow m T react b v x (query m T react f n)).walker
      go (tested c) v h = h v x
      go (position p) v h = rw tell_run (stopped (react p v.ray x))
        where
          stopped : (r : Reaction Distance a)
              → (run_ops m T (cond r.stop [] (query_calls m T react f n (told_all T r.tells v) r.accumulator)) (told_all T r.tells v)).walker
              ≡ (cond r.stop (record { walker = told_all T r.tells v; accumulator = r.accumulator; ended = position p })
              (query m T react f n (told_all T r.tells v) r.accumulator)).walker
          stopped r = by r.stop
            where
              by : (t : Bool)
                  → (run_ops m T (cond t [] (query_calls m T react f n (told_all T r.tells v) r.accumulator)) (told_all T r.tells v)).walker
                  ≡ (cond t (record { walker = told_all T r.tells v; accumulator = r.accumulator; ended = position p })
                  (query m T react f n (told_all T r.tells v) r.accumulator)).walker
              by true = refl
              by false = h (told_all T r.tells v) r.accumulator
      go done v h = refl
      go (refused e) v h = refl

-- any-hit has noted what its calls reported
pub any_hit_run_lem : {RayData Distance : Type 0} (m : ℕ) (T : Tests RayData Distance) (f n : ℕ) (w : Walker RayData) (x : List ℕ)
    → (query m T append f n w x).accumulator ≡ x ++ reported (run_ops m T (query_calls m T append f n w x) w).answers
unfolding run_ops query query_calls
any_hit_run_lem m T zero n w x = sym (append-nil x)
any_hit_run_lem {RayData} m T (suc f) n w x = go (step_of m T n w).answer (step_of m T n w).walker (any_hit_run_lem m T f n)
  where
    go : (b : Answer) (v : Walker RayData) → ((u : Walker RayData) (y : List ℕ) → (query m T append f n u y).accumulator
        ≡ y ++ reported (run_ops m T (query_calls m T append f n u y) u).answers)
        → (follow m T append b v x (query m T append f n)).accumulator
        ≡ x ++ (position_in b ++ reported (run_ops m T (calls_after m T append b v x (query_calls m T append f n)) v).answers)
    go (tested c) v h = h v x
    go (position p) v h = h v (x ++ (p ∷ [])) ∙ append_assoc x (p ∷ []) _
    go done v h = sym (append-nil x)
    go (refused e) v h = sym (append-nil x)

-- ---- a sound record

module _ {RayData Distance a : Type 0} {S : Shape} {Rule : ℕ → Type 0} {T : Tests RayData Distance} (K : SoundTests S Rule T) (U : Unrefused S T)
    (react : ℕ → RayData → a → Reaction Distance a) where
  told_valid : (l : List Distance) (w : Walker RayData) → Valid K w → Valid K (told_all T l w)
  told_valid [] w v = v
  told_valid (x ∷ l) w v = told_valid l (tell_of T x w) (tell_valid K x w v)

  -- the walk refuses no query
  ends : (f : ℕ) (w : Walker RayData) (x : a) → Valid K w → Halted (query S.nodes T react f S.positions w x).ended
      → Ended (query S.nodes T react f S.positions w x).ended
  unfolding query
  ends zero w x v = λ h. h
  ends (suc f) w x v =
      follow_cases S.nodes T react (λ (o : QueryOutcome RayData a). Halted o.ended → Ended o.ended)
      (step_of S.nodes T S.positions w).answer (step_of S.nodes T S.positions w).walker x (query S.nodes T react f S.positions)
      (λ g l y. ends f (told_all T l (step_of S.nodes T S.positions w).walker) y
      (told_valid l (step_of S.nodes T S.positions w).walker (step_valid K S.positions w v)))
      (λ p l y h. h) (λ h. h)
      (λ e z h. absurd (subst Answered z (step_answered K U w v)))

  -- a query from a walker just begun is done, or stops at a position
  pub query_answered : (ray : RayData) → T.forged ray ≡ false → (x : a)
      → Ended (query S.nodes T react (steps_for S.nodes) S.positions (fresh ray) x).ended
  unfolding query
  query_answered ray f x = go (dec_lt 0 S.nodes)
    where
      go : Dec (0 < S.nodes) → Ended (query S.nodes T react (steps_for S.nodes) S.positions (fresh ray) x).ended
      go (yes h) = ends (steps_for S.nodes) (fresh ray) x (fresh_valid K h ray f) (query_halts S.nodes T U.narrow react S.positions ray x)
      go (no h) = let e : S.nodes ≡ 0 = omega arith in rw (e, empty_step T S.positions ray U.positions f) tt
