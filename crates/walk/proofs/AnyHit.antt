-- On a sound record any-hit lists the first node's listing, its tests are as many as the nodes reached, and it ends with done.
use mathlib.Core.Bool.{false}
use mathlib.Core.List.{List, [], ◌∷◌, ◌++◌, append_assoc, append-nil, Nodup}
use mathlib.Core.Logic.{◌↔◌}
use mathlib.Core.Path.{◌≡◌, refl, sym, ap, ◌∙◌, subst}
use Prim.Native.Nat.{ℕ, zero, suc, ◌+◌, ◌≤◌, ◌<◌}
use native.Mathlib.Omega.{arith}
use native.Mathlib.Decide.{dec_lt}
use lib.ListN.{length}
use Rattle.lists.specs.Counts.{count}
use Rattle.lists.proofs.Counts.{Some, none, some, some?}
use Rattle.lists.proofs.Sums.{distinct_length}
use Rattle.lists.proofs.Perms.{no_duplicates}
use Rattle.soundness.specs.Shape.{Shape}
use Rattle.walk.specs.Tests.{Tests}
use Rattle.walk.specs.Step.{Walker, Answer, tested, position, done, nothing, refused, fresh, Stepped, after_test, step_of}
use Rattle.walk.specs.Listing.{In, flat, ReachedIn, PassedIn, listing, reached_from}
use Rattle.walk.specs.Queries.{QueryOutcome, follow, query, steps_for, append, any_hit_run, Going}
use Rattle.walk.specs.Lawful.{SoundTests, Unrefused}
use Rattle.walk.proofs.Dues.{flats, push_flats, report_hand, test_hand, none_hand, test_flat, none_flat}
use Rattle.walk.proofs.Cases.{due, Visits, step_cases}
use Rattle.walk.proofs.Gather.{gather_none}
use Rattle.walk.proofs.Valid.{Valid, no_refusal, report_valid, test_valid, fresh_valid, empty_step}
use Rattle.walk.proofs.Listing.{listing_is, reached_from_is, listed, listed_once, passed_position_lem, reached_in, reached_once}
use Rattle.walk.proofs.Ends.{steps_left, step_falls}

-- What any-hit meets over a record of n positions: it ends with done, its list is the listing, which has each passed position once and no other, and
-- its tests are the nodes reached, as many as a list has that holds each of them once and no other.
pub record Meets {RayData : Type 0} (n : ℕ) (listing : List ℕ) (ReachedIn PassedIn : ℕ → Type 0) (o : QueryOutcome RayData (List ℕ)) : Type 0 where
  pub ends : o.ended ≡ done
  pub lists : o.accumulator ≡ listing
  pub exact : (p : ℕ) → In p o.accumulator ↔ PassedIn p
  pub once : (p : ℕ) → count p o.accumulator ≤ 1
  pub most : length o.accumulator ≤ n
  pub reached : List ℕ
  pub reached_once : Nodup reached
  pub reached_all : (v : ℕ) → In v reached ↔ ReachedIn v
  pub tests : o.walker.tests ≡ length reached

-- the same by other words for what is reached and passed
pub meets_as : {RayData : Type 0} {n : ℕ} {list : List ℕ} {A B C D : ℕ → Type 0} {o : QueryOutcome RayData (List ℕ)}
    → ((v : ℕ) → A v ↔ C v) → ((p : ℕ) → B p ↔ D p) → Meets n list A B o → Meets n list C D o
meets_as f g m = record {
  ends = m.ends;
  lists = m.lists;
  exact = λ p. (λ i. (g p).0 ((m.exact p).0 i), λ q. (m.exact p).1 ((g p).1 q));
  once = m.once;
  most = m.most;
  reached = m.reached;
  reached_once = m.reached_once;
  reached_all = λ v. (λ i. (f v).0 ((m.reached_all v).0 i), λ q. (m.reached_all v).1 ((f v).1 q));
  tests = m.tests;
}

-- a query ended with done, having noted ps after x, with t tests in all
record Ran {RayData : Type 0} (x ps : List ℕ) (t : ℕ) (o : QueryOutcome RayData (List ℕ)) : Type 0 where
  pub accumulator : o.accumulator ≡ x ++ ps
  pub ended : o.ended ≡ done
  pub tests : o.walker.tests ≡ t

-- without nodes it is done at once
empty_ran : {RayData Distance : Type 0} (T : Tests RayData Distance) (n : ℕ) (ray : RayData) → n ≤ 65536 → T.forged ray ≡ false
    → Ran [] (listing 0 T ray 0) (length (reached_from 0 T ray 0)) (any_hit_run 0 T n ray)
unfolding query
empty_ran T n ray h f = rw (empty_step T n ray h f, gather_none, gather_none) (record { accumulator = refl; ended = refl; tests = refl })

module _ {RayData Distance : Type 0} {S : Shape} {Rule : ℕ → Type 0} {T : Tests RayData Distance} (K : SoundTests S Rule T) (U : Unrefused S T)
    (ray : RayData)
    (accepted : T.forged ray ≡ false) where
  -- ---- what a walker has still to report, and to test

  abbrev ahead : (ℕ → List ℕ) → Walker RayData → List ℕ
  ahead f w = flat f w.group ++ flats f w.stack

  abbrev to_report : Walker RayData → List ℕ
  to_report w = w.positions ++ ahead (listing S.nodes T ray) w

  abbrev to_test : Walker RayData → List ℕ
  to_test w = ahead (reached_from S.nodes T ray) w

  -- a step takes from the front what it reports or tests
  abbrev Takes : Walker RayData → Answer → Walker RayData → Type 0
  Takes w (tested c) u = (to_report w ≡ to_report u) × (to_test w ≡ c ∷ to_test u) × (u.tests ≡ suc w.tests)
  Takes w (position p) u = (to_report w ≡ p ∷ to_report u) × (to_test w ≡ to_test u) × (u.tests ≡ w.tests)
  Takes w done u = (to_report w ≡ []) × (to_test w ≡ []) × (u.tests ≡ w.tests)
  Takes w (refused e) u = ⊥

  record After (w : Walker RayData) (r : Stepped RayData) : Type 0 where
    pub valid : Valid K r.walker
    pub same_ray : r.walker.ray ≡ ray
    pub takes : Takes w r.answer r.walker

  visit_report : (w : Walker RayData) (c : ℕ) (r : List ℕ) (st : List (List ℕ)) → w.ray ≡ ray → Visits S.nodes T S.positions w c r st
      → to_report w ≡ to_report (after_test T w c r st).walker
  visit_report w c r st e v =
      ap (λ (l : List ℕ). l ++ ahead (listing S.nodes T ray) w) (test_hand w.positions w.group w.stack c r st v.is_due)
      ∙ test_flat w.positions w.group w.stack c r st v.is_due (listing S.nodes T ray)
      ∙ ap (λ (l : List ℕ). l ++ (flat (listing S.nodes T ray) r ++ flats (listing S.nodes T ray) st)) (listing_is K ray accepted c v.node)
      ∙ rw (e, push_flats (listing S.nodes T ray) r st) (append_assoc (T.positions ray c) (flat (listing S.nodes T ray) (T.children ray c)) _)

  visit_test : (w : Walker RayData) (c : ℕ) (r : List ℕ) (st : List (List ℕ)) → w.ray ≡ ray → Visits S.nodes T S.positions w c r st
      → to_test w ≡ c ∷ to_test (after_test T w c r st).walker
  visit_test w c r st e v =
      test_flat w.positions w.group w.stack c r st v.is_due (reached_from S.nodes T ray)
      ∙ ap (λ (l : List ℕ). l ++ (flat (reached_from S.nodes T ray) r ++ flats (reached_from S.nodes T ray) st))
      (reached_from_is K ray accepted c v.node)
      ∙ rw (e, push_flats (reached_from S.nodes T ray) r st)

  nothing_takes : (w : Walker RayData) → due S.nodes T S.positions w ≡ nothing → Takes w done w
  nothing_takes w e = (
    ap (λ (l : List ℕ). l ++ ahead (listing S.nodes T ray) w) (none_hand w.positions w.group w.stack e)
        ∙ none_flat w.positions w.group w.stack e (listing S.nodes T ray),
    none_flat w.positions w.group w.stack e (reached_from S.nodes T ray),
    refl,
  )

  step_takes : 0 < S.nodes → (w : Walker RayData) → Valid K w → w.ray ≡ ray → After w (step_of S.nodes T S.positions w)
  step_takes h w v e =
      step_cases S.nodes T S.positions w (After w)
      (record {
        refuses = λ x c. absurd (no_refusal K U w v c);
        ends = λ f q. record { valid = v; same_ray = e; takes = nothing_takes w q };
        empties = λ f z o. absurd (omega arith);
        reports = λ p ps q. record {
          valid = report_valid K S.positions w p ps v q;
          same_ray = e;
          takes = (
            ap (λ (l : List ℕ). l ++ ahead (listing S.nodes T ray) w) (report_hand w.positions w.group w.stack p ps q.is_due),
            refl,
            refl,
          );
        };
        visits = λ c r st q. record {
          valid = test_valid K S.positions w c r st v q;
          same_ray = e;
          takes = (visit_report w c r st e q, visit_test w c r st e q, refl);
        };
      })

  -- ---- the run

  runs : 0 < S.nodes → (f : ℕ) (w : Walker RayData) (x : List ℕ) → Valid K w → w.ray ≡ ray → steps_left S.nodes w < f
      → Ran x (to_report w) (w.tests + length (to_test w)) (query S.nodes T append f S.positions w x)
  unfolding query
  runs h zero w x v e l = absurd (omega arith)
  runs h (suc f) w x v e l =
      go (step_of S.nodes T S.positions w).answer (step_of S.nodes T S.positions w).walker a.takes
      (step_falls S.nodes T U.narrow S.positions w)
      (λ y k. runs h f (step_of S.nodes T S.positions w).walker y a.valid a.same_ray k)
    where
      a : After w (step_of S.nodes T S.positions w)
      a = step_takes h w v e

      go : (b : Answer) (u : Walker RayData) → Takes w b u → (Going b → steps_left S.nodes u < steps_left S.nodes w)
          → ((y : List ℕ) → steps_left S.nodes u < f
          → Ran y (to_report u) (u.tests + length (to_test u)) (query S.nodes T append f S.positions u y))
          → Ran x (to_report w) (w.tests + length (to_test w)) (follow S.nodes T append b u x (query S.nodes T append f S.positions))
      go (tested c) u q k g =
          let z = g x (omega (arith, k tt)) in
          let n : length (to_test w) ≡ suc (length (to_test u)) = ap length q.1 in
          record { accumulator = z.accumulator ∙ ap (λ (l : List ℕ). x ++ l) (sym q.0); ended = z.ended; tests = omega (arith, z.tests, q.2) }
      go (position p) u q k g =
          let z = g (x ++ (p ∷ [])) (omega (arith, k tt)) in
          let n : length (to_test w) ≡ length (to_test u) = ap length q.1 in
          record {
            accumulator = z.accumulator ∙ append_assoc x (p ∷ []) (to_report u) ∙ ap (λ (l : List ℕ). x ++ l) (sym q.0);
            ended = z.ended;
            tests = omega (arith, z.tests, q.2);
          }
      go done u q k g =
          let n : length (to_test w) ≡ 0 = ap length q.1 in
          record { accumulator = sym (ap (λ (l : List ℕ). x ++ l) q.0 ∙ append-nil x); ended = refl; tests = omega (arith, q.2) }
      go (refused c) u q k g = absurd q

  any_hit : Ran [] (listing S.nodes T ray 0) (length (reached_from S.nodes T ray 0)) (any_hit_run S.nodes T S.positions ray)
  unfolding query
  any_hit = go (dec_lt 0 S.nodes)
    where
      go : Dec (0 < S.nodes) → Ran [] (listing S.nodes T ray 0) (length (reached_from S.nodes T ray 0))
          (any_hit_run S.nodes T S.positions ray)
      go (yes h) =
          let p : to_report (fresh ray) ≡ listing S.nodes T ray 0 = simp append-nil in
          let q : to_test (fresh ray) ≡ reached_from S.nodes T ray 0 = simp append-nil in
          let n : length (to_test (fresh ray)) ≡ length (reached_from S.nodes T ray 0) = ap length q in
          let r = runs h (steps_for S.nodes) (fresh ray) [] (fresh_valid K h ray accepted) refl (omega arith) in
          record { accumulator = r.accumulator ∙ p; ended = r.ended; tests = omega (arith, r.tests) }
      go (no h) =
          let e : S.nodes ≡ 0 = omega arith in
          subst (λ (m : ℕ). Ran [] (listing m T ray 0) (length (reached_from m T ray 0)) (any_hit_run m T S.positions ray)) (sym e)
          (empty_ran T S.positions ray U.positions accepted)

  -- ---- what it lists and counts

  -- a position is listed exactly if the ray passes it,
  exact : (p : ℕ) → In p (any_hit_run S.nodes T S.positions ray).accumulator ↔ PassedIn S.nodes T ray p
  exact p = subst (λ (l : List ℕ). In p l ↔ PassedIn S.nodes T ray p) (sym any_hit.accumulator) (listed K ray accepted p)

  -- once,
  once : (p : ℕ) → count p (any_hit_run S.nodes T S.positions ray).accumulator ≤ 1
  once p = rw any_hit.accumulator (listed_once K ray accepted p)

  -- and none from n on
  none_past : (p : ℕ) → S.positions ≤ p → Some (count p (any_hit_run S.nodes T S.positions ray).accumulator)
      → count p (any_hit_run S.nodes T S.positions ray).accumulator ≡ 0
  none_past p l (none e) = e
  none_past p l (some e) = absurd (omega (arith, passed_position_lem K ray accepted p ((exact p).0 e)))

  pub any_hit_meets :
      Meets S.positions (listing S.nodes T ray 0) (ReachedIn S.nodes T ray) (PassedIn S.nodes T ray)
      (any_hit_run S.nodes T S.positions ray)
  any_hit_meets = record {
    ends = any_hit.ended;
    lists = any_hit.accumulator;
    exact = exact;
    once = once;
    most = distinct_length S.positions _ once (λ p l. none_past p l (some? _));
    reached = reached_from S.nodes T ray 0;
    reached_once = no_duplicates (reached_from S.nodes T ray 0) (reached_once K ray accepted);
    reached_all = reached_in K ray accepted;
    tests = any_hit.tests;
  }

  -- and its tests are as many as the nodes gathered from the first
  pub any_hit_tests : (any_hit_run S.nodes T S.positions ray).walker.tests ≡ length (reached_from S.nodes T ray 0)
  any_hit_tests = any_hit.tests
