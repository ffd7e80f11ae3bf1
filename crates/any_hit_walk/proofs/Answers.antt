-- The answers of any-hit, by the tests that the code makes and by where its walks end.
use mathlib.Core.Bool.{Bool, true, false}
use mathlib.Core.List.{List, []}
use mathlib.Core.Path.{◌≡◌, refl, sym, ap, ◌∙◌}
use Prim.Native.Nat.{ℕ, zero, suc, ◌*◌, ◌≤◌, ◌<◌}
use native.Mathlib.Omega.{arith}
use lib.ListN.{length, take}
use lib.Seq.{take_all}
use borrow.Author.Tests.{le-leb, lt-leb}
use Rattle.lists.specs.Splice.{splice}
use Rattle.lists.proofs.Splice.{splice_none}
use Rattle.ray.specs.declared.Ray.{Ray}
use Rattle.walk.specs.Step as S
use Rattle.walk.specs.Queries.{append}
use Rattle.walk.specs.WordStep.{WalkerWords}
use Rattle.walk.specs.WordQueries.{OutcomeWords}
use Rattle.gate.specs.Gates.{Gates}
use Rattle.walk_record.specs.WalkRay.{WalkRay, walk_ray, rays_of}
use Rattle.walk_record.specs.Record.{FieldsFit}
use Rattle.walk_record.specs.Walk.{any_hit_at}
use Rattle.query.specs.Entry.{entry_cause}
use Rattle.query.specs.Result.{Result, unanswered, walked, entered}
use Rattle.query.specs.Walk.{RecordSized}
use Rattle.query.proofs.Begins.{query_empty}
use Rattle.query.proofs.Entry as E
use Rattle.query.proofs.Entry.{own_cause_alike}
use Rattle.any_hit_walk.specs.AnyHit.{AnyHitAnswer, listed, refused, lacking, fitted, list_for, walk_of, list_walked, gated_any_hit, gated_list}
use Rattle.any_hit_walk.specs.Gather.{met_in, any_hit_outcome, Counted, Stands}
use Rattle.any_hit_walk.proofs.Written.{met_front}

-- ---- a list that is long enough, or short

abbrev by : Bool → (count tests : ℕ) → Result AnyHitAnswer
by b count tests = elim b [ true ↦ record { answer = listed count; tests = tests } | false ↦ unanswered (lacking 11 count) ]

module _ (count tests room : ℕ) where
  pub fits : count ≤ room → record { answer = listed count; tests = tests } ≡ fitted count tests room
  unfolding fitted
  fits h = sym (ap (λ (b : Bool). by b count tests) (le-leb count room h))

  pub lacks : room < count → unanswered (lacking 11 count) ≡ fitted count tests room
  unfolding fitted
  lacks h = sym (ap (λ (b : Bool). by b count tests) (lt-leb count room h))

-- ---- after a whole walk

module _ (g : Gates) (bytes : List ℕ) (n : ℕ) (ray : Ray) where
  -- over any number of positions that a walk reports, it never pauses
  never_paused : (most : ℕ) (w : WalkerWords WalkRay) (count : ℕ) (before found : List ℕ) → RecordSized bytes n → 25 * 65535 ≤ most
      → Stands g bytes n ray false most w count before found → ⊥
  never_paused most w count before found sized h k = omega (arith, sized.nodes, k.0, k.2.few)

  pub counted_only : (done : Bool) (most : ℕ) (w : WalkerWords WalkRay) (count : ℕ) (before found : List ℕ)
      → RecordSized bytes n → 25 * 65535 ≤ most
      → Stands g bytes n ray done most w count before found → Stands g bytes n ray true most w count before found
  counted_only true most w count before found sized h k = k
  counted_only false most w count before found sized h k = absurd (never_paused most w count before found sized h k)

  module _ (list : List ℕ) where
    -- an answer with the list that it leaves
    abbrev pub Ends : Result AnyHitAnswer → List ℕ → Type 0
    Ends a after = (a ≡ walk_of g bytes n (walk_ray ray) (length list)) × (after ≡ list_walked g bytes n (walk_ray ray) list)

    ends_as : (a : Result AnyHitAnswer) → a ≡ walk_of g bytes n (walk_ray ray) (length list)
        → Ends a (list_for a.answer (any_hit_outcome g bytes n ray).accumulator list)
    unfolding list_walked
    ends_as a e = (e, ap (λ (x : Result AnyHitAnswer). list_for x.answer (any_hit_outcome g bytes n ray).accumulator list) e)

    -- refused
    pub ends_refused : (k : ℕ) → (any_hit_outcome g bytes n ray).ended ≡ S.refused k → Ends (unanswered (refused k)) list
    unfolding walk_of walked list_for
    ends_refused k e = ends_as (unanswered (refused k)) (sym (ap (walk_end (any_hit_outcome g bytes n ray)) e))
      where
        walk_end : OutcomeWords WalkRay (List ℕ) → S.Answer → Result AnyHitAnswer
        walk_end o = walked refused (λ noted tests. fitted (length noted) tests (length list)) o

    module _ {count tests : ℕ} (C : Counted g bytes n ray count tests) where
      -- a walk without a fault has none when it is made again
      pub ends_unrefused : (k : ℕ) → (any_hit_outcome g bytes n ray).ended ≡ S.refused k → ⊥
      ends_unrefused k r = let e = sym C.ended ∙ r in let z : ◌≡◌ {A = ℕ} 0 1 = cc in omega arith

      is_fitted : fitted count tests (length list) ≡ walk_of g bytes n (walk_ray ray) (length list)
      unfolding walk_of walked
      is_fitted = rw (C.ended, C.all, C.tested) refl

      -- positions kept aside
      pub ends_kept : (before found : List ℕ) → found ≡ met_in before (any_hit_outcome g bytes n ray).accumulator → count ≤ length found
          → Ends (fitted count tests (length list)) (list_for (fitted count tests (length list)).answer (take count found) list)
      ends_kept before found e h =
          let k = ends_as (fitted count tests (length list)) is_fitted in
          let f = met_front before (any_hit_outcome g bytes n ray).accumulator found e count C.all h in
          (k.0, ap (λ (x : List ℕ). list_for (fitted count tests (length list)).answer x list) f ∙ k.1)

      -- too many for the list
      pub ends_short : length list < count → Ends (unanswered (lacking 11 count)) list
      unfolding list_for
      ends_short h = ends_as (unanswered (lacking 11 count)) (lacks count tests (length list) h ∙ is_fitted)

    -- written into a list that is long enough, by a walk
    pub ends_again : {count tests : ℕ} → Counted g bytes n ray count tests → count ≤ length list
        → (w : WalkerWords WalkRay) {again : ℕ} {after : List ℕ} → Counted g bytes n ray again w.tests
        → after ≡ met_in list (any_hit_outcome g bytes n ray).accumulator → Ends (record { answer = listed again; tests = w.tests }) after
    unfolding list_for
    ends_again C h w {again = again} D e =
        let l = D.all in
        let f = ends_as (record { answer = listed again; tests = w.tests })
        (fits again w.tests (length list) (omega (arith, C.all)) ∙ is_fitted D) in
        (f.0, e ∙ ap (splice list 0) (take_all (length list) (any_hit_outcome g bytes n ray).accumulator (omega (arith, C.all))) ∙ f.1)

-- ---- any-hit

module _ (g : Gates) (bytes : List ℕ) (n between : ℕ) (r : Ray) (list : List ℕ) where
  -- an answer with the list that it leaves
  abbrev pub Answers : Result AnyHitAnswer → List ℕ → Type 0
  Answers a after = (a ≡ gated_any_hit g bytes n between r (length list)) × (after ≡ gated_list g bytes n between r list)

  -- by the cause on entry, 0 for none
  abbrev after_entry : ℕ → Result AnyHitAnswer
  after_entry c = entered refused c (walk_of g bytes n (walk_ray r) (length list))

  -- refused on entry
  pub answers_entry : (k : ℕ) → k ≡ entry_cause true (length bytes) n between r → (k ≡ 0 → ⊥) → Answers (unanswered (refused k)) list
  unfolding gated_any_hit gated_list list_for entered
  answers_entry k e h = go (entry_cause true (length bytes) n between r) e
    where
      go : (c : ℕ) → k ≡ c → (unanswered (refused k) ≡ after_entry c)
          × (list ≡ list_for (after_entry c).answer (any_hit_at bytes (rays_of g) n (walk_ray r)).accumulator list)
      go zero q = absurd (h q)
      go (suc j) q = (ap (λ (i : ℕ). unanswered (refused i)) q, refl)

  module _ (entered : entry_cause true (length bytes) n between r ≡ 0) where
    -- else the answer is the walk's
    pub answers_walk : {a : Result AnyHitAnswer} {after : List ℕ} → Ends g bytes n r list a after → Answers a after
    unfolding gated_any_hit gated_list list_walked entered
    answers_walk e =
        let q : walk_of g bytes n (walk_ray r) (length list) ≡ gated_any_hit g bytes n between r (length list) = sym (ap after_entry entered) in
        (e.0 ∙ q, e.1 ∙ ap (λ (x : Result AnyHitAnswer). list_for x.answer (any_hit_at bytes (rays_of g) n (walk_ray r)).accumulator list) q)

    -- without nodes
    pub answers_empty : length bytes ≡ 0 → n ≤ 65536 → FieldsFit bytes → (rays_of g).forged (walk_ray r) ≡ false
        → Answers (record { answer = listed 0; tests = 0 }) list
    unfolding walk_of walked list_walked list_for any_hit_at
    answers_empty z h fit f =
        let o = any_hit_at bytes (rays_of g) n (walk_ray r) in
        let q = query_empty g bytes n fit append [] r f (omega arith) h in
        let e : record { answer = listed 0; tests = 0 } ≡ walk_of g bytes n (walk_ray r) (length list) =
        rw (q.ended, q.accumulator, q.tests) (fits 0 0 (length list) (omega arith)) in
        answers_walk (
          e,
          sym (ap (splice list 0) q.accumulator ∙ splice_none list 0) ∙ ap
              (λ (x : Result AnyHitAnswer). list_for x.answer o.accumulator list) e,
        )

-- ---- a cause of the query's own

-- where one holds, neither the answer nor the list hangs on the gates
module _ (g h : Gates) (bytes : List ℕ) (n between : ℕ) (r : Ray) where
  pub own_cause_answer : (room : ℕ) → (between ≡ 0 → ⊥) → gated_any_hit g bytes n between r room ≡ gated_any_hit h bytes n between r room
  unfolding gated_any_hit
  own_cause_answer room some =
      own_cause_alike refused true (length bytes) n between r (walk_of g bytes n (walk_ray r) room) (walk_of h bytes n (walk_ray r) room) some

  pub own_cause_list : (list : List ℕ) → (between ≡ 0 → ⊥) → gated_list g bytes n between r list ≡ gated_list h bytes n between r list
  own_cause_list list some =
      let refused : entry_cause true (length bytes) n between r ≡ 0 → ⊥ = λ e. some (E.entered true (length bytes) n between r e).none in
      sym (answers_entry g bytes n between r list _ refl refused).1 ∙ (answers_entry h bytes n between r list _ refl refused).1
