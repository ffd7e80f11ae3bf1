-- Any-hit's answer and list on any bytes, where nothing refuses it on entry: what its walk gives; and, that not being refused, its positions where
-- all have room, else the length needed. And back: where positions are listed, they and the tests are the walk's.
use mathlib.Core.Bool.{Bool, true, false}
use mathlib.Core.List.{List}
use mathlib.Core.Path.{◌≡◌, refl, sym, ap, ◌∙◌}
use Prim.Native.Nat.{ℕ, zero, suc, ◌+◌, ◌≤◌, ◌<◌}
use native.Mathlib.Omega.{arith}
use lib.Dec.{leb}
use lib.ListN.{length, take, drop}
use lib.Seq.{take_at}
use Rattle.lists.specs.Splice.{splice}
use Rattle.causes.proofs.Sizes.{Fit}
use Rattle.ray.specs.declared.Ray.{Ray}
use Rattle.ray.specs.Ray.{accepted_ray}
use Rattle.gate.specs.Gates.{Gates}
use Rattle.walk.specs.Step as S
use Rattle.walk.specs.Queries.{Ended}
use Rattle.walk_record.specs.WalkRay.{walk_ray}
use Rattle.query.specs.Met.{walk_met_by, positions_met_by, tests_made_by}
use Rattle.query.specs.Entry.{entry_cause}
use Rattle.query.specs.Result.{Result, unanswered, walked, entered}
use Rattle.query.proofs.Entry.{entry_none, found_at_end}
use Rattle.any_hit_walk.specs.AnyHit.{AnyHitAnswer, listed, refused, lacking, fitted, list_for, walk_of, gated_any_hit, gated_list}
use Rattle.any_hit_walk.proofs.Answers.{fits, lacks}

module _ (g : Gates) (bytes : List ℕ) (n between : ℕ) (r : Ray) (sizes : Fit (length bytes) n) (none : between ≡ 0)
    (accepted : accepted_ray r ≡ true) where
  -- with room for so many positions
  pub any_hit_walked : (room : ℕ) → gated_any_hit g bytes n between r room ≡ walk_of g bytes n (walk_ray r) room
  unfolding gated_any_hit entered
  any_hit_walked room =
      ap (λ (k : ℕ). entered refused k (walk_of g bytes n (walk_ray r) room))
      (entry_none true (length bytes) n between r refl sizes none accepted)

  module _ (ends : Ended (walk_met_by g bytes n r).ended) where
    abbrev met : List ℕ
    met = positions_met_by g bytes n r

    abbrev tests : ℕ
    tests = tests_made_by g bytes n r

    pub any_hit_fitted : (room : ℕ) → gated_any_hit g bytes n between r room ≡ fitted (length met) tests room
    unfolding walk_of entered
    any_hit_fitted room =
        any_hit_walked room
        ∙ found_at_end refused (λ noted made. fitted (length noted) made room) 0 (walk_met_by g bytes n r) (walk_met_by g bytes n r).ended refl ends

    -- into a list that is long enough
    module _ (before : List ℕ) (room : length met ≤ length before) where
      pub answers_listed : gated_any_hit g bytes n between r (length before) ≡ record { answer = listed (length met); tests = tests }
      answers_listed = any_hit_fitted (length before) ∙ sym (fits (length met) tests (length before) room)

      pub list_found : take (length met) (gated_list g bytes n between r before) ≡ met
      unfolding gated_list gated_any_hit list_for splice
      list_found =
          ap (λ (a : Result AnyHitAnswer). take (length met) (list_for a.answer met before)) answers_listed
          ∙ take_at met (drop (0 + length met) before) (length met) refl

    -- into one that is short
    module _ (before : List ℕ) (short : length before < length met) where
      pub answers_lacking : gated_any_hit g bytes n between r (length before) ≡ unanswered (lacking 11 (length met))
      answers_lacking = any_hit_fitted (length before) ∙ sym (lacks (length met) tests (length before) short)

      pub list_kept : gated_list g bytes n between r before ≡ before
      unfolding gated_list gated_any_hit list_for
      list_kept = ap (λ (a : Result AnyHitAnswer). list_for a.answer met before) answers_lacking

-- ---- where positions are listed

-- they are the walk's, in front of the list, the tests are the walk's, and nothing refuses the call on entry
pub record ListedOf (g : Gates) (bytes : List ℕ) (n between : ℕ) (r : Ray) (before : List ℕ) (count tests : ℕ) : Type 0 where
  pub entry : entry_cause true (length bytes) n between r ≡ 0
  pub front : take count (gated_list g bytes n between r before) ≡ positions_met_by g bytes n r
  pub made : tests ≡ tests_made_by g bytes n r

module _ (g : Gates) (bytes : List ℕ) (n between : ℕ) (r : Ray) (before : List ℕ) (count tests : ℕ) where
  abbrev Answer : Result AnyHitAnswer → Type 0
  Answer a = a ≡ record { answer = listed count; tests = tests }

  abbrev Walk : Type 0
  Walk = (count ≡ length (positions_met_by g bytes n r)) × (tests ≡ tests_made_by g bytes n r)

  -- no refusal lists positions
  not_refused : (k : ℕ) → refused k ≡ listed count → ⊥
  not_refused k e = let z : ◌≡◌ {A = ℕ} 0 1 = cc in omega arith

  not_lacking : (k needed : ℕ) → lacking k needed ≡ listed count → ⊥
  not_lacking k needed e = let z : ◌≡◌ {A = ℕ} 0 1 = cc in omega arith

  room_for : (noted made : ℕ) → Answer (fitted noted made (length before)) → (count ≡ noted) × (tests ≡ made)
  unfolding fitted
  room_for noted made = go (leb noted (length before))
    where
      go : (b : Bool) → Answer (elim b [ true ↦ record { answer = listed noted; tests = made } | false ↦ unanswered (lacking 11 noted) ])
          → (count ≡ noted) × (tests ≡ made)
      go true e = let a = ap (λ (x : Result AnyHitAnswer). x.answer) e in (cc, sym (ap (λ (x : Result AnyHitAnswer). x.tests) e))
      go false e = absurd (not_lacking 11 noted (ap (λ (x : Result AnyHitAnswer). x.answer) e))

  walk_ends : (b : S.Answer)
      → Answer (walked refused (λ noted made. fitted (length noted) made (length before)) (walk_met_by g bytes n r) b) → Walk
  unfolding walked
  walk_ends (S.tested v) e = absurd (not_refused 10 (ap (λ (x : Result AnyHitAnswer). x.answer) e))
  walk_ends (S.position p) e = room_for _ _ e
  walk_ends S.done e = room_for _ _ e
  walk_ends (S.refused k) e = absurd (not_refused k (ap (λ (x : Result AnyHitAnswer). x.answer) e))

  by_entry : (k : ℕ) → Answer (entered refused k (walk_of g bytes n (walk_ray r) (length before))) → (k ≡ 0) × Walk
  unfolding entered walk_of
  by_entry zero e = (refl, walk_ends (walk_met_by g bytes n r).ended e)
  by_entry (suc k) e = absurd (not_refused (suc k) (ap (λ (x : Result AnyHitAnswer). x.answer) e))

  pub listed_of : Answer (gated_any_hit g bytes n between r (length before)) → ListedOf g bytes n between r before count tests
  unfolding gated_any_hit gated_list list_for splice
  listed_of e =
      let q = by_entry (entry_cause true (length bytes) n between r) e in
      let met = positions_met_by g bytes n r in
      record {
        entry = q.0;
        front = ap (λ (a : Result AnyHitAnswer). take count (list_for a.answer met before)) e
            ∙ ap (λ (k : ℕ). take k (splice before 0 met)) q.1.0 ∙ take_at met (drop (0 + length met) before) (length met) refl;
        made = q.1.1;
      }
