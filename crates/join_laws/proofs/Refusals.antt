-- The number with which a join is refused is the first cause's, in the order of causes (02, [4]); and what each refusal leaves.
use mathlib.Core.Bool.{Bool, true, false, ◌||◌}
use mathlib.Core.List.{List, [], ◌∷◌}
use mathlib.Core.Logic.{◌⊎◌, inl, inr, ◌↔◌}
use mathlib.Core.Path.{◌≡◌, refl, sym, ap, subst, ◌∙◌}
use Prim.Native.Nat.{ℕ, zero, suc, ◌≤◌, ◌<◌}
use native.Mathlib.Omega.{arith}
use lib.Dec.{T, leb, ltb, ltb→lt}
use lib.ListN.{length, take, drop, replicate, length-replicate}
use borrow.Author.Tests.{le-leb, lt-leb}
use Rattle.lists.specs.Counts.{count}
use Rattle.lists.proofs.Counts.{same_self}
use Rattle.lists.proofs.Splice.{length-splice, splice_taken, splice_rest}
use Rattle.causes.specs.Causes.{Condition, ◌unless◌, first_cause, place_of, Before}
use Rattle.causes.proofs.Causes.{all_numbers, first_among}
use Rattle.causes.proofs.First.{ByCause, refused_first, given_none}
use Rattle.join.specs.Join.{JoinCall, first_leaves, second_leaves, marks_needed, zeroed_marks}
use Rattle.join.specs.Join.{joined, refused_join, JoinEnd, size_tests, tree_tests, join_tests, join_cause, join_by, join_of}
use Rattle.join_laws.specs.Joined.{Joins}
use Rattle.join_laws.specs.Refusals.{JoinRefusal, FirstJoinRefusal}
use Rattle.join_laws.specs.Refusals.{marks_short}
use Rattle.join_laws.proofs.Causes.{join_in_order, join_shows, join_fails}

-- the number found is one of the list's
abbrev numbers_of : List Condition → List ℕ
numbers_of [] = []
numbers_of (k unless b ∷ l) = k ∷ numbers_of l

first_listed : (l : List Condition) → 0 < first_cause l → 0 < count (first_cause l) (numbers_of l)
unfolding first_cause count
first_listed [] h = absurd (omega arith)
first_listed (k unless true ∷ l) h = omega (arith, first_listed l h)
first_listed (k unless false ∷ l) h = omega (arith, same_self k)

-- ---- a call

-- a join is not both given and refused
joined_refused : {A : Type 0} {leaves k : ℕ} → joined leaves ≡ refused_join k → A
joined_refused e = let z : ◌≡◌ {A = ℕ} 0 1 = cc in absurd (omega arith)

module _ (c : JoinCall) where
  -- ---- the number
  join_by_cause : ByCause (λ k. (join_of c).answer ≡ refused_join k) (Joins c) (join_tests c)
  unfolding join_of join_by
  join_by_cause = record {
    gives = λ e. ap (λ (k : ℕ). (join_by k c).answer) e;
    refuses = by (join_cause c);
    one = λ j k p q. let s : refused_join j ≡ refused_join k = sym p ∙ q in cc;
    not_both = λ k r g. joined_refused (sym g ∙ r);
  }
    where
      by : (k : ℕ) → 0 < k → (join_by k c).answer ≡ refused_join k
      by zero h = absurd (omega arith)
      by (suc k) h = refl

  -- The call is refused with the number of the first cause that holds,
  pub join_refused_first : (k : ℕ) → (join_of c).answer ≡ refused_join k ↔ FirstJoinRefusal c k
  join_refused_first = refused_first join_by_cause (JoinRefusal c) (join_in_order c) (join_shows c) (join_fails c)

  -- and joins exactly if none does.
  pub join_answered : Joins c ↔ ((j : ℕ) → JoinRefusal c j → ⊥)
  join_answered = given_none join_by_cause (JoinRefusal c) (join_in_order c) (join_shows c) (join_fails c)

  -- ---- what a refusal leaves

  -- the marks that the call needs
  abbrev needed : ℕ
  needed = marks_needed (first_leaves c) (second_leaves c)

  -- the end of a call that is refused with number k
  record LeftBy (k : ℕ) (end : JoinEnd) : Type 0 where
    found : join_cause c ≡ k
    some : 0 < k
    words_kept : end.words ≡ c.words
    indices_kept : end.indices ≡ c.indices
    marks_kept : k ≤ 4 → end.marks ≡ c.marks
    marks_zeroed : 5 ≤ k → end.marks ≡ zeroed_marks c

  left_by_lem : (k : ℕ) → (join_of c).answer ≡ refused_join k → LeftBy k (join_of c)
  unfolding join_of join_by
  left_by_lem k = go (join_cause c) refl
    where
      go : (j : ℕ) → join_cause c ≡ j → (join_by j c).answer ≡ refused_join k → LeftBy k (join_by j c)
      go zero f e = joined_refused e
      go (suc j) f e =
          let s : suc j ≡ k = cc in
          let marks : Bool → List ℕ = λ b. elim b [ true ↦ c.marks | false ↦ zeroed_marks c ] in
          record {
            found = f ∙ s;
            some = omega arith;
            words_kept = refl;
            indices_kept = refl;
            marks_kept = λ h. ap marks (le-leb (suc j) 4 (omega arith));
            marks_zeroed = λ h. ap marks (lt-leb (suc j) 4 (omega arith));
          }

  -- Every refusal has one of seven numbers.
  pub refusal-numbers : (k : ℕ) → (join_of c).answer ≡ refused_join k → 0 < count k (1 ∷ 2 ∷ 4 ∷ 5 ∷ 6 ∷ 7 ∷ 13 ∷ [])
  unfolding join_tests size_tests tree_tests
  refusal-numbers k e =
      let l = left_by_lem k e in
      rw l.found at (first_listed (join_tests c) (omega (arith, l.some, l.found)))

  -- It leaves both outputs as they were;
  pub refused_outputs : (k : ℕ) → (join_of c).answer ≡ refused_join k → ((join_of c).words ≡ c.words) × ((join_of c).indices ≡ c.indices)
  refused_outputs k e = let l = left_by_lem k e in (l.words_kept, l.indices_kept)

  -- one of 1, 2 and 4 the marks too,
  pub refused_early : (k : ℕ) → (join_of c).answer ≡ refused_join k → k ≤ 4 → (join_of c).marks ≡ c.marks
  refused_early k e = (left_by_lem k e).marks_kept

  -- one of 5 or more is looked for behind 4
  late_place : 5 ≤ join_cause c → Before 4 (join_cause c)
  unfolding join_tests size_tests tree_tests all_numbers place_of
  late_place h = go (first_among (λ k. leb k 4 || ltb (place_of 4) (place_of k)) (join_tests c) tt)
    where
      go : (join_cause c ≡ 0) ⊎ T (leb (join_cause c) 4 || ltb (place_of 4) (place_of (join_cause c))) → Before 4 (join_cause c)
      go (inl e) = absurd (omega arith)
      go (inr t) =
          ltb→lt _ _ (subst (λ (b : Bool). T (b || ltb (place_of 4) (place_of (join_cause c)))) (lt-leb (join_cause c) 4 (omega arith)) t)

  -- so that there is room for the marks
  late_marks : (k : ℕ) → (join_of c).answer ≡ refused_join k → 5 ≤ k → needed ≤ length c.marks
  late_marks k e h =
      let l = left_by_lem k e in
      let behind = subst (Before 4) l.found (late_place (omega (arith, l.found))) in
      let long : length c.marks < needed → ⊥ = λ s. ((join_refused_first k).0 e).1 4 behind (marks_short s) in
      omega arith

  -- and one of 5, 6, 7 and 13 has the marks needed zero, and the rest of them as it was.
  pub refused_marks : (k : ℕ) → (join_of c).answer ≡ refused_join k → 5 ≤ k
      → (length (join_of c).marks ≡ length c.marks) × (take needed (join_of c).marks ≡ replicate needed 0)
      × (drop needed (join_of c).marks ≡ drop needed c.marks)
  refused_marks k e h =
      let zeros : List ℕ = replicate needed 0 in
      let z : length zeros ≡ needed = length-replicate needed 0 in
      let r = late_marks k e h in
      rw ((left_by_lem k e).marks_zeroed h)
      (length-splice c.marks 0 zeros (omega arith), splice_taken c.marks zeros needed z, splice_rest c.marks zeros needed z)
