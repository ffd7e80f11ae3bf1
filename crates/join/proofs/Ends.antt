-- How the call ends, by the causes that were found.
use mathlib.Core.Bool.{Bool, true, false, ◌&&◌}
use mathlib.Core.List.{List, [], ◌∷◌, ◌++◌}
use mathlib.Core.Path.{◌≡◌, refl, sym, ◌∙◌}
use Prim.Native.Nat.{ℕ, zero, suc, ◌+◌, ◌*◌, ◌<◌, ◌≤◌}
use native.Mathlib.Omega.{arith}
use lib.Dec.{T, leb, eqb}
use lib.ListN.{length}
use borrow.Author.Tests.{le-leb, lt-leb}
use Rattle.lists.specs.Splice.{splice}
use Rattle.causes.specs.Causes.{Condition, ◌unless◌, first_cause, place_of}
use Rattle.causes.proofs.Causes.{Passed, sorted, first_later, first_here, append_first, append_later, none_passed, passed_none}
use Rattle.bvh2.specs.Words.{tree_nodes}
use Rattle.bvh2.specs.Causes.{TreeSized, Accepted}
use Rattle.bvh2.specs.FirstCause.{links_inside, boxes_accepted}
use Rattle.bvh2.proofs.First.{structure_none}
use Rattle.join.specs.Join.{JoinCall, first_leaves, second_leaves, both_leaves, joined_words, joined_indices, room_for, size_tests}
use Rattle.join.specs.Join.{tree_or_none, edge_to_spare, tree_tests, sums_fit}
use Rattle.join.proofs.Causes.{structure_tests}
use Rattle.join.specs.Join.{zeroed_marks, join_tests, join_cause, joined, refused_join, join_by, join_of}

-- a tree of which no test fails is accepted
pub tests_accepted : (ws : List ℕ) (n : ℕ) → TreeSized ws n → links_inside ws n ≡ true → boxes_accepted ws n ≡ true → tree_or_none ws n ≡ true
    → Accepted ws n
tests_accepted ws n s l b t =
    (structure_none ws n s).0
    (structure_tests ws n
    ∙ passed_none (5 unless links_inside ws n ∷ 6 unless boxes_accepted ws n ∷ 7 unless tree_or_none ws n ∷ []) (l, (b, (t, tt))))

module _ (c : JoinCall) where
  -- what is looked at, in three parts
  abbrev sizes : List Condition
  sizes =
      size_tests (length c.first) (first_leaves c) (length c.second) (second_leaves c) (length c.marks) (length c.words)
      (length c.indices)

  abbrev trees : List Condition
  trees = tree_tests c.first (first_leaves c) c.second (second_leaves c)

  abbrev sums : List Condition
  sums = 13 unless sums_fit c.panes c.second_indices ∷ []

  sizes_sorted : T (sorted 0 sizes)
  unfolding size_tests sorted place_of
  sizes_sorted = tt

  trees_sorted : T (sorted 0 trees)
  unfolding tree_tests sorted place_of
  trees_sorted = tt

  both_sorted : T (sorted 0 (sizes ++ trees))
  unfolding size_tests tree_tests sorted place_of
  both_sorted = tt

  -- the first cause of all, by that of each part
  by_sizes : (first_cause sizes ≡ 0 → ⊥) → join_cause c ≡ first_cause sizes
  unfolding join_tests
  by_sizes h = append_first (sizes ++ trees) sums (λ z. h (sym (append_first sizes trees h) ∙ z)) ∙ append_first sizes trees h

  module _ (none : first_cause sizes ≡ 0) where
    passed : Passed sizes
    passed = none_passed 0 sizes sizes_sorted none

    later : first_cause (sizes ++ trees) ≡ first_cause trees
    later = append_later sizes trees passed

    by_trees : (first_cause trees ≡ 0 → ⊥) → join_cause c ≡ first_cause trees
    unfolding join_tests
    by_trees h = append_first (sizes ++ trees) sums (λ z. h (sym later ∙ z)) ∙ later

    by_sums : first_cause trees ≡ 0 → join_cause c ≡ first_cause sums
    unfolding join_tests
    by_sums z = append_later (sizes ++ trees) sums (none_passed 0 (sizes ++ trees) both_sorted (later ∙ z))

    -- and there is room
    pub room_left : room_for (first_leaves c) (second_leaves c) (length c.marks) (length c.words) (length c.indices) ≡ true
    unfolding size_tests
    room_left = passed.1.1.0

  -- ---- the endings

  -- refused with the first cause's number: words and indices as they were, and the marks too up to number 4
  refused_as : (k : ℕ) (marks : List ℕ) → (k ≡ 0 → ⊥) → join_cause c ≡ k → marks ≡ elim (leb k 4) [ true ↦ c.marks | false ↦ zeroed_marks c ]
      → record { answer = refused_join k; marks = marks; words = c.words; indices = c.indices } ≡ join_of c
  unfolding join_of join_by
  refused_as zero marks h e m = absurd (h refl)
  refused_as (suc k) marks h e m = rw (e, m) refl

  sizes_small : first_cause sizes ≤ 4
  unfolding size_tests first_cause
  sizes_small = go (eqb (length c.first) (tree_nodes (first_leaves c) * 7) && eqb (length c.second) (tree_nodes (second_leaves c) * 7))
      (leb (first_leaves c + second_leaves c) 65536)
      (room_for (first_leaves c) (second_leaves c) (length c.marks) (length c.words) (length c.indices))
    where
      go : (x y z : Bool) → first_cause (1 unless x ∷ 2 unless y ∷ 4 unless z ∷ []) ≤ 4
      go false y z = omega arith
      go true false z = omega arith
      go true true false = omega arith
      go true true true = omega arith

  trees_great : (first_cause trees ≡ 0 → ⊥) → 4 < first_cause trees
  unfolding tree_tests first_cause
  trees_great h =
      go (links_inside c.first (first_leaves c) && links_inside c.second (second_leaves c))
      (boxes_accepted c.first (first_leaves c) && boxes_accepted c.second (second_leaves c))
      (tree_or_none c.first (first_leaves c) && tree_or_none c.second (second_leaves c) && edge_to_spare c.first (first_leaves c) c.second
      (second_leaves c))
      h
    where
      go : (x y z : Bool) → (first_cause (5 unless x ∷ 6 unless y ∷ 7 unless z ∷ []) ≡ 0 → ⊥)
          → 4 < first_cause (5 unless x ∷ 6 unless y ∷ 7 unless z ∷ [])
      go false y z h = omega arith
      go true false z h = omega arith
      go true true false h = omega arith
      go true true true h = absurd (h refl)

  pub ends_sizes : (k : ℕ) → k ≡ first_cause sizes → (k ≡ 0 → ⊥)
      → record { answer = refused_join k; marks = c.marks; words = c.words; indices = c.indices } ≡ join_of c
  ends_sizes k e h =
      refused_as k c.marks h (by_sizes (λ z. h (e ∙ z)) ∙ sym e) (rw (le-leb k 4 (omega (arith, e, sizes_small))) refl)

  pub ends_trees : first_cause sizes ≡ 0 → (k : ℕ) → k ≡ first_cause trees → (k ≡ 0 → ⊥) → (marks : List ℕ) → marks ≡ zeroed_marks c
      → record { answer = refused_join k; marks = marks; words = c.words; indices = c.indices } ≡ join_of c
  ends_trees none k e h marks m =
      let great = trees_great (λ z. h (e ∙ z)) in
      refused_as k marks h (by_trees none (λ z. h (e ∙ z)) ∙ sym e) (m ∙ rw (lt-leb k 4 (omega (arith, e, great))) refl)

  module _ (none : first_cause sizes ≡ 0) (left : first_cause trees ≡ 0) (marks : List ℕ) (m : marks ≡ zeroed_marks c) where
    pub ends_sums : (r : Bool) → r ≡ sums_fit c.panes c.second_indices → r ≡ false
        → record { answer = refused_join 13; marks = marks; words = c.words; indices = c.indices } ≡ join_of c
    ends_sums r f g =
        refused_as 13 marks (λ i. omega arith) (by_sums none left ∙ first_here [] (sym f ∙ g)) m

    pub ends_joined : (r : Bool) → r ≡ sums_fit c.panes c.second_indices → r ≡ true → (words indices : List ℕ)
        → words ≡ splice c.words 0 (joined_words c.first (first_leaves c) c.second (second_leaves c))
        → indices ≡ splice c.indices 0 (joined_indices c.first_indices c.panes c.second_indices)
        → record { answer = joined (both_leaves c); marks = marks; words = words; indices = indices } ≡ join_of c
    unfolding join_of join_by
    ends_joined r f g words indices w i =
        let none_left : join_cause c ≡ 0 = by_sums none left ∙ first_later 13 [] (sym f ∙ g) ∙ passed_none [] tt in
        rw (none_left, m, w, i) refl
