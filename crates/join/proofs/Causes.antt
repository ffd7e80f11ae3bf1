-- The causes of two trees, each looked at by itself, and those of both together.
use mathlib.Core.Bool.{Bool, true, false, ◌&&◌}
use mathlib.Core.List.{List, [], ◌∷◌}
use mathlib.Core.Logic.{◌⊎◌, inl, inr}
use mathlib.Core.Path.{◌≡◌, refl, sym, ap₂, ◌∙◌}
use Prim.Native.Nat.{ℕ, zero, suc, ◌+◌, ◌*◌, ◌<◌, ◌≤◌, min}
use native.Mathlib.Omega.{arith}
use lib.Dec.{leb, eqb}
use borrow.Author.Tests.{le-leb, lt-leb, leb-false}
use Rattle.lists.specs.Below.{all_below}
use Rattle.lists.proofs.Tells.{clash}
use Rattle.causes.specs.Causes.{Condition, ◌unless◌, first_cause}
use Rattle.bvh2.specs.Words.{tree_nodes}
use Rattle.bvh2.specs.FirstCause.{size_conditions, sizes_cause, links_inside, boxes_accepted, structure_conditions, structure_cause}
use Rattle.join.specs.Join.{room_for, size_tests, tree_or_none, edge_to_spare, tree_tests}
use Rattle.join.specs.Steps.{lesser_cause}

-- ---- the lesser of two causes
pub lesser_none : (a b : ℕ) → a ≡ 0 → b ≡ lesser_cause a b
unfolding lesser_cause
lesser_none zero b e = refl
lesser_none (suc a) b e = absurd (omega arith)

pub lesser_alone : (a b : ℕ) → (a ≡ 0 → ⊥) → b ≡ 0 → a ≡ lesser_cause a b
unfolding lesser_cause
lesser_alone zero b h e = absurd (h refl)
lesser_alone (suc a) zero h e = refl
lesser_alone (suc a) (suc b) h e = absurd (omega arith)

pub lesser_both : (a b : ℕ) → (a ≡ 0 → ⊥) → (b ≡ 0 → ⊥) → min a b ≡ lesser_cause a b
unfolding lesser_cause
lesser_both zero b h k = absurd (h refl)
lesser_both (suc a) zero h k = absurd (k refl)
lesser_both (suc a) (suc b) h k = refl

-- ---- the same tests of two things, in one order: the first cause of both is the lesser of their first causes

-- a number with the test of each
abbrev Test : Type 0
Test = ℕ × Bool × Bool

unfoldable tests_by : (Test → Bool) → List Test → List Condition
tests_by f [] = []
tests_by f (t ∷ l) = t.0 unless f t ∷ tests_by f l

abbrev of_first : Test → Bool
of_first t = t.1

abbrev of_second : Test → Bool
of_second t = t.2

abbrev of_both : Test → Bool
of_both t = t.1 && t.2

-- the numbers rise, from over k on
unfoldable Over : ℕ → List Test → Type 0
Over k [] = Unit {0}
Over k (t ∷ l) = (k < t.0) × Over t.0 l

first_over : (f : Test → Bool) (k : ℕ) (l : List Test) → Over k l → (first_cause (tests_by f l) ≡ 0) ⊎ (k < first_cause (tests_by f l))
unfolding Over tests_by first_cause
first_over f k [] h = inl refl
first_over f k (t ∷ l) h = go (f t) (first_over f t.0 l h.1)
  where
    go : (b : Bool) → (first_cause (tests_by f l) ≡ 0) ⊎ (t.0 < first_cause (tests_by f l))
        → (first_cause (t.0 unless b ∷ tests_by f l) ≡ 0) ⊎ (k < first_cause (t.0 unless b ∷ tests_by f l))
    go true (inl e) = inl e
    go true (inr g) = inr (omega (arith, h.0))
    go false r = inr h.0

lesser_left : (k c : ℕ) → 0 < k → (c ≡ 0) ⊎ (k < c) → lesser_cause k c ≡ k
lesser_left k c h (inl e) = sym (lesser_alone k c (λ z. omega arith) e)
lesser_left k c h (inr g) = let i = lesser_both k c (λ z. omega arith) (λ z. omega arith) in omega arith

lesser_right : (c k : ℕ) → 0 < k → (c ≡ 0) ⊎ (k < c) → lesser_cause c k ≡ k
lesser_right c k h (inl e) = sym (lesser_none c k e)
lesser_right c k h (inr g) = let i = lesser_both c k (λ z. omega arith) (λ z. omega arith) in omega arith

lesser_first : (k : ℕ) (l : List Test) → Over k l
    → lesser_cause (first_cause (tests_by of_first l)) (first_cause (tests_by of_second l)) ≡ first_cause (tests_by of_both l)
unfolding Over tests_by first_cause lesser_cause
lesser_first k [] h = refl
lesser_first k ((j, true, true) ∷ l) h = lesser_first j l h.1
lesser_first k ((j, true, false) ∷ l) h = lesser_right (first_cause (tests_by of_first l)) j (omega (arith, h.0)) (first_over of_first j l h.1)
lesser_first k ((j, false, true) ∷ l) h = lesser_left j (first_cause (tests_by of_second l)) (omega (arith, h.0)) (first_over of_second j l h.1)
lesser_first k ((j, false, false) ∷ l) h = let i = lesser_both j j (λ z. omega (arith, h.0)) (λ z. omega (arith, h.0)) in omega arith

-- ---- sizes

module _ (a n b m : ℕ) where
  -- of both trees by themselves: their lengths, and the leaves of each
  sizes_both : lesser_cause (sizes_cause a n) (sizes_cause b m)
      ≡ first_cause (1 unless (eqb a (tree_nodes n * 7) && eqb b (tree_nodes m * 7)) ∷ 2 unless (leb n 65536 && leb m 65536) ∷ [])
  unfolding size_conditions tests_by Over
  sizes_both =
      lesser_first 0 ((1, eqb a (tree_nodes n * 7), eqb b (tree_nodes m * 7)) ∷ (2, leb n 65536, leb m 65536) ∷ []) (omega arith, (omega arith, tt))

  -- one leaf too many of a single tree is one too many of both
  each_over : leb n 65536 && leb m 65536 ≡ false → leb (n + m) 65536 ≡ false
  each_over e = go (leb n 65536) refl (leb m 65536) refl e
    where
      go : (p : Bool) → leb n 65536 ≡ p → (q : Bool) → leb m 65536 ≡ q → p && q ≡ false → leb (n + m) 65536 ≡ false
      go false i q j h = lt-leb (n + m) 65536 (omega (arith, leb-false n 65536 i))
      go true i false j h = lt-leb (n + m) 65536 (omega (arith, leb-false m 65536 j))
      go true i true j h = absurd (clash (sym h))

  module _ (marks words indices : ℕ) where
    -- a cause found so is the first of the call's,
    pub sizes_found : (k : ℕ) → k ≡ lesser_cause (sizes_cause a n) (sizes_cause b m) → (k ≡ 0 → ⊥)
        → k ≡ first_cause (size_tests a n b m marks words indices)
    unfolding size_tests first_cause
    sizes_found k e h = go (eqb a (tree_nodes n * 7) && eqb b (tree_nodes m * 7)) refl (leb n 65536 && leb m 65536) refl (e ∙ sizes_both)
      where
        go : (p : Bool) → eqb a (tree_nodes n * 7) && eqb b (tree_nodes m * 7) ≡ p → (q : Bool) → leb n 65536 && leb m 65536 ≡ q
            → k ≡ first_cause (1 unless p ∷ 2 unless q ∷ [])
            → k ≡ first_cause (1 unless p ∷ 2 unless leb (n + m) 65536 ∷ 4 unless room_for n m marks words indices ∷ [])
        go false i q j f = f
        go true i false j f = f ∙ rw (each_over j) refl
        go true i true j f = absurd (h f)

    -- and where none is, that of all leaves comes next, and then that of the room
    module _ (none : lesser_cause (sizes_cause a n) (sizes_cause b m) ≡ 0) where
      sizes_left : first_cause (size_tests a n b m marks words indices)
          ≡ first_cause (2 unless leb (n + m) 65536 ∷ 4 unless room_for n m marks words indices ∷ [])
      unfolding size_tests first_cause
      sizes_left = go (eqb a (tree_nodes n * 7) && eqb b (tree_nodes m * 7)) (leb n 65536 && leb m 65536) (sym sizes_both ∙ none)
        where
          go : (p q : Bool) → first_cause (1 unless p ∷ 2 unless q ∷ []) ≡ 0
              → first_cause (1 unless p ∷ 2 unless leb (n + m) 65536 ∷ 4 unless room_for n m marks words indices ∷ [])
              ≡ first_cause (2 unless leb (n + m) 65536 ∷ 4 unless room_for n m marks words indices ∷ [])
          go false q f = absurd (omega arith)
          go true q f = refl

      pub sizes_many : 65536 < n + m → 2 ≡ first_cause (size_tests a n b m marks words indices)
      unfolding first_cause
      sizes_many h = rw (sizes_left, lt-leb (n + m) 65536 h) refl

      pub sizes_short : n + m ≤ 65536 → (r : Bool) → r ≡ room_for n m marks words indices → r ≡ false
          → 4 ≡ first_cause (size_tests a n b m marks words indices)
      unfolding first_cause
      sizes_short h r f g = rw (sizes_left, le-leb (n + m) 65536 h, ← f, g) refl

      pub sizes_pass : n + m ≤ 65536 → (r : Bool) → r ≡ room_for n m marks words indices → r ≡ true
          → 0 ≡ first_cause (size_tests a n b m marks words indices)
      unfolding first_cause
      sizes_pass h r f g = rw (sizes_left, le-leb (n + m) 65536 h, ← f, g) refl

-- ---- structure

-- a tree's causes 5 to 7, an empty one's too
pub structure_tests : (ws : List ℕ) (n : ℕ)
    → structure_cause ws n ≡ first_cause (5 unless links_inside ws n ∷ 6 unless boxes_accepted ws n ∷ 7 unless tree_or_none ws n ∷ [])
unfolding structure_conditions tree_or_none first_cause all_below
structure_tests ws zero = refl
structure_tests ws (suc n) = refl

module _ (ws : List ℕ) (n : ℕ) (us : List ℕ) (m : ℕ) where
  abbrev links : Bool
  links = links_inside ws n && links_inside us m

  abbrev boxes : Bool
  boxes = boxes_accepted ws n && boxes_accepted us m

  abbrev trees : Bool
  trees = tree_or_none ws n && tree_or_none us m

  structures_both : lesser_cause (structure_cause ws n) (structure_cause us m) ≡ first_cause (5 unless links ∷ 6 unless boxes ∷ 7 unless trees ∷ [])
  unfolding tests_by Over
  structures_both =
      ap₂ lesser_cause (structure_tests ws n) (structure_tests us m)
      ∙ lesser_first 0
      (
      (5, links_inside ws n, links_inside us m) ∷ (6, boxes_accepted ws n, boxes_accepted us m) ∷ (7, tree_or_none ws n, tree_or_none us m) ∷ []
      )
      (omega arith, (omega arith, (omega arith, tt)))

  -- a cause found so is the first of the call's,
  pub trees_found : (k : ℕ) → k ≡ lesser_cause (structure_cause ws n) (structure_cause us m) → (k ≡ 0 → ⊥) → k ≡ first_cause (tree_tests ws n us m)
  unfolding tree_tests first_cause
  trees_found k e h = go links boxes trees (edge_to_spare ws n us m) (e ∙ structures_both)
    where
      go : (x y z w : Bool) → k ≡ first_cause (5 unless x ∷ 6 unless y ∷ 7 unless z ∷ [])
          → k ≡ first_cause (5 unless x ∷ 6 unless y ∷ 7 unless (z && w) ∷ [])
      go false y z w f = f
      go true false z w f = f
      go true true false w f = f
      go true true true w f = absurd (h f)

  -- and where none is, the edge to the new root comes next
  module _ (none : lesser_cause (structure_cause ws n) (structure_cause us m) ≡ 0) where
    trees_left : first_cause (tree_tests ws n us m) ≡ first_cause (7 unless edge_to_spare ws n us m ∷ [])
    unfolding tree_tests first_cause
    trees_left = go links boxes trees (sym structures_both ∙ none)
      where
        go : (x y z : Bool) → first_cause (5 unless x ∷ 6 unless y ∷ 7 unless z ∷ []) ≡ 0
            → first_cause (5 unless x ∷ 6 unless y ∷ 7 unless (z && edge_to_spare ws n us m) ∷ [])
            ≡ first_cause (7 unless edge_to_spare ws n us m ∷ [])
        go false y z f = absurd (omega arith)
        go true false z f = absurd (omega arith)
        go true true false f = absurd (omega arith)
        go true true true f = refl

    pub trees_deep : (r : Bool) → r ≡ edge_to_spare ws n us m → r ≡ false → 7 ≡ first_cause (tree_tests ws n us m)
    unfolding first_cause
    trees_deep r f g = rw (trees_left, ← f, g) refl

    pub trees_pass : (r : Bool) → r ≡ edge_to_spare ws n us m → r ≡ true → 0 ≡ first_cause (tree_tests ws n us m)
    unfolding first_cause
    trees_pass r f g = rw (trees_left, ← f, g) refl
