-- Lists of conditions by the tests in turn, appended, and where all pass.
use mathlib.Core.Bool.{Bool, true, false, ◌&&◌}
use mathlib.Core.List.{List, [], ◌∷◌, ◌++◌}
use mathlib.Core.Logic.{◌⊎◌, inl, inr}
use mathlib.Core.Path.{◌≡◌, refl, sym, ap, subst, ◌∙◌}
use Prim.Native.Nat.{ℕ, zero, suc}
use native.Mathlib.Omega.{arith}
use borrow.Author.Tests.{ne_eqb}
use lib.Dec.{T, leb, ltb}
use lib.Ieee.Fits.{and_l, and_r}
use lib.ListN.{length}
use Rattle.lists.proofs.Tells.{clash}
use Rattle.causes.specs.Causes.{Condition, ◌unless◌, first_cause, given, order, place_in, place_of}

-- ---- by the tests in turn
pub first_here : {k : ℕ} {b : Bool} (l : List Condition) → b ≡ false → first_cause (k unless b ∷ l) ≡ k
unfolding first_cause
first_here {k} l e = ap (λ (x : Bool). first_cause (k unless x ∷ l)) e

pub first_later : (k : ℕ) {b : Bool} (l : List Condition) → b ≡ true → first_cause (k unless b ∷ l) ≡ first_cause l
unfolding first_cause
first_later k l e = ap (λ (x : Bool). first_cause (k unless x ∷ l)) e

-- ---- all tests pass
abbrev pub Passed : List Condition → Type 0
Passed [] = Unit {0}
Passed (k unless b ∷ l) = (b ≡ true) × Passed l

pub passed_none : (l : List Condition) → Passed l → first_cause l ≡ 0
unfolding first_cause
passed_none [] h = refl
passed_none (k unless true ∷ l) h = passed_none l h.1
passed_none (k unless false ∷ l) h = clash h.0

-- the numbers of a list stand in the order of causes, none before place p
unfoldable pub sorted : ℕ → List Condition → Bool
unfolding place_of
sorted p [] = true
sorted p (k unless b ∷ l) = leb p (place_of k) && ltb (place_of k) (length order) && sorted (place_of k) l

-- so no number is 0
pub none_passed : (p : ℕ) (l : List Condition) → T (sorted p l) → first_cause l ≡ 0 → Passed l
unfolding first_cause sorted place_of order place_in
none_passed p [] s e = tt
none_passed p (k unless true ∷ l) s e =
    (refl, none_passed (place_of k) l (and_r (leb p (place_of k) && ltb (place_of k) (length order)) (sorted (place_of k) l) s) e)
none_passed p (k unless false ∷ l) s e =
    let a = leb p (place_of k) in
    let b = ltb (place_of k) (length order) in
    absurd (subst (λ (x : ℕ). T (ltb (place_of x) (length order))) e (and_r a b (and_l (a && b) (sorted (place_of k) l) s)))

-- ---- one list behind another
pub append_first : (l m : List Condition) → (first_cause l ≡ 0 → ⊥) → first_cause (l ++ m) ≡ first_cause l
unfolding first_cause
append_first [] m h = absurd (h refl)
append_first (k unless true ∷ l) m h = append_first l m h
append_first (k unless false ∷ l) m h = refl

pub append_later : (l m : List Condition) → Passed l → first_cause (l ++ m) ≡ first_cause m
unfolding first_cause
append_later [] m h = refl
append_later (k unless true ∷ l) m h = append_later l m h.1
append_later (k unless false ∷ l) m h = clash h.0

pub passed_append : (l m : List Condition) → Passed l → Passed m → Passed (l ++ m)
passed_append [] m h g = g
passed_append (k unless b ∷ l) m h g = (h.0, passed_append l m h.1 g)

pub passed_parts : (l m : List Condition) → Passed (l ++ m) → Passed l × Passed m
passed_parts [] m h = (tt, h)
passed_parts (k unless b ∷ l) m h = let r = passed_parts l m h.1 in ((h.0, r.0), r.1)

-- a cause found elsewhere counts as its conditions would in its place
pub given-same : (l m r : List Condition) → T (sorted 0 m) → first_cause (l ++ given (first_cause m) ∷ r) ≡ first_cause (l ++ (m ++ r))
unfolding first_cause
given-same (k unless true ∷ l) m r s = given-same l m r s
given-same (k unless false ∷ l) m r s = refl
given-same [] m r s = go (first_cause m) refl
  where
    go : (k : ℕ) → first_cause m ≡ k → first_cause (given k ∷ r) ≡ first_cause (m ++ r)
    go zero e = sym (append_later m r (none_passed 0 m s e))
    go (suc k) e = first_here r (ne_eqb (suc k) 0 (λ z. omega arith)) ∙ sym (append_first m r (λ z. omega (arith, e, z)) ∙ e)

-- ---- which numbers
unfoldable pub all_numbers : (ℕ → Bool) → List Condition → Bool
all_numbers p [] = true
all_numbers p (k unless b ∷ l) = p k && all_numbers p l

pub first_among : (p : ℕ → Bool) (l : List Condition) → T (all_numbers p l) → (first_cause l ≡ 0) ⊎ T (p (first_cause l))
unfolding first_cause all_numbers
first_among p [] h = inl refl
first_among p (k unless true ∷ l) h = first_among p l (and_r (p k) (all_numbers p l) h)
first_among p (k unless false ∷ l) h = inr (and_l (p k) (all_numbers p l) h)
