-- The number computed is that of the first cause that holds, where the tests tell of the causes.
use mathlib.Core.Bool.{Bool, true, false, ◌&&◌}
use mathlib.Core.List.{List, [], ◌∷◌, ◌++◌}
use mathlib.Core.Logic.{◌⊎◌, inl, inr, ◌↔◌}
use mathlib.Core.Path.{◌≡◌, refl, sym, subst, ◌∙◌}
use Prim.Native.Nat.{ℕ, zero, suc, ◌≤◌, ◌<◌}
use native.Mathlib.Decide.{dec_lt}
use native.Mathlib.Omega.{arith}
use lib.Dec.{T, eqb, leb, ltb, leb→le, ltb→lt}
use lib.Ieee.Fits.{and_l, and_r}
use lib.ListN.{length}
use Rattle.lists.proofs.Tells.{Tells, passes, fails, clash, eqb_tells}
use Rattle.causes.specs.Causes.{Condition, ◌unless◌, first_cause, order, place_in, place_of, First}
use Rattle.causes.proofs.Causes.{Passed, sorted, none_passed, all_numbers}

-- ---- a number has one place
in_one : (l : List ℕ) (j k : ℕ) → place_in l j ≡ place_in l k → place_in l j < length l → j ≡ k
unfolding place_in
in_one [] j k e h = absurd (omega arith)
in_one (x ∷ l) j k e h = go (eqb x j) (eqb_tells x j) (eqb x k) (eqb_tells x k) e h (in_one l j k)
  where
    at : Bool → ℕ → ℕ
    at a m = elim a [ true ↦ 0 | false ↦ suc m ]

    go : (a : Bool) → Tells (x ≡ j) a → (b : Bool) → Tells (x ≡ k) b → at a (place_in l j) ≡ at b (place_in l k)
        → at a (place_in l j) < suc (length l)
        → (place_in l j ≡ place_in l k → place_in l j < length l → j ≡ k) → j ≡ k
    go true (passes p) true (passes q) e h r = sym p ∙ q
    go true (passes p) false (fails q) e h r = absurd (omega arith)
    go false (fails p) true (passes q) e h r = absurd (omega arith)
    go false (fails p) false (fails q) e h r = r (omega arith) (omega arith)

place_one : (j k : ℕ) → place_of j ≡ place_of k → place_of j < length order → j ≡ k
unfolding place_of
place_one j k e h = in_one order j k e h

-- ---- what the tests tell

-- a test that fails where those before it pass shows its cause
abbrev pub Shows : (ℕ → Type 0) → List Condition → Type 0
Shows P [] = Unit {0}
Shows P (k unless b ∷ l) = (b ≡ false → P k) × (b ≡ true → Shows P l)

-- some test fails, of a cause that is looked at no later than cause j
abbrev pub Fails : ℕ → List Condition → Type 0
Fails j [] = ⊥
Fails j (k unless b ∷ l) = ((b ≡ false) × T (leb (place_of k) (place_of j))) ⊎ Fails j l

pub passed_fails : (j : ℕ) (l : List Condition) → Passed l → Fails j l → ⊥
passed_fails j [] h f = f
passed_fails j (k unless b ∷ l) h (inl f) = clash (sym f.0 ∙ h.0)
passed_fails j (k unless b ∷ l) h (inr f) = passed_fails j l h.1 f

-- in one list behind another
pub shows_append : (P : ℕ → Type 0) (l m : List Condition) → Shows P l → (Passed l → Shows P m) → Shows P (l ++ m)
shows_append P [] m h g = g tt
shows_append P (k unless b ∷ l) m h g = (h.0, λ e. shows_append P l m (h.1 e) (λ p. g (e, p)))

pub shows_as : (P Q : ℕ → Type 0) → ((k : ℕ) → P k → Q k) → (l : List Condition) → Shows P l → Shows Q l
shows_as P Q f [] h = tt
shows_as P Q f (k unless b ∷ l) h = (λ e. f k (h.0 e), λ e. shows_as P Q f l (h.1 e))

pub fails_first : (j : ℕ) (l m : List Condition) → Fails j l → Fails j (l ++ m)
fails_first j [] m f = absurd f
fails_first j (k unless b ∷ l) m (inl f) = inl f
fails_first j (k unless b ∷ l) m (inr f) = inr (fails_first j l m f)

pub fails_later : (j : ℕ) (l m : List Condition) → Fails j m → Fails j (l ++ m)
fails_later j [] m f = f
fails_later j (k unless b ∷ l) m f = inr (fails_later j l m f)

pub fails_parts : (j : ℕ) (l m : List Condition) → Fails j (l ++ m) → Fails j l ⊎ Fails j m
fails_parts j [] m f = inr f
fails_parts j (k unless b ∷ l) m (inl f) = inl (inl f)
fails_parts j (k unless b ∷ l) m (inr f) = pick (fails_parts j l m f)
  where
    pick : Fails j l ⊎ Fails j m → Fails j (k unless b ∷ l) ⊎ Fails j m
    pick (inl g) = inl (inr g)
    pick (inr g) = inr g

-- where a cause is found among those that are looked at no later than cause j
pub found_fails : (j : ℕ) (l : List Condition) → T (all_numbers (λ k. leb (place_of k) (place_of j)) l) → (first_cause l ≡ 0 → ⊥) → Fails j l
unfolding first_cause all_numbers
found_fails j [] h n = absurd (n refl)
found_fails j (k unless true ∷ l) h n =
    inr (found_fails j l (and_r (leb (place_of k) (place_of j)) (all_numbers (λ i. leb (place_of i) (place_of j)) l) h) n)
found_fails j (k unless false ∷ l) h n = inl (refl, and_l (leb (place_of k) (place_of j)) (all_numbers (λ i. leb (place_of i) (place_of j)) l) h)

-- ---- the first that fails
fails_after : (p j : ℕ) (l : List Condition) → T (sorted p l) → Fails j l → p ≤ place_of j
unfolding sorted
fails_after p j [] s f = absurd f
fails_after p j (k unless b ∷ l) s f =
    let x = leb p (place_of k) in
    let y = ltb (place_of k) (length order) in
    let here = leb→le p (place_of k) (and_l x y (and_l (x && y) (sorted (place_of k) l) s)) in
    go here f (fails_after (place_of k) j l (and_r (x && y) (sorted (place_of k) l) s))
  where
    go : p ≤ place_of k → Fails j (k unless b ∷ l) → (Fails j l → place_of k ≤ place_of j) → p ≤ place_of j
    go h (inl f) r = omega (arith, leb→le (place_of k) (place_of j) f.1)
    go h (inr f) r = omega (arith, r f)

record Lowest (P : ℕ → Type 0) (l : List Condition) (c : ℕ) : Type 0 where
  holds : P c
  placed : place_of c < length order
  least : (j : ℕ) → Fails j l → place_of c ≤ place_of j

lowest : (P : ℕ → Type 0) (p : ℕ) (l : List Condition) → T (sorted p l) → Shows P l → (first_cause l ≡ 0 → ⊥) → Lowest P l (first_cause l)
unfolding first_cause sorted
lowest P p [] s h n = absurd (n refl)
lowest P p (k unless true ∷ l) s h n =
    let r = lowest P (place_of k) l (and_r (leb p (place_of k) && ltb (place_of k) (length order)) (sorted (place_of k) l) s) (h.1 refl) n in
    record { holds = r.holds; placed = r.placed; least = λ j f. skip j (r.least j) f }
  where
    skip : (j : ℕ) {c : ℕ} → (Fails j l → c ≤ place_of j) → Fails j (k unless true ∷ l) → c ≤ place_of j
    skip j r (inl f) = clash (sym f.0)
    skip j r (inr f) = r f
lowest P p (k unless false ∷ l) s h n =
    let x = leb p (place_of k) in
    let y = ltb (place_of k) (length order) in
    let after = and_r (x && y) (sorted (place_of k) l) s in
    let there = and_r x y (and_l (x && y) (sorted (place_of k) l) s) in
    record { holds = h.0 refl; placed = ltb→lt (place_of k) (length order) there; least = λ j f. here j after f }
  where
    here : (j : ℕ) → T (sorted (place_of k) l) → Fails j (k unless false ∷ l) → place_of k ≤ place_of j
    here j s (inl f) = leb→le (place_of k) (place_of j) f.1
    here j s (inr f) = fails_after (place_of k) j l s f

-- The list is in order, a test that fails shows its cause, and a cause that holds makes a test fail no later than its own.
module _ (P : ℕ → Type 0) (l : List Condition) (ordered : T (sorted 0 l)) (shown : Shows P l) (met : (j : ℕ) → P j → Fails j l) where
  -- then the number is 0 exactly if no cause holds,
  pub first_none : first_cause l ≡ 0 ↔ ((j : ℕ) → P j → ⊥)
  first_none = (λ e j h. passed_fails j l (none_passed 0 l ordered e) (met j h), λ h. go (first_cause l) refl h)
    where
      go : (c : ℕ) → first_cause l ≡ c → ((j : ℕ) → P j → ⊥) → first_cause l ≡ 0
      go zero e h = e
      go (suc c) e h = absurd (h (first_cause l) (lowest P 0 l ordered shown (λ z. omega (arith, z, e))).holds)

  -- and any other number exactly if it is that of the first cause
  pub first_is : (k : ℕ) → ((first_cause l ≡ k) × (0 < k)) ↔ First P k
  first_is k = (λ h. to h.0 h.1, λ f. let e = from (first_cause l) refl f in (e, some e f))
    where
      to : first_cause l ≡ k → 0 < k → First P k
      to e pos =
          let r = lowest P 0 l ordered shown (λ z. omega (arith, z, e)) in
          subst (First P) e (r.holds, λ j b h. omega (arith, r.least j (met j h), b))

      same : First P k → Lowest P l (first_cause l) → Dec (place_of (first_cause l) < place_of k) → first_cause l ≡ k
      same f r (yes b) = absurd (f.1 (first_cause l) b r.holds)
      same f r (no b) = place_one (first_cause l) k (omega (arith, r.least k (met k f.0))) r.placed

      from : (c : ℕ) → first_cause l ≡ c → First P k → first_cause l ≡ k
      from zero e f = absurd (first_none.0 e k f.0)
      from (suc c) e f =
          same f (lowest P 0 l ordered shown (λ z. omega (arith, z, e))) (dec_lt (place_of (first_cause l)) (place_of k))

      some : first_cause l ≡ k → First P k → 0 < k
      some e f = go (dec_lt 0 k)
        where
          go : Dec (0 < k) → 0 < k
          go (yes h) = h
          go (no h) = absurd (first_none.0 (omega (arith, e, h)) k f.0)

-- ---- answers by the first cause

-- An answer is given where no test of a list fails, else it is refused with the first cause's number; and it is not both.
pub record ByCause (Refused : ℕ → Type 0) (Given : Type 0) (l : List Condition) : Type 0 where
  pub gives : first_cause l ≡ 0 → Given
  pub refuses : 0 < first_cause l → Refused (first_cause l)
  pub one : (j k : ℕ) → Refused j → Refused k → j ≡ k
  pub not_both : (k : ℕ) → Refused k → Given → ⊥

module _ {Refused : ℕ → Type 0} {Given : Type 0} {l : List Condition} (A : ByCause Refused Given l) (P : ℕ → Type 0) (ordered : T (sorted 0 l))
    (shown : Shows P l) (met : (j : ℕ) → P j → Fails j l) where
  -- So the number refused is the first cause's,
  pub refused_first : (k : ℕ) → Refused k ↔ First P k
  refused_first k = (
    to (first_cause l) refl,
    λ f. let i = (first_is P l ordered shown met k).1 f in subst Refused i.0 (A.refuses (omega (arith, i.0, i.1))),
  )
    where
      to : (c : ℕ) → first_cause l ≡ c → Refused k → First P k
      to zero e r = absurd (A.not_both k r (A.gives e))
      to (suc c) e r = let i = A.one (first_cause l) k (A.refuses (omega arith)) r in (first_is P l ordered shown met k).0 (i, omega arith)

  -- and an answer is given exactly if no cause holds.
  pub given_none : Given ↔ ((j : ℕ) → P j → ⊥)
  given_none = (to (first_cause l) refl, λ h. A.gives ((first_none P l ordered shown met).1 h))
    where
      to : (c : ℕ) → first_cause l ≡ c → Given → (j : ℕ) → P j → ⊥
      to zero e g = (first_none P l ordered shown met).0 e
      to (suc c) e g = absurd (A.not_both (first_cause l) (A.refuses (omega arith)) g)
