-- Equal counts make a permutation, and back. The library's `Perm` goes by unary counts; these laws go by native ones.
use mathlib.Core.Path.{◌≡◌, refl, sym, ap, ◌∙◌}
use mathlib.Core.List.Perm
use mathlib.Core.List.{List, [], ◌∷◌, Perm, perm_iff_count, Nodup}
use mathlib.Core.List
use mathlib.Mathlib.Data.List.Nodup.{Nodup-iff_count-le-one}
use mathlib.Core.Logic.{ite, ◌↔◌}
use mathlib.Core.Nat
use Prim.Native.Nat.{ℕ, suc, ◌+◌, ◌≤◌, ◌<◌}
use native.Mathlib.Omega.{arith}
use native.Mathlib.Decide.{ℕ_discrete, dec_lt}
use lib.ListN.{length}
use Rattle.lists.specs.Counts.{same, count, upto}
use Rattle.lists.proofs.Counts.{same_self, same_apart, count_past, count_among}

-- a unary number as a native one
value : Nat.ℕ → ℕ
value Nat.zero = 0
value (Nat.suc n) = suc (value n)

value_inj : (m n : Nat.ℕ) → value m ≡ value n → m ≡ n
unfolding value
value_inj Nat.zero Nat.zero e = refl
value_inj Nat.zero (Nat.suc n) e = absurd (omega arith)
value_inj (Nat.suc m) Nat.zero e = absurd (omega arith)
value_inj (Nat.suc m) (Nat.suc n) e = ap Nat.suc (value_inj m n (omega arith))

value_le_one : (m : Nat.ℕ) → value m ≤ 1 → Nat.◌≤◌ m Nat.one
unfolding value
value_le_one Nat.zero h = Nat.zero-le
value_le_one (Nat.suc Nat.zero) h = Nat.suc-le-suc Nat.zero-le
value_le_one (Nat.suc (Nat.suc m)) h = absurd (omega arith)

value_below : (m : Nat.ℕ) → Nat.◌≤◌ m Nat.one → value m ≤ 1
unfolding value
value_below Nat.zero h = omega arith
value_below (Nat.suc Nat.zero) h = omega arith
value_below (Nat.suc (Nat.suc m)) (Nat.suc-le-suc h) = absurd (Nat.not-suc-le-zero h)

value_count : (x : ℕ) (l : List ℕ) → value (List.count ℕ_discrete x l) ≡ count x l
unfolding value count
value_count x [] = refl
value_count x (y ∷ l) = pick (ℕ_discrete y x) (value_count x l)
  where
    pick : (d : Dec (y ≡ x)) → value (List.count ℕ_discrete x l) ≡ count x l
        → value (ite {C = Nat.ℕ} d (Nat.suc (List.count ℕ_discrete x l)) (List.count ℕ_discrete x l)) ≡ same x y + count x l
    pick (yes e) h = let i : same x y ≡ 1 = rw e (same_self x) in omega arith
    pick (no e) h = let i = same_apart x y (λ f. e (sym f)) in omega arith

pub counts_perm : (a b : List ℕ) → Perm a b ↔ ((x : ℕ) → count x a ≡ count x b)
counts_perm a b = (
  λ p x. sym (value_count x a) ∙ ap value ((perm_iff_count ℕ_discrete).0 p x) ∙ value_count x b,
  λ h. (perm_iff_count ℕ_discrete).1 (λ x. value_inj _ _ (value_count x a ∙ h x ∙ sym (value_count x b))),
)

pub no_duplicates : (a : List ℕ) → ((x : ℕ) → count x a ≤ 1) → Nodup a
no_duplicates a h = (Nodup-iff_count-le-one ℕ_discrete).1 (λ x. value_le_one _ (omega (arith, value_count x a, h x)))

pub each_once : (a : List ℕ) → Nodup a → (x : ℕ) → count x a ≤ 1
each_once a h x = omega (arith, value_count x a, value_below _ ((Nodup-iff_count-le-one ℕ_discrete).0 h x))

-- a list is 0, 1, .., n − 1 in some order exactly if each of these stands in it once and no other
pub perm_upto : (l : List ℕ) (n : ℕ) → Perm l (upto 0 n) ↔ (((x : ℕ) → x < n → count x l ≡ 1) × ((x : ℕ) → n ≤ x → count x l ≡ 0))
perm_upto l n = (
  λ p. let h = (counts_perm l (upto 0 n)).0 p in (
    λ x k. h x ∙ count_among x 0 n (omega arith) (omega arith),
    λ x k. h x ∙ count_past x 0 n
        (omega arith),
  ),
  λ h. (counts_perm l (upto 0 n)).1 (λ x. pick x h (dec_lt x n)),
)
  where
    pick : (x : ℕ) → ((x : ℕ) → x < n → count x l ≡ 1) × ((x : ℕ) → n ≤ x → count x l ≡ 0) → Dec (x < n) → count x l ≡ count x (upto 0 n)
    pick x h (yes k) = h.0 x k ∙ sym (count_among x 0 n (omega arith) (omega arith))
    pick x h (no k) = h.1 x (omega arith) ∙ sym (count_past x 0 n (omega arith))

value_length : (l : List ℕ) → value (List.length l) ≡ length l
unfolding value
value_length [] = refl
value_length (x ∷ l) = ap suc (value_length l)

pub perm_length : (a b : List ℕ) → Perm a b → length a ≡ length b
perm_length a b p = sym (value_length a) ∙ ap value (Perm.length-eq p) ∙ value_length b
