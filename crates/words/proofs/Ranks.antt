-- What a rank is good for: ranks of set digits rise, so no two set digits have one rank; and the highest set digit is one.
use mathlib.Core.Path.{◌≡◌, sym, ap, ◌∙◌}
use mathlib.Core.Logic.{◌⊎◌, inl, inr, ⊎_elim}
use Prim.Native.Nat.{ℕ, zero, suc, ◌+◌, ◌/◌, ◌%◌, ◌^◌, ◌≤◌, ◌<◌}
use native.Mathlib.Nat.{mod-eq_of_lt, mul-one, le_of_suc-le-suc, eq-or-lt_of_le, not-le_of_lt, lt_of_le_of_lt}
use native.Mathlib.Omega.{arith}
use lib.Pow.{pow_mono}
use lib.Count.{ones}
use Rattle.words.specs.Ones.{ones_below}
use Rattle.words.specs.Fields.{field}
use Rattle.words.specs.Top.{Top}
use Rattle.words.proofs.Fields.{field_is}
use Rattle.words.proofs.Masks.{ones_below_lem}
use Rattle.words.proofs.HighestBit.{top_bit}
use Rattle.words.proofs.Upto.{lt_or_ge}

-- the count of all of a word's digits, in the form that computes
pub ones_word : (w m : ℕ) → m < 2 ^ w → ones m ≡ ones_below w m
ones_word w m h = ap ones (sym (mod-eq_of_lt h)) ∙ ones_below_lem w m

pub bit_is : (j n : ℕ) → field 1 j n ≡ n / 2 ^ j % 2
bit_is j n = field_is 1 j n ∙ ap (λ (x : ℕ). n / 2 ^ x % 2) (mul-one j)

pub rank_step : (k m : ℕ) → ones_below (suc k) m ≡ ones_below k m + field 1 k m
unfolding ones_below
rank_step k m = ap (λ (x : ℕ). ones_below k m + x) (sym (bit_is k m))

pub rank_mono : (j k m : ℕ) → j ≤ k → ones_below j m ≤ ones_below k m
rank_mono j zero m h = let e : j ≡ zero = omega arith in omega (arith, ap (λ (x : ℕ). ones_below x m) e)
rank_mono j (suc k) m h = pick (rank_mono j k m) (eq-or-lt_of_le h)
  where
    pick : (j ≤ k → ones_below j m ≤ ones_below k m) → (j ≡ suc k) ⊎ (j < suc k) → ones_below j m ≤ ones_below (suc k) m
    pick rest (inl e) = omega (arith, ap (λ (x : ℕ). ones_below x m) e)
    pick rest (inr l) = omega (arith, rank_step k m, rest (le_of_suc-le-suc l))

pub rank_lt : (j k m : ℕ) → j < k → field 1 j m ≡ 1 → ones_below j m < ones_below k m
rank_lt j k m h e = omega (arith, rank_step j m, rank_mono (suc j) k m h)

pub rank_inj : (j k m : ℕ) → field 1 j m ≡ 1 → field 1 k m ≡ 1 → ones_below j m ≡ ones_below k m → j ≡ k
rank_inj j k m p q e =
    ⊎_elim (λ l. absurd (omega (arith, rank_lt j k m l p)))
    (λ l. ⊎_elim (λ g. absurd (omega (arith, rank_lt k j m g q))) (λ g. omega arith) (lt_or_ge k j)) (lt_or_ge j k)

-- ---- the highest digit
pub top_set : (w n r : ℕ) → Top w n r → field 1 r n ≡ 1
top_set w n r t = bit_is r n ∙ ap (λ (x : ℕ). x % 2) (top_bit n r t.low t.upper)

pub top_le : (w n r q : ℕ) → Top w n r → Top w n q → r ≤ q
top_le w n r q s t =
    ⊎_elim (λ l. absurd (not-le_of_lt (lt_of_le_of_lt s.low t.upper) (pow_mono {i = q + 1} {j = r} (omega arith)))) (λ l. l) (lt_or_ge q r)

pub top_unique : (w n r q : ℕ) → Top w n r → Top w n q → r ≡ q
top_unique w n r q s t = omega (arith, top_le w n r q s t, top_le w n q r t s)
