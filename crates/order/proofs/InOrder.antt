-- Without ordering child i takes slot i.
use mathlib.Core.Path.{◌≡◌, refl, sym, ap, ◌∙◌}
use mathlib.Core.Logic.{◌⊎◌, inl, inr}
use mathlib.Core.List.{[], ◌∷◌, ◌++◌}
use Prim.Native.Nat.{ℕ, zero, suc, ◌≤◌, ◌<◌}
use native.Mathlib.Nat.{not-suc-le-zero, le_of_suc-le-suc, eq-or-lt_of_le}
use native.Mathlib.Numerals.{add-one}
use native.Mathlib.Omega.{arith}
use lib.ListN.{length, length-append}
use borrow.Author.Tests.{ne_eqb}
use Rattle.order.specs.Assign.{Pair, slot_of, child_of}
use Rattle.order.specs.Order.{gathered_order}
use Rattle.order.proofs.Lists.{All, all_append}
use Rattle.order.proofs.Partners.{partner-same, partner_other, partner_none, Matched, matched_none, matched_of_more, matched_pair}
use Rattle.order.proofs.Partners.{OneToOne, one_to_one}

abbrev own : ℕ → Pair
own n = record { child = n; slot = n }

-- each pair's two numbers are one, below n
in_order_all : (P : Pair → Type 0) (n : ℕ) → ((i : ℕ) → i < n → P (own i)) → All P (gathered_order n)
unfolding gathered_order
in_order_all P zero h = tt
in_order_all P (suc n) h = all_append P (gathered_order n) (own n ∷ []) (in_order_all P n (λ i l. h i (omega arith))) (h n (omega arith), tt)

pub slot_free : (n : ℕ) → slot_of (gathered_order n) n ≡ 8
slot_free n = partner_none (λ p. p.child) (λ p. p.slot) (gathered_order n) n (in_order_all (λ p. p.child ≡ n → ⊥) n (λ i l e. omega arith))

pub child_free : (n : ℕ) → child_of (gathered_order n) n ≡ 8
child_free n = partner_none (λ p. p.slot) (λ p. p.child) (gathered_order n) n (in_order_all (λ p. p.slot ≡ n → ⊥) n (λ i l e. omega arith))

-- as many pairs as children
pub length_in_order : (n : ℕ) → length (gathered_order n) ≡ n
unfolding gathered_order
length_in_order zero = refl
length_in_order (suc n) = length-append (gathered_order n) (own n ∷ []) ∙ add-one (length (gathered_order n)) ∙ ap suc (length_in_order n)

pub in_order_matched : (n : ℕ) → n ≤ 8 → Matched n (gathered_order n)
unfolding gathered_order
in_order_matched zero h = matched_none 0
in_order_matched (suc n) h = matched_pair (suc n) (gathered_order n) (own n) h (omega arith) (omega arith) (slot_free n) (child_free n)
    (matched_of_more n (suc n) (gathered_order n) (omega arith) (in_order_matched n (omega arith)))

pub in_order_slot : (n c : ℕ) → n ≤ 8 → c < n → slot_of (gathered_order n) c ≡ c
unfolding gathered_order
in_order_slot zero c h l = absurd (not-suc-le-zero l)
in_order_slot (suc n) c h l = go (eq-or-lt_of_le (le_of_suc-le-suc l)) (in_order_slot n c (omega arith))
  where
    go : (c ≡ n) ⊎ (c < n) → (c < n → slot_of (gathered_order n) c ≡ c) → slot_of (gathered_order n ++ (own n ∷ [])) c ≡ c
    go (inl e) r =
        ap (slot_of (gathered_order n ++ (own n ∷ []))) e
        ∙ partner-same (λ p. p.child) (λ p. p.slot) (gathered_order n) (own n) (in_order_all (λ p. p.slot < 8) n (λ i m. omega arith)) (slot_free n)
        ∙ sym e
    go (inr m) r = partner_other (λ p. p.child) (λ p. p.slot) (gathered_order n) (own n) c (λ e. omega arith) ∙ r m

pub in_order_one_to_one : (n : ℕ) → n ≤ 8 → OneToOne n (gathered_order n)
in_order_one_to_one n h =
    one_to_one n (gathered_order n) (in_order_matched n h) (length_in_order n)
    (λ c l. ne_eqb (slot_of (gathered_order n) c) 8 (λ e. omega (arith, in_order_slot n c h l)))
