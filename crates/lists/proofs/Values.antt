-- Laws of a function's first values, and of a list that they are written in front of.
use mathlib.Core.List.{List, [], ◌∷◌, ◌++◌, map, map-append}
use mathlib.Core.Path.{◌≡◌, sym, ap, ◌∙◌}
use Prim.Native.Nat.{ℕ, zero, suc, ◌+◌, ◌≤◌, ◌<◌}
use native.Mathlib.Nat.{zero-add}
use native.Mathlib.Omega.{arith}
use lib.ListN.{length, get_or, length-map}
use lib.Seq.{ext_get_or}
use Rattle.lists.specs.Counts.{upto}
use Rattle.lists.specs.Splice.{splice}
use Rattle.lists.specs.Values.{values}
use Rattle.lists.proofs.Counts.{upto-append, upto-length}
use Rattle.lists.proofs.Splice.{length-splice, splice_in, splice_after}

module _ {A : Type 0} (f : ℕ → A) where
  pub values_length : (k : ℕ) → length (values f k) ≡ k
  values_length k = length-map (upto 0 k) f ∙ upto-length 0 k

  -- from a on
  values_from : (a n i : ℕ) (z : A) → i < n → get_or (map f (upto a n)) i z ≡ f (a + i)
  unfolding upto
  values_from a zero i z h = absurd (omega arith)
  values_from a (suc n) zero z h = ap f (omega arith)
  values_from a (suc n) (suc i) z h = values_from (suc a) n i z (omega arith) ∙ ap f (omega arith)

  pub values_at : (k i : ℕ) (z : A) → i < k → get_or (values f k) i z ≡ f i
  values_at k i z h = values_from 0 k i z h ∙ ap f (omega arith)

  -- one more
  pub values_next : (k : ℕ) → values f (k + 1) ≡ values f k ++ (f k ∷ [])
  unfolding upto
  values_next k = ap (map f) (upto-append 0 k 1) ∙ map-append f (upto 0 k) (upto (0 + k) 1) ∙ ap (λ (j : ℕ). values f k ++ (f j ∷ [])) (omega arith)

-- Two functions that agree below a bound have the same first values.
pub values_same : (f g : ℕ → ℕ) (k : ℕ) → ((i : ℕ) → i < k → f i ≡ g i) → values f k ≡ values g k
values_same f g k h =
    ext_get_or 0 (values f k) (values g k) (values_length f k ∙ sym (values_length g k))
    (λ i l. let m : i < k = omega (arith, l, values_length f k) in values_at f k i 0 m ∙ h i m ∙ sym (values_at g k i 0 m))

-- ---- written in front of a list

module _ {A : Type 0} (s : List A) (f : ℕ → A) (k : ℕ) (fits : k ≤ length s) where
  room : 0 + length (values f k) ≤ length s
  room = omega (arith, values_length f k)

  pub front_length : length (splice s 0 (values f k)) ≡ length s
  front_length = length-splice s 0 (values f k) room

  pub front_at : (i : ℕ) (z : A) → i < k → get_or (splice s 0 (values f k)) i z ≡ f i
  front_at i z h =
      ap (λ (j : ℕ). get_or (splice s 0 (values f k)) j z) (sym (zero-add i))
      ∙ splice_in s 0 (values f k) room i z (omega (arith, values_length f k)) ∙ values_at f k i z h

  pub behind_front : (i : ℕ) (z : A) → k ≤ i → get_or (splice s 0 (values f k)) i z ≡ get_or s i z
  behind_front i z h = splice_after s 0 (values f k) room i z (omega (arith, values_length f k))
