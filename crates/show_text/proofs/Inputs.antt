-- The text by the tests that are made of the input in turn.
use mathlib.Core.Path.{◌≡◌, refl, sym, ap, ap₂, ◌∙◌}
use mathlib.Core.Bool.{Bool, true, false}
use mathlib.Core.List.{List}
use Prim.Native.Nat.{ℕ, zero, suc, ◌+◌, ◌*◌, ◌≤◌, ◌<◌}
use native.Mathlib.Omega.{arith}
use lib.Dec.{eqb}
use lib.ListN.{length, take}
use borrow.Author.Tests.{lt-ltb, le-ltb, le-leb, lt-leb, eq-eqb, ne_eqb}
use Rattle.lists.specs.Splice.{splice}
use Rattle.words.specs.Le.{le_at}
use Rattle.show.specs.Input.{input_words}
use Rattle.show.specs.Show.{refusal_text}
use Rattle.show.proofs.Words.{length_words}
use Rattle.show_text.specs.ShowText.{most_leaves, tree_size, input_size, tree_words, index_words, tree_text, order_text, leaves_text, show_text}
use Rattle.lists.proofs.Splice.{splice_taken}

-- input that ends within the word n
pub text_short : (input : List ℕ) → length input < 4 → refusal_text 1 ≡ show_text input
unfolding show_text
text_short input h = rw (lt-ltb (length input) 4 h, show_text)

module _ (input : List ℕ) (n : ℕ) (word : 4 ≤ length input) (is : n ≡ le_at 4 input 0) where
  text_leaves : leaves_text input n ≡ show_text input
  unfolding show_text
  text_leaves = ap (leaves_text input) is ∙ sym (ap by (le-ltb (length input) 4 word))
    where
      by : Bool → List ℕ
      by b = elim b [ true ↦ refusal_text 1 | false ↦ leaves_text input (le_at 4 input 0) ]

  pub text_many : most_leaves < n → refusal_text 2 ≡ show_text input
  unfolding leaves_text
  text_many h = sym (ap by (lt-leb n most_leaves h)) ∙ text_leaves
    where
      by : Bool → List ℕ
      by b = elim b [
        | false ↦ refusal_text 2
        | true ↦ elim (eqb (length input) (input_size n))
            [ false ↦ refusal_text 1 | true ↦ order_text (tree_words input n) (index_words input n) (le_at 4 input 4) (le_at 4 input 8) ]
      ]

  module _ (few : n ≤ most_leaves) (k : ℕ) (size : k ≡ tree_size n) where
    by_length : Bool → List ℕ
    by_length b = elim b [ false ↦ refusal_text 1 | true ↦ order_text (tree_words input n) (index_words input n) (le_at 4 input 4) (le_at 4 input 8) ]

    text_length : by_length (eqb (length input) (input_size n)) ≡ show_text input
    unfolding leaves_text by_length
    text_length = sym (ap by (le-leb n most_leaves few)) ∙ text_leaves
      where
        by : Bool → List ℕ
        by b = elim b [ false ↦ refusal_text 2 | true ↦ by_length (eqb (length input) (input_size n)) ]

    -- short or long input
    pub text_unfit : (length input ≡ 12 + 4 * (k + n) → ⊥) → refusal_text 1 ≡ show_text input
    unfolding by_length
    text_unfit h = sym (ap by_length (ne_eqb (length input) (input_size n) (λ e. h (e ∙ ap (λ (x : ℕ). 12 + 4 * (x + n)) (sym size))))) ∙ text_length

    module _ (fit : length input ≡ 12 + 4 * (k + n)) (limit order : ℕ) (limit_is : limit ≡ le_at 4 input 4) (order_is : order ≡ le_at 4 input 8) where
      text_order : order_text (tree_words input n) (index_words input n) limit order ≡ show_text input
      unfolding by_length
      text_order =
          ap₂ (order_text (tree_words input n) (index_words input n)) limit_is order_is
          ∙ sym (ap by_length (eq-eqb (length input) (input_size n) (fit ∙ ap (λ (x : ℕ). 12 + 4 * (x + n)) size)))
          ∙ text_length

      -- order over 1
      pub text_disorder : 1 < order → refusal_text 3 ≡ show_text input
      unfolding order_text
      text_disorder h = go order h ∙ text_order
        where
          go : (o : ℕ) → 1 < o → refusal_text 3 ≡ order_text (tree_words input n) (index_words input n) limit o
          go zero h = absurd (omega arith)
          go (suc zero) h = absurd (omega arith)
          go (suc (suc o)) h = refl

      -- the words that were read
      pub text_tree : order ≤ 1 → (ws is ws₁ is₁ : List ℕ) → ws₁ ≡ splice ws 0 (input_words input 12 k) → is₁
          ≡ splice is 0 (input_words input (12 + 4 * k) n)
          → tree_text (take k ws₁) (take n is₁) limit (eqb order 1) ≡ show_text input
      unfolding order_text
      text_tree h ws is ws₁ is₁ a b =
          ap₂ (λ (x y : List ℕ). tree_text x y limit (eqb order 1))
          (ap (take k) a ∙ splice_taken ws (input_words input 12 k) k (length_words input 12 k) ∙ ap (input_words input 12) size)
          (ap (take n) b ∙ splice_taken is (input_words input (12 + 4 * k) n) n (length_words input (12 + 4 * k) n) ∙ ap
          (λ (x : ℕ). input_words input (12 + 4 * x) n) size)
          ∙ go order h ∙ text_order
        where
          go : (o : ℕ) → o ≤ 1 → tree_text (tree_words input n) (index_words input n) limit (eqb o 1)
              ≡ order_text (tree_words input n) (index_words input n) limit o
          go zero h = refl
          go (suc zero) h = refl
          go (suc (suc o)) h = absurd (omega arith)
