-- Laws of the words read.
use mathlib.Core.Path.{◌≡◌, refl, ap}
use mathlib.Core.List.{List, [], ◌∷◌, ◌++◌}
use Prim.Native.Nat.{ℕ, zero, suc, ◌+◌, ◌*◌}
use native.Mathlib.Nat.{add-zero}
use native.Mathlib.Omega.{arith}
use lib.ListN.{length}
use Rattle.words.specs.Le.{le_at}
use Rattle.show.specs.Input.{input_words}

pub length_words : (input : List ℕ) (at n : ℕ) → length (input_words input at n) ≡ n
unfolding input_words
length_words input at zero = refl
length_words input at (suc n) = ap suc (length_words input (at + 4) n)

-- one word more
pub words_more : (input : List ℕ) (at k : ℕ) → input_words input at (suc k) ≡ input_words input at k ++ (le_at 4 input (at + 4 * k) ∷ [])
unfolding input_words
words_more input at zero = rw add-zero refl
words_more input at (suc k) =
    let e : at + 4 * suc k ≡ at + 4 + 4 * k = omega arith in
    rw e (ap (λ (l : List ℕ). le_at 4 input at ∷ l) (words_more input (at + 4) k))
