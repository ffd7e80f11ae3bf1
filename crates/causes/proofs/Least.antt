-- The derived order of refusals is that of their numbers.
use mathlib.Core.List.{List, [], ◌∷◌}
use mathlib.Core.Path.{◌≡◌, refl}
use Prim.Native.Nat.{min}
use native.Mathlib.Omega.{arith}
use lib.Dec.{ltb→lt}
use lib.IntN.{ℤ, pos}
use Rattle.std.specs.Prelude.{cond}
use Rattle.std.specs.Ordering.{ord_min, is_lt, int_cmp}
use Rattle.std.specs.declared.cmp.Ordering.{Ordering}
use Rattle.std.specs.declared.cmp.Ordering.TheVariants as O
use Rattle.std.specs.Cmp.Derive.{number}
use Rattle.std.proofs.lemmas.Cmp.{int_ranked}
use Rattle.causes.specs.declared.Refusal.{Refusal}
use Rattle.causes.specs.declared.Refusal.TheVariants as R
use Rattle.causes.specs.contracts.Refusal.{the_type}
use Rattle.causes.specs.contracts.RefusalOrd.TheImpl.{cmp-value}
use Rattle.causes.specs.Refusal.{cause_number}

-- the numbers that the order compares
numbers : List ℤ
numbers = pos 1 ∷ pos 2 ∷ pos 3 ∷ pos 4 ∷ pos 5 ∷ pos 6 ∷ pos 7 ∷ pos 8 ∷ pos 9 ∷ pos 10 ∷ pos 12 ∷ pos 13 ∷ pos 14 ∷ []

number_is : (f : Refusal) → number the_type numbers f ≡ pos (cause_number f)
unfolding numbers
number_is R.LengthUnfit = refl
number_is R.TooMany = refl
number_is R.LimitOver = refl
number_is R.SliceShort = refl
number_is R.LinkOutside = refl
number_is R.BoxRefused = refl
number_is R.NotOneTree = refl
number_is R.TooDeep = refl
number_is R.RayRefused = refl
number_is R.Fault = refl
number_is R.LossesUnfit = refl
number_is R.IndexOver = refl
number_is R.SpansUnfit = refl

ordered : (f g : Refusal) → cmp-value.it f g ≡ int_cmp (pos (cause_number f)) (pos (cause_number g))
unfolding numbers
ordered f g = λ i. int_cmp (number_is f i) (number_is g i)

-- of two, the lesser has the lesser number
pub least : (f g : Refusal) → cause_number (ord_min cmp-value.it f g) ≡ min (cause_number f) (cause_number g)
least f g = go (cmp-value.it g f) (ordered g f)
  where
    go : (o : Ordering) → o ≡ int_cmp (pos (cause_number g)) (pos (cause_number f)) → cause_number (cond (is_lt o) g f)
        ≡ min (cause_number f) (cause_number g)
    go O.Less e =
        let h = ltb→lt (cause_number g) (cause_number f) (int_ranked (pos (cause_number g)) (pos (cause_number f)) O.Less e).lt in omega arith
    go O.Equal e =
        let h : pos (cause_number g) ≡ pos (cause_number f) = int_ranked (pos (cause_number g)) (pos (cause_number f)) O.Equal e in
        let i : cause_number g ≡ cause_number f = cc in
        omega arith
    go O.Greater e =
        let h = ltb→lt (cause_number f) (cause_number g) (int_ranked (pos (cause_number g)) (pos (cause_number f)) O.Greater e).lt in omega arith
