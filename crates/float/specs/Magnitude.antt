-- Internal: how large a float is: bounds a / c on its size, as the laws of `proofs/Magnitude.antt` carry them through sums, products and quotients.
-- `fin s m e` is ±m * 2 ^ e, and 2 ^ e is the fraction up e / down e.
use Rattle.std.specs.Prelude.{◌≡◌, true, false, ℕ, ◌*◌, ◌^◌, ◌≤◌, ◌<◌, Float}
use Rattle.std.specs.Float.{nan, inf, fin, Format}
use Rattle.std.specs.Float.Ieee.{prec, low, up, down}
use Rattle.std.specs.Float.Ieee.Scale.{overflow}

-- x is finite, and its size is at most a / c
abbrev pub AtMost : Float → ℕ → ℕ → Type 0
AtMost nan a c = ⊥
AtMost (inf s) a c = ⊥
AtMost (fin s m e) a c = m * up e * c ≤ a * down e

-- x is finite, 0 ≤ x ≤ a / c; -0 is 0
abbrev pub Upto : Float → ℕ → ℕ → Type 0
Upto nan a c = ⊥
Upto (inf s) a c = ⊥
Upto (fin false m e) a c = m * up e * c ≤ a * down e
Upto (fin true m e) a c = m ≡ 0

-- the format holds a / c: it is q * 2 ^ j of the smallest values, q of no more digits than the format keeps, below the overflow
pub record Held (f : Format) (a c : ℕ) : Type 0 where
  pub q : ℕ
  pub j : ℕ
  pub few : q < 2 ^ prec f
  pub under : q * 2 ^ j < overflow f
  pub is : a * 2 ^ low f ≡ q * 2 ^ j * c

-- x is finite, and |x| ≤ 2 ^ k
abbrev pub Within : ℕ → Float → Type 0
Within k x = AtMost x (2 ^ k) 1

-- x is no NaN, and its size is at least a / c; an infinity's is
abbrev pub AtLeast : Float → ℕ → ℕ → Type 0
AtLeast nan a c = ⊥
AtLeast (inf s) a c = Unit {0}
AtLeast (fin s m e) a c = a * down e ≤ m * up e * c
