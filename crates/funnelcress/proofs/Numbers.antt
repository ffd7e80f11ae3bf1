-- No two of the record check's answers share a number.
use mathlib.Core.Path.{◌≡◌, refl, ap}
use Prim.Native.Nat.{◌<◌}
use native.Mathlib.Omega.{arith}
use Rattle.record_shape.specs.Check.{Verdict, sound, unsound, refused}
use Rattle.funnelcress.specs.Answers.{answer_number}

-- what an answer holds is a word
unfoldable pub Holds : Verdict → Type 0
Holds (sound level) = level < 0x1_0000_0000
Holds unsound = Unit {0}
Holds (refused number) = number < 0x1_0000_0000

-- answers with the same number are the same
pub numbers_apart : (a b : Verdict) → Holds a → Holds b → answer_number a ≡ answer_number b → a ≡ b
unfolding answer_number Holds
numbers_apart (sound l) (sound m) h k e = ap sound e
numbers_apart (sound l) unsound h k e = absurd (omega arith)
numbers_apart (sound l) (refused m) h k e = absurd (omega arith)
numbers_apart unsound (sound m) h k e = absurd (omega arith)
numbers_apart unsound unsound h k e = refl
numbers_apart unsound (refused m) h k e = absurd (omega arith)
numbers_apart (refused l) (sound m) h k e = absurd (omega arith)
numbers_apart (refused l) unsound h k e = absurd (omega arith)
numbers_apart (refused l) (refused m) h k e = ap refused (omega arith)
