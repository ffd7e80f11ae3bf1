-- The record check's answers as numbers (01, "Causes of refusal"): the kind of answer times 2^32, and with it what the answer holds.
use Rattle.std.specs.Prelude.{ℕ, ◌+◌}
use Rattle.record_shape.specs.Check.{Verdict, sound, unsound, refused}

-- kind 0 is sound with its deepest level, kind 1 unsound, kind 2 refused with its number
unfoldable pub answer_number : Verdict → ℕ
answer_number (sound level) = level
answer_number unsound = 0x1_0000_0000
answer_number (refused number) = 0x2_0000_0000 + number
