use mathlib.Core.Path.{◌≡◌}
use Rattle.lists.specs.Splice.{splice}
use Rattle.show.specs.Input.{input_words}
use Rattle.show.proofs.read_words.Given as goal

abbrev pub invariant-loop-k : goal.invariant-loop-k
invariant-loop-k l = l.words ≡ splice l.initial.words 0 (input_words l.input l.from l.k)
