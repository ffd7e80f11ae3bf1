use mathlib.Core.Path.{sym}
use Rattle.check_text.proofs.Held.{held_whole, held_over}
use Rattle.check_text.proofs.input.held_length.Goals as goal

pub returns-then-long-le-LONGEST : goal.returns-then-long-le-LONGEST
returns-then-long-le-LONGEST c = sym (held_whole _ c.if-long-le-LONGEST.true)

pub returns : goal.returns
returns c = sym (held_over _ c.if-long-le-LONGEST.false)
