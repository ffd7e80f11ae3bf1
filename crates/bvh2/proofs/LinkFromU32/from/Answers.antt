use mathlib.Core.Path.{sym, ap, ◌∙◌}
use native.Mathlib.Omega.{arith}
use Rattle.bvh2.specs.Words.{children, position}
use Rattle.bvh2.proofs.Reading.{word-children, word_position, word_malformed}
use Rattle.bvh2.proofs.LinkFromU32.from.Goals as goal

pub returns-in-0 : goal.returns-in-0
returns-in-0 c = ap children c.below_kind-rest.ensures ∙ sym (word-children c.args.word (sym c.kind.ensures ∙ c.in-0.is))

pub returns-in-1 : goal.returns-in-1
returns-in-1 c = ap position c.below_kind-rest.ensures ∙ sym (word_position c.args.word (sym c.kind.ensures ∙ c.in-1.is))

pub returns-in_default : goal.returns-in_default
returns-in_default c = sym (word_malformed c.args.word (λ e. omega (arith, c.kind.ensures)) (λ e. omega (arith, c.kind.ensures)))
