use borrow.Author.Tests.{eq-eqb, ne_eqb, le-leb, lt-leb}
use Rattle.funnelcress.specs.Lists.{refusal}
use Rattle.funnelcress.proofs.check_list.Goals as goal

pub returns-then-boxes-ne0 : goal.returns-then-boxes-ne0
unfolding refusal
returns-then-boxes-ne0 c = simp (ne_eqb _ _ c.if-boxes-ne0.true)

pub returns-then-boxes-out : goal.returns-then-boxes-out
unfolding refusal
returns-then-boxes-out c = simp (eq-eqb _ _ c.if-boxes-ne0.false, lt-leb _ _ c.if-boxes-out.true)

pub returns : goal.returns
unfolding refusal
returns c = simp (eq-eqb _ _ c.if-boxes-ne0.false, le-leb _ _ c.if-boxes-out.false)
