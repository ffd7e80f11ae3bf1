use Rattle.std.proofs.Common.{sym, ◌∙◌}
use Rattle.std.specs.Prelude.{Ok, Err}
use Rattle.gate.proofs.Says.{says}
use Rattle.walk_step.proofs.Parts.{passed_by, stays_by}
use Rattle.walk_step.proofs.passes_over.Goals as goal

pub returns-in-Ok : goal.returns-in-Ok
returns-in-Ok g c =
    let gates = g.G.Gate.gates c.args.gate in
    passed_by gates c.args.p c.in-Ok.admitted (says gates c.args.p (Ok c.in-Ok.admitted) (sym c.in-Ok.is ∙ c.admits.ensures))

pub returns-in-Err : goal.returns-in-Err
returns-in-Err g c =
    let gates = g.G.Gate.gates c.args.gate in
    stays_by gates c.args.p c.in-Err.field-0 (says gates c.args.p (Err c.in-Err.field-0) (sym c.in-Err.is ∙ c.admits.ensures))
