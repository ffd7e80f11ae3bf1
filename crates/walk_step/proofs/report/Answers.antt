use Rattle.std.proofs.Common.{sym, ap, ◌∙◌}
use Prim.Native.Nat.{ℕ}
use Rattle.std.specs.Prelude.{Ok, Err}
use Rattle.walk.specs.Step as S
use Rattle.walk.specs.WordStep.{stay_words}
use Rattle.advance.specs.Turn.{step_answer, walker_of, group_of}
use Rattle.gate.proofs.Says.{says, said_there}
use Rattle.walk_step.proofs.Parts.{report_absent, report_past, report_made}
use Rattle.walk_step.proofs.report.Goals as goal

pub returns-in-Err : goal.returns-in-Err
unfolding step_answer
returns-in-Err g c =
    let gates = g.G.Gate.gates c.args.gate in
    let p = c.first_position-p in
    let s = says gates p.result (Err c.in-Err.refusal) (sym c.in-Err.is ∙ c.admits.ensures) in
    λ ray octant stack.
    (ap (λ (k : ℕ). stay_words (walker_of ray octant c.args.walk stack) (S.refused k)) s.1
    ∙ report_absent gates c.args.n (walker_of ray octant c.args.walk stack) p.result p.ensures s.0)

pub returns-then-p-n : goal.returns-then-p-n
returns-then-p-n g c =
    let gates = g.G.Gate.gates c.args.gate in
    let p = c.first_position-p in
    let s = says gates p.result (Ok c.in_default.field-0) (sym c.in_default.is ∙ c.admits.ensures) in
    λ ray octant stack.
    (c.fault.ensures ray octant stack
    ∙ report_past gates c.args.n (walker_of ray octant c.args.walk stack) p.result p.ensures
    (said_there gates p.result c.in_default.field-0 s) c.if-p-n.true)

pub returns : goal.returns
unfolding step_answer
returns g c =
    let gates = g.G.Gate.gates c.args.gate in
    let p = c.first_position-p in
    let s = says gates p.result (Ok c.in_default.field-0) (sym c.in_default.is ∙ c.admits.ensures) in
    λ ray octant stack.
    report_made gates c.args.n (walker_of ray octant c.args.walk stack) p.result p.ensures
    (said_there gates p.result c.in_default.field-0 s) c.if-p-n.false
    (group_of c.rest_of-positions.result) c.rest_of-positions.ensures
