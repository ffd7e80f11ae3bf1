use Rattle.std.proofs.Common.{refl, ◌∙◌}
use Rattle.loss.proofs.Causes.{report_alone}
use Rattle.loss.proofs.report.Goals as goal

pub report-requires : goal.report-requires
report-requires c = λ e z. record { listed = λ i h. tt; begun = λ i h. refl }

pub returns : goal.returns
returns c = c.report.ensures ∙ report_alone _ _ _ _ _ _ _
