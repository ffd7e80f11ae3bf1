-- A report as C and Rust call it (02, [3]): its answer is a number.
use Rattle.std.specs.Prelude.{List, ℕ, ◌+◌}
use Rattle.loss.specs.Loss.{ReportAnswer, totalled, refused_report, Report}

-- kind 0 is the node tests of all rays; kind 2 is refused with its number, as the record check has it
unfoldable pub report_number : ReportAnswer → ℕ
report_number (totalled tests) = tests
report_number (refused_report number) = 0x2_0000_0000 + number

-- what the caller has at the end: that number, and both lent slices
pub record HandedReport : Type 0 where
  pub number : ℕ
  pub ray_totals : List ℕ
  pub pane_totals : List ℕ

abbrev pub handed_report : Report → HandedReport
handed_report r = record { number = report_number r.answer; ray_totals = r.ray_totals; pane_totals = r.pane_totals }
