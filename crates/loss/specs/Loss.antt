-- A ray's loss, and a report over many rays (02, [3]), by boxes alone.
use Rattle.std.specs.Prelude.{Bool, true, ◌&&◌, Float, length}
use mathlib.Core.List.{List, [], ◌∷◌, ◌++◌}
use Prim.Native.Nat.{ℕ, ◌%◌}
use Rattle.std.proofs.Math.Dec.{eqb, leb}
use Rattle.lists.specs.Below.{all_below}
use Rattle.causes.specs.Causes.{Condition, ◌unless◌, first_cause}
use Rattle.causes.specs.Sizes.{record_conditions}
use Rattle.ray.specs.declared.Ray.{Ray}
use Rattle.packed.specs.Packed.{ray_count, rays_accepted}
use Rattle.gate.specs.Gates.{Gates, all_open}
use Rattle.query.specs.Entry.{entry_conditions, entry_cause}
use Rattle.query.specs.Result.{Result, entered}
use Rattle.loss_walk.specs.Gated.{gated_loss, gated_met, gated_tests, gated_walks, gated_conditions, gated_totals, gated_report_by}
-- losses of panes, and sums of them
pub use Rattle.loss_walk.specs.Losses.{loss_at, LossAnswer, summed, refused, ray_total, times_met, pane_total}
pub use Rattle.loss_walk.specs.Losses.{ReportAnswer, totalled, refused_report, Report}
unfoldable pub use Rattle.loss_walk.specs.Losses.{losses_fit, all_there, is_summed, loss_result, totals_answer}

-- cause 12, or 0
abbrev pub loss_cause : (panes : ℕ) → List ℕ → ℕ
loss_cause panes losses = first_cause (12 unless losses_fit panes losses ∷ [])

-- ---- one ray

module _ (bytes indices : List ℕ) (panes : ℕ) (losses : List ℕ) (r : Ray) where
  -- what the walk gives
  unfoldable pub loss_walked : Result LossAnswer
  unfolding gated_loss
  loss_walked = gated_loss all_open bytes indices panes losses r

  -- the answer of the call
  unfoldable pub loss_of : Result LossAnswer
  unfolding losses_fit entry_conditions first_cause loss_walked entered
  loss_of = entered refused (entry_cause true (length bytes) (length indices) (loss_cause panes losses) r) loss_walked

-- ---- a list of rays

-- every ray's gates are open
abbrev pub every_open : ℕ → Gates
every_open i = all_open

-- the positions that ray i meets, and its node tests
abbrev pub met_by : (bytes indices : List ℕ) → List Float → ℕ → List ℕ
met_by bytes indices rays i = gated_met every_open bytes indices rays i

abbrev pub tests_by : (bytes indices : List ℕ) → List Float → ℕ → ℕ
tests_by bytes indices rays i = gated_tests every_open bytes indices rays i

module _ (bytes indices : List ℕ) (panes : ℕ) (losses : List ℕ) (rays : List Float) where
  -- the walk of ray i has no fault
  unfoldable pub walks_by : ℕ → Bool
  unfolding gated_walks loss_walked
  walks_by = gated_walks every_open bytes indices panes losses rays

  -- with room for so many ray totals and so many pane totals: what is looked at on entry, for all rays before any walk
  unfoldable pub report_conditions : (rayRoom paneRoom : ℕ) → List Condition
  unfolding record_conditions losses_fit rays_accepted
  report_conditions rayRoom paneRoom =
      1 unless eqb (length rays % 8) 0 ∷ record_conditions (length bytes) (length indices) ++ 2 unless leb (ray_count rays) 65536
      ∷ 4 unless (leb (ray_count rays) rayRoom && leb panes paneRoom) ∷ 12 unless losses_fit panes losses ∷ 9 unless rays_accepted rays ∷ []

  -- then the walks
  unfoldable pub walk_conditions : List Condition
  unfolding all_below gated_conditions walks_by
  walk_conditions = gated_conditions every_open bytes indices panes losses rays

  abbrev pub report_cause : (rayRoom paneRoom : ℕ) → ℕ
  report_cause rayRoom paneRoom = first_cause (report_conditions rayRoom paneRoom ++ walk_conditions)

  -- the totals in front of what was there
  unfoldable pub totals_in : (ray_totals pane_totals : List ℕ) → Report
  unfolding gated_totals
  totals_in = gated_totals every_open bytes indices panes losses rays

  -- a refusal leaves both as they were
  unfoldable pub report_by : (cause : ℕ) → (ray_totals pane_totals : List ℕ) → Report
  unfolding gated_report_by totals_in
  report_by = gated_report_by every_open bytes indices panes losses rays

  -- what the call answers, and leaves of the slices lent
  unfoldable pub report_of : (ray_totals pane_totals : List ℕ) → Report
  unfolding report_conditions walk_conditions first_cause report_by
  report_of ray_totals pane_totals = report_by (report_cause (length ray_totals) (length pane_totals)) ray_totals pane_totals
