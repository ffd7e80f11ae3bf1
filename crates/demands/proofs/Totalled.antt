-- What a report looks at on entry and then by its walks, and what holds where nothing refuses it on entry.
use mathlib.Core.Bool.{Bool}
use mathlib.Core.List.{List, ◌++◌}
use Prim.Native.Nat.{ℕ}
use lib.Dec.{T}
use lib.ListN.{length}
use Rattle.causes.specs.Causes.{Condition, place_of}
use Rattle.causes.specs.Sizes.{record_conditions}
use Rattle.causes.proofs.Causes.{sorted}
use Rattle.loss.specs.Loss.{walks_by, Report}
use Rattle.loss.specs.Loss.{report_conditions, walk_conditions, report_cause, report_by}
use Rattle.loss.proofs.Causes.{Entering, none_entering}
use Rattle.demands.specs.Loss.{ReportCall, UnrefusedOnEntry}

module _ (c : ReportCall) where
  -- what is looked at on entry, and then by the walks
  abbrev pub on_entry : List Condition
  on_entry = report_conditions c.bytes c.indices c.panes c.losses c.rays (length c.ray_totals) (length c.pane_totals)

  abbrev pub by_walks : List Condition
  by_walks = walk_conditions c.bytes c.indices c.panes c.losses c.rays

  abbrev pub report_refusal : ℕ
  report_refusal = report_cause c.bytes c.indices c.panes c.losses c.rays (length c.ray_totals) (length c.pane_totals)

  -- what the call leaves, by the cause that refuses it
  abbrev pub left_by : ℕ → Report
  left_by k = report_by c.bytes c.indices c.panes c.losses c.rays k c.ray_totals c.pane_totals

  -- whether the walk of ray i has no fault
  abbrev pub walks : ℕ → Bool
  walks = walks_by c.bytes c.indices c.panes c.losses c.rays

  -- what holds where nothing refuses it on entry
  abbrev pub Enters : Type 0
  Enters = Entering c.bytes c.indices c.panes c.losses c.rays (length c.ray_totals) (length c.pane_totals)

  pub none_enters : UnrefusedOnEntry c → Enters
  none_enters = none_entering c.bytes c.indices c.panes c.losses c.rays (length c.ray_totals) (length c.pane_totals)

  pub in_order_lem : T (sorted 0 (on_entry ++ by_walks))
  unfolding report_conditions record_conditions walk_conditions sorted place_of
  in_order_lem = tt
