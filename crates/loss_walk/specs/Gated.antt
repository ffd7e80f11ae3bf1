-- Losses and reports beside any gates (02, [3] and [7]): a ray's, and those of a list of rays, each beside gates of its own.
use Rattle.std.specs.Prelude.{Bool, Float, length}
use Rattle.std.proofs.Math.Bool.{true, cond}
use mathlib.Core.List.{List, [], ◌∷◌, ◌++◌}
use Prim.Native.Nat.{ℕ, zero, suc}
use Rattle.lists.specs.Below.{all_below}
use Rattle.lists.specs.Counts.{count}
use Rattle.lists.specs.Splice.{splice}
use Rattle.lists.specs.Sums.{sum, sum_over}
use Rattle.lists.specs.Values.{values}
use Rattle.causes.specs.Causes.{Condition, ◌unless◌, first_cause}
use Rattle.ray.specs.declared.Ray.{Ray}
use Rattle.packed.specs.Packed.{ray_in, ray_count}
use Rattle.gate.specs.Gates.{Gates}
use Rattle.query.specs.Met.{walk_met_by, positions_met_by, tests_made_by, panes_met}
use Rattle.query.specs.Entry.{entry_cause}
use Rattle.query.specs.Result.{Result, unanswered, walked, entered}
use Rattle.loss_walk.specs.Losses.{loss_at, all_there, LossAnswer, summed, refused, is_summed, ray_total, pane_total}
use Rattle.loss_walk.specs.Losses.{totalled, refused_report, Report}
use Rattle.loss_walk.specs.Entry.{own_cause, conditions_between}

-- ---- one ray

-- What its walk gives: the sum over the positions met. One whose index word names no pane is cause 10, as a fault of the walk is, whichever comes
-- first.
unfoldable pub gated_loss : Gates → (bytes indices : List ℕ) → (panes : ℕ) → (losses : List ℕ) → Ray → Result LossAnswer
unfolding all_there sum_over walked
gated_loss g bytes indices panes losses r =
    let o = walk_met_by g bytes (length indices) r in
    cond (all_there panes (panes_met indices o.accumulator))
    (walked refused (λ met tests. record { answer = summed (sum_over (loss_at indices losses) met); tests = tests }) o o.ended)
    (unanswered (refused 10))

-- the answer of a call whose own causes between 12 and 9 say so much
abbrev pub gated_loss_of : Gates → (between : ℕ) → (bytes indices : List ℕ) → (panes : ℕ) → (losses : List ℕ) → Ray → Result LossAnswer
gated_loss_of g between bytes indices panes losses r =
    entered refused (entry_cause true (length bytes) (length indices) (own_cause panes losses between) r) (gated_loss g bytes indices panes losses r)

-- ---- a list of rays, with the gates of ray i

module _ (gates : ℕ → Gates) (bytes indices : List ℕ) where
  -- the positions that ray i meets, and its node tests
  abbrev pub gated_met : List Float → ℕ → List ℕ
  gated_met rays i = positions_met_by (gates i) bytes (length indices) (ray_in rays i)

  abbrev pub gated_tests : List Float → ℕ → ℕ
  gated_tests rays i = tests_made_by (gates i) bytes (length indices) (ray_in rays i)

  module _ (panes : ℕ) (losses : List ℕ) (rays : List Float) where
    -- the walk of ray i has no fault
    unfoldable pub gated_walks : ℕ → Bool
    unfolding ray_in gated_loss is_summed
    gated_walks i = is_summed (gated_loss (gates i) bytes indices panes losses (ray_in rays i)).answer

    -- what is looked at by the walks
    unfoldable pub gated_conditions : List Condition
    unfolding all_below gated_walks
    gated_conditions = 10 unless all_below gated_walks (ray_count rays) ∷ []

    -- The totals in front of what was there: a word for each ray in list order, a word for each pane.
    unfoldable pub gated_totals : (ray_totals pane_totals : List ℕ) → Report
    unfolding sum sum_over count splice
    gated_totals ray_totals pane_totals =
        let n = ray_count rays in
        record {
          answer = totalled (sum (gated_tests rays) n);
          ray_totals = splice ray_totals 0 (values (ray_total indices losses (gated_met rays)) n);
          pane_totals = splice pane_totals 0 (values (pane_total indices losses (gated_met rays) n) panes);
        }

    -- a refusal leaves both as they were
    unfoldable pub gated_report_by : (cause : ℕ) → (ray_totals pane_totals : List ℕ) → Report
    unfolding gated_totals
    gated_report_by zero ray_totals pane_totals = gated_totals ray_totals pane_totals
    gated_report_by (suc k) ray_totals pane_totals = record {
      answer = refused_report (suc k);
      ray_totals = ray_totals;
      pane_totals = pane_totals;
    }

    -- what a call answers, and leaves of the slices lent, that looks at so much on entry
    unfoldable pub gated_report : List Condition → (ray_totals pane_totals : List ℕ) → Report
    unfolding gated_conditions first_cause gated_report_by
    gated_report entry ray_totals pane_totals = gated_report_by (first_cause (entry ++ gated_conditions)) ray_totals pane_totals

    -- of a call whose other lists have lengths that fit, or do not, and whose own causes between 12 and 9 say so much
    abbrev pub gated_report_of : (fits : Bool) (between : ℕ) → (ray_totals pane_totals : List ℕ) → Report
    gated_report_of fits between ray_totals pane_totals =
        gated_report (conditions_between fits between bytes indices panes losses rays (length ray_totals) (length pane_totals)) ray_totals pane_totals
