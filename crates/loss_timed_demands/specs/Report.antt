-- What is claimed of a report over many rays, each at a quarter hour of its own (02, [3] and [7]).
use Rattle.std.specs.Prelude.{◌≡◌, ℕ, Float, eqb, length, get_or}
use mathlib.Core.List.{List}
use Rattle.causes.specs.Causes.{first_cause}
use Rattle.packed.specs.Packed.{ray_in, ray_count}
use Rattle.loss_walk.specs.Losses.{totalled, Report}
use Rattle.loss_walk.specs.Entry.{conditions_between}
use Rattle.timed_entry.specs.Entry.{timetable}
use Rattle.loss_timed.specs.Timed.{hours_conditions, report_timed_of}
use Rattle.demands.specs.Sums.{SumsOwn, FirstRefused, SlicesStay, WritesTotals, ZeroTotals}
use Rattle.loss_timed_demands.specs.Loss.{TimedLossCall, loss_for}

-- what `report_timed` is called with, the two slices lent as they were before
pub record TimedReportCall : Type 0 where
  pub bytes : List ℕ
  pub side : List ℕ
  pub indices : List ℕ
  pub panes : ℕ
  pub spans : List ℕ
  pub losses : List ℕ
  pub rays : List Float
  pub quarters : List ℕ
  pub ray_totals : List ℕ
  pub pane_totals : List ℕ

module _ (c : TimedReportCall) where
  -- what it answers and leaves of the slices
  abbrev pub report_for : Report
  report_for = report_timed_of c.bytes c.side c.indices c.panes c.spans c.losses c.rays c.quarters c.ray_totals c.pane_totals

  -- it gives totals and so many tests, and not a refusal
  abbrev pub Reports : ℕ → Type 0
  Reports tests = report_for.answer ≡ totalled tests

  -- how many rays the list has
  abbrev pub rays_given : ℕ
  rays_given = ray_count c.rays

  -- the call of `loss_timed` for ray i of the list, at its own quarter hour
  abbrev pub single : ℕ → TimedLossCall
  single i = record {
    bytes = c.bytes;
    side = c.side;
    indices = c.indices;
    panes = c.panes;
    spans = c.spans;
    losses = c.losses;
    quarter = get_or c.quarters i 0;
    ray = ray_in c.rays i;
  }

  -- the word that it leaves for a ray, and for a pane
  abbrev pub ray_word : ℕ → ℕ
  ray_word i = get_or report_for.ray_totals i 0

  abbrev pub pane_word : ℕ → ℕ
  pane_word k = get_or report_for.pane_totals k 0

  -- each ray's word is the loss that its own call gives, and the tests are those of all these calls
  abbrev pub RayTotals : (tests : ℕ) → Type 0
  RayTotals = SumsOwn rays_given (λ i. loss_for (single i)) report_for

  -- the number of cause 14 of the lists and of all quarter hours, or 0
  abbrev pub hours_cause : ℕ
  hours_cause = first_cause (hours_conditions c.bytes (timetable c.side c.indices c.panes c.spans 0) c.quarters)

  -- no cause of 1, 2, 4, 12, 14 and 9 holds
  abbrev pub UnrefusedOnEntry : Type 0
  UnrefusedOnEntry =
      first_cause (conditions_between (eqb (length c.quarters) rays_given) hours_cause c.bytes c.indices c.panes c.losses c.rays
      (length c.ray_totals) (length c.pane_totals)) ≡ 0

  -- the number of the first ray whose own call is refused, those before it giving sums
  abbrev pub FirstFault : (number : ℕ) → Type 0
  FirstFault = FirstRefused rays_given (λ i. loss_for (single i))

  -- both slices as they were
  abbrev pub LeftAlone : Type 0
  LeftAlone = SlicesStay report_for c.ray_totals c.pane_totals

  -- both slices as long as they were, and as they were behind a word for each ray and a word for each pane
  abbrev pub OnlyTotals : Type 0
  OnlyTotals = WritesTotals report_for c.ray_totals c.pane_totals rays_given c.panes

  -- every total is 0
  abbrev pub AllZero : Type 0
  AllZero = ZeroTotals report_for rays_given c.panes
