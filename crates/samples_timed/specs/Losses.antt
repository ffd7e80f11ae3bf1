-- The samples of losses at quarter hours (02, [7]) over T: panes 0 and 1 take 3000 and 500, and are drawn from 32 to 63 and from 60 to 95.
-- `proofs/Losses.antt` computes them.
use Rattle.std.specs.Prelude.{◌≡◌, false, List, [], ◌∷◌, ◌++◌, ℕ, Float, take}
use Rattle.std.specs.Float.{inf}
use Rattle.ray.specs.declared.Ray.{Ray}
use Rattle.query.specs.Result.{Result, unanswered}
use Rattle.loss_walk.specs.Losses.{LossAnswer, refused, totalled, refused_report, Report}
use Rattle.loss_timed.specs.Timed.{loss_timed_of, report_timed_of}
use Rattle.samples.specs.TreeT.{indices_t, bytes_t}
use Rattle.samples.specs.Samples.{ahead}
use Rattle.samples.specs.Losses.{losses_t, packed_to, sum_is, report_is}
use Rattle.samples_timed.specs.Screens.{ahead_nan, spans_t, side_t, sevens}

-- what a ray loses over T at a quarter hour, with these index words and losses
abbrev pub timed_loss_by : (indices losses : List ℕ) → ℕ → Ray → Result LossAnswer
timed_loss_by indices losses quarter r = loss_timed_of bytes_t side_t indices 2 spans_t losses quarter r

abbrev pub loss_at_quarter : ℕ → Result LossAnswer
loss_at_quarter quarter = timed_loss_by indices_t losses_t quarter ahead

-- the samples' ray four times, as eight floats each
abbrev pub four_rays : List Float
four_rays = packed_to (inf false) ++ (packed_to (inf false) ++ (packed_to (inf false) ++ packed_to (inf false)))

-- a quarter hour for each: before both panes are drawn, and while the first is, both are, and the second is
abbrev pub four_quarters : List ℕ
four_quarters = 10 ∷ 40 ∷ 61 ∷ 70 ∷ []

-- their report, with a word to spare behind the totals of rays and of panes, all 7 before
abbrev pub timed_report_with : (losses quarters : List ℕ) → Report
timed_report_with losses quarters = report_timed_of bytes_t side_t indices_t 2 spans_t losses four_rays quarters (sevens 5) (sevens 3)

-- refused with a number, the slices as they were
abbrev pub report_refused : ℕ → Report
report_refused number = report_is (refused_report number) (sevens 5) (sevens 3)

pub record TimedLosses : Type 0 where
  pub at_10 : loss_at_quarter 10 ≡ sum_is 0 1
  pub at_40 : loss_at_quarter 40 ≡ sum_is 3000 1
  pub at_61 : loss_at_quarter 61 ≡ sum_is 3500 1
  pub at_70 : loss_at_quarter 70 ≡ sum_is 500 1
  -- one pane twice, while it is drawn
  pub twice : timed_loss_by (1 ∷ 1 ∷ []) losses_t 61 ahead ≡ sum_is 1000 1
  -- an index word past the panes, met and not met
  pub no_pane : timed_loss_by (0 ∷ 2 ∷ []) losses_t 61 ahead ≡ unanswered (refused 10)
  pub no_pane_unmet : timed_loss_by (0 ∷ 2 ∷ []) losses_t 40 ahead ≡ sum_is 3000 1
  -- past the day, also with a reach that is no number, which alone is 9; a loss too great comes first
  pub at_96 : loss_at_quarter 96 ≡ unanswered (refused 14)
  pub at_96_nan : timed_loss_by indices_t losses_t 96 ahead_nan ≡ unanswered (refused 14)
  pub at_40_nan : timed_loss_by indices_t losses_t 40 ahead_nan ≡ unanswered (refused 9)
  pub too_great_at_96 : timed_loss_by indices_t (3000 ∷ 1000001 ∷ []) 96 ahead ≡ unanswered (refused 12)
  -- the report of the four: 7000 either way
  pub four_rays_lem : timed_report_with losses_t four_quarters ≡ report_is (totalled 4) (0 ∷ 3000 ∷ 3500 ∷ 500 ∷ 7 ∷ []) (6000 ∷ 1000 ∷ 7 ∷ [])
  -- a quarter hour too few, and one past the day; three losses come between
  pub short : timed_report_with losses_t (take 3 four_quarters) ≡ report_refused 1
  pub past_the_day : timed_report_with losses_t (10 ∷ 40 ∷ 61 ∷ 96 ∷ []) ≡ report_refused 14
  pub three_losses : timed_report_with (3000 ∷ 500 ∷ 0 ∷ []) (10 ∷ 40 ∷ 61 ∷ 96 ∷ []) ≡ report_refused 12
