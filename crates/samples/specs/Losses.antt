-- The samples of losses (02, [3]) over T: panes 0 and 1 take 3000 and 500. `proofs/Losses.antt` computes them.
use Rattle.std.specs.Prelude.{◌≡◌, false, List, [], ◌∷◌, ℕ, Float, take, drop}
use Rattle.std.specs.Float.{nan, inf}
use Rattle.ray.specs.declared.Ray.{Ray}
use Rattle.query.specs.Result.{Result, unanswered}
use Rattle.loss.specs.Loss.{LossAnswer, summed, refused, loss_of, ReportAnswer, totalled, refused_report, Report, report_of}
use Rattle.samples.specs.TreeT.{number, indices_t, bytes_t, ray_along}
use Rattle.samples.specs.Samples.{ahead}
use Rattle.samples.specs.NearLimit.{halves, minus_one}

abbrev pub losses_t : List ℕ
losses_t = 3000 ∷ 500 ∷ []

-- the samples' ray to a reach, as eight floats
abbrev pub packed_to : Float → List Float
packed_to reach = minus_one ∷ halves 1 ∷ halves 1 ∷ number 1 ∷ number 0 ∷ number 0 ∷ number 0 ∷ reach ∷ []

-- two rays: as far as can be, and to 2.5, which is before B
abbrev pub two_rays : List Float
two_rays = minus_one ∷ halves 1 ∷ halves 1 ∷ number 1 ∷ number 0 ∷ number 0 ∷ number 0 ∷ inf false ∷ packed_to (halves 5)

-- its loss over T, with these index words and so many panes
abbrev pub loss_by : List ℕ → ℕ → List ℕ → Ray → Result LossAnswer
loss_by indices panes losses r = loss_of bytes_t indices panes losses r

abbrev pub sum_is : (loss tests : ℕ) → Result LossAnswer
sum_is loss tests = record { answer = summed loss; tests = tests }

-- a report over T's two panes, with room for three totals of rays and of panes, all 7 before
abbrev pub report_t : List ℕ → List ℕ → List Float → Report
report_t indices losses rays = report_of bytes_t indices 2 losses rays (7 ∷ 7 ∷ 7 ∷ []) (7 ∷ 7 ∷ 7 ∷ [])

abbrev pub report_is : ReportAnswer → (ray_totals pane_totals : List ℕ) → Report
report_is answer ray_totals pane_totals = record { answer = answer; ray_totals = ray_totals; pane_totals = pane_totals }

-- refused with a number, the slices as they were
abbrev pub refused_with : ℕ → Report
refused_with number = report_is (refused_report number) (7 ∷ 7 ∷ 7 ∷ []) (7 ∷ 7 ∷ 7 ∷ [])

pub record LossSamples : Type 0 where
  -- both panes, and one pane twice
  pub both : loss_by indices_t 2 losses_t ahead ≡ sum_is 3500 1
  pub twice : loss_by (1 ∷ 1 ∷ []) 2 losses_t ahead ≡ sum_is 1000 1
  -- A alone
  pub near : loss_by indices_t 2 losses_t (ray_along (number 0) (halves 5)) ≡ sum_is 3000 1
  -- the greatest loss, and one more
  pub greatest : loss_by indices_t 2 (1000000 ∷ 1000000 ∷ []) ahead ≡ sum_is 2000000 1
  pub too_great : loss_by indices_t 2 (3000 ∷ 1000001 ∷ []) ahead ≡ unanswered (refused 12)
  -- three losses for two panes, and with a reach that is no number; a record of 79 bytes comes first
  pub three_losses : loss_by indices_t 2 (3000 ∷ 500 ∷ 0 ∷ []) ahead ≡ unanswered (refused 12)
  pub three_losses_nan : loss_by indices_t 2 (3000 ∷ 500 ∷ 0 ∷ []) (ray_along (number 0) nan) ≡ unanswered (refused 12)
  pub reach_nan : loss_by indices_t 2 losses_t (ray_along (number 0) nan) ≡ unanswered (refused 9)
  pub short_record : loss_of (take 79 bytes_t) indices_t 2 (3000 ∷ 500 ∷ 0 ∷ []) (ray_along (number 0) nan) ≡ unanswered (refused 1)
  -- an index word past the panes, met and not met
  pub no_pane : loss_by (0 ∷ 2 ∷ []) 2 losses_t ahead ≡ unanswered (refused 10)
  pub no_pane_unmet : loss_by (0 ∷ 2 ∷ []) 2 losses_t (ray_along (number 0) (halves 5)) ≡ sum_is 3000 1
  -- without nodes
  pub no_nodes : loss_of [] [] 2 losses_t ahead ≡ sum_is 0 0
  -- the report of two rays: 6500 either way
  pub two_rays_lem : report_t indices_t losses_t two_rays ≡ report_is (totalled 2) (3500 ∷ 3000 ∷ 7 ∷ []) (6000 ∷ 500 ∷ 7 ∷ [])
  pub one_pane : report_t (1 ∷ 1 ∷ []) losses_t two_rays ≡ report_is (totalled 2) (1000 ∷ 500 ∷ 7 ∷ []) (0 ∷ 1500 ∷ 7 ∷ [])
  -- no rays
  pub no_rays : report_t indices_t losses_t [] ≡ report_is (totalled 0) (7 ∷ 7 ∷ 7 ∷ []) (0 ∷ 0 ∷ 7 ∷ [])
  -- a fault of one ray, a ray that is not accepted, losses that do not fit, rays of another length
  pub fault : report_t (0 ∷ 2 ∷ []) losses_t two_rays ≡ refused_with 10
  pub ray_nan : report_t indices_t losses_t (packed_to nan) ≡ refused_with 9
  pub losses_first : report_t indices_t (3000 ∷ []) (packed_to nan) ≡ refused_with 12
  pub seven_floats : report_t indices_t (3000 ∷ []) (drop 1 (packed_to nan)) ≡ refused_with 1
  -- no room for the totals of rays, or of panes
  pub ray_room : report_of bytes_t indices_t 2 losses_t two_rays (7 ∷ []) (7 ∷ 7 ∷ []) ≡ report_is (refused_report 4) (7 ∷ []) (7 ∷ 7 ∷ [])
  pub pane_room : report_of bytes_t indices_t 2 losses_t two_rays (7 ∷ 7 ∷ []) (7 ∷ []) ≡ report_is (refused_report 4) (7 ∷ 7 ∷ []) (7 ∷ [])
