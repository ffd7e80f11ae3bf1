-- Losses of panes, and what rays lose to them (02, [3]). Losses are whole thousandths of a decibel, one for each pane.
use Rattle.std.specs.Prelude.{Bool, ◌&&◌, ltb, length, get_or}
use Rattle.std.proofs.Math.Bool.{true, false}
use mathlib.Core.List.{List, [], ◌∷◌}
use Prim.Native.Nat.{ℕ, ◌*◌}
use Rattle.std.proofs.Math.Dec.{eqb, leb}
use Rattle.lists.specs.Below.{all_below}
use Rattle.lists.specs.Counts.{count}
use Rattle.lists.specs.Sums.{sum, sum_over}
use Rattle.std.specs.Prelude as P
use Rattle.causes.specs.declared.Refusal.{Refusal}
use Rattle.causes.specs.Refusal.{cause_number}
use Rattle.query.specs.Met.{panes_met}
use Rattle.query.specs.Result.{Result, unanswered}
use Rattle.loss_walk.specs.declared.RayLoss.{RayLoss}

-- ---- losses

-- one for each pane, none over 1,000,000
unfoldable pub losses_fit : (panes : ℕ) → List ℕ → Bool
unfolding all_below
losses_fit panes losses = eqb (length losses) panes && all_below (λ k. leb (get_or losses k 0) 1000000) panes

-- what a position takes from a ray: the loss of its pane
abbrev pub loss_at : (indices losses : List ℕ) → ℕ → ℕ
loss_at indices losses p = get_or losses (get_or indices p 0) 0

-- each pane of a list is one of so many
unfoldable pub all_there : (panes : ℕ) → List ℕ → Bool
all_there panes [] = true
all_there panes (k ∷ l) = ltb k panes && all_there panes l

-- ---- one ray

-- the sum, or a refusal
pub data LossAnswer : Type 0 where
  summed : (loss : ℕ) → LossAnswer
  refused : (number : ℕ) → LossAnswer

-- the answer is a sum
unfoldable pub is_summed : LossAnswer → Bool
is_summed (summed loss) = true
is_summed (refused number) = false

-- ---- totals, by the positions that each ray meets

-- a ray's: the losses of all positions that it meets
abbrev pub ray_total : (indices losses : List ℕ) → (met : ℕ → List ℕ) → ℕ → ℕ
ray_total indices losses met i = sum_over (loss_at indices losses) (met i)

-- how often so many rays together meet pane k
abbrev pub times_met : List ℕ → (met : ℕ → List ℕ) → (rays k : ℕ) → ℕ
times_met indices met rays k = sum (λ i. count k (panes_met indices (met i))) rays

-- a pane's: its loss as often as it is met
abbrev pub pane_total : (indices losses : List ℕ) → (met : ℕ → List ℕ) → (rays k : ℕ) → ℕ
pane_total indices losses met rays k = times_met indices met rays k * get_or losses k 0

-- ---- a report

-- the node tests of all rays, or a refusal
pub data ReportAnswer : Type 0 where
  totalled : (tests : ℕ) → ReportAnswer
  refused_report : (number : ℕ) → ReportAnswer

-- an answer with both slices as they are left
pub record Report : Type 0 where
  pub answer : ReportAnswer
  pub ray_totals : List ℕ
  pub pane_totals : List ℕ

-- ---- the cases of the results in the requirements' terms

unfoldable pub loss_result : P.Result RayLoss Refusal → Result LossAnswer
loss_result (P.Ok l) = record { answer = summed l.loss; tests = l.tests }
loss_result (P.Err refusal) = unanswered (refused (cause_number refusal))

unfoldable pub totals_answer : P.Result ℕ Refusal → ReportAnswer
totals_answer (P.Ok tests) = totalled tests
totals_answer (P.Err refusal) = refused_report (cause_number refusal)
