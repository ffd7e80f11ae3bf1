-- Walks of a list of rays that end alike beside two gates each: the same faults and the same totals.
use mathlib.Core.Bool.{Bool, ◌&&◌, cond}
use mathlib.Core.List.{List}
use mathlib.Core.Path.{◌≡◌, refl, sym, ap, ap₂, ◌∙◌}
use Prim.Native.Nat.{ℕ, zero, suc, ◌*◌, ◌<◌}
use native.Mathlib.Omega.{arith}
use lib.Ieee.{Float}
use lib.ListN.{length, get_or}
use lib.Seq.{ext_get_or}
use Rattle.lists.specs.Below.{all_below}
use Rattle.lists.specs.Counts.{count}
use Rattle.lists.specs.Splice.{splice}
use Rattle.lists.specs.Sums.{sum, sum_over}
use Rattle.lists.specs.Values.{values}
use Rattle.lists.proofs.Sums.{sum_cong}
use Rattle.lists.proofs.Tells.{all_same}
use Rattle.lists.proofs.Values.{values_same}
use Rattle.ray.specs.declared.Ray.{Ray}
use Rattle.packed.specs.Packed.{ray_in, ray_count}
use Rattle.gate.specs.Gates.{Gates}
use Rattle.walk.specs.WordQueries.{OutcomeWords}
use Rattle.walk_record.specs.WalkRay.{WalkRay}
use Rattle.query.specs.Met.{walk_met_by, panes_met}
use Rattle.query.specs.Result.{Result}
use Rattle.loss_walk.specs.Losses.{loss_at, all_there, LossAnswer, is_summed, ray_total, pane_total, totalled}
use Rattle.loss_walk.specs.Gated.{gated_loss, gated_met, gated_tests, gated_walks, gated_totals}
use Rattle.loss_walk.proofs.Adding.{given}

-- what a ray's walk gives is by how it ends
pub loss_alike : (g o : Gates) (bytes indices : List ℕ) (panes : ℕ) (losses : List ℕ) (r : Ray)
    → walk_met_by g bytes (length indices) r ≡ walk_met_by o bytes (length indices) r
    → gated_loss g bytes indices panes losses r ≡ gated_loss o bytes indices panes losses r
unfolding gated_loss
loss_alike g o bytes indices panes losses r e =
    ap (λ (w : OutcomeWords WalkRay (List ℕ)). given g bytes indices panes losses r (all_there panes (panes_met indices w.accumulator)) w) e

module _ (gates others : ℕ → Gates) (bytes indices : List ℕ) (rays : List Float)
    (same : (i : ℕ) → i < ray_count rays
    → walk_met_by (gates i) bytes (length indices) (ray_in rays i) ≡ walk_met_by (others i) bytes (length indices) (ray_in rays i))
    (panes : ℕ) (losses : List ℕ) where
  pub walks_alike : all_below (gated_walks gates bytes indices panes losses rays) (ray_count rays)
      ≡ all_below (gated_walks others bytes indices panes losses rays) (ray_count rays)
  unfolding gated_walks
  walks_alike =
      all_same _ _ (ray_count rays)
      (λ i h. ap (λ (x : Result LossAnswer). is_summed x.answer)
      (loss_alike (gates i) (others i) bytes indices panes losses (ray_in rays i) (same i h)))

  -- ray by ray, and pane by pane
  met_alike : (i : ℕ) → i < ray_count rays → gated_met gates bytes indices rays i ≡ gated_met others bytes indices rays i
  met_alike i h = ap (λ (w : OutcomeWords WalkRay (List ℕ)). w.accumulator) (same i h)

  pane_alike : (k : ℕ) → pane_total indices losses (gated_met gates bytes indices rays) (ray_count rays) k
      ≡ pane_total indices losses (gated_met others bytes indices rays) (ray_count rays) k
  pane_alike k =
      ap (λ (t : ℕ). t * get_or losses k 0)
      (sum_cong _ _ (ray_count rays) (λ i h. ap (λ (l : List ℕ). count k (panes_met indices l)) (met_alike i h)))

  pub totals_alike : (ray_totals pane_totals : List ℕ) → gated_totals gates bytes indices panes losses rays ray_totals pane_totals
      ≡ gated_totals others bytes indices panes losses rays ray_totals pane_totals
  unfolding gated_totals
  totals_alike ray_totals pane_totals =
      let tests : sum (gated_tests gates bytes indices rays) (ray_count rays) ≡ sum (gated_tests others bytes indices rays) (ray_count rays) =
      sum_cong _ _ (ray_count rays) (λ i h. ap (λ (w : OutcomeWords WalkRay (List ℕ)). w.walker.tests) (same i h)) in
      let of_rays = values_same (ray_total indices losses (gated_met gates bytes indices rays))
      (ray_total indices losses (gated_met others bytes indices rays)) (ray_count rays)
      (λ i h. ap (sum_over (loss_at indices losses)) (met_alike i h)) in
      let of_panes = values_same (pane_total indices losses (gated_met gates bytes indices rays) (ray_count rays))
      (pane_total indices losses (gated_met others bytes indices rays) (ray_count rays)) panes (λ k h. pane_alike k) in
      λ i. record {
        answer = totalled (tests i);
        ray_totals = splice ray_totals 0 (of_rays i);
        pane_totals = splice pane_totals 0 (of_panes i);
      }
