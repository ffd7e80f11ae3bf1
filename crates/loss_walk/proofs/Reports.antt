-- The rays of a report, one after the other: each may walk where nothing refuses the report on entry, and what a walk found tells whether it had a
-- fault.
use mathlib.Core.Bool.{true, false}
use mathlib.Core.List.{List, []}
use mathlib.Core.Path.{◌≡◌, sym, ap, ◌∙◌}
use Prim.Native.Nat.{ℕ, ◌+◌, ◌*◌, ◌<◌}
use lib.Ieee.{Float, nan}
use lib.ListN.{length, get_or}
use Rattle.std.specs.Prelude as P
use Rattle.causes.specs.declared.Refusal.{Refusal}
use Rattle.causes.specs.Refusal.{cause_number}
use Rattle.causes.specs.Causes.{first_cause}
use Rattle.causes.proofs.Causes.{first_here, passed_none}
use Rattle.causes.proofs.Sizes.{Fit, sizes_pass}
use Rattle.lists.specs.Below.{all_below}
use Rattle.lists.specs.Sums.{sum_over}
use Rattle.lists.proofs.Tells.{all_at}
use Rattle.ray.specs.declared.Ray.{Ray}
use Rattle.ray.specs.Ray.{accepted_ray}
use Rattle.packed.specs.Packed.{ray_in, ray_count, rays_accepted}
use Rattle.gate.specs.Gates.{Gates}
use Rattle.walk_record.specs.WalkRay.{walk_ray, rays_of}
use Rattle.walk_record.proofs.WalkRay.{gated_forged, begun_accepted}
use Rattle.query.specs.Met.{positions_met_by, tests_made_by}
use Rattle.query.specs.Result.{Result}
use Rattle.loss_walk.specs.declared.RayLoss.{RayLoss}
use Rattle.loss_walk.specs.Losses.{LossAnswer, summed, refused, loss_at, is_summed, loss_result}
use Rattle.loss_walk.specs.Gated.{gated_loss, gated_walks, gated_conditions}
use Rattle.loss_walk.specs.Charged.{Spare, RayReady, RaysEntered, GatesEntered}
use Rattle.loss_walk.proofs.Faults.{faultless_sums, sums_faultless, fault_ten}

module _ (gates : ℕ → Gates) (bytes indices : List ℕ) (panes : ℕ) (losses : List ℕ) (rays : List Float) where
  module _ {Listed : ℕ → Type 0} (E : RaysEntered rays) (G : GatesEntered gates Listed rays) (i : ℕ) (there : i < ray_count rays) where
    unforged : (rays_of (gates i)).forged (walk_ray (ray_in rays i)) ≡ false
    unfolding ray_in rays_accepted
    unforged =
        gated_forged (gates i) (walk_ray (ray_in rays i)) (G.begun i there)
        (begun_accepted _ _ (get_or rays (i * 8 + 6) nan) (get_or rays (i * 8 + 7) nan)
        (all_at (λ k. accepted_ray (ray_in rays k)) (ray_count rays) E.accepted i there))

    pub ray_ready : (totals : List ℕ) → Spare panes totals → RayReady (gates i) panes (ray_in rays i) totals
    ray_ready totals h = record { accepted = unforged; spare = h }

  -- what a ray's walk found tells whether it had a fault
  module _ (i : ℕ) where
    tells : (a : P.Result RayLoss Refusal) → loss_result a ≡ gated_loss (gates i) bytes indices panes losses (ray_in rays i)
        → is_summed (loss_result a).answer ≡ gated_walks gates bytes indices panes losses rays i
    unfolding gated_walks
    tells a e = ap (λ (r : Result LossAnswer). is_summed r.answer) e

    pub refused_faults : (f : Refusal) → loss_result (P.Err f) ≡ gated_loss (gates i) bytes indices panes losses (ray_in rays i)
        → gated_walks gates bytes indices panes losses rays i ≡ false
    unfolding loss_result is_summed
    refused_faults f e = sym (tells (P.Err f) e)

    pub summed_walks : (found : RayLoss) → loss_result (P.Ok found) ≡ gated_loss (gates i) bytes indices panes losses (ray_in rays i)
        → gated_walks gates bytes indices panes losses rays i ≡ true
    unfolding loss_result is_summed
    summed_walks found e = sym (tells (P.Ok found) e)

    -- a fault has number 10
    pub refused_number : Fit (length bytes) (length indices) → (f : Refusal)
        → loss_result (P.Err f) ≡ gated_loss (gates i) bytes indices panes losses (ray_in rays i) → cause_number f ≡ 10
    unfolding loss_result gated_walks
    refused_number s f e =
        let t = fault_ten (gates i) bytes indices panes losses (ray_in rays i) (sizes_pass (length bytes) (length indices) s) (refused_faults f e) in
        let q : refused (cause_number f) ≡ refused 10 = ap (λ (r : Result LossAnswer). r.answer) (e ∙ t) in
        cc

  -- so the walks' cause is 10 where one has a fault, and none where none has
  pub walks_fault : all_below (gated_walks gates bytes indices panes losses rays) (ray_count rays) ≡ false
      → first_cause (gated_conditions gates bytes indices panes losses rays) ≡ 10
  unfolding gated_conditions
  walks_fault h = first_here [] h

  pub walks_none : all_below (gated_walks gates bytes indices panes losses rays) (ray_count rays) ≡ true
      → first_cause (gated_conditions gates bytes indices panes losses rays) ≡ 0
  unfolding gated_conditions
  walks_none h = passed_none (gated_conditions gates bytes indices panes losses rays) (h, tt)

-- ---- what a sum says

module _ (g : Gates) (bytes indices : List ℕ) (panes : ℕ) (losses : List ℕ) (r : Ray) where
  -- it is the sum over the positions met, after the tests that were made
  pub record Sums (loss tests : ℕ) : Type 0 where
    pub over : loss ≡ sum_over (loss_at indices losses) (positions_met_by g bytes (length indices) r)
    pub tested : tests ≡ tests_made_by g bytes (length indices) r

  pub summed_sums : (loss tests : ℕ) → gated_loss g bytes indices panes losses r ≡ record { answer = summed loss; tests = tests } → Sums loss tests
  summed_sums loss tests e =
      let f = sums_faultless g bytes indices panes losses r loss (ap (λ (x : Result LossAnswer). x.answer) e) in
      let q = sym e ∙ faultless_sums g bytes indices panes losses r f in
      let d : summed loss ≡ summed (sum_over (loss_at indices losses) (positions_met_by g bytes (length indices) r)) =
      ap (λ (x : Result LossAnswer). x.answer) q in
      record { over = cc; tested = ap (λ (x : Result LossAnswer). x.tests) q }
