use Rattle.std.proofs.Common.{◌≡◌, true, set, refl, sym, ap, ◌∙◌, subst}
use Rattle.std.specs.Prelude as P
use Rattle.lists.proofs.Tells.{clash}
use Rattle.causes.specs.declared.Refusal.{Refusal}
use Rattle.query.specs.Result.{Result}
use Rattle.loss_walk.specs.declared.RayLoss.{RayLoss}
use Rattle.loss_walk.specs.Losses.{LossAnswer, is_summed, loss_result}
use Rattle.loss_walk.specs.Charged.{Charges}
use Rattle.loss_walk.proofs.Reports.{summed_sums}
use Rattle.loss_walk.proofs.total_ray.Goals as goal

-- what has summed is not refused
summed_ok : (a : P.Result RayLoss Refusal) → is_summed (loss_result a).answer ≡ true → P.IsOk a
unfolding loss_result is_summed
summed_ok (P.Ok found) e = refl
summed_ok (P.Err f) e = clash e

pub unwrap-found-requires : goal.unwrap-found-requires
unwrap-found-requires g c =
    summed_ok c.loss_of.result (ap (λ (x : Result LossAnswer). is_summed x.answer) c.loss_of.ensures.result_value ∙ c.requires.2)

pub returns : goal.returns
unfolding loss_result
returns g c =
    let a = c.args in
    let q = c.unwrap-found.ensures in
    let h = summed_sums (g.W.Walks.gates a.walks a.i) a.scene.bytes.now a.scene.indices.now a.scene.panes a.scene.losses.now a.ray _ _
    (sym c.loss_of.ensures.result_value ∙ ap loss_result q) in
    record {
      value = h.tested;
      ray_totals_after = ap (set a.ray_totals.now a.i) h.over;
      pane_totals_after = subst (λ (x : P.Result RayLoss Refusal).
          Charges (g.W.Walks.gates a.walks a.i) a.scene.bytes.now a.scene.indices.now a.scene.losses.now a.ray x
          a.pane_totals.now c.loss_of.new.totals) q c.loss_of.ensures.charges;
    }
