use Rattle.std.proofs.Common.{◌≡◌, length, sym, subst, ap, ◌∙◌, arith, rules}
use Rattle.ray.specs.declared.Ray.{Ray}
use Rattle.loss_walk.specs.Losses.{loss_result}
use Rattle.loss_walk.specs.Gated.{gated_loss}
use Rattle.loss_walk.specs.Charged.{RayReady, Charges}
use Rattle.loss_walk.proofs.Adding.{walk_empty}
use Rattle.loss_walk.proofs.ray_loss.Goals as goal

pub returns-then-is_empty : goal.returns-then-is_empty
unfolding loss_result
returns-then-is_empty g c =
    let s = c.args.scene in
    let empty : length s.bytes.now ≡ 0 = search rules in
    let e = walk_empty (g.G.Gate.gates c.args.gate) s.bytes.now s.indices.now s.panes s.losses.now c.args.ray s.fields
    c.requires.accepted (omega (arith, empty)) s.sizes.few c.args.totals.now in
    record { result_value = e.0; charges = e.1 }

pub walk_losses-requires : goal.walk_losses-requires
walk_losses-requires g c =
    let s = c.args.scene in
    let full : length s.bytes.now ≡ 0 → ⊥ = search rules in
    let e = c.new-aim.ensures in (
      omega (arith, s.sizes.whole, full),
      search rules,
      subst (λ (r : Ray). RayReady (g.G.Gate.gates c.args.gate) s.panes r c.args.totals.now) (sym e.0) c.requires,
    )

pub returns : goal.returns
returns g c =
    let s = c.args.scene in
    let e = c.new-aim.ensures.0 in
    let w = c.walk_losses in
    record {
      result_value = w.ensures.result_value ∙ ap (gated_loss (g.G.Gate.gates c.args.gate) s.bytes.now s.indices.now s.panes s.losses.now) e;
      charges = subst (λ (r : Ray).
          Charges (g.G.Gate.gates c.args.gate) s.bytes.now s.indices.now s.losses.now r w.result c.args.totals.now w.new.totals) e w.ensures.charges;
    }
