use Rattle.std.proofs.Common.{◌≡◌, ℕ, Bool, [], refl, sym, ap, ◌∙◌, subst, rules, arith}
use Rattle.lists.specs.Below.{all_below}
use Rattle.lists.proofs.Tells.{all_next, all_reached, one_fails}
use Rattle.causes.specs.Refusal.{cause_number, cause_in}
use Rattle.ray.specs.declared.Ray.{Ray}
use Rattle.gate.specs.Gates.{Gates}
use Rattle.packed.specs.Packed.{ray_in}
use Rattle.loss_walk.specs.Losses.{loss_result}
use Rattle.loss_walk.specs.Gated.{gated_loss, gated_walks}
use Rattle.loss_walk.specs.Charged.{RayReady}
use Rattle.loss_walk.proofs.Reports.{ray_ready, refused_faults, refused_number, summed_walks, walks_fault, walks_none}
use Rattle.loss_walk.proofs.check_walks.Goals as goal
use Rattle.loss_walk.proofs.check_walks.Goals.{After-loss_of}

module _ (g : _) (c : After-loss_of g) where
  abbrev gates : ℕ → Gates
  gates = g.W.Walks.gates c.args.walks

  -- the walks of the rays of this call
  abbrev walks : ℕ → Bool
  walks = let s = c.args.scene in gated_walks gates s.bytes.now s.indices.now s.panes s.losses.now c.args.rays.now

  -- what a ray's walk found, for the ray of the list
  found : let s = c.args.scene in
      loss_result c.loss_of.result ≡ gated_loss (gates c.loop-i.i) s.bytes.now s.indices.now s.panes s.losses.now (ray_in c.args.rays.now c.loop-i.i)
  found =
      let s = c.args.scene in
      c.loss_of.ensures.result_value
      ∙ ap (gated_loss (gates c.loop-i.i) s.bytes.now s.indices.now s.panes s.losses.now) c.ray_at-ray.ensures

pub loop-i-init : goal.loop-i-init
unfolding all_below
loop-i-init g c = refl

pub loss_of-requires : goal.loss_of-requires
loss_of-requires g c =
    let a = c.args in
    let gates = g.W.Walks.gates a.walks in
    record {
      there = c.requires.1.listed c.loop-i.i c.loop-i-test.true;
      ready = subst (λ (r : Ray). RayReady (gates c.loop-i.i) a.scene.panes r []) (sym c.ray_at-ray.ensures)
          (ray_ready gates a.scene.bytes.now a.scene.indices.now a.scene.panes a.scene.losses.now a.rays.now c.requires.0 c.requires.1 c.loop-i.i
          c.loop-i-test.true [] (λ k h. omega arith));
    }

pub returns-in_err-loss_of : goal.returns-in_err-loss_of
returns-in_err-loss_of g c =
    let a = c.args in
    let gates = g.W.Walks.gates a.walks in
    let k = (goal.at.returns-in_err-loss_of g c).After-loss_of in
    let f = c.in_err-loss_of.field-0.0 in
    let own : cause_in c.from_residual.result ≡ cause_number f = search rules in
    let e = ap loss_result (sym c.in_err-loss_of.was) ∙ found g k in
    let h = refused_faults gates a.scene.bytes.now a.scene.indices.now a.scene.panes a.scene.losses.now a.rays.now c.loop-i.i f e in
    own ∙ refused_number gates a.scene.bytes.now a.scene.indices.now a.scene.panes a.scene.losses.now a.rays.now c.loop-i.i a.scene.sizes f e
    ∙ sym (walks_fault _ _ _ _ _ _ (one_fails (walks g k) _ c.loop-i.i c.loop-i-test.true h))

pub loop-i-preserved : goal.loop-i-preserved
loop-i-preserved g c =
    let a = c.args in
    let k = (goal.at.loop-i-preserved g c).After-loss_of in
    let f = summed_walks (g.W.Walks.gates a.walks) a.scene.bytes.now a.scene.indices.now a.scene.panes a.scene.losses.now a.rays.now c.loop-i.i _
    (ap loss_result (sym c.in_ok-loss_of.was) ∙ found g k) in
    all_next (walks g k) c.loop-i.i c.loop-i.invariant f

pub returns : goal.returns
returns g c =
    let a = c.args in
    let walks = gated_walks (g.W.Walks.gates a.walks) a.scene.bytes.now a.scene.indices.now a.scene.panes a.scene.losses.now a.rays.now in
    sym (walks_none _ _ _ _ _ _ (all_reached walks c.loop-i.i _ c.loop-i.invariant c.loop-i-test.false))
