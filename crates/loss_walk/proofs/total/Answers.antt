use Rattle.std.proofs.Common.{◌≡◌, ℕ, ◌≤◌, true, List, ◌++◌, length, set, take, drop, sym, ap, ◌∙◌, subst, arith}
use Rattle.std.proofs.Math.ListN.{replicate, length-append, length-drop, length-replicate}
use Rattle.std.proofs.Math.Seq.{length-take-le}
use Rattle.lists.specs.Sums.{sum_over}
use Rattle.lists.proofs.Tells.{all_at}
use Rattle.ray.specs.declared.Ray.{Ray}
use Rattle.packed.specs.Packed.{ray_in, ray_count}
use Rattle.query.specs.Met.{positions_met_by, tests_made_by, panes_met}
use Rattle.loss_walk.specs.Losses.{loss_at, is_summed}
use Rattle.loss_walk.specs.Gated.{gated_loss, gated_walks}
use Rattle.loss_walk.specs.Charged.{charged, RayReady}
use Rattle.loss_walk.proofs.Faults.{summed_faultless}
use Rattle.loss_walk.proofs.Reports.{ray_ready}
use Rattle.loss_walk.proofs.Written.{totals_begin, totals_next, totals_end, totals_spare, ray_words}
use Rattle.loss_walk.proofs.total.Goals as goal
use Rattle.loss_walk.proofs.total.Goals.{At-loop-i}

module _ (g : _) (c : At-loop-i g) where
  cleared-length : length c.fill.new.self ≡ c.args.scene.panes
  cleared-length =
      ap length (c.fill.ensures.after (λ y h. h)) ∙ length-replicate (length (take c.args.scene.panes c.args.pane_totals.now)) 0
      ∙ length-take-le c.args.scene.panes c.args.pane_totals.now c.requires.rays_in_bounds.1

  -- the pane totals as they were cleared have room
  room : c.args.scene.panes ≤ length (c.fill.new.self ++ drop c.args.scene.panes c.args.pane_totals.now)
  room =
      let d = drop c.args.scene.panes c.args.pane_totals.now in
      omega (
        arith,
        cleared-length,
        length-append c.fill.new.self d,
        length-drop c.args.scene.panes c.args.pane_totals.now,
        c.requires.rays_in_bounds.1,
      )

pub loop-i-init : goal.loop-i-init
loop-i-init g c =
    let a = c.args in
    let l = length-take-le a.scene.panes a.pane_totals.now c.requires.rays_in_bounds.1 in
    let e = c.fill.ensures.after (λ y h. h) ∙ ap (λ (j : ℕ). replicate j 0) l in (
      omega arith,
      totals_begin (g.W.Walks.gates a.walks) a.scene.bytes.now a.scene.indices.now a.scene.panes a.scene.losses.now a.rays.now
          a.ray_totals.now a.pane_totals.now
          c.fill.new.self e c.requires.rays_in_bounds.1,
    )

pub total_ray-requires : goal.total_ray-requires
unfolding gated_walks
total_ray-requires g c =
    let a = c.args in
    let s = a.scene in
    let gates = g.W.Walks.gates a.walks in
    let E = c.requires.entered in
    let b = c.requires.rays_in_bounds in
    let t = c.loop-i.invariant.1 in
    let h = c.loop-i-test.true in
    let e = sym c.ray_at-ray.ensures in
    let r = room g (goal.at.total_ray-requires g c).At-loop-i in
    let w = all_at (gated_walks gates s.bytes.now s.indices.now s.panes s.losses.now a.rays.now) (ray_count a.rays.now) b.2 c.loop-i.i h in (
      E.1.listed c.loop-i.i h,
      subst (λ (r : Ray). RayReady (gates c.loop-i.i) s.panes r c.loop-i.pane_totals) e
          (ray_ready gates s.bytes.now s.indices.now s.panes s.losses.now a.rays.now E.0 E.1 c.loop-i.i h c.loop-i.pane_totals
          (totals_spare gates s.bytes.now s.indices.now s.panes s.losses.now a.rays.now t r s.fitting s.sizes.small
          (omega (arith, h, E.0.few)))),
      subst (λ (r : Ray). is_summed (gated_loss (gates c.loop-i.i) s.bytes.now s.indices.now s.panes s.losses.now r).answer ≡ true) e w,
      omega (arith, h, b.0, ray_words gates s.bytes.now s.indices.now s.panes s.losses.now a.rays.now t r (omega (arith, h, b.0))),
    )

pub loop-i-preserved : goal.loop-i-preserved
unfolding gated_walks
loop-i-preserved g c =
    let a = c.args in
    let s = a.scene in
    let gates = g.W.Walks.gates a.walks in
    let b = c.requires.rays_in_bounds in
    let h = c.loop-i-test.true in
    let e = c.ray_at-ray.ensures in
    let w = all_at (gated_walks gates s.bytes.now s.indices.now s.panes s.losses.now a.rays.now) (ray_count a.rays.now) b.2 c.loop-i.i h in
    let y = summed_faultless (gates c.loop-i.i) s.bytes.now s.indices.now s.panes s.losses.now (ray_in a.rays.now c.loop-i.i) w in
    let m : Ray → List ℕ = λ r. positions_met_by (gates c.loop-i.i) s.bytes.now (length s.indices.now) r in
    let t = c.total_ray in (
      omega (arith, t.type_inv, c.loop-i.invariant.0),
      totals_next gates s.bytes.now s.indices.now s.panes s.losses.now a.rays.now c.loop-i.invariant.1
          (room g (goal.at.loop-i-preserved g c).At-loop-i) (omega (arith, h, b.0)) y.there _ _ t.result
          (t.ensures.value ∙ ap (tests_made_by (gates c.loop-i.i) s.bytes.now (length s.indices.now)) e)
          (t.ensures.ray_totals_after
          ∙ ap (λ (r : Ray). set c.loop-i.ray_totals c.loop-i.i (sum_over (loss_at s.indices.now s.losses.now) (m r))) e)
          (t.ensures.pane_totals_after ∙ ap (λ (r : Ray). charged s.losses.now c.loop-i.pane_totals (panes_met s.indices.now (m r))) e),
    )

pub returns : goal.returns
returns g c =
    let a = c.args in
    totals_end (g.W.Walks.gates a.walks) a.scene.bytes.now a.scene.indices.now a.scene.panes a.scene.losses.now a.rays.now
    c.loop-i.tests a.ray_totals.now a.pane_totals.now
    c.fill.new.self c.loop-i.ray_totals c.loop-i.pane_totals (cleared-length g (goal.at.returns g c).At-loop-i) c.loop-i.i
    (omega (arith, c.loop-i.auto.i-end, c.loop-i-test.false)) c.loop-i.invariant.1
