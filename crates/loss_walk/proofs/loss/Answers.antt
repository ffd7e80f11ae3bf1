use Rattle.std.proofs.Common.{◌≡◌, ℕ, true, false, length, sym, ap, ◌∙◌, subst, rules, arith}
use Rattle.causes.specs.Refusal.{cause_number, cause_in}
use Rattle.causes.proofs.Refusals.{some_number}
use Rattle.ray.specs.declared.Ray.{Ray}
use Rattle.ray.specs.Ray.{ray_from}
use Rattle.walk_record.specs.WalkRay.{walk_ray, rays_of}
use Rattle.walk_record.proofs.Laws.{bytes_fit}
use Rattle.walk_record.proofs.WalkRay.{begun_accepted, gated_forged}
use Rattle.query.specs.Entry.{entry_cause}
use Rattle.query.specs.Result.{unanswered}
use Rattle.query.proofs.Entry.{Entered, entered, by_cause, without_cause}
use Rattle.loss_walk.specs.Losses.{refused, loss_result}
use Rattle.loss_walk.specs.Gated.{gated_loss}
use Rattle.loss_walk.specs.Entry.{own_cause}
use Rattle.loss_walk.proofs.Causes.{own_none}
use Rattle.loss_walk.proofs.loss.Goals as goal
use Rattle.loss_walk.proofs.loss.Goals.{After-check_entry}

module _ (g : _) (c : After-check_entry g) where
  abbrev made : Ray
  made = ray_from c.args.beam

  -- the call's own cause
  abbrev own_found : ℕ
  own_found = own_cause c.args.panes c.args.losses.now (cause_in c.args.between)

  -- the cause is that of the definition
  found : let a = c.args in cause_in c.check_entry.result ≡ entry_cause true (length a.«record».now) (length a.indices.now) own_found made
  found =
      let a = c.args in
      c.check_entry.ensures
      ∙ ap (λ (k : ℕ). entry_cause true (length a.«record».now) (length a.indices.now) k c.new-ray.result) c.check_own-own.ensures
      ∙ ap (entry_cause true (length a.«record».now) (length a.indices.now) own_found) c.new-ray.ensures

  -- and where it is none
  enters : let a = c.args in cause_in c.check_entry.result ≡ 0 → Entered true (length a.«record».now) (length a.indices.now) own_found made
  enters z = entered _ _ _ _ _ (sym found ∙ z)

pub returns-in_err-check_entry : goal.returns-in_err-check_entry
unfolding loss_result
returns-in_err-check_entry g c =
    let a = c.args in
    let k = (goal.at.returns-in_err-check_entry g c).After-check_entry in
    let f = c.in_err-check_entry.field-0.0 in
    let own : loss_result c.from_residual.result ≡ unanswered (refused (cause_number f)) = search rules in
    let same : cause_in c.check_entry.result ≡ cause_number f = ap cause_in c.in_err-check_entry.was in
    own ∙ by_cause refused (cause_number f) _
    (gated_loss (g.G.Gate.gates a.gate) a.«record».now a.indices.now a.panes a.losses.now (made g k)) (sym same ∙ found g k)
    (omega (arith, some_number f))

pub invariant_of-scene : goal.invariant_of-scene
invariant_of-scene g c =
    let h = enters g (goal.at.invariant_of-scene g c).After-check_entry (ap cause_in c.in_ok-check_entry.was) in
    record {
      sizes = h.sizes;
      fitting = (own_none c.args.panes c.args.losses.now (cause_in c.args.between) h.none).0;
      fields = bytes_fit _ (λ j. (c.type_inv.record j).fits);
    }

pub ray_loss-requires : goal.ray_loss-requires
ray_loss-requires g c =
    let a = c.args in
    let gates = g.G.Gate.gates a.gate in
    let h = enters g (goal.at.ray_loss-requires g c).After-check_entry (ap cause_in c.in_ok-check_entry.was) in
    record {
      accepted = subst (λ (r : Ray). (rays_of gates).forged (walk_ray r) ≡ false) (sym c.new-ray.ensures)
          (gated_forged gates (walk_ray (ray_from a.beam))
          (c.requires (own_none a.panes a.losses.now (cause_in a.between) h.none).1)
          (begun_accepted a.beam.origin a.beam.direction a.beam.tmin a.beam.tmax h.accepted));
      spare = λ k l. omega arith;
    }

pub returns : goal.returns
returns g c =
    let a = c.args in
    let k = (goal.at.returns g c).After-check_entry in
    let none : cause_in c.check_entry.result ≡ 0 = ap cause_in c.in_ok-check_entry.was in
    let given = gated_loss (g.G.Gate.gates a.gate) a.«record».now a.indices.now a.panes a.losses.now in
    c.ray_loss.ensures.result_value ∙ ap given c.new-ray.ensures
    ∙ without_cause refused (cause_in c.check_entry.result) _ (given (made g k)) (found g k) (omega (arith, none))
