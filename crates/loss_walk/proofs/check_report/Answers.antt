use Rattle.std.proofs.Common.{◌≡◌, length, sym, ap, ◌∙◌, rules}
use mathlib.Core.Logic.{⊎_elim}
use Rattle.causes.specs.Refusal.{cause_number, cause_in}
use Rattle.causes.proofs.Sizes.{Fit, none_record}
use Rattle.causes.proofs.Refusals.{ok_none, some_number}
use Rattle.loss_walk.proofs.Causes.{cause_lengths, cause_others, cause_sizes, cause_rays, cause_ray_room, cause_pane_room, cause_losses}
use Rattle.loss_walk.proofs.Causes.{cause_between, cause_accepted, cause_none}
use Rattle.loss_walk.proofs.check_report.Goals as goal
use Rattle.loss_walk.proofs.check_report.Goals.{In_ok-record_sizes}

-- the record has no cause
fit : (c : In_ok-record_sizes) → Fit (length c.args.«record».now) (length c.args.indices.now)
fit c = none_record _ _ (ok_none c.in_ok-record_sizes.was c.record_sizes.ensures)

pub returns-then-rays-ne0 : goal.returns-then-rays-ne0
returns-then-rays-ne0 c =
    ⊎_elim (cause_lengths _ _ _ _ _ _ _ _ _) (λ h. cause_others _ _ _ _ _ _ _ _ _ h.1) c.then-rays-ne0.either

pub returns-in_err-record_sizes : goal.returns-in_err-record_sizes
returns-in_err-record_sizes c =
    let f = c.in_err-record_sizes.field-0.0 in
    let own : cause_in c.from_residual.result ≡ cause_number f = search rules in
    let same = c.in_err-record_sizes.ensures in
    own ∙ same ∙ cause_sizes _ _ _ _ _ _ _ _ _ c.if-rays-ne0.false c.if-not-fits.false (λ z. some_number f (same ∙ z))

pub returns-then-count-gt-MOST_RAYS : goal.returns-then-count-gt-MOST_RAYS
returns-then-count-gt-MOST_RAYS c =
    let f = fit (goal.at.returns-then-count-gt-MOST_RAYS c).In_ok-record_sizes in
    cause_rays _ _ _ _ _ _ _ _ _ c.if-rays-ne0.false c.if-not-fits.false f c.if-count-gt-MOST_RAYS.true

pub returns-then-ray_room-count : goal.returns-then-ray_room-count
returns-then-ray_room-count c =
    let f = fit (goal.at.returns-then-ray_room-count c).In_ok-record_sizes in
    let a = c.if-rays-ne0.false in
    let o = c.if-not-fits.false in
    let b = c.if-count-gt-MOST_RAYS.false in
    ⊎_elim (cause_ray_room _ _ _ _ _ _ _ _ _ a o f b) (λ h. cause_pane_room _ _ _ _ _ _ _ _ _ a o f b h.1) c.then-ray_room-count.either

pub returns-then-not-losses_fit : goal.returns-then-not-losses_fit
returns-then-not-losses_fit c =
    let f = fit (goal.at.returns-then-not-losses_fit c).In_ok-record_sizes in
    cause_losses _ _ _ _ _ _ _ _ _ c.if-rays-ne0.false c.if-not-fits.false f c.if-count-gt-MOST_RAYS.false c.if-ray_room-count.false
    c.if-pane_room-panes.false (sym c.losses_fit.ensures ∙ c.if-not-losses_fit.true)

pub returns-in_err-between : goal.returns-in_err-between
returns-in_err-between c =
    let f = fit (goal.at.returns-in_err-between c).In_ok-record_sizes in
    let k = c.in_err-between.field-0.0 in
    let own : cause_in c.from_residual-in_err-between.result ≡ cause_number k = search rules in
    let same : cause_in c.args.between ≡ cause_number k = ap cause_in c.in_err-between.was in
    own ∙ sym same
    ∙ cause_between _ _ _ _ _ _ _ _ _ c.if-rays-ne0.false c.if-not-fits.false f c.if-count-gt-MOST_RAYS.false c.if-ray_room-count.false
    c.if-pane_room-panes.false (sym c.losses_fit.ensures ∙ c.if-not-losses_fit.false) (λ z. some_number k (sym same ∙ z))

pub returns-then-not-rays_accepted : goal.returns-then-not-rays_accepted
returns-then-not-rays_accepted c =
    let f = fit (goal.at.returns-then-not-rays_accepted c).In_ok-record_sizes in
    cause_accepted _ _ _ _ _ _ _ _ _ c.if-rays-ne0.false c.if-not-fits.false f c.if-count-gt-MOST_RAYS.false c.if-ray_room-count.false
    c.if-pane_room-panes.false (sym c.losses_fit.ensures ∙ c.if-not-losses_fit.false) (ap cause_in c.in_ok-between.was)
    (sym c.rays_accepted.ensures ∙ c.if-not-rays_accepted.true)

pub returns : goal.returns
returns c =
    let f = fit (goal.at.returns c).In_ok-record_sizes in
    cause_none _ _ _ _ _ _ _ _ _ c.if-rays-ne0.false c.if-not-fits.false f c.if-count-gt-MOST_RAYS.false c.if-ray_room-count.false
    c.if-pane_room-panes.false (sym c.losses_fit.ensures ∙ c.if-not-losses_fit.false) (ap cause_in c.in_ok-between.was)
    (sym c.rays_accepted.ensures ∙ c.if-not-rays_accepted.false)
