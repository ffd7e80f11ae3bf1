-- Over two records that are alike to rays any-hit gives the same answer and lists positions of the same panes, and losses and reports are equal.
use mathlib.Core.Bool.{true}
use mathlib.Core.List.{List, Perm}
use mathlib.Core.Path.{◌≡◌, refl, ap, subst, ◌∙◌}
use Prim.Native.Nat.{ℕ, ◌≤◌, ◌<◌}
use lib.Ieee.{Float}
use lib.ListN.{length}
use Rattle.lists.proofs.Tells.{all_at}
use Rattle.causes.specs.Causes.{Condition, first_cause}
use Rattle.causes.proofs.Sizes.{Fit}
use Rattle.ray.specs.declared.Ray.{Ray}
use Rattle.ray.specs.declared.Beam.{Beam}
use Rattle.ray.specs.Ray.{ray_from, accepted_ray}
use Rattle.packed.specs.Packed.{ray_in, ray_count, rays_accepted}
use Rattle.gate.specs.Gates.{all_open}
use Rattle.query.specs.Met.{positions_met, panes_met}
use Rattle.any_hit.specs.AnyHit.{any_hit_of}
use Rattle.loss_walk.specs.Gated.{gated_report}
use Rattle.loss.specs.Loss.{loss_cause, loss_walked, loss_of, every_open, report_conditions, walk_conditions, report_by, report_of}
use Rattle.demands.specs.Loss.{ReportCall}
use Rattle.demands.specs.Walks.{AcceptedRay, list_left}
use Rattle.demands.proofs.Listed.{list_found}
use Rattle.demands.proofs.Rays.{ray_accepted}
use Rattle.demands.proofs.Totalled.{on_entry, none_enters}
use Rattle.ordered_reports.specs.Alike.{SizedAlike, MetAlike, AllMetAlike}
use Rattle.ordered_reports.proofs.Beside.{lengths, gated_any_hit_alike, gated_loss_alike, gated_report_alike}

-- a ray made from its parts
pub beam_accepted : (beam : Beam) → accepted_ray (ray_from beam) ≡ true → AcceptedRay (ray_from beam)
beam_accepted beam h =
    record { origin = beam.origin; direction = beam.direction; tmin = beam.tmin; tmax = beam.tmax; made = refl; accepted = h }

module _ {n : ℕ} {bytes list other_bytes other_list : List ℕ} (sized : SizedAlike n bytes list other_bytes other_list)
    (alike : AllMetAlike n bytes list other_bytes other_list) where
  -- of a ray as it is asked for, accepted or not
  module _ (beam : Beam) where
    met_if : accepted_ray (ray_from beam) ≡ true → MetAlike n bytes list other_bytes other_list (ray_from beam)
    met_if h = alike (ray_from beam) (beam_accepted beam h)

    -- Any-hit answers the same: the same refusal on entry, or as many positions after as many tests, or the same length that is lacking.
    pub any_hit_alike : (room : ℕ) → any_hit_of bytes n (ray_from beam) room ≡ any_hit_of other_bytes n (ray_from beam) room
    unfolding any_hit_of
    any_hit_alike = gated_any_hit_alike sized all_open all_open (ray_from beam) 0 (λ z. met_if)

    -- A loss is the same, and so is its refusal.
    pub loss_alike : (panes : ℕ) (losses : List ℕ)
        → loss_of bytes list panes losses (ray_from beam) ≡ loss_of other_bytes other_list panes losses (ray_from beam)
    unfolding loss_of loss_walked
    loss_alike panes losses = gated_loss_alike sized all_open all_open (ray_from beam) (loss_cause panes losses) (λ z. met_if) panes losses

  -- Lists with room for all positions that an accepted ray meets are left with positions of the same panes, each as often.
  pub lists_alike : (r : Ray) → AcceptedRay r → (before other_before : List ℕ) → length (positions_met bytes n r) ≤ length before
      → length (positions_met other_bytes n r) ≤ length other_before
      → Perm (panes_met list (list_left bytes r n before)) (panes_met other_list (list_left other_bytes r n other_before))
  lists_alike r a before other_before h k =
      let m = alike r a in
      let other_fit = subst (λ (b : ℕ). Fit b n) sized.same_length sized.fit in
      rw (
        list_found bytes n r sized.fit a.accepted m.ends before h,
        list_found other_bytes n r other_fit a.accepted m.other_ends other_before k,
      ) m.panes

  -- ---- many rays

  module _ (panes : ℕ) (losses : List ℕ) (rays : List Float) (ray_totals pane_totals : List ℕ) where
    abbrev call_over : (record_bytes record_list : List ℕ) → ReportCall
    call_over record_bytes record_list = record {
      bytes = record_bytes;
      indices = record_list;
      panes = panes;
      losses = losses;
      rays = rays;
      ray_totals = ray_totals;
      pane_totals = pane_totals;
    }

    abbrev here : ReportCall
    here = call_over bytes list

    -- the same is looked at on entry
    entry_same : on_entry here ≡ on_entry (call_over other_bytes other_list)
    unfolding report_conditions
    entry_same = rw (sized.same_length, lengths sized) refl

    met_ray : first_cause (on_entry here) ≡ 0 → (i : ℕ) → i < ray_count rays → MetAlike n bytes list other_bytes other_list (ray_in rays i)
    unfolding rays_accepted
    met_ray none i h =
        let accepted = all_at (λ k. accepted_ray (ray_in rays k)) (ray_count rays) (none_enters here none).entered.accepted i h in
        alike (ray_in rays i) (ray_accepted rays i accepted)

    -- A whole report is the same: its answer, a refusal too, and what it leaves of both slices.
    pub report_alike : report_of bytes list panes losses rays ray_totals pane_totals
        ≡ report_of other_bytes other_list panes losses rays ray_totals pane_totals
    unfolding report_of report_by walk_conditions gated_report
    report_alike =
        gated_report_alike sized every_open every_open panes losses rays (on_entry here) met_ray ray_totals pane_totals
        ∙ ap (λ (l : List Condition). gated_report every_open other_bytes other_list panes losses rays l ray_totals pane_totals) entry_same
