-- Losses and reports at quarter hours over every sound record (02, [3] and [7]): beside any side table as it is read, where the lists fit, no call of
-- an accepted ray or of a list of them is refused, and no ray's loss is more than 1,000,000 for each position.
use mathlib.Core.Bool.{Bool, true, false}
use mathlib.Core.List.{List}
use mathlib.Core.Path.{◌≡◌, refl, sym}
use Prim.Native.Nat.{ℕ, ◌*◌, ◌≤◌, ◌<◌}
use native.Mathlib.Omega.{arith}
use borrow.Author.Tests.{eq-eqb, ltb-true}
use lib.Dec.{eqb, ltb}
use lib.ListN.{length, get_or}
use Rattle.lists.proofs.Tells.{both_pass, all_pass}
use Rattle.causes.proofs.Causes.{passed_none}
use Rattle.ray.specs.declared.Ray.{Ray}
use Rattle.ray.specs.Ray.{accepted_ray}
use Rattle.packed.specs.Packed.{ray_in, rays_accepted}
use Rattle.span.specs.Span.{quarter_fits}
use Rattle.record_shape.specs.Record.{node_count}
use Rattle.walk.specs.Listing.{In}
use Rattle.query.specs.Met.{panes_met}
use Rattle.loss_walk.specs.Losses.{all_there}
use Rattle.loss_walk.proofs.Causes.{cause_none}
use Rattle.loss_walk.proofs.Faults.{Faultless}
use Rattle.loss_walk.proofs.There.{missing}
use Rattle.timed.specs.Hours.{Timetable, pane_of, gates_at}
use Rattle.timed.proofs.Listed.{timed_meets, position_there}
use Rattle.timed_entry.specs.Entry.{timetable}
use Rattle.loss_timed.specs.Timed.{quarters_fit, hours_conditions, loss_timed_of, report_timed_of}
use Rattle.demands.specs.Walks.{CheckedRecord, AcceptedRay}
use Rattle.demands.proofs.GatedLoss.{entry_free, faultless_called, over_met, over_most_lem}
use Rattle.demands.proofs.GatedReport.{faultless_totals, words_most}
use Rattle.demands.proofs.Rays.{ray_accepted, not_forged}
use Rattle.demands.proofs.SoundLoss.{losses_fit_lem}
use Rattle.demands.proofs.SoundWalks.{sizes_fit_lem}
use Rattle.timed_demands.specs.Walks.{CheckedAt, found}
use Rattle.timed_demands.proofs.Listed.{checked_beside, no_cause, ends_met}
use Rattle.loss_timed_demands.specs.Loss.{TimedLossCall, hours, Loses}
use Rattle.loss_timed_demands.specs.NotRefused.{ListsFit, RaysAt, NotRefusedAt}
use Rattle.loss_timed_demands.specs.Report.{TimedReportCall, Reports, rays_given, single, ray_word, UnrefusedOnEntry, hours_cause}
use Rattle.loss_timed_demands.proofs.Loss.{gates, between}
use Rattle.loss_timed_demands.proofs.Report.{beside, agrees}

-- ---- the walk of one ray

module _ {bytes : List ℕ} {h : Timetable} (good : CheckedAt bytes h) (losses : List ℕ) {ray : Ray} (accepted : AcceptedRay ray) where
  -- it meets no more positions than there are,
  met_most : length (found bytes h ray) ≤ length h.indices
  met_most = (timed_meets good.sound_at (not_forged accepted)).most

  -- the index word of each names a pane,
  met_there : (p : ℕ) → In p (found bytes h ray) → pane_of h p < h.panes
  met_there p i =
      let q = ((timed_meets good.sound_at (not_forged accepted)).exact p).0 i in
      ltb-true (pane_of h p) h.panes
      (both_pass (ltb p (length h.indices)) (ltb (pane_of h p) h.panes) (position_there good.sound_at q.0 q.2.slot p q.2.stands)).1

  all_met_there : (b : Bool) → all_there h.panes (panes_met h.indices (found bytes h ray)) ≡ b → b ≡ true
  all_met_there true e = refl
  all_met_there false e =
      let u = missing h.panes h.indices (found bytes h ray) e in
      absurd (omega (arith, met_there u.0 u.1, u.2))

  -- and it has no fault
  no_fault : Faultless (gates_at h) bytes h.indices h.panes losses ray
  no_fault = record { there = all_met_there _ refl; ends = ends_met good accepted }

-- lists that fit a sound record do so at each quarter hour of a day
checked_at : {bytes side indices : List ℕ} {panes : ℕ} {spans losses : List ℕ} {d : ℕ} → CheckedRecord bytes (length indices) d
    → ListsFit bytes side indices panes spans losses → (quarter : ℕ) → quarter_fits quarter ≡ true
    → CheckedAt bytes (timetable side indices panes spans quarter)
checked_at good fine = checked_beside good fine.rows fine.of_day fine.fitting.named

-- ---- one ray

module _ (c : TimedLossCall) {d : ℕ} (good : CheckedRecord c.bytes (length c.indices) d)
    (fine : ListsFit c.bytes c.side c.indices c.panes c.spans c.losses) (fits : quarter_fits c.quarter ≡ true) (accepted : AcceptedRay c.ray) where
  at_hours : CheckedAt c.bytes (hours c)
  at_hours = checked_at good fine c.quarter fits

  -- the losses of all positions met
  abbrev sum_met : ℕ
  sum_met = over_met (gates c) (between c) c.bytes c.indices c.panes c.losses c.ray

  sound_loses : Loses c sum_met
  unfolding loss_timed_of
  sound_loses =
      faultless_called (gates c) (between c) c.bytes c.indices c.panes c.losses c.ray
      (entry_free (gates c) (between c) c.bytes c.indices c.panes c.losses c.ray (sizes_fit_lem good) (losses_fit_lem fine.fitting)
      (no_cause at_hours) accepted.accepted)
      (no_fault at_hours c.losses accepted)

  -- at most one loss for each position
  sound_most : sum_met ≤ length c.indices * 1000000
  sound_most =
      omega (
        arith,
        over_most_lem (gates c) (between c) c.bytes c.indices c.panes c.losses c.ray (losses_fit_lem fine.fitting),
        met_most at_hours c.losses accepted,
      )

-- ---- many rays

module _ (c : TimedReportCall) {d : ℕ} (good : CheckedRecord c.bytes (length c.indices) d)
    (fine : ListsFit c.bytes c.side c.indices c.panes c.spans c.losses) (given : RaysAt c.rays c.quarters)
    (ray_room : rays_given c ≤ length c.ray_totals) (pane_room : c.panes ≤ length c.pane_totals) where
  no_hours_cause : hours_cause c ≡ 0
  unfolding hours_conditions quarters_fit
  no_hours_cause =
      passed_none (hours_conditions c.bytes (timetable c.side c.indices c.panes c.spans 0) c.quarters) (
        fine.of_day,
        (
          eq-eqb (length c.side) (16 * node_count c.bytes) fine.rows,
          (all_pass (λ i. quarter_fits (get_or c.quarters i 0)) (length c.quarters) given.of_day, tt),
        ),
      )

  nothing_on_entry : UnrefusedOnEntry c
  unfolding rays_accepted
  nothing_on_entry =
      sym (cause_none (eqb (length c.quarters) (rays_given c)) (hours_cause c) c.bytes c.indices c.panes c.losses c.rays (length c.ray_totals)
      (length c.pane_totals) given.accepted.whole (eq-eqb (length c.quarters) (rays_given c) given.each) (sizes_fit_lem good)
      given.accepted.few ray_room pane_room (losses_fit_lem fine.fitting) no_hours_cause
      (all_pass (λ k. accepted_ray (ray_in c.rays k)) (rays_given c) given.accepted.accepted))

  ray_hours : (i : ℕ) → i < rays_given c → CheckedAt c.bytes (hours (single c i))
  ray_hours i h = checked_at good fine (get_or c.quarters i 0) (given.of_day i (omega (arith, h, given.each)))

  ray_of_lem : (i : ℕ) → i < rays_given c → AcceptedRay (ray_in c.rays i)
  ray_of_lem i h = ray_accepted c.rays i (given.accepted.accepted i h)

  sound_totals : (tests : ℕ) × Reports c tests × ((i : ℕ) → i < rays_given c → ray_word c i ≤ length c.indices * 1000000)
  unfolding report_timed_of
  sound_totals =
      let t = faultless_totals (beside c) (agrees c) nothing_on_entry (λ i h. no_fault (ray_hours i h) c.losses (ray_of_lem i h)) in
      (t.0, t.1, words_most (beside c) (agrees c) t.0 t.1 (λ i h. met_most (ray_hours i h) c.losses (ray_of_lem i h)))

-- ---- over every sound record

-- Over a sound record no such call is refused, and no ray's loss is more than 1,000,000 for each position.
pub sound_not_refused : {bytes side indices : List ℕ} {panes : ℕ} {spans losses : List ℕ} {d : ℕ} → CheckedRecord bytes (length indices) d
    → ListsFit bytes side indices panes spans losses → NotRefusedAt bytes side indices panes spans losses
sound_not_refused good fine = record {
  one_ray = λ quarter fits ray accepted. (_, sound_loses _ good fine fits accepted, sound_most _ good fine fits accepted);
  many_rays = λ rays quarters h ray_totals pane_totals a b. sound_totals _ good fine h a b;
}
