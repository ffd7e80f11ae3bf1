-- Losses and reports over every sound record, and over every converted one (02, [3]): where the index words name panes and the losses fit, no call of
-- an accepted ray or of a list of them is refused, and no ray's loss is more than 1,000,000 for each position.
use mathlib.Core.Bool.{true}
use mathlib.Core.List.{List}
use mathlib.Core.Path.{◌≡◌, refl, sym, ap, ◌∙◌}
use Prim.Native.Nat.{ℕ, ◌*◌, ◌≤◌, ◌<◌}
use native.Mathlib.Omega.{arith}
use lib.Dec.{leb}
use lib.ListN.{length, get_or}
use Rattle.lists.proofs.Tells.{tells_true, eqb_tells, leb_tells, and_tells, below_tells, all_pass}
use Rattle.ray.specs.Ray.{accepted_ray}
use Rattle.packed.specs.Packed.{ray_in, rays_accepted}
use Rattle.walk.proofs.Lists.{all_map}
use Rattle.query.specs.Result.{Result}
use Rattle.loss.specs.Loss.{LossAnswer, losses_fit}
use Rattle.loss.proofs.Causes.{cause_none, loss_alone}
use Rattle.loss_walk.proofs.There.{there_tells}
use Rattle.demands.specs.Call.{Call, Answers, record_at, list_at}
use Rattle.demands.specs.Walks.{CheckedRecord, AcceptedRay}
use Rattle.demands.specs.Loss.{LossCall, Loses, met, ReportCall, Reports, rays_given, single, ray_word, UnrefusedOnEntry, Losses, AcceptedRays}
use Rattle.demands.specs.Loss.{NotRefused}
use Rattle.demands.proofs.Rays.{ray_accepted}
use Rattle.demands.proofs.Runs.{met_exist}
use Rattle.demands.proofs.SoundWalks.{sizes_fit_lem, any_hit_meets, ends_met}
use Rattle.gate.specs.Gates.{all_open}
use Rattle.demands.proofs.GatedLoss.{entry_free, faultless_called, over_met, over_most_lem}
use Rattle.demands.proofs.Words.{words_rearranged}
use Rattle.demands.proofs.Panes.{rearranged, list_good}
use Rattle.demands.proofs.Report.{NoFault, faultless_totals, ray_words_few}

-- no cause 12
pub losses_fit_lem : {indices : List ℕ} {panes : ℕ} {losses : List ℕ} → Losses indices panes losses → losses_fit panes losses ≡ true
unfolding losses_fit
losses_fit_lem {indices} {panes} {losses} fine =
    tells_true (and_tells (eqb_tells (length losses) panes)
    (below_tells (λ k. get_or losses k 0 ≤ 1000000) (λ k. leb (get_or losses k 0) 1000000) (λ k. leb_tells (get_or losses k 0) 1000000) panes))
    (fine.each, fine.most)

-- ---- one ray

module _ (c : LossCall) {d : ℕ} (good : CheckedRecord c.bytes (length c.indices) d) (fine : Losses c.indices c.panes c.losses)
    (accepted : AcceptedRay c.ray) where
  -- its walk has no fault
  sound_faultless : NoFault c
  sound_faultless = record {
    there =
        tells_true (there_tells c.panes c.indices (met c))
        (all_map fine.named (met c) (met_exist c.bytes good.layout good.are_bytes (length c.indices) accepted));
    ends = ends_met good accepted;
  }

  -- the losses of all positions met
  abbrev sum_met : ℕ
  sum_met = over_met all_open 0 c.bytes c.indices c.panes c.losses c.ray

  sound_loses : Loses c sum_met
  sound_loses =
      sym (ap (λ (r : Result LossAnswer). r.answer) (loss_alone c.bytes c.indices c.panes c.losses c.ray))
      ∙ faultless_called all_open 0 c.bytes c.indices c.panes c.losses c.ray
      (entry_free all_open 0 c.bytes c.indices c.panes c.losses c.ray (sizes_fit_lem good) (losses_fit_lem fine) refl accepted.accepted)
      sound_faultless

  -- at most one loss for each position
  sound_most : sum_met ≤ length c.indices * 1000000
  sound_most =
      omega (
        arith,
        over_most_lem all_open 0 c.bytes c.indices c.panes c.losses c.ray (losses_fit_lem fine),
        (any_hit_meets good accepted).most,
      )

-- ---- many rays

module _ (c : ReportCall) {d : ℕ} (good : CheckedRecord c.bytes (length c.indices) d) (fine : Losses c.indices c.panes c.losses)
    (rays : AcceptedRays c.rays) (ray_room : rays_given c ≤ length c.ray_totals) (pane_room : c.panes ≤ length c.pane_totals) where
  nothing_on_entry : UnrefusedOnEntry c
  unfolding rays_accepted
  nothing_on_entry =
      sym (cause_none c.bytes c.indices c.panes c.losses c.rays (length c.ray_totals) (length c.pane_totals) rays.whole
      (sizes_fit_lem good) rays.few ray_room pane_room (losses_fit_lem fine)
      (all_pass (λ k. accepted_ray (ray_in c.rays k)) (rays_given c) rays.accepted))

  ray_of_lem : (i : ℕ) → i < rays_given c → AcceptedRay (ray_in c.rays i)
  ray_of_lem i h = ray_accepted c.rays i (rays.accepted i h)

  sound_totals : (tests : ℕ) × Reports c tests × ((i : ℕ) → i < rays_given c → ray_word c i ≤ length c.indices * 1000000)
  sound_totals =
      let t = faultless_totals c nothing_on_entry (λ i h. sound_faultless (single c i) good fine (ray_of_lem i h)) in
      (t.0, t.1, ray_words_few c t.0 t.1 (λ i h. (any_hit_meets good (ray_of_lem i h)).most))

-- ---- over every sound record

-- Over a sound record no such call is refused, and no ray's loss is more than 1,000,000 for each position.
pub sound_not_refused : {bytes indices : List ℕ} {panes : ℕ} {losses : List ℕ} {d : ℕ} → CheckedRecord bytes (length indices) d
    → Losses indices panes losses → NotRefused bytes indices panes losses
sound_not_refused good fine = record {
  one_ray = λ ray accepted. (_, sound_loses _ good fine accepted, sound_most _ good fine accepted);
  many_rays = λ rays h ray_totals pane_totals a b. sound_totals _ good fine h a b;
}

-- Nor is it over the record and the index list that a conversion left.
pub converted_not_refused : (c : Call) (m d : ℕ) → Answers c m d → (panes : ℕ) (losses : List ℕ) → Losses c.indices panes losses
    → NotRefused (record_at c m) (list_at c) panes losses
converted_not_refused c m d answers panes losses fine =
    sound_not_refused (list_good c m d answers) (record {
      each = fine.each;
      most = fine.most;
      named = words_rearranged (λ k. k < panes) (list_at c) c.indices (rearranged c m d answers) fine.named;
    })
