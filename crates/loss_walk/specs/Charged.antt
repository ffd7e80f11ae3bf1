-- Internal: pane totals as a walk adds to them.
use Rattle.std.specs.Prelude.{Result, Ok, Err, true, false, cond, List, [], ◌∷◌, ◌≡◌, ℕ, ◌+◌, ◌≤◌, ◌<◌, ltb, Float, length, get_or, set}
use Rattle.lists.specs.Splice.{splice}
use Rattle.lists.specs.Sums.{sum}
use Rattle.lists.specs.Values.{values}
use Rattle.causes.specs.declared.Refusal.{Refusal}
use Rattle.causes.specs.Refusal.{cause_number}
use Rattle.ray.specs.declared.Ray.{Ray}
use Rattle.packed.specs.Packed.{ray_count, rays_accepted}
use Rattle.gate.specs.Gates.{Gates}
use Rattle.walk_record.specs.WalkRay.{walk_ray, rays_of}
use Rattle.query.specs.Met.{positions_met_by, panes_met}
use Rattle.loss_walk.specs.Losses.{ray_total, pane_total}
use Rattle.loss_walk.specs.Gated.{gated_met, gated_tests}
use Rattle.loss_walk.specs.declared.RayLoss.{RayLoss}

-- the loss of each pane of a list is added to that pane's total, where there is one
unfoldable pub charged : (losses totals : List ℕ) → List ℕ → List ℕ
charged losses totals [] = totals
charged losses totals (k ∷ l) = charged losses (set totals k (get_or totals k 0 + get_or losses k 0)) l

-- the pane of position p: one past the last where there is no such position
unfoldable pub pane_at : List ℕ → (panes p : ℕ) → ℕ
pane_at indices panes p = cond (ltb p (length indices)) (get_or indices p 0) panes

-- what is found of it: the pane, or a fault where it is not there
abbrev pub PaneFound : List ℕ → (panes p : ℕ) → Result ℕ Refusal → Type 0
PaneFound indices panes p (Ok k) = (k ≡ pane_at indices panes p) × (k < panes)
PaneFound indices panes p (Err refusal) = (cause_number refusal ≡ 10) × (panes ≤ pane_at indices panes p)

-- a walk may add to each pane's total: it meets less than 2,000,000 positions
abbrev pub Spare : (panes : ℕ) → List ℕ → Type 0
Spare panes totals = (k : ℕ) → k < panes → get_or totals k 0 + 2000000000000 ≤ 18446744073709551615

-- nothing of the ray or of the totals keeps the ray from its walk
pub record RayReady (g : Gates) (panes : ℕ) (ray : Ray) (totals : List ℕ) : Type 0 where
  pub accepted : (rays_of g).forged (walk_ray ray) ≡ false
  pub spare : Spare panes totals

-- totals after a walk that has summed; of one that was refused nothing is said
abbrev pub Charges : Gates → (bytes indices losses : List ℕ) → Ray → Result RayLoss Refusal → (before after : List ℕ) → Type 0
Charges g bytes indices losses r (Ok found) before after =
    after ≡ charged losses before (panes_met indices (positions_met_by g bytes (length indices) r))
Charges g bytes indices losses r (Err refusal) before after = Unit {0}

-- nothing of its rays keeps a report from its walks,
pub record RaysEntered (rays : List Float) : Type 0 where
  pub few : ray_count rays ≤ 65536
  pub accepted : rays_accepted rays ≡ true

-- nor do the gates that each walks beside, and there are some for each
pub record GatesEntered (gates : ℕ → Gates) (Listed : ℕ → Type 0) (rays : List Float) : Type 0 where
  pub listed : (i : ℕ) → i < ray_count rays → Listed i
  pub begun : (i : ℕ) → i < ray_count rays → (gates i).forged ≡ false

-- so many rays of a report have walked: their tests, and both slices with their totals on top of what was there
pub record Totalling (gates : ℕ → Gates) (bytes indices : List ℕ) (panes : ℕ) (losses : List ℕ) (rays : List Float) (i tests : ℕ)
    (rayBefore paneBefore ray_totals pane_totals : List ℕ) : Type 0 where
  pub tested : tests ≡ sum (gated_tests gates bytes indices rays) i
  pub of_rays : ray_totals ≡ splice rayBefore 0 (values (ray_total indices losses (gated_met gates bytes indices rays)) i)
  pub of_panes : pane_totals ≡ splice paneBefore 0 (values (pane_total indices losses (gated_met gates bytes indices rays) i) panes)
