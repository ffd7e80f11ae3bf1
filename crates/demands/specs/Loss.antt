-- What is claimed of a ray's loss and of a report over many rays (02, [3]).
use Rattle.std.specs.Prelude.{true, ◌≡◌, ℕ, ◌*◌, ◌%◌, ◌≤◌, ◌<◌, Float, length, get_or}
use mathlib.Core.List.{List}
use Rattle.lists.specs.Counts.{count}
use Rattle.causes.specs.Causes.{first_cause}
use Rattle.ray.specs.declared.Ray.{Ray}
use Rattle.ray.specs.Ray.{accepted_ray}
use Rattle.packed.specs.Packed.{ray_in, ray_count}
use Rattle.query.specs.Met.{positions_met, panes_met}
use Rattle.query.specs.Result.{Result}
use Rattle.any_hit.specs.AnyHit.{any_hit_of}
use Rattle.loss.specs.Loss.{LossAnswer, summed, loss_at, loss_of, Report, totalled, report_conditions, report_of}
use Rattle.demands.specs.Walks.{AcceptedRay, list_left}
use Rattle.demands.specs.Sums.{SumsListed, SumsRising, SumsOwn, FirstRefused, SlicesStay, WritesTotals, ZeroTotals}

-- ---- one ray

-- what `loss` is called with
pub record LossCall : Type 0 where
  pub bytes : List ℕ
  pub indices : List ℕ
  pub panes : ℕ
  pub losses : List ℕ
  pub ray : Ray

module _ (c : LossCall) where
  -- what it answers, with its tests
  abbrev pub loss_for : Result LossAnswer
  loss_for = loss_of c.bytes c.indices c.panes c.losses c.ray

  -- it gives a sum, and not a refusal
  abbrev pub Loses : ℕ → Type 0
  Loses loss = loss_for.answer ≡ summed loss

  -- the positions that the ray meets, in walk order
  abbrev pub met : List ℕ
  met = positions_met c.bytes (length c.indices) c.ray

  -- what a position takes: the loss of the pane that its index word names
  abbrev pub taken : ℕ → ℕ
  taken = loss_at c.indices c.losses

  -- how often positions are those of pane k
  abbrev pub times_named : (positions : List ℕ) → (k : ℕ) → ℕ
  times_named positions k = count k (panes_met c.indices positions)

  -- a list has room for these positions
  abbrev pub Room : List ℕ → Type 0
  Room before = length met ≤ length before

  -- what the any-hit call of the same ray, lent such a list, leaves in it
  abbrev pub listed_in : List ℕ → List ℕ
  listed_in before = list_left c.bytes c.ray (length c.indices) before

  -- The any-hit call lists the positions met, with the same tests, and the loss is the sum over its list in its order (02, [3]).
  abbrev pub InWalkOrder : (loss : ℕ) (before : List ℕ) → Type 0
  InWalkOrder loss before =
      SumsListed met taken loss loss_for.tests (any_hit_of c.bytes (length c.indices) c.ray (length before)) (listed_in before)

  -- The loss is the sum over that list in rising order, which has the same members, each at most the next (02, [3]).
  abbrev pub InRisingOrder : (loss : ℕ) (before : List ℕ) → Type 0
  InRisingOrder loss before = SumsRising taken loss (listed_in before)

-- ---- many rays

-- what `report` is called with, the two slices lent as they were before
pub record ReportCall : Type 0 where
  pub bytes : List ℕ
  pub indices : List ℕ
  pub panes : ℕ
  pub losses : List ℕ
  pub rays : List Float
  pub ray_totals : List ℕ
  pub pane_totals : List ℕ

module _ (c : ReportCall) where
  -- what it answers and leaves of the slices
  abbrev pub report_for : Report
  report_for = report_of c.bytes c.indices c.panes c.losses c.rays c.ray_totals c.pane_totals

  -- it gives totals and so many tests, and not a refusal
  abbrev pub Reports : ℕ → Type 0
  Reports tests = report_for.answer ≡ totalled tests

  -- how many rays the list has
  abbrev pub rays_given : ℕ
  rays_given = ray_count c.rays

  -- the call of `loss` for ray i of the list
  abbrev pub single : ℕ → LossCall
  single i = record { bytes = c.bytes; indices = c.indices; panes = c.panes; losses = c.losses; ray = ray_in c.rays i }

  -- the word that it leaves for a ray, and for a pane
  abbrev pub ray_word : ℕ → ℕ
  ray_word i = get_or report_for.ray_totals i 0

  abbrev pub pane_word : ℕ → ℕ
  pane_word k = get_or report_for.pane_totals k 0

  -- each ray's word is the loss that its own call gives, and the tests are those of all these calls
  abbrev pub RayTotals : (tests : ℕ) → Type 0
  RayTotals = SumsOwn rays_given (λ i. loss_for (single i)) report_for

  -- no cause of 1, 2, 4, 12 and 9 holds
  abbrev pub UnrefusedOnEntry : Type 0
  UnrefusedOnEntry =
      first_cause (report_conditions c.bytes c.indices c.panes c.losses c.rays (length c.ray_totals) (length c.pane_totals)) ≡ 0

  -- the number of the first ray whose own call is refused, those before it giving sums
  abbrev pub FirstFault : (number : ℕ) → Type 0
  FirstFault = FirstRefused rays_given (λ i. loss_for (single i))

  -- both slices as they were
  abbrev pub LeftAlone : Type 0
  LeftAlone = SlicesStay report_for c.ray_totals c.pane_totals

  -- both slices as long as they were, and as they were behind a word for each ray and a word for each pane
  abbrev pub OnlyTotals : Type 0
  OnlyTotals = WritesTotals report_for c.ray_totals c.pane_totals rays_given c.panes

  -- every total is 0
  abbrev pub AllZero : Type 0
  AllZero = ZeroTotals report_for rays_given c.panes

-- ---- what is not refused

-- one loss for each pane, none over 1,000,000, and each index word the number of a pane
pub record Losses (indices : List ℕ) (panes : ℕ) (losses : List ℕ) : Type 0 where
  pub each : length losses ≡ panes
  pub most : (k : ℕ) → k < panes → get_or losses k 0 ≤ 1000000
  pub named : (p : ℕ) → p < length indices → get_or indices p 0 < panes

-- whole rays, at most 65,536, each accepted
pub record AcceptedRays (rays : List Float) : Type 0 where
  pub whole : length rays % 8 ≡ 0
  pub few : ray_count rays ≤ 65536
  pub accepted : (i : ℕ) → i < ray_count rays → accepted_ray (ray_in rays i) ≡ true

-- Neither call is refused over this record, and no ray's loss is more than 1,000,000 for each position (02, [3]).
pub record NotRefused (bytes indices : List ℕ) (panes : ℕ) (losses : List ℕ) : Type 0 where
  -- of any accepted ray
  pub one_ray : (ray : Ray) → AcceptedRay ray
      → (loss : ℕ) × Loses (record { bytes = bytes; indices = indices; panes = panes; losses = losses; ray = ray }) loss
      × (loss ≤ length indices * 1000000)
  -- of any list of rays, with room for all totals
  pub many_rays : (rays : List Float) → AcceptedRays rays → (ray_totals pane_totals : List ℕ) → ray_count rays ≤ length ray_totals
      → panes ≤ length pane_totals
      → let c : ReportCall = record {
        bytes = bytes;
        indices = indices;
        panes = panes;
        losses = losses;
        rays = rays;
        ray_totals = ray_totals;
        pane_totals = pane_totals;
      } in (tests : ℕ) × Reports c tests × ((i : ℕ) → i < ray_count rays → ray_word c i ≤ length indices * 1000000)
