-- What is claimed of a ray's loss and of a report over many rays (02, [3] and [7]), by the answers of the calls, whichever they are.
use Rattle.std.specs.Prelude.{◌≡◌, ℕ, ◌≤◌, ◌<◌, length, get_or}
use mathlib.Core.List.{List, Perm}
use Rattle.lists.specs.Rising.{rising, Rises}
use Rattle.lists.specs.Sums.{sum, sum_over}
use Rattle.query.specs.Result.{Result}
use Rattle.any_hit_walk.specs.AnyHit.{AnyHitAnswer, listed}
use Rattle.loss_walk.specs.Losses.{LossAnswer, summed, refused, Report}

-- ---- one ray

-- The any-hit call, by its answer and the list that it leaves, lists the positions met, with the tests of the loss; and the loss is the sum over its
-- list of what each takes, in its order.
pub record SumsListed (met : List ℕ) (taken : ℕ → ℕ) (loss tests : ℕ) (asked : Result AnyHitAnswer) (left : List ℕ) : Type 0 where
  pub any_hit : asked ≡ record { answer = listed (length met); tests = tests }
  pub list : left ≡ met
  pub sums : loss ≡ sum_over taken left

-- The loss is the sum over that list in rising order, which has the same members, each at most the next.
pub record SumsRising (taken : ℕ → ℕ) (loss : ℕ) (left : List ℕ) : Type 0 where
  pub rearranged : Perm (rising left) left
  pub rises : Rises (rising left)
  pub sums : loss ≡ sum_over taken (rising left)

-- ---- many rays

-- of so many rays, the own call of each giving this
module _ (rays : ℕ) (own : ℕ → Result LossAnswer) where
  -- each ray's word of a report is the loss that its own call gives, and the tests are those of all these calls
  pub record SumsOwn (report : Report) (tests : ℕ) : Type 0 where
    pub words : (i : ℕ) → i < rays → (own i).answer ≡ summed (get_or report.ray_totals i 0)
    pub tests_sum : tests ≡ sum (λ i. (own i).tests) rays

  -- the number of the first ray whose own call is refused, those before it giving sums
  pub record FirstRefused (number : ℕ) : Type 0 where
    pub ray : ℕ
    pub there : ray < rays
    pub refuses : (own ray).answer ≡ refused number
    pub before : (j : ℕ) → j < ray → (loss : ℕ) × ((own j).answer ≡ summed loss)

-- by the slices as they were before
module _ (report : Report) (ray_totals pane_totals : List ℕ) where
  -- both slices as they were
  pub record SlicesStay : Type 0 where
    pub rays_left : report.ray_totals ≡ ray_totals
    pub panes_left : report.pane_totals ≡ pane_totals

  -- both slices as long as they were, and as they were behind a word for each ray and a word for each pane
  pub record WritesTotals (rays panes : ℕ) : Type 0 where
    pub rays_length : length report.ray_totals ≡ length ray_totals
    pub panes_length : length report.pane_totals ≡ length pane_totals
    pub behind_rays : (i : ℕ) → rays ≤ i → get_or report.ray_totals i 0 ≡ get_or ray_totals i 0
    pub behind_panes : (k : ℕ) → panes ≤ k → get_or report.pane_totals k 0 ≡ get_or pane_totals k 0

-- every total is 0
pub record ZeroTotals (report : Report) (rays panes : ℕ) : Type 0 where
  pub rays_zero : (i : ℕ) → i < rays → get_or report.ray_totals i 0 ≡ 0
  pub panes_zero : (k : ℕ) → k < panes → get_or report.pane_totals k 0 ≡ 0
