-- What is claimed of a ray's loss at a quarter hour (02, [3] and [7]).
use Rattle.std.specs.Prelude.{◌≡◌, ℕ, ◌≤◌, length}
use mathlib.Core.List.{List}
use Rattle.lists.specs.Counts.{count}
use Rattle.ray.specs.declared.Ray.{Ray}
use Rattle.query.specs.Met.{panes_met}
use Rattle.query.specs.Result.{Result}
use Rattle.loss_walk.specs.Losses.{LossAnswer, summed, loss_at}
use Rattle.timed.specs.Hours.{Timetable}
use Rattle.timed_entry.specs.Entry.{timetable}
use Rattle.any_hit_timed.specs.Timed.{any_hit_timed_of}
use Rattle.loss_timed.specs.Timed.{loss_timed_of}
use Rattle.demands.specs.Sums.{SumsListed, SumsRising}
use Rattle.timed_demands.specs.Walks.{found, list_left}

-- what `loss_timed` is called with
pub record TimedLossCall : Type 0 where
  pub bytes : List ℕ
  pub side : List ℕ
  pub indices : List ℕ
  pub panes : ℕ
  pub spans : List ℕ
  pub losses : List ℕ
  pub quarter : ℕ
  pub ray : Ray

module _ (c : TimedLossCall) where
  -- what it answers, with its tests
  abbrev pub loss_for : Result LossAnswer
  loss_for = loss_timed_of c.bytes c.side c.indices c.panes c.spans c.losses c.quarter c.ray

  -- it gives a sum, and not a refusal
  abbrev pub Loses : ℕ → Type 0
  Loses loss = loss_for.answer ≡ summed loss

  -- the lists that it reads, at its quarter hour
  abbrev pub hours : Timetable
  hours = timetable c.side c.indices c.panes c.spans c.quarter

  -- the positions that the ray meets then, in walk order
  abbrev pub met : List ℕ
  met = found c.bytes hours c.ray

  -- what a position takes: the loss of the pane that its index word names
  abbrev pub taken : ℕ → ℕ
  taken = loss_at c.indices c.losses

  -- how often positions are those of pane k
  abbrev pub times_named : (positions : List ℕ) → (k : ℕ) → ℕ
  times_named positions k = count k (panes_met c.indices positions)

  -- a list has room for these positions
  abbrev pub Room : List ℕ → Type 0
  Room before = length met ≤ length before

  -- what the call of any-hit for the same ray and quarter hour, lent such a list, leaves in it
  abbrev pub listed_in : List ℕ → List ℕ
  listed_in before = list_left c.bytes hours c.ray before

  -- That call lists the positions met, with the same tests, and the loss is the sum over its list in its order (02, [3]).
  abbrev pub InWalkOrder : (loss : ℕ) (before : List ℕ) → Type 0
  InWalkOrder loss before = SumsListed met taken loss loss_for.tests (any_hit_timed_of c.bytes hours c.ray (length before)) (listed_in before)

  -- The loss is the sum over that list in rising order, which has the same members, each at most the next (02, [3]).
  abbrev pub InRisingOrder : (loss : ℕ) (before : List ℕ) → Type 0
  InRisingOrder loss before = SumsRising taken loss (listed_in before)
