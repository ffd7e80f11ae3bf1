-- The third demand at a quarter hour (02, [7]), the walk's half, of what a call of the timed conversion left, for every accepted ray: a position is
-- listed exactly where all boxes and spans down to it pass and its own span holds the quarter hour, once each, after as many tests as nodes are
-- reached so; whatever is called and told no position is reported twice; and no screen that is drawn is lost. Record `TimedWalks` says it in full.
use mathlib.Core.Bool.{true}
use mathlib.Core.List.{List}
use mathlib.Core.Path.{◌≡◌, sym, subst}
use Prim.Native.Nat.{ℕ}
use native.Mathlib.Omega.{arith}
use lib.ListN.{length}
use Rattle.ray.specs.declared.Ray.{Ray}
use Rattle.span.specs.Span.{quarter_fits}
use Rattle.record_shape.specs.Record.{DeepestLevel}
use Rattle.walk.specs.Calls.{All, Answered}
use Rattle.timed.specs.Hours.{Timetable}
use Rattle.bvh2_tables.specs.Call.{leaf_count}
use Rattle.bvh2_to_cwbvh_timed.specs.TimedConversion.{TimedCall}
use Rattle.timed_conversion_laws.specs.TimedCall.{TimedAnswers, timed_record_at, timetable_left}
use Rattle.demands.specs.Walks.{AcceptedRay}
use Rattle.demands.specs.Walks as U
use Rattle.timed_demands.specs.Calls.{TimedOp, timed_run_of, Brings, Beside}
use Rattle.timed_demands.specs.Walks.{CheckedAt, LongEnough, ListsAt, TestsAt, LacksAt, FilteredAt, StepsAt}
use Rattle.timed_demands.proofs.Listed.{timed_listed, timed_listed_all, timed_tests, timed_lacking}
use Rattle.timed_demands.proofs.Steps as S
use Rattle.timed_demands.proofs.Filtered.{covers_filtered}
use Rattle.converted_timed.specs.Walks.{TimedWalks}
use Rattle.converted_timed.proofs.Checked.{record_good, as_many, converted_checked, converted_covers}
use Rattle.converted_timed.proofs.Losses.{converted_loss}

module _ (c : TimedCall) (m d : ℕ) (answers : TimedAnswers c m d) (quarter : ℕ) (of_day : quarter_fits quarter ≡ true) (ray : Ray)
    (accepted : AcceptedRay ray) where
  abbrev bytes : List ℕ
  bytes = timed_record_at c m

  abbrev h : Timetable
  h = timetable_left c m quarter

  abbrev n : ℕ
  n = leaf_count c.untimed

  good : CheckedAt bytes h
  good = converted_checked c m d answers quarter of_day

  -- ---- any-hit

  -- With a list that is long enough it has a position exactly where all boxes and spans down to it and its own span let the ray through then, once.
  pub converted_listed : (before : List ℕ) → LongEnough bytes h ray (length before) → ListsAt bytes h ray before
  converted_listed = timed_listed good accepted

  -- Its tests are the nodes reached.
  pub converted_tests : TestsAt bytes h ray
  converted_tests = timed_tests good accepted

  -- With a short list it is refused 11 and says how many there are.
  pub converted_lacking : (before : List ℕ) → ¬ (LongEnough bytes h ray (length before)) → LacksAt bytes h ray before
  converted_lacking = timed_lacking good accepted

  -- Its list is the untimed one less the positions whose own spans do not hold the quarter hour, in the same sequence.
  pub converted_filtered : (before : List ℕ) → U.LongEnough bytes ray n (length before) → FilteredAt bytes h ray before
  converted_filtered before long =
      covers_filtered good accepted (converted_covers c m d answers quarter) before
      (subst (λ (k : ℕ). U.LongEnough bytes ray k (length before)) (sym (as_many c m d answers)) long)

  -- ---- steps and tellings

  -- No position is reported twice, none that is not passed, and no more groups wait than the deepest level that the conversion answered;
  pub converted_steps : (l : List TimedOp) → All (Beside bytes h) l → StepsAt bytes h ray d l
  converted_steps = S.timed_steps accepted good.sound_at d (record_good c m d answers).deepest

  -- no step that brings the lists left is refused.
  pub converted_none_refused : (l : List TimedOp) → All (Brings bytes h) l → All Answered (timed_run_of bytes ray quarter l).answers
  converted_none_refused = S.no_step_refused accepted good

  -- ---- all of it

  pub converted_timed_walks : TimedWalks bytes h n d ray
  converted_timed_walks = record {
    checked = good;
    positions = as_many c m d answers;
    deepest = subst (λ (k : ℕ). DeepestLevel bytes k d) (as_many c m d answers) (record_good c m d answers).deepest;
    any_hit_lists = converted_listed;
    any_hit_lists_all = λ before room. timed_listed_all good accepted before (omega (arith, room, as_many c m d answers));
    any_hit_lacks = converted_lacking;
    any_hit_tests = converted_tests;
    any_hit_filtered = converted_filtered;
    steps = converted_steps;
    no_step_refused = converted_none_refused;
    loss = λ losses fit. converted_loss c m d answers losses fit quarter of_day ray accepted;
  }
