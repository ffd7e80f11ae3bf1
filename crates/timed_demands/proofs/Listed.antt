-- The third demand of any-hit at a quarter hour, over every sound record, beside any side table as it is read and any lists that fit, for every
-- accepted ray: with a list that is long enough it lists a position exactly where all boxes and spans on the way down let the ray through and the
-- pane's own span holds the quarter hour, once each, after as many tests as nodes are reached so; and with a short one it says how many there are.
use mathlib.Core.Bool.{true}
use mathlib.Core.List.{List, Nodup}
use mathlib.Core.Logic.{◌↔◌}
use mathlib.Core.Path.{◌≡◌, sym, ap, ◌∙◌, subst}
use Prim.Native.Nat.{ℕ, ◌*◌, ◌≤◌, ◌<◌}
use native.Mathlib.Decide.{dec_lt}
use native.Mathlib.Omega.{arith}
use borrow.Author.Tests.{eq-eqb}
use lib.ListN.{length, get_or}
use Rattle.lists.specs.Counts.{count}
use Rattle.lists.proofs.Counts.{Some, none, some, some?}
use Rattle.lists.proofs.Perms.{no_duplicates, each_once}
use Rattle.lists.proofs.Rearranged.{members_length}
use Rattle.causes.proofs.Causes.{passed_none}
use Rattle.causes.proofs.Sizes.{Fit}
use Rattle.ray.specs.declared.Ray.{Ray}
use Rattle.record_shape.specs.Record.{node_count}
use Rattle.span.specs.Span.{quarter_fits, spans_fit}
use Rattle.walk.specs.Listing.{In}
use Rattle.walk.specs.Queries.{Ended}
use Rattle.any_hit_walk.proofs.Found as F
use Rattle.timed.specs.Hours.{Timetable, gates_at}
use Rattle.timed.specs.Walk.{timed_any_hit}
use Rattle.timed.specs.Reached.{PassedAt}
use Rattle.timed.proofs.Listed as T
use Rattle.timed_entry.specs.Entry.{timetable, timed_conditions, timed_cause}
use Rattle.any_hit_timed.specs.Timed.{any_hit_timed_of, list_timed}
use Rattle.demands.specs.Walks.{CheckedRecord, AcceptedRay}
use Rattle.demands.proofs.Rays.{not_forged}
use Rattle.timed_demands.specs.Walks.{CheckedAt, found, LongEnough, list_left, ListsAt, TestsAt, LacksAt}

-- A sound record of so many positions, and lists that fit it, at a quarter hour of a day.
pub checked_beside : {bytes side indices : List ℕ} {panes : ℕ} {spans : List ℕ} {d : ℕ} → CheckedRecord bytes (length indices) d
    → length side ≡ 16 * node_count bytes → spans_fit panes spans ≡ true → ((p : ℕ) → p < length indices → get_or indices p 0 < panes)
    → (quarter : ℕ) → quarter_fits quarter ≡ true → CheckedAt bytes (timetable side indices panes spans quarter)
checked_beside good rows fit named quarter of_day = record {
  sound_at = record {
    sound = good.sound;
    nodes = good.nodes;
    positions = good.positions;
    are_bytes = good.are_bytes;
    rows = rows;
    panes = named;
    quarter = of_day;
  };
  layout = good.layout;
  spans = fit;
}

module _ {bytes : List ℕ} {h : Timetable} (good : CheckedAt bytes h) where
  pub sizes_fit_lem : Fit (length bytes) (length h.indices)
  sizes_fit_lem = record { whole = good.layout; few = good.sound_at.positions; small = good.sound_at.nodes }

  -- cause 14 does not hold of the lists
  pub no_cause : timed_cause bytes h ≡ 0
  unfolding timed_conditions
  no_cause =
      passed_none (timed_conditions bytes h)
      (good.spans, (eq-eqb (length h.side) (16 * node_count bytes) good.sound_at.rows, (good.sound_at.quarter, tt)))

  module _ {ray : Ray} (accepted : AcceptedRay ray) where
    meets : ((p : ℕ) → In p (found bytes h ray) ↔ PassedAt bytes h ray p) × ((p : ℕ) → count p (found bytes h ray) ≤ 1)
    meets = let t = T.timed_listed good.sound_at (not_forged accepted) in (t.1, t.2)

    -- its walk is not refused
    pub ends_met : Ended (timed_any_hit bytes h ray).ended
    ends_met = subst Ended (sym (T.timed_listed good.sound_at (not_forged accepted)).0) tt

    -- a position is among those found once if it is passed, and else not
    listed_once : (p : ℕ) → PassedAt bytes h ray p → count p (found bytes h ray) ≡ 1
    listed_once p q = omega (arith, meets.1 p, (meets.0 p).1 q)

    not_listed : (p : ℕ) → ¬ (PassedAt bytes h ray p) → count p (found bytes h ray) ≡ 0
    not_listed p q = go (some? (count p (found bytes h ray)))
      where
        go : Some (count p (found bytes h ray)) → count p (found bytes h ray) ≡ 0
        go (none z) = z
        go (some z) = absurd (q ((meets.0 p).0 z))

    found_once : Nodup (found bytes h ray)
    found_once = no_duplicates (found bytes h ray) meets.1

    -- with room for what is found, that stands in front of the list
    pub list_met : (before : List ℕ) → length (found bytes h ray) ≤ length before → list_left bytes h ray before ≡ found bytes h ray
    unfolding list_timed
    list_met before room =
        F.list_found (gates_at h) bytes (length h.indices) (timed_cause bytes h) ray sizes_fit_lem no_cause accepted.accepted ends_met before room

    pub with_room : (before : List ℕ) → length (found bytes h ray) ≤ length before → ListsAt bytes h ray before
    unfolding any_hit_timed_of
    with_room before room =
        let same = list_met before room in
        record {
          answer = F.answers_listed (gates_at h) bytes (length h.indices) (timed_cause bytes h) ray sizes_fit_lem no_cause accepted.accepted ends_met
              before room;
          passed_once = λ p q. ap (count p) same ∙ listed_once p q;
          no_other = λ p q. ap (count p) same ∙ not_listed p q;
        }

    -- The list has each position, once, whose boxes and spans all pass on the way down and whose pane is drawn then, and no other.
    pub timed_listed : (before : List ℕ) → LongEnough bytes h ray (length before) → ListsAt bytes h ray before
    timed_listed before long = with_room before (long (found bytes h ray) found_once (λ p i. (meets.0 p).0 i))

    -- The tests are those of the nodes that are reached: all boxes and spans on their way down pass.
    pub timed_tests : TestsAt bytes h ray
    timed_tests =
        let t = T.timed_tests good.sound_at (not_forged accepted) in
        record { reached = t.0; reached_once = t.1; reached_all = t.2; tests = t.3 }

    -- A list with room for every position is long enough.
    pub timed_listed_all : (before : List ℕ) → length h.indices ≤ length before → ListsAt bytes h ray before
    timed_listed_all before room =
        let most = (T.timed_meets good.sound_at (not_forged accepted)).most in
        with_room before (omega (arith, room, most))

    -- ---- a short list

    -- a list of positions passed, each once, has none more often than the list of those found
    as_often : (l : List ℕ) → Nodup l → ((p : ℕ) → In p l → PassedAt bytes h ray p) → (p : ℕ) → count p l ≤ count p (found bytes h ray)
    as_often l once passed p = go (some? (count p l))
      where
        go : Some (count p l) → count p l ≤ count p (found bytes h ray)
        go (none z) = omega (arith, z)
        go (some z) = omega (arith, each_once l once p, (meets.0 p).1 (passed p z))

    room_enough : (k : ℕ) → length (found bytes h ray) ≤ k → LongEnough bytes h ray k
    room_enough k room l once passed = omega (arith, room, members_length l (found bytes h ray) (as_often l once passed))

    without_room : (before : List ℕ) → length before < length (found bytes h ray) → LacksAt bytes h ray before
    unfolding any_hit_timed_of list_timed
    without_room before short = record {
      passed = found bytes h ray;
      passed_once = found_once;
      passed_all = meets.0;
      answer = F.answers_lacking (gates_at h) bytes (length h.indices) (timed_cause bytes h) ray sizes_fit_lem no_cause accepted.accepted ends_met
          before short;
      kept = F.list_kept (gates_at h) bytes (length h.indices) (timed_cause bytes h) ray sizes_fit_lem no_cause accepted.accepted ends_met
          before short;
    }

    -- A list that is not long enough is refused 11 with the length needed, which is the number of positions passed, and stays as it was.
    pub timed_lacking : (before : List ℕ) → ¬ (LongEnough bytes h ray (length before)) → LacksAt bytes h ray before
    timed_lacking before short = go (dec_lt (length before) (length (found bytes h ray)))
      where
        go : Dec (length before < length (found bytes h ray)) → LacksAt bytes h ray before
        go (yes l) = without_room before l
        go (no l) = absurd (short (room_enough (length before) (omega (arith, l))))
