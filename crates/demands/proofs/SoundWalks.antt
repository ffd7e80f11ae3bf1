-- Walks over every sound record, for every accepted ray: whatever is called and told, no position is reported twice, and none that the ray does not
-- pass; no step and no query is refused by the walk; and any-hit lists exactly the positions that the ray passes, once each, after as many tests as
-- nodes are reached.
use mathlib.Core.List.{List, Nodup}
use mathlib.Core.Path.{◌≡◌, sym, ap, subst, ◌∙◌}
use Prim.Native.Nat.{ℕ, ◌≤◌, ◌<◌}
use native.Mathlib.Omega.{arith}
use lib.ListN.{length, get_or}
use lib.Ieee.{Float}
use Rattle.lists.specs.Counts.{count}
use Rattle.lists.proofs.Counts.{Some, none, some, some?}
use Rattle.lists.proofs.Perms.{no_duplicates}
use Rattle.causes.proofs.Sizes.{Fit}
use Rattle.ray.specs.declared.Ray.{Ray}
use Rattle.record_shape.specs.Record.{nodes_at}
use Rattle.record_shape.specs.Check.{sound, check_of}
use Rattle.record_shape.proofs.Check.{fits, sound_iff}
use Rattle.walk.specs.Calls.{All, reported, Answered}
use Rattle.walk.specs.Queries.{Reaction, Ended}
use Rattle.walk.specs.WordStep.{RunWords, fresh_words}
use Rattle.walk.specs.WordQueries.{decoded_outcome}
use Rattle.walk.proofs.AnyHit.{Meets}
use Rattle.gate.specs.Gates.{all_open}
use Rattle.walk_record.specs.WalkRay.{WalkRay, walk_ray, by_boxes}
use Rattle.walk_record.specs.Record.{node_words_at}
use Rattle.walk_record.specs.Walk.{run_at, query_at, any_hit_at, listing_at, Reached, Passed}
use Rattle.walk_record.proofs.WalkRay.{walk_ray_laws, by_boxes_present}
use Rattle.walk_record.proofs.Laws.{bytes_fit}
use Rattle.walk_record.proofs.Reach.{told_passes_fewer}
use Rattle.walk_record.proofs.Demands.{SoundWalk}
use Rattle.walk_record.proofs.Demands as W
use Rattle.traverse.proofs.Calls.{run_started}
use Rattle.demands.specs.Walks.{CheckedRecord, AcceptedRay, Calls, run, found, AnyHitLists, Walks}
use Rattle.demands.proofs.Rays.{not_forged}
use Rattle.demands.proofs.Listed.{answers_listed, list_found}

-- A record, a list of bytes, that the record check finds sound is such a record.
pub checked_good : (bytes : List ℕ) → ((i : ℕ) → get_or bytes i 0 < 256) → (n d words : ℕ) → check_of bytes n words ≡ sound d
    → CheckedRecord bytes n d
checked_good bytes are_bytes n d words e =
    let h = (sound_iff bytes n words d).0 e in
    let f = (fits (length bytes) n words h.0).sizes in
    record { sound = h.1; deepest = h.2; layout = f.whole; nodes = f.small; positions = f.few; are_bytes = are_bytes }

pub sizes_fit_lem : {bytes : List ℕ} {n d : ℕ} → CheckedRecord bytes n d → Fit (length bytes) n
sizes_fit_lem good = record { whole = good.layout; few = good.positions; small = good.nodes }

module _ {bytes : List ℕ} {n d : ℕ} {ray : Ray} (good : CheckedRecord bytes n d) (accepted : AcceptedRay ray) where
  pub walk : SoundWalk (nodes_at bytes) by_boxes n (walk_ray ray)
  walk = record {
    rays = walk_ray_laws all_open;
    fields = bytes_fit bytes good.are_bytes;
    sound = good.sound;
    nodes = good.nodes;
    positions = good.positions;
    present = by_boxes_present n;
    accepted = not_forged accepted;
  }

  -- what holds of the run in words holds of the run of the public calls
  by_run : (P : RunWords WalkRay → Type 0) (l : Calls) → P (run_at bytes by_boxes l (fresh_words (walk_ray ray))) → P (run bytes ray l)
  by_run P l = subst P (sym (run_started bytes good.layout ray accepted.accepted l))

  -- ---- any-hit
  pub any_hit_meets : Meets n (listing_at bytes by_boxes n (walk_ray ray)) (Reached bytes n ray) (Passed bytes n ray)
      (decoded_outcome (node_words_at bytes by_boxes) (any_hit_at bytes by_boxes n (walk_ray ray)))
  unfolding any_hit_at
  any_hit_meets = W.any_hit_meets walk

  -- its walk is not refused
  pub ends_met : Ended (any_hit_at bytes by_boxes n (walk_ray ray)).ended
  ends_met = subst Ended (sym any_hit_meets.ends) tt

  -- a position is among those found once if it is passed, and else not
  listed_once : (p : ℕ) → Passed bytes n ray p → count p (found bytes ray n) ≡ 1
  listed_once p q = omega (arith, any_hit_meets.once p, (any_hit_meets.exact p).1 q)

  not_listed : (p : ℕ) → ¬ (Passed bytes n ray p) → count p (found bytes ray n) ≡ 0
  not_listed p q = go (some? (count p (found bytes ray n)))
    where
      go : Some (count p (found bytes ray n)) → count p (found bytes ray n) ≡ 0
      go (none z) = z
      go (some z) = absurd (q ((any_hit_meets.exact p).0 z))

  -- with room for what is found
  with_room : (before : List ℕ) → length (found bytes ray n) ≤ length before → AnyHitLists bytes ray n before
  with_room before room =
      let same = list_found bytes n ray (sizes_fit_lem good) accepted.accepted ends_met before room in
      record {
        answer = answers_listed bytes n ray (sizes_fit_lem good) accepted.accepted ends_met before room;
        listing = same ∙ any_hit_meets.lists;
        passed_once = λ p q. ap (count p) same ∙ listed_once p q;
        no_other = λ p q. ap (count p) same ∙ not_listed p q;
        reached = any_hit_meets.reached;
        reached_once = any_hit_meets.reached_once;
        reached_all = any_hit_meets.reached_all;
        tests = any_hit_meets.tests;
      }

  -- ---- the demand
  pub sound_walks : Walks bytes ray n d
  unfolding run_at
  sound_walks = record {
    no_position_twice = λ l. by_run (λ r. Nodup (reported r.answers)) l (W.calls_report_once walk l);
    only_passed = λ l. by_run (λ r. All (Passed bytes n ray) (reported r.answers)) l (W.calls_pass walk (told_passes_fewer (nodes_at bytes)) l);
    groups_within_level = λ l. by_run (λ r. r.walker.depth ≤ d) l (W.calls_wait_few walk d good.deepest l);
    no_step_refused = λ l b. by_run (λ r. All Answered r.answers) l (W.calls_answered walk l b);
    any_hit_lists = λ before long.
        with_room before (long (found bytes ray n) (no_duplicates (found bytes ray n) any_hit_meets.once) (λ p i. (any_hit_meets.exact p).0 i));
    any_hit_lists_all = λ before h. with_room before (omega (arith, h, any_hit_meets.most));
  }

  -- ---- any query
  -- Its walk is not refused: it ends with done, or where the query stops it at a position.
  pub query_not_refused : {a : Type 0} (react : ℕ → WalkRay → a → Reaction Float a) (x : a)
      → Ended (query_at bytes by_boxes react x n (walk_ray ray)).ended
  unfolding query_at
  query_not_refused react x = W.query_answered walk react x
