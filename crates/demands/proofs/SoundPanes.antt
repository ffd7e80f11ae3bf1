-- Closest and miss over every sound record, for every accepted ray and panes without a fault: neither is refused; a hit is the nearest of the
-- positions reported that are seen, the first met of equal ones; and miss is blocked exactly if closest has a hit.
use mathlib.Core.List.{List, Nodup}
use mathlib.Core.Logic.{◌⊎◌, inl, inr, ◌↔◌}
use mathlib.Core.Path.{◌≡◌, refl, sym, ap, subst, ◌∙◌}
use Prim.Native.Nat.{ℕ, ◌%◌, ◌<◌}
use lib.Dec.{eqb}
use lib.Ieee.{Float, lt}
use lib.ListN.{length, get_or}
use borrow.Author.Tests.{eq-eqb}
use Rattle.ray.specs.declared.Ray.{Ray}
use Rattle.ray.specs.Ray.{seen_at}
use Rattle.ray.proofs.Counts.{seen_itself, seen-number}
use Rattle.record_shape.specs.Record.{node_count}
use Rattle.walk.specs.Tests.{Tests}
use Rattle.walk.specs.Calls.{All, reported}
use Rattle.walk.specs.Queries.{Reaction, Found, none, hit, distance, closest, miss, Ended}
use Rattle.walk.specs.Reports.{tested_nodes, up_to, NoneBelow, Nearest}
use Rattle.walk.specs.Slots.{tests_of}
use Rattle.walk.proofs.Lists.{all_map}
use Rattle.walk.proofs.Nearest.{up_to_none, nearest_below, blocks_below, one_nearest}
use Rattle.walk.proofs.Noted.{Seen, Picks, kept, nearest, closest_picks, Stops, miss_stops, stops_below}
use Rattle.walk.proofs.Noted as N
use Rattle.walk_record.specs.WalkRay.{WalkRay, walk_ray, by_boxes}
use Rattle.walk_record.specs.Record.{slots_at}
use Rattle.walk_record.specs.Walk.{query_at}
use Rattle.query.specs.Met.{positions_met}
use Rattle.query.proofs.Entry.{entry_none, found_at_end}
use Rattle.query.specs.Result.{Result}
use Rattle.closest.specs.Panes.{pane_met, pane_of, nearer, pane_cause}
use Rattle.closest.specs.Panes.{ClosestAnswer, hit_at, no_hit, refused_closest, closest_found, closest_walk, closest_of}
use Rattle.closest.specs.Panes.{MissAnswer, missed, blocked, refused_miss, miss_found, miss_walk, miss_of}
use Rattle.closest.proofs.Distances.{Number, distances_ordered, met_there, panes_reached}
use Rattle.demands.specs.Runs.{calls_made, answers_made}
use Rattle.demands.specs.Walks.{CheckedRecord, AcceptedRay}
use Rattle.demands.specs.Panes.{Panes, distance_of, closest_steps, miss_steps, closest_reports, miss_reports, ClosestAnswers, MissAnswers}
use Rattle.demands.proofs.Rays.{distance_known}
use Rattle.demands.proofs.NearLimit.{hits_apart, blocks_apart}
use Rattle.demands.proofs.SoundWalks.{sizes_fit_lem, sound_walks, query_not_refused}
use Rattle.demands.proofs.Runs.{query_tests, reported_exist, query_noted, met_exist, miss_closest, miss_any_hit}

-- ---- answers

-- what holds of a hit's position holds of an equal hit's
same_hit : (enters_at : ℕ → Float) (P : ℕ → Type 0) (p q : ℕ) (t : Float) → P p → hit_at p (enters_at p) ≡ hit_at q t → (t ≡ enters_at q) × P q
same_hit enters_at P p q t h e =
    let same : p ≡ q = cc in
    let at : enters_at p ≡ t = cc in
    (sym at ∙ ap enters_at same, subst P same h)

other : {A B : Type 0} → (A → ⊥) → A ⊎ B → B
other n (inl a) = absurd (n a)
other n (inr b) = b

module _ {bytes indices : List ℕ} {panes : List Float} {d : ℕ} {ray : Ray} (good : CheckedRecord bytes (length indices) d)
    (fine : Panes indices panes)
    (accepted : AcceptedRay ray) where
  abbrev n : ℕ
  n = length indices

  abbrev enters_at : ℕ → Float
  enters_at = distance_of indices panes ray

  abbrev sees : WalkRay → Float → Float
  sees b = seen_at b.ray

  abbrev sees_at : ℕ → Float
  sees_at p = seen_at ray (enters_at p)

  abbrev T : Tests WalkRay Float
  T = tests_of (slots_at bytes by_boxes n)

  -- the reactions of the two queries
  abbrev React : Type 0
  React = ℕ → WalkRay → Found Float → Reaction Float (Found Float)

  abbrev near : React
  near = closest (pane_of indices panes) nearer

  abbrev block : React
  block = miss (pane_of indices panes) nearer

  -- ---- either query

  -- nothing refuses it
  no_cause : 0 ≡ pane_cause bytes indices panes ray
  no_cause =
      sym (entry_none (eqb (length panes % 6) 0) (length bytes) n 0 ray (eq-eqb (length panes % 6) 0 fine.whole)
      (sizes_fit_lem good) refl accepted.accepted)

  not_refused : (react : React) → Ended (query_at bytes by_boxes react none n (walk_ray ray)).ended
  not_refused react = query_not_refused good accepted react none

  -- each position has a pane, met at its distance,
  there : (p : ℕ) → p < n → pane_met panes (get_or indices p 0) ray ≡ distance (enters_at p)
  there p h = let k = fine.named p h in met_there indices panes (get_or indices p 0) ray k (fine.accepted (get_or indices p 0) k)

  -- and seen where it is or nowhere
  seen : (p : ℕ) → p < n → Seen (pane_of indices panes) sees Number sees_at (walk_ray ray) p
  unfolding pane_of
  seen p h = record {
    met = enters_at p;
    pane_is = there p h;
    seen_is = refl;
    number = seen-number ray (enters_at p) (distance_known accepted _ (fine.accepted (get_or indices p 0) (fine.named p h)));
  }

  all_seen : (react : React) → All (Seen (pane_of indices panes) sees Number sees_at (walk_ray ray)) (reported (answers_made bytes n ray react none))
  all_seen react =
      all_map seen (reported (answers_made bytes n ray react none))
      (reported_exist bytes good.layout good.are_bytes n accepted react none)

  -- ---- closest

  closest_is_lem : closest_of bytes indices panes ray
      ≡ closest_found (closest_walk bytes indices panes ray).accumulator (closest_walk bytes indices panes ray).walker.tests
  unfolding closest_of closest_walk
  closest_is_lem =
      found_at_end refused_closest closest_found (pane_cause bytes indices panes ray) (closest_walk bytes indices panes ray)
      (closest_walk bytes indices panes ray).ended no_cause (not_refused near)

  closest_picked : Picks lt sees_at ray.tmax none (closest_walk bytes indices panes ray).accumulator (closest_reports bytes indices panes ray)
  unfolding closest_walk
  closest_picked =
      closest_picks (node_count bytes) T (pane_of indices panes) nearer lt (λ b. b.ray.tmax) sees (panes_reached indices panes) Number
      distances_ordered sees_at (closest_reports bytes indices panes ray) (walk_ray ray) none _ (all_seen near)
      (query_noted bytes good.layout good.are_bytes n accepted near none)

  closest_tests : (closest_walk bytes indices panes ray).walker.tests ≡ length (tested_nodes (closest_steps bytes indices panes ray))
  unfolding closest_walk
  closest_tests = query_tests bytes good.layout good.are_bytes n accepted near none

  once : Nodup (closest_reports bytes indices panes ray)
  once = (sound_walks good accepted).no_position_twice (calls_made bytes n ray near none)

  met : All (λ p. pane_met panes (get_or indices p 0) ray ≡ distance (enters_at p)) (closest_reports bytes indices panes ray)
  met = all_map there (closest_reports bytes indices panes ray) (reported_exist bytes good.layout good.are_bytes n accepted near none)

  -- It is not refused. It hits the nearest of the positions reported that is below the reach, the first met of equal ones; without one it has no hit.
  pub closest_answers : ClosestAnswers bytes indices panes ray
  unfolding closest_found
  closest_answers = go _ _ closest_is_lem closest_picked closest_tests
    where
      go : (y : Found Float) (k : ℕ) → closest_of bytes indices panes ray ≡ closest_found y k
          → Picks lt sees_at ray.tmax none y (closest_reports bytes indices panes ray)
          → k ≡ length (tested_nodes (closest_steps bytes indices panes ray))
          → ClosestAnswers bytes indices panes ray
      go y k e (kept f h) t =
          let c = e ∙ ap (λ (z : Found Float). closest_found z k) f in
          let a : (closest_of bytes indices panes ray).answer ≡ no_hit = ap (λ (r : Result ClosestAnswer). r.answer) c in record {
            answers = inl a;
            hit = λ p u. (λ q. hits_apart p u (sym a ∙ q), λ q. absurd (nearest_below lt sees_at ray.tmax _ p q.1 h));
            no_hit_lem = (λ _. h, λ _. a);
            once = once;
            passed = (sound_walks good accepted).only_passed (calls_made bytes n ray near none);
            met = met;
            tests = ap (λ (r : Result ClosestAnswer). r.tests) c ∙ t;
          }
      go y k e (nearest p f N) t =
          let own = seen_itself ray (enters_at p) ray.tmax N.below in
          let c = e ∙ ap (λ (z : Found Float). closest_found z k) (f ∙ ap (hit p) own) in
          let a : (closest_of bytes indices panes ray).answer ≡ hit_at p (enters_at p) = ap (λ (r : Result ClosestAnswer). r.answer) c in record {
            answers = inr (p, enters_at p, a);
            hit = λ q u. (
              λ r. same_hit enters_at (Nearest lt sees_at ray.tmax (closest_reports bytes indices panes ray)) p q u N (sym a ∙ r),
              λ r. a ∙ ap (λ (z : ℕ). hit_at z (enters_at z)) (one_nearest lt sees_at ray.tmax _ p q N r.1) ∙ ap (hit_at q) (sym r.0),
            );
            no_hit_lem = (λ r. hits_apart p (enters_at p) (sym r ∙ a), λ h. absurd (nearest_below lt sees_at ray.tmax _ p N h));
            once = once;
            passed = (sound_walks good accepted).only_passed (calls_made bytes n ray near none);
            met = met;
            tests = ap (λ (r : Result ClosestAnswer). r.tests) c ∙ t;
          }

  -- ---- miss

  miss_is_lem : miss_of bytes indices panes ray ≡ miss_found (miss_walk bytes indices panes ray).accumulator
      (miss_walk bytes indices panes ray).walker.tests
  unfolding miss_of miss_walk
  miss_is_lem =
      found_at_end refused_miss miss_found (pane_cause bytes indices panes ray) (miss_walk bytes indices panes ray)
      (miss_walk bytes indices panes ray).ended no_cause (not_refused block)

  miss_stopped : Stops lt sees_at ray.tmax none (miss_walk bytes indices panes ray).accumulator (miss_reports bytes indices panes ray)
  unfolding miss_walk
  miss_stopped =
      miss_stops (node_count bytes) T (pane_of indices panes) nearer lt (λ b. b.ray.tmax) sees (panes_reached indices panes) Number
      distances_ordered sees_at (miss_reports bytes indices panes ray) (walk_ray ray) none _ (all_seen block)
      (query_noted bytes good.layout good.are_bytes n accepted block none)

  miss_tests : (miss_walk bytes indices panes ray).walker.tests ≡ length (tested_nodes (miss_steps bytes indices panes ray))
  unfolding miss_walk
  miss_tests = query_tests bytes good.layout good.are_bytes n accepted block none

  as_closest : miss_reports bytes indices panes ray ≡ up_to (λ p. lt (sees_at p) ray.tmax) (closest_reports bytes indices panes ray)
  as_closest =
      miss_closest bytes good.layout good.are_bytes n accepted (pane_of indices panes) nearer
      ∙ stops_below (node_count bytes) T (pane_of indices panes) nearer lt (λ b. b.ray.tmax) sees (panes_reached indices panes) Number
      distances_ordered sees_at (closest_reports bytes indices panes ray) (walk_ray ray) (all_seen near)

  -- no position that miss reports is below the reach exactly if closest has no hit
  none_reported : NoneBelow lt sees_at ray.tmax (miss_reports bytes indices panes ray) ↔ (closest_of bytes indices panes ray).answer ≡ no_hit
  none_reported =
      let u = up_to_none (λ p. lt (sees_at p) ray.tmax) (closest_reports bytes indices panes ray) in
      let c = closest_answers.no_hit_lem in (
        λ h. c.1 (u.0 (subst (NoneBelow lt sees_at ray.tmax) as_closest h)),
        λ h. subst (NoneBelow lt sees_at ray.tmax) (sym as_closest) (u.1 (c.0 h)),
      )

  -- It is not refused. It is blocked by the first position reported that is below the reach, and so exactly if closest has a hit.
  pub miss_answers : MissAnswers bytes indices panes ray
  unfolding miss_found
  miss_answers = go _ _ miss_is_lem miss_stopped miss_tests
    where
      go : (y : Found Float) (k : ℕ) → miss_of bytes indices panes ray ≡ miss_found y k
          → Stops lt sees_at ray.tmax none y (miss_reports bytes indices panes ray) → k ≡ length (tested_nodes (miss_steps bytes indices panes ray))
          → MissAnswers bytes indices panes ray
      go y k e (N.missed f h) t =
          let c = e ∙ ap (λ (z : Found Float). miss_found z k) f in
          let a : (miss_of bytes indices panes ray).answer ≡ missed = ap (λ (r : Result MissAnswer). r.answer) c in record {
            answers = inl a;
            blocked_iff = (λ q. blocks_apart (sym a ∙ q), λ q. absurd (blocks_below lt sees_at ray.tmax _ q.0 q.1 h));
            missed_iff = (λ _. h, λ _. a);
            as_closest = as_closest;
            missed_no_hit = (λ _. none_reported.0 h, λ _. a);
            blocked_hit = (λ q. blocks_apart (sym a ∙ q), λ q. hits_apart q.0 q.1 (sym (none_reported.0 h) ∙ q.2));
            tests = ap (λ (r : Result MissAnswer). r.tests) c ∙ t;
          }
      go y k e (N.blocked p f B) t =
          let c = e ∙ ap (λ (z : Found Float). miss_found z k) f in
          let a : (miss_of bytes indices panes ray).answer ≡ blocked = ap (λ (r : Result MissAnswer). r.answer) c in
          let hits : (closest_of bytes indices panes ray).answer ≡ no_hit → ⊥ = λ q. blocks_below lt sees_at ray.tmax _ p B (none_reported.1 q) in
          record {
            answers = inr a;
            blocked_iff = (λ _. (p, B), λ _. a);
            missed_iff = (λ q. blocks_apart (sym q ∙ a), λ h. absurd (blocks_below lt sees_at ray.tmax _ p B h));
            as_closest = as_closest;
            missed_no_hit = (λ q. blocks_apart (sym q ∙ a), λ q. absurd (hits q));
            blocked_hit = (λ _. other hits closest_answers.answers, λ _. a);
            tests = ap (λ (r : Result MissAnswer). r.tests) c ∙ t;
          }

  -- ---- miss, by the positions that any-hit lists

  as_any_hit : miss_reports bytes indices panes ray ≡ up_to (λ p. lt (sees_at p) ray.tmax) (positions_met bytes n ray)
  as_any_hit =
      miss_any_hit bytes good.layout good.are_bytes n accepted (pane_of indices panes) nearer
      ∙ stops_below (node_count bytes) T (pane_of indices panes) nearer lt (λ b. b.ray.tmax) sees (panes_reached indices panes) Number
      distances_ordered sees_at (positions_met bytes n ray) (walk_ray ray)
      (all_map seen (positions_met bytes n ray) (met_exist bytes good.layout good.are_bytes n accepted))

  -- It misses exactly if no position that any-hit lists is seen below the reach.
  pub missed_met : (miss_of bytes indices panes ray).answer ≡ missed ↔ NoneBelow lt sees_at ray.tmax (positions_met bytes n ray)
  missed_met =
      let u = up_to_none (λ p. lt (sees_at p) ray.tmax) (positions_met bytes n ray) in
      let m = miss_answers.missed_iff in (
        λ q. u.0 (subst (NoneBelow lt sees_at ray.tmax) as_any_hit (m.0 q)),
        λ h. m.1 (subst (NoneBelow lt sees_at ray.tmax) (sym as_any_hit) (u.1 h)),
      )
