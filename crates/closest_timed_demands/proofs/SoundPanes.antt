-- Closest and miss at a quarter hour over every sound record (02, [7]), beside any side table as it is read, where the lists fit and no pane has a
-- fault, for every accepted ray: neither is refused; miss is blocked exactly if closest has a hit, and exactly if a position that any-hit lists has
-- its pane at a distance that counts.
use mathlib.Core.Bool.{false}
use mathlib.Core.List.{List, [], ◌∷◌}
use mathlib.Core.Logic.{inl, inr}
use mathlib.Core.Path.{◌≡◌, refl, sym, ap, subst, ◌∙◌}
use Prim.Native.Nat.{ℕ, ◌%◌, ◌<◌}
use lib.Dec.{eqb}
use lib.Ieee.{Float, lt}
use lib.ListN.{length, get_or}
use borrow.Author.Tests.{eq-eqb}
use Rattle.lists.proofs.Tells.{clash}
use Rattle.ray.specs.Ray.{seen_at}
use Rattle.ray.proofs.Counts.{counts-seen, seen_itself, seen-number}
use Rattle.record_shape.specs.Record.{node_count, nodes_at}
use Rattle.walk.specs.Tests.{Tests}
use Rattle.walk.specs.Calls.{All, reported}
use Rattle.walk.specs.Listing.{In}
use Rattle.walk.specs.Queries.{Reaction, Found, none, hit, closest, miss, append}
use Rattle.walk.specs.Reports.{Notes, up_to, NoneBelow, Nearest}
use Rattle.walk.specs.Slots.{tests_of}
use Rattle.walk.proofs.Lists.{all_map, all_in, in_head, in_right}
use Rattle.walk.proofs.Nearest.{up_to_none, nearest_below, blocks_below}
use Rattle.walk.proofs.Noted.{Seen, Picks, kept, nearest, closest_picks, Stops, miss_stops, stops_below}
use Rattle.walk.proofs.Noted as N
use Rattle.walk_record.specs.WalkRay.{WalkRay, walk_ray}
use Rattle.walk_record.specs.Walk.{run_at, query_at, any_hit_at}
use Rattle.walk_record.proofs.Demands.{SoundWalk}
use Rattle.walk_record.proofs.Runs as R
use Rattle.query.specs.Result.{Result, walked, entered}
use Rattle.query.proofs.Entry.{entry_none, found_at_end}
use Rattle.pane_walk.specs.Panes.{pane_of, nearer, pane_cause_between}
use Rattle.pane_walk.specs.Panes.{hit_at, no_hit, refused_closest, closest_found}
use Rattle.pane_walk.specs.Panes.{missed, blocked, refused_miss, miss_found}
use Rattle.closest.proofs.Distances.{Number, distances_ordered, met_there, panes_reached}
use Rattle.timed.specs.Walk.{rays_at, timed_slots, timed_query, timed_calls, timed_answers}
use Rattle.timed.specs.Reached.{PassedAt}
use Rattle.timed.proofs.Listed.{timed_walk, timed_listed}
use Rattle.timed.proofs.Steps.{timed_report_once, timed_pass, timed_query_answered}
use Rattle.timed_entry.specs.Entry.{timed_cause}
use Rattle.closest_timed.specs.Timed.{closest_timed_of, miss_timed_of}
use Rattle.demands.specs.Panes.{Panes}
use Rattle.demands.specs.Walks.{AcceptedRay}
use Rattle.demands.proofs.Rays.{not_forged, distance_known}
use Rattle.demands.proofs.NearLimit.{hits_apart, blocks_apart}
use Rattle.timed_demands.specs.Walks.{CheckedAt, found}
use Rattle.timed_demands.proofs.Listed as L
use Rattle.closest_timed_demands.specs.Panes.{TimedPaneCall, closest_for, miss_for, hours}
use Rattle.closest_timed_demands.specs.Panes.{enters_at, sees_at, ReportsAt, InTheWay, AnswersAt}

module _ {c : TimedPaneCall} (good : CheckedAt c.bytes (hours c)) (fine : Panes c.indices c.panes) (accepted : AcceptedRay c.ray) where
  abbrev n : ℕ
  n = length c.indices

  abbrev T : Tests WalkRay Float
  T = tests_of (timed_slots c.bytes (hours c))

  -- the reactions of the two queries
  abbrev React : Type 0
  React = ℕ → WalkRay → Found Float → Reaction Float (Found Float)

  abbrev near : React
  near = closest (pane_of c.indices c.panes) nearer

  abbrev block : React
  block = miss (pane_of c.indices c.panes) nearer

  -- no position of a list is seen below the reach
  abbrev NoneSeen : List ℕ → Type 0
  NoneSeen = NoneBelow lt (sees_at c) c.ray.tmax

  abbrev seen_first : List ℕ → List ℕ
  seen_first = up_to (λ p. lt (sees_at c p) c.ray.tmax)

  -- ---- either query

  W : SoundWalk (nodes_at c.bytes) (rays_at (hours c)) n (walk_ray c.ray)
  W = timed_walk good.sound_at (not_forged accepted)

  -- nothing refuses it on entry
  no_cause : 0 ≡ pane_cause_between c.bytes c.indices c.panes c.ray (timed_cause c.bytes (hours c))
  no_cause =
      sym (entry_none (eqb (length c.panes % 6) 0) (length c.bytes) n (timed_cause c.bytes (hours c)) c.ray
      (eq-eqb (length c.panes % 6) 0 fine.whole) (L.sizes_fit_lem good) (L.no_cause good) accepted.accepted)

  -- what it has noted, its tests, and the positions that its walk reports
  abbrev noted : React → Found Float
  noted react = (timed_query c.bytes (hours c) react none c.ray).accumulator

  abbrev made : React → ℕ
  made react = (timed_query c.bytes (hours c) react none c.ray).walker.tests

  abbrev reports : React → List ℕ
  reports react = reported (timed_answers c.bytes (hours c) react none c.ray)

  notes : (react : React) → Notes (node_count c.bytes) T react (walk_ray c.ray) none (reports react) (noted react)
  unfolding run_at query_at
  notes react = R.query_noted (nodes_at c.bytes) (rays_at (hours c)) W.rays W.fields n (walk_ray c.ray) W.accepted react none

  -- each position has a pane that is seen where it is or nowhere
  abbrev SeenAt : ℕ → Type 0
  SeenAt = Seen (pane_of c.indices c.panes) (λ b. seen_at b.ray) Number (sees_at c) (walk_ray c.ray)

  seen_there : (p : ℕ) → p < n → SeenAt p
  unfolding pane_of
  seen_there p l =
      let k = fine.named p l in
      let b = fine.accepted (get_or c.indices p 0) k in record {
        met = enters_at c p;
        pane_is = met_there c.indices c.panes (get_or c.indices p 0) c.ray k b;
        seen_is = refl;
        number = seen-number c.ray (enters_at c p) (distance_known accepted _ b);
      }

  reports_seen : (react : React) → All SeenAt (reports react)
  unfolding run_at
  reports_seen react =
      all_map seen_there (reports react)
      (R.reported_exist (nodes_at c.bytes) (rays_at (hours c)) W.rays W.fields n (walk_ray c.ray) W.accepted react none)

  met_seen : All SeenAt (found c.bytes (hours c) c.ray)
  unfolding run_at query_at any_hit_at
  met_seen =
      all_map seen_there (found c.bytes (hours c) c.ray)
      (subst (All (λ p. p < n)) (sym (R.any_hit_is_run (nodes_at c.bytes) (rays_at (hours c)) W.rays W.fields n (walk_ray c.ray) W.accepted))
      (R.reported_exist (nodes_at c.bytes) (rays_at (hours c)) W.rays W.fields n (walk_ray c.ray) W.accepted append []))

  -- ---- what they found

  closest_picked : Picks lt (sees_at c) c.ray.tmax none (noted near) (reports near)
  closest_picked =
      closest_picks (node_count c.bytes) T (pane_of c.indices c.panes) nearer lt (λ b. b.ray.tmax) (λ b. seen_at b.ray)
      (panes_reached c.indices c.panes) Number distances_ordered (sees_at c) (reports near) (walk_ray c.ray) none (noted near) (reports_seen near)
      (notes near)

  miss_stopped : Stops lt (sees_at c) c.ray.tmax none (noted block) (reports block)
  miss_stopped =
      miss_stops (node_count c.bytes) T (pane_of c.indices c.panes) nearer lt (λ b. b.ray.tmax) (λ b. seen_at b.ray)
      (panes_reached c.indices c.panes) Number distances_ordered (sees_at c) (reports block) (walk_ray c.ray) none (noted block)
      (reports_seen block) (notes block)

  -- miss stops at the first position seen below the reach
  stops_seen : (l : List ℕ) → All SeenAt l → up_to (λ p. (block p (walk_ray c.ray) none).stop) l ≡ seen_first l
  stops_seen l h =
      stops_below (node_count c.bytes) T (pane_of c.indices c.panes) nearer lt (λ b. b.ray.tmax) (λ b. seen_at b.ray)
      (panes_reached c.indices c.panes) Number distances_ordered (sees_at c) l (walk_ray c.ray) h

  -- of those that closest reports, and of those that any-hit lists
  as_closest : reports block ≡ seen_first (reports near)
  unfolding run_at
  as_closest =
      R.miss_closest (nodes_at c.bytes) (rays_at (hours c)) W.rays W.fields n (walk_ray c.ray) W.accepted (pane_of c.indices c.panes) nearer
      ∙ stops_seen (reports near) (reports_seen near)

  as_any_hit : reports block ≡ seen_first (found c.bytes (hours c) c.ray)
  unfolding run_at query_at any_hit_at
  as_any_hit =
      R.miss_any_hit (nodes_at c.bytes) (rays_at (hours c)) W.rays W.fields n (walk_ray c.ray) W.accepted (pane_of c.indices c.panes) nearer
      ∙ stops_seen (found c.bytes (hours c) c.ray) met_seen

  none_alike : (l : List ℕ) → reports block ≡ seen_first l → NoneSeen (reports block) → NoneSeen l
  none_alike l e k = (up_to_none (λ p. lt (sees_at c p) c.ray.tmax) l).0 (subst NoneSeen e k)

  none_back : (l : List ℕ) → reports block ≡ seen_first l → NoneSeen l → NoneSeen (reports block)
  none_back l e k = subst NoneSeen (sym e) ((up_to_none (λ p. lt (sees_at c p) c.ray.tmax) l).1 k)

  -- ---- their answers

  -- either no position that any-hit lists is seen below the reach, or one is
  data Outcome : Type 0 where
    clear : NoneSeen (found c.bytes (hours c) c.ray) → (closest_for c).answer ≡ no_hit → (miss_for c).answer ≡ missed → Outcome
    seen : (p : ℕ) → Nearest lt (sees_at c) c.ray.tmax (reports near) p → (closest_for c).answer ≡ hit_at p (enters_at c p)
        → (q : ℕ) → InTheWay c q → (miss_for c).answer ≡ blocked → Outcome

  -- what a query answers by what it has noted
  answer_is : {A : Type 0} (refuse : ℕ → A) (found_by : Found Float → ℕ → Result A) (react : React) (y : Found Float) → noted react ≡ y →
      let o = timed_query c.bytes (hours c) react none c.ray in
      (entered refuse (pane_cause_between c.bytes c.indices c.panes c.ray (timed_cause c.bytes (hours c))) (walked refuse found_by o o.ended)).answer
      ≡ (found_by y o.walker.tests).answer
  answer_is {A} refuse found_by react y e =
      let o = timed_query c.bytes (hours c) react none c.ray in
      ap (λ (r : Result A). r.answer)
      (found_at_end refuse found_by (pane_cause_between c.bytes c.indices c.panes c.ray (timed_cause c.bytes (hours c))) o o.ended no_cause
      (timed_query_answered good.sound_at c.ray (not_forged accepted) react none)
      ∙ ap (λ (z : Found Float). found_by z o.walker.tests) e)

  closest_is : (y : Found Float) → noted near ≡ y → (closest_for c).answer ≡ (closest_found y (made near)).answer
  unfolding closest_timed_of
  closest_is = answer_is refused_closest closest_found near

  miss_is : (y : Found Float) → noted block ≡ y → (miss_for c).answer ≡ (miss_found y (made block)).answer
  unfolding miss_timed_of
  miss_is = answer_is refused_miss miss_found block

  reports_passed : (react : React) → All (PassedAt c.bytes (hours c) c.ray) (reports react)
  reports_passed react = timed_pass good.sound_at c.ray (not_forged accepted) (timed_calls c.bytes (hours c) react none c.ray)

  -- Closest reports no position twice, and only those that boxes and spans let through; miss the same, up to the first that is seen below the reach.
  pub closest_and_miss_report : ReportsAt c
  closest_and_miss_report = record {
    once = timed_report_once good.sound_at c.ray (not_forged accepted) (timed_calls c.bytes (hours c) near none c.ray);
    passed = reports_passed near;
    as_closest = as_closest;
  }

  outcome : Outcome
  unfolding closest_found miss_found
  outcome = go closest_picked miss_stopped
    where
      go : Picks lt (sees_at c) c.ray.tmax none (noted near) (reports near) → Stops lt (sees_at c) c.ray.tmax none (noted block) (reports block)
          → Outcome
      go (kept e h) (N.missed f k) = clear (none_alike (found c.bytes (hours c) c.ray) as_any_hit k) (closest_is none e) (miss_is none f)
      go (kept e h) (N.blocked q f B) = absurd (blocks_below lt (sees_at c) c.ray.tmax _ q B (none_back (reports near) as_closest h))
      go (nearest p e M) (N.missed f k) = absurd (nearest_below lt (sees_at c) c.ray.tmax _ p M (none_alike (reports near) as_closest k))
      go (nearest p e M) (N.blocked q f B) =
          let met : In q (reports block) = subst (In q) (sym B.last) (in_right q B.before (q ∷ []) (in_head q [])) in
          seen p M (closest_is (hit p (enters_at c p)) (e ∙ ap (hit p) (seen_itself c.ray (enters_at c p) c.ray.tmax M.below))) q
          (all_in (PassedAt c.bytes (hours c) c.ray) (reports block) (reports_passed block) q met, counts-seen c.ray (enters_at c q) ∙ B.below)
          (miss_is (hit q (sees_at c q)) f)

  -- Neither is refused, and miss is blocked exactly if closest has a hit, and exactly if a position is in the way; `AnswersAt` says it in full.
  pub closest_and_miss_answer : AnswersAt c
  closest_and_miss_answer = go outcome
    where
      go : Outcome → AnswersAt c
      go (clear h a b) = record {
        closest_answers = inl a;
        miss_answers = inl b;
        nearest_hit = λ p t e. hits_apart p t (sym a ∙ e);
        blocked_hit = (λ e. blocks_apart (sym b ∙ e), λ q. hits_apart q.0 q.1 (sym a ∙ q.2));
        blocked_met = (
          λ e. blocks_apart (sym b ∙ e),
          λ q.
              let l = ((timed_listed good.sound_at (not_forged accepted)).1 q.0).1 q.1.0 in
              clash (sym (all_in (λ p. lt (sees_at c p) c.ray.tmax ≡ false) _ h q.0 l) ∙ sym (counts-seen c.ray (enters_at c q.0)) ∙ q.1.1),
        );
      }
      go (seen p M a q w b) = record {
        closest_answers = inr (p, enters_at c p, a);
        miss_answers = inr b;
        nearest_hit = λ x t e.
            let same = sym a ∙ e in
            let at : p ≡ x = cc in
            let by : enters_at c p ≡ t = cc in
            (sym by ∙ ap (enters_at c) at, subst (Nearest lt (sees_at c) c.ray.tmax (reports near)) at M);
        blocked_hit = (λ e. (p, enters_at c p, a), λ e. b);
        blocked_met = (λ e. (q, w), λ e. b);
      }
