-- A ray's start (02, [1]), of the public calls, over any bytes: what a hit is, a told distance below the start, and a start that is a NaN.
use mathlib.Core.Bool.{true}
use mathlib.Core.List.{List}
use mathlib.Core.Path.{◌≡◌, refl, sym, ap, subst, ◌∙◌}
use Prim.Native.Nat.{ℕ, zero, suc, ◌%◌, ◌<◌}
use native.Mathlib.Omega.{arith}
use lib.Dec.{eqb}
use lib.Ieee.{Float, nan, lt}
use lib.ListN.{length, get_or}
use Rattle.ray.specs.declared.Vec3.{Vec3}
use Rattle.ray.specs.declared.Ray.{Ray}
use Rattle.ray.specs.Ray.{ray_of, counts}
use Rattle.ray.proofs.Bounds.{nan_start_refused}
use Rattle.ray.proofs.Counts.{counts_below, counts_from, early_not_counted, nan_not_counted}
use Rattle.record_shape.specs.Record.{node_count}
use Rattle.walk.specs.Tests.{Tests}
use Rattle.walk.specs.Step as S
use Rattle.walk.specs.Queries.{Found, none, hit, fault, distance, closest, miss}
use Rattle.walk.specs.Listing.{In}
use Rattle.walk.specs.Slots.{tests_of}
use Rattle.walk.specs.WordStep.{WalkerWords, stay_words}
use Rattle.walk.specs.WordQueries.{OutcomeWords}
use Rattle.walk.proofs.Hits.{Came, stayed, hits, faults, closest_came, miss_came}
use Rattle.walk_record.specs.WalkRay.{WalkRay, walk_ray, forged_ray, by_boxes}
use Rattle.walk_record.specs.Record.{slots_at}
use Rattle.causes.proofs.Sizes.{Fit}
use Rattle.query.proofs.Entry.{entered, entry_ray}
use Rattle.query.specs.Result as R
use Rattle.query.specs.Result.{Result, walked}
use Rattle.traverse.specs.Walker.{started, no_walker, told_walker, step_bytes}
use Rattle.traverse.proofs.Begun.{refuses}
use Rattle.traverse.proofs.Steps.{told_farther, step_forged}
use Rattle.any_hit.specs.AnyHit.{AnyHitAnswer, refused, any_hit_of}
use Rattle.closest.specs.Panes.{pane_met, pane_of, nearer, pane_cause}
use Rattle.closest.specs.Panes.{ClosestAnswer, hit_at, no_hit, refused_closest, closest_found, closest_walk, closest_walked, closest_of}
use Rattle.closest.specs.Panes.{MissAnswer, missed, blocked, refused_miss, miss_found, miss_walk, miss_walked, miss_of}
use Rattle.closest.proofs.Counted.{told_counts}
use Rattle.closest.proofs.Distances.{told_pane}
use Rattle.demands.specs.Walks.{AcceptedRay}
use Rattle.demands.specs.Panes.{HitCounts, closest_reports, miss_reports}
use Rattle.demands.proofs.Runs.{query_noted}

-- ---- hits

-- an answer that is no refusal is what the walk found, where nothing refused on entry
module _ {A : Type 0} (refuse : ℕ → A) (a : A) (apart : (k : ℕ) → refuse k ≡ a → ⊥) where
  on_entry_lem : (cause : ℕ) (w : Result A) → (R.entered refuse cause w).answer ≡ a → (cause ≡ 0) × (w.answer ≡ a)
  unfolding R.entered
  on_entry_lem zero w e = (refl, e)
  on_entry_lem (suc k) w e = absurd (apart (suc k) e)

  at_end : {N : Type 0} (found : N → ℕ → Result A) (o : OutcomeWords WalkRay N) (b : S.Answer) → (walked refuse found o b).answer ≡ a
      → (found o.accumulator o.walker.tests).answer ≡ a
  unfolding walked
  at_end found o (S.tested v) e = absurd (apart 10 e)
  at_end found o (S.position p) e = e
  at_end found o S.done e = e
  at_end found o (S.refused k) e = absurd (apart k e)

-- closest's answers are apart, and so are miss's
pub hits_apart : {A : Type 0} (p : ℕ) (t : Float) → no_hit ≡ hit_at p t → A
hits_apart p t e = let z : ◌≡◌ {A = ℕ} 0 1 = cc in absurd (omega arith)

refused_hit_apart : {A : Type 0} (p : ℕ) (t : Float) (k : ℕ) → refused_closest k ≡ hit_at p t → A
refused_hit_apart p t k e = let z : ◌≡◌ {A = ℕ} 0 1 = cc in absurd (omega arith)

pub blocks_apart : {A : Type 0} → missed ≡ blocked → A
blocks_apart e = let z : ◌≡◌ {A = ℕ} 0 1 = cc in absurd (omega arith)

refused_blocked_apart : {A : Type 0} (k : ℕ) → refused_miss k ≡ blocked → A
refused_blocked_apart k e = let z : ◌≡◌ {A = ℕ} 0 1 = cc in absurd (omega arith)

found_hit : (y : Found Float) (k p : ℕ) (t : Float) → (closest_found y k).answer ≡ hit_at p t → y ≡ hit p t
unfolding closest_found
found_hit none k p t e = hits_apart p t e
found_hit (hit q u) k p t e = let a : q ≡ p = cc in let b : u ≡ t = cc in rw (a, b)
found_hit (fault j) k p t e = refused_hit_apart p t j e

found_block : (y : Found Float) (k : ℕ) → (miss_found y k).answer ≡ blocked → (p : ℕ) × (t : Float) × (y ≡ hit p t)
unfolding miss_found
found_block none k e = blocks_apart e
found_block (hit p t) k e = (p, t, refl)
found_block (fault j) k e = refused_blocked_apart j e

module _ (bytes indices : List ℕ) (panes : List Float) (are_bytes : (i : ℕ) → get_or bytes i 0 < 256) (o d : Vec3) (tmin tmax : Float) where
  abbrev ray : Ray
  ray = ray_of o d tmin tmax

  abbrev n : ℕ
  n = length indices

  abbrev T : Tests WalkRay Float
  T = tests_of (slots_at bytes by_boxes n)

  -- what came of some positions, where a hit was noted
  hit_came : (reports : List ℕ) (p : ℕ) (t : Float) (y : Found Float) → y ≡ hit p t
      → Came (pane_of indices panes) nearer (walk_ray ray) none y reports
      → HitCounts indices panes ray reports p t
  unfolding pane_of
  hit_came reports p t y e (stayed f) = let z : ◌≡◌ {A = ℕ} 0 1 = cc in absurd (omega arith)
  hit_came reports p t y e (faults k f) = let z : ◌≡◌ {A = ℕ} 0 1 = cc in absurd (omega arith)
  hit_came reports p t y e (hits q u f i s h) =
      let a : q ≡ p = cc in
      let b : u ≡ t = cc in
      let c : counts ray t ≡ true = ap (counts ray) (sym b) ∙ h in
      record {
        reported = subst (λ (x : ℕ). In x reports) a i;
        met = ap (λ (x : ℕ). pane_met panes (get_or indices x 0) ray) (sym a) ∙ s ∙ ap distance b;
        not_before_start = counts_from ray t c;
        below_reach = counts_below ray t c;
      }

  -- A query that is not refused entered, and its ray is accepted.
  begun : pane_cause bytes indices panes ray ≡ 0 → (length bytes % 80 ≡ 0) × AcceptedRay ray
  begun e =
      let h = entered (eqb (length panes % 6) 0) (length bytes) n 0 ray e in (
        h.sizes.whole,
        record { origin = o; direction = d; tmin = tmin; tmax = tmax; made = refl; accepted = h.accepted },
      )

  -- Closest's hit is at a position that its walk reported, at its pane's distance, which is not below tmin, and below tmax as given.
  pub hit_counts : (p : ℕ) (t : Float) → (closest_of bytes indices panes ray).answer ≡ hit_at p t
      → HitCounts indices panes ray (closest_reports bytes indices panes ray) p t
  unfolding closest_of closest_walk
  hit_counts p t e =
      let w = on_entry_lem refused_closest (hit_at p t) (refused_hit_apart p t) (pane_cause bytes indices panes ray)
      (closest_walked bytes indices panes ray) e in
      let b = begun w.0 in
      let f = at_end refused_closest (hit_at p t) (refused_hit_apart p t) closest_found (closest_walk bytes indices panes ray)
      (closest_walk bytes indices panes ray).ended w.1 in
      hit_came (closest_reports bytes indices panes ray) p t _ (found_hit _ _ p t f)
      (closest_came (pane_of indices panes) nearer (node_count bytes) T (told_pane indices panes) told_counts
      (closest_reports bytes indices panes ray) (walk_ray ray) none _
      (query_noted bytes b.0 are_bytes n b.1 (closest (pane_of indices panes) nearer) none))

  -- Where miss is blocked there is such a position.
  pub block_counts : (miss_of bytes indices panes ray).answer ≡ blocked
      → (p : ℕ) × (t : Float) × HitCounts indices panes ray (miss_reports bytes indices panes ray) p t
  unfolding miss_of miss_walk
  block_counts e =
      let w = on_entry_lem refused_miss blocked refused_blocked_apart (pane_cause bytes indices panes ray) (miss_walked bytes indices panes ray) e in
      let b = begun w.0 in
      let f = at_end refused_miss blocked refused_blocked_apart miss_found (miss_walk bytes indices panes ray)
      (miss_walk bytes indices panes ray).ended
      w.1 in
      let h = found_block _ _ f in (
        h.0,
        h.1,
        hit_came (miss_reports bytes indices panes ray) h.0 h.1 _ h.2
            (miss_came (pane_of indices panes) nearer (node_count bytes) T (told_pane indices panes) told_counts
            (miss_reports bytes indices panes ray) (walk_ray ray) none _
            (query_noted bytes b.0 are_bytes n b.1 (miss (pane_of indices panes) nearer) none)),
      )

-- ---- telling

-- A told distance below the walker's start does nothing, whatever the walker; nor does a NaN.
pub told_early : (t : Float) (w : WalkerWords WalkRay) → lt t w.ray.ray.tmin ≡ true → told_walker t w ≡ w
told_early t w e = sym (told_farther w t (early_not_counted w.ray.ray t e))

pub told_nan : (w : WalkerWords WalkRay) → told_walker nan w ≡ w
told_nan w = sym (told_farther w nan (nan_not_counted w.ray.ray))

-- ---- a start that is a NaN

module _ (r : Ray) (start : r.tmin ≡ nan) where
  -- no walker begins on it,
  pub nan_start_begins : started r ≡ record { walker = no_walker; refused = 9 }
  nan_start_begins = sym (refuses r r refl (nan_start_refused r start))

  -- each query is refused 9, where 1 and 2 do not hold,
  by_nine : {A : Type 0} (refuse : ℕ → A) (cause : ℕ) (w : Result A) → cause ≡ 9 → R.entered refuse cause w ≡ record { answer = refuse 9; tests = 0 }
  unfolding R.entered
  by_nine refuse cause w e = rw e

  pub nan_start_any_hit : (bytes : List ℕ) (n room : ℕ) → Fit (length bytes) n → (any_hit_of bytes n r room).answer ≡ refused 9
  unfolding any_hit_of
  nan_start_any_hit bytes n room f =
      ap (λ (x : Result AnyHitAnswer). x.answer) (by_nine refused _ _ (entry_ray true (length bytes) n 0 r refl f refl (nan_start_refused r start)))

  module _ (bytes indices : List ℕ) (panes : List Float) (whole : eqb (length panes % 6) 0 ≡ true) (f : Fit (length bytes) (length indices)) where
    nine : pane_cause bytes indices panes r ≡ 9
    nine = entry_ray (eqb (length panes % 6) 0) (length bytes) (length indices) 0 r whole f refl (nan_start_refused r start)

    pub nan_start_closest : (closest_of bytes indices panes r).answer ≡ refused_closest 9
    unfolding closest_of
    nan_start_closest = ap (λ (x : Result ClosestAnswer). x.answer) (by_nine refused_closest _ _ nine)

    pub nan_start_miss : (miss_of bytes indices panes r).answer ≡ refused_miss 9
    unfolding miss_of
    nan_start_miss = ap (λ (x : Result MissAnswer). x.answer) (by_nine refused_miss _ _ nine)

  -- and a walker that holds it is forged: each step is refused 10 and leaves it, where 1 and 2 do not hold.
  pub nan_start_forged : (octant : ℕ) → forged_ray (record { ray = r; octant = octant }) ≡ true
  nan_start_forged octant = rw (nan_start_refused r start)

  pub nan_start_steps : (bytes : List ℕ) (n : ℕ) (w : WalkerWords WalkRay) → w.ray.ray ≡ r → Fit (length bytes) n
      → step_bytes bytes n w ≡ stay_words w (S.refused 10)
  nan_start_steps bytes n w e f = sym (step_forged bytes n w f (rw (e, nan_start_forged w.ray.octant)))
