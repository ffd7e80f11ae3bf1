-- Every query's answer fits its number, on any bytes.
use mathlib.Core.Bool.{Bool, true, false, cond}
use mathlib.Core.List.{List, [], ◌∷◌}
use mathlib.Core.Path.{◌≡◌, refl}
use Prim.Native.Nat.{ℕ, zero, suc, ◌+◌, ◌/◌, ◌≤◌, ◌<◌}
use native.Mathlib.Omega.{arith}
use lib.Dec.{eqb, leb, ltb}
use lib.Ieee.{Float}
use borrow.Author.Tests.{ltb-true}
use lib.ListN.{length, get_or, length-append}
use Rattle.ray.specs.declared.Ray.{Ray}
use Rattle.record_shape.specs.Record.{node_count}
use Rattle.aabb.specs.Aabb.{accepted_box, entry_distance}
use Rattle.gate.specs.Gates.{all_open}
use Rattle.walk.specs.Step as S
use Rattle.walk.specs.Queries.{Reaction, steps_for, append, Pane, distance, faulty, Found, none, hit, fault, lower, lower_at, closest, block_at, miss}
use Rattle.walk.specs.WordStep.{fresh_words}
use Rattle.walk.specs.WordQueries.{OutcomeWords}
use Rattle.walk.proofs.Cases.{cond_elim}
use Rattle.walk_record.specs.WalkRay.{WalkRay, walk_ray, by_boxes}
use Rattle.walk_record.specs.Record.{node_words_at}
use Rattle.walk_record.specs.Walk.{query_at, any_hit_at}
use Rattle.causes.specs.Sizes.{record_conditions}
use Rattle.causes.proofs.Causes.{all_numbers}
use Rattle.query.specs.Entry.{entry_conditions, entry_cause}
use Rattle.query.specs.Result as R
use Rattle.query.proofs.Entry.{entered}
use Rattle.any_hit.specs.AnyHit as H
use Rattle.closest.specs.Panes as P
use Rattle.packed.specs.Packed.{box_in, ray_in}
use Rattle.funnelcress.specs.Queries.{any_hit_by, short_cause, closest_in, closest_by, miss_by, AnyHitFits, ClosestFits, MissFits}
use Rattle.funnelcress.proofs.Bounds.{numbers_most, Below, query_few}

-- ---- refused on entry: a cause's number, or sizes that fit

entry_most : (fits : Bool) (bytes n : ℕ) (r : Ray) → entry_cause fits bytes n 0 r ≤ 11
unfolding entry_conditions record_conditions all_numbers
entry_most fits bytes n r = numbers_most 11 (entry_conditions fits bytes n 0 r) tt

-- ---- any-hit

fitted-fits : (count tests room : ℕ) → tests ≤ 65535 → count < 0x1_0000_0000 → AnyHitFits (H.fitted count tests room)
unfolding H.fitted
fitted-fits count tests room t c = go (leb count room)
  where
    go : (b : Bool) → AnyHitFits (elim b [ true ↦ record { answer = H.listed count; tests = tests } | false ↦ R.unanswered (H.lacking 11 count) ])
    go true = (t, c)
    go false = (refl, refl, c)

walked-fits : (n : ℕ) (o : OutcomeWords WalkRay (List ℕ)) (e : S.Answer) (room : ℕ) → o.walker.tests ≤ 65535
    → length o.accumulator < 0x1_0000_0000 → Below n e → AnyHitFits (R.walked H.refused (λ noted tests. H.fitted (length noted) tests room) o e)
unfolding R.walked
walked-fits n o (S.tested v) room t c l = (refl, omega arith)
walked-fits n o (S.position p) room t c l = fitted-fits (length o.accumulator) o.walker.tests room t c
walked-fits n o S.done room t c l = fitted-fits (length o.accumulator) o.walker.tests room t c
walked-fits n o (S.refused k) room t c l = (refl, l)

-- noted positions and the steps left are no more than the steps given
abbrev Noted : List ℕ → ℕ → List ℕ → Type 0
Noted bytes f x = f + length x ≤ steps_for (node_count bytes)

walk-fits : (bytes : List ℕ) (n : ℕ) (b : WalkRay) → node_count bytes ≤ 65535 → (room : ℕ) → AnyHitFits (H.walk_of all_open bytes n b room)
unfolding H.walk_of any_hit_at query_at
walk-fits bytes n b m room =
    let o = any_hit_at bytes by_boxes n b in
    let q = query_few (node_count bytes) (node_words_at bytes by_boxes) n append (Noted bytes) (λ f x h. omega arith)
    (λ f p r x l h. omega (arith, length-append x (p ∷ []))) (steps_for (node_count bytes)) (fresh_words b) [] (omega arith) (omega arith) in
    walked-fits n o o.ended room (omega (arith, q.0)) (omega (arith, q.2)) q.1

pub any_hit_fits : (bytes : List ℕ) (n : ℕ) (r : Ray) (room : ℕ) → AnyHitFits (H.any_hit_of bytes n r room)
unfolding H.any_hit_of R.entered
any_hit_fits bytes n r room = go (entry_cause true (length bytes) n 0 r) refl (entry_most true (length bytes) n r)
  where
    go : (c : ℕ) → entry_cause true (length bytes) n 0 r ≡ c → c ≤ 11
        → AnyHitFits (R.entered H.refused c (H.walk_of all_open bytes n (walk_ray r) room))
    go zero e l = walk-fits bytes n (walk_ray r) (entered true (length bytes) n 0 r e).sizes.small room
    go (suc k) e l = (refl, l)

-- ---- closest and miss

-- what they note: a position that is there, or a cause's number
abbrev Small : Found Float → Type 0
Small none = Unit {0}
Small (hit p t) = p < 65536
Small (fault k) = k ≤ 11

module _ {A : Type 0} (F : R.Result A → Type 0) (refuse : ℕ → A) (found : Found Float → ℕ → R.Result A)
    (refuses : (k : ℕ) → k ≤ 11 → F (record { answer = refuse k; tests = 0 }))
    (finds : (x : Found Float) (tests : ℕ) → Small x → tests ≤ 65535 → F (found x tests)) where
  ended_fits : (n : ℕ) (o : OutcomeWords WalkRay (Found Float)) (e : S.Answer) → o.walker.tests ≤ 65535 → Below n e → Small o.accumulator
      → F (R.walked refuse found o e)
  unfolding R.walked
  ended_fits n o (S.tested v) t l x = refuses 10 (omega arith)
  ended_fits n o (S.position p) t l x = finds o.accumulator o.walker.tests x t
  ended_fits n o S.done t l x = finds o.accumulator o.walker.tests x t
  ended_fits n o (S.refused k) t l x = refuses k l

  entered-fits : (c : ℕ) (w : R.Result A) → c ≤ 11 → (c ≡ 0 → F w) → F (R.entered refuse c w)
  unfolding R.entered
  entered-fits zero w l h = h refl
  entered-fits (suc k) w l h = refuses (suc k) l

  module _ (bytes indices : List ℕ) (panes : List Float) (r : Ray) (react : ℕ → WalkRay → Found Float → Reaction Float (Found Float))
      (reacts : (p : ℕ) (b : WalkRay) (x : Found Float) → p < 65536 → Small x → Small (react p b x).accumulator) where
    query_fits : let o = query_at bytes by_boxes react none (length indices) (walk_ray r) in
        F (R.entered refuse (P.pane_cause bytes indices panes r) (R.walked refuse found o o.ended))
    unfolding query_at
    query_fits =
        let o = query_at bytes by_boxes react none (length indices) (walk_ray r) in
        entered-fits (P.pane_cause bytes indices panes r) _ (entry_most _ _ _ r) (λ e.
        let s = (entered _ _ _ 0 r e).sizes in
        let q = query_few (node_count bytes) (node_words_at bytes by_boxes) (length indices) react (λ f x. Small x) (λ f x h. h)
        (λ f p b x l h. reacts p b x (omega (arith, l, s.few)) h) (steps_for (node_count bytes)) (fresh_words (walk_ray r)) none (omega arith) tt in
        ended_fits (length indices) o o.ended (omega (arith, q.0, s.small)) q.1 q.2)

-- a pane's fault is 6 or 10
abbrev Faults : Pane Float → Type 0
Faults (distance t) = Unit {0}
Faults (faulty k) = k ≤ 11

module _ (indices : List ℕ) (panes : List Float) where
  pane_faults : (p : ℕ) (b : WalkRay) → Faults (P.pane_of indices panes p b)
  unfolding P.pane_of P.pane_met
  pane_faults p b = go (ltb (get_or indices p 0) (length panes / 6)) (accepted_box (box_in panes (get_or indices p 0)))
    where
      go : (there accepted : Bool)
          → Faults (cond there (cond accepted (distance (entry_distance (box_in panes (get_or indices p 0)) b.ray)) (faulty 6)) (faulty 10))
      go false accepted = omega arith
      go true false = omega arith
      go true true = tt

  closest_small : (p : ℕ) (b : WalkRay) (x : Found Float) → p < 65536 → Small x → Small (closest (P.pane_of indices panes) P.nearer p b x).accumulator
  closest_small p b x l h = go (P.pane_of indices panes p b) (pane_faults p b)
    where
      lowers : (near : Bool) (t : Float) → Small (lower (P.pane_of indices panes) P.nearer near p t x).accumulator
      lowers true t = l
      lowers false t = h

      go : (v : Pane Float) → Faults v → Small (lower_at (P.pane_of indices panes) P.nearer v p b x).accumulator
      go (distance t) f = lowers (P.nearer t b) t
      go (faulty k) f = f

  miss_small : (p : ℕ) (b : WalkRay) (x : Found Float) → p < 65536 → Small x → Small (miss (P.pane_of indices panes) P.nearer p b x).accumulator
  miss_small p b x l h = go (P.pane_of indices panes p b) (pane_faults p b)
    where
      go : (v : Pane Float) → Faults v → Small (block_at (P.pane_of indices panes) P.nearer v p b x).accumulator
      go (distance t) f = cond_elim Small (P.nearer t b) (hit p t) x (λ _. l) (λ _. h)
      go (faulty k) f = f

module _ (bytes indices : List ℕ) (panes : List Float) (r : Ray) where
  pub closest_fits : ClosestFits (P.closest_of bytes indices panes r)
  unfolding P.closest_of P.closest_walk P.closest_found
  closest_fits =
      query_fits ClosestFits P.refused_closest P.closest_found (λ k l. (refl, l)) finds
      bytes indices panes r (closest (P.pane_of indices panes) P.nearer) (closest_small indices panes)
    where
      finds : (x : Found Float) (tests : ℕ) → Small x → tests ≤ 65535 → ClosestFits (P.closest_found x tests)
      finds none tests h t = t
      finds (hit p d) tests h t = (t, h)
      finds (fault k) tests h t = (refl, h)

  pub miss_fits : MissFits (P.miss_of bytes indices panes r)
  unfolding P.miss_of P.miss_walk P.miss_found
  miss_fits =
      query_fits MissFits P.refused_miss P.miss_found (λ k l. (refl, l)) finds
      bytes indices panes r (miss (P.pane_of indices panes) P.nearer) (miss_small indices panes)
    where
      finds : (x : Found Float) (tests : ℕ) → Small x → tests ≤ 65535 → MissFits (P.miss_found x tests)
      finds none tests h t = t
      finds (hit p d) tests h t = t
      finds (fault k) tests h t = (refl, h)

-- ---- for a ray of eight floats, or another

pub any_hit_number_fits : (bytes : List ℕ) (n : ℕ) (ray : List Float) (room : ℕ) → AnyHitFits (any_hit_by bytes n ray room)
unfolding any_hit_by
any_hit_number_fits bytes n ray room =
    cond_elim AnyHitFits (eqb (length ray) 8) (H.any_hit_of bytes n (ray_in ray 0) room) (R.unanswered (H.refused 1))
    (λ _. any_hit_fits bytes n (ray_in ray 0) room) (λ _. (refl, omega arith))

short_most : (cause : ℕ) → short_cause cause ≤ 11
unfolding short_cause
short_most zero = omega arith
short_most (suc k) = cond_elim (λ (j : ℕ). j ≤ 11) (ltb (suc k) 4) (suc k) 4 (λ h. omega (arith, ltb-true (suc k) 4 h)) (λ _. omega arith)

module _ (bytes indices : List ℕ) (panes ray : List Float) where
  closest_in_fits : (room : ℕ) → ClosestFits (closest_in room bytes indices panes ray)
  unfolding closest_in
  closest_in_fits zero = (refl, short_most (P.pane_cause bytes indices panes (ray_in ray 0)))
  closest_in_fits (suc room) = closest_fits bytes indices panes (ray_in ray 0)

  pub closest_number_fits : (room : ℕ) → ClosestFits (closest_by room bytes indices panes ray)
  unfolding closest_by
  closest_number_fits room =
      cond_elim ClosestFits (eqb (length ray) 8) (closest_in room bytes indices panes ray) (record { answer = P.refused_closest 1; tests = 0 })
      (λ _. closest_in_fits room) (λ _. (refl, omega arith))

  pub miss_number_fits : MissFits (miss_by bytes indices panes ray)
  unfolding miss_by
  miss_number_fits =
      cond_elim MissFits (eqb (length ray) 8) (P.miss_of bytes indices panes (ray_in ray 0)) (record { answer = P.refused_miss 1; tests = 0 })
      (λ _. miss_fits bytes indices panes (ray_in ray 0)) (λ _. (refl, omega arith))
