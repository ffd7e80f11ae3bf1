-- Where all spans are the whole day, a timed step or query that is not refused is the untimed one, on any record and of any walker.
use mathlib.Core.Bool.{Bool, true, false, not, ◌&&◌, ◌||◌}
use mathlib.Core.List.{List}
use mathlib.Core.Path.{◌≡◌, refl, sym, ap, ◌∙◌, subst}
use Prim.Native.Nat.{ℕ, zero, suc, ◌/◌, ◌<◌}
use native.Mathlib.Omega.{arith}
use borrow.Author.Tests.{le-leb, lt-ltb}
use lib.Dec.{ltb}
use lib.Ieee.{Float}
use lib.ListN.{length}
use Rattle.lists.proofs.Tells.{told, ltb_tells, both_pass}
use Rattle.words.proofs.Ors.{or_of_congr}
use Rattle.ray.specs.declared.Ray.{Ray}
use Rattle.span.specs.declared.Span.{Span}
use Rattle.span.specs.Span.{holds, quarter_fits}
use Rattle.node.specs.Node.{node_at}
use Rattle.node_slot.specs.Mask.{only_if, hit_bits, passes_slot, slot_hit, hit_mask_of}
use Rattle.record_shape.specs.Record.{node_count, nodes_at, meta_at}
use Rattle.walk.specs.Calls.{Answered}
use Rattle.walk.specs.Queries.{Reaction, steps_for}
use Rattle.walk.specs.WordStep.{WalkerWords, NodeWords, fresh_words, step_words}
use Rattle.walk.specs.WordQueries.{query_words}
use Rattle.walk.proofs.Alike.{with_absent, step_same, query_same}
use Rattle.walk_record.specs.Record.{mask_in, slot_test, node_words_at}
use Rattle.walk_record.specs.WalkRay.{WalkRay, walk_ray, forged_ray, by_boxes}
use Rattle.walk_record.specs.Walk.{step_at, query_at}
use Rattle.side_table.specs.SideTable.{side_span}
use Rattle.timed.specs.Hours.{Timetable, slot_open, pane_of, present, drawn}
use Rattle.timed.specs.Walk.{rays_at, timed_step, timed_query}
use Rattle.timed.specs.AllDay.{whole_day, AllDay}

-- the whole day holds each of its quarter hours
day_holds : (q : ℕ) → quarter_fits q ≡ true → holds whole_day q ≡ true
unfolding holds quarter_fits
day_holds q e = rw (le-leb 0 q (omega arith), e) refl

module _ {bytes : List ℕ} {h : Timetable} (day : AllDay bytes h) where
  -- ---- positions

  -- a position that is there is admitted, so that none is passed over
  all_admitted : (p : ℕ) → not (present h p) || drawn h p ≡ true
  all_admitted p = go (present h p) refl
    where
      go : (b : Bool) → present h p ≡ b → not b || drawn h p ≡ true
      go false e = refl
      go true e =
          let k = told (ltb_tells (pane_of h p) h.panes) (both_pass (ltb p (length h.indices)) (ltb (pane_of h p) h.panes) e).1 in
          ap (λ (s : Span). holds s h.quarter) (day.panes (pane_of h p) k) ∙ day_holds h.quarter day.quarter

  -- ---- slots

  all_open : (v k : ℕ) → v < node_count bytes → k < 8 → ¬ (meta_at (node_at bytes v) k ≡ 0) → slot_open h v k ≡ true
  all_open v k l i n =
      let row = lt-ltb v (length h.side / 16) (omega (arith, day.rows)) in
      ap (λ (b : Bool). b && holds (side_span h.side v k) h.quarter) row
      ∙ ap (λ (s : Span). holds s h.quarter) (day.slots v k l i n) ∙ day_holds h.quarter day.quarter

  -- an empty slot has no bits whatever its span
  no_bits : (b : Bool) (octant meta : ℕ) → meta ≡ 0 → only_if b (hit_bits octant meta) ≡ 0
  unfolding hit_bits
  no_bits true octant meta e = rw e refl
  no_bits false octant meta e = refl

  same_mask : (r : WalkRay) (v : ℕ) → v < node_count bytes → mask_in (nodes_at bytes) (rays_at h) r v ≡ mask_in (nodes_at bytes) by_boxes r v
  unfolding hit_mask_of slot_hit
  same_mask r v l =
      or_of_congr 8 (slot_hit (slot_test (nodes_at bytes) (rays_at h) r v) (node_at bytes v) r.octant)
      (slot_hit (slot_test (nodes_at bytes) by_boxes r v) (node_at bytes v) r.octant) (λ k i. go k i (meta_at (node_at bytes v) k) refl)
    where
      go : (k : ℕ) → k < 8 → (meta : ℕ) → meta_at (node_at bytes v) k ≡ meta
          → only_if (slot_open h v k && passes_slot (node_at bytes v) r.ray k) (hit_bits r.octant (meta_at (node_at bytes v) k))
          ≡ only_if (passes_slot (node_at bytes v) r.ray k) (hit_bits r.octant (meta_at (node_at bytes v) k))
      go k i zero e =
          no_bits (slot_open h v k && passes_slot (node_at bytes v) r.ray k) r.octant (meta_at (node_at bytes v) k) e
          ∙ sym (no_bits (passes_slot (node_at bytes v) r.ray k) r.octant (meta_at (node_at bytes v) k) e)
      go k i (suc m) e = rw (all_open v k l i (λ z. omega (arith, e))) refl

  -- ---- walks

  -- what a timed walk reads is what the untimed reads, but for absent positions and the masks of nodes that there are not
  words_are : node_words_at bytes (rays_at h)
      ≡ with_absent (node_count bytes) (node_words_at bytes by_boxes) (mask_in (nodes_at bytes) (rays_at h)) (λ r p. not (present h p))
  words_are = λ i. record {
    rule = (node_words_at bytes by_boxes).rule;
    told = (node_words_at bytes by_boxes).told;
    forged = λ b. not (day.quarter i) || forged_ray b;
    absent = λ b p. not (present h p);
    skips = λ b p. not (all_admitted p i);
    octant = λ b. b.octant;
    mask = mask_in (nodes_at bytes) (rays_at h);
    imask = (node_words_at bytes by_boxes).imask;
    child_base = (node_words_at bytes by_boxes).child_base;
    position_base = (node_words_at bytes by_boxes).position_base;
  }

  -- A timed step that is not refused is the untimed step,
  pub all_day_step : (w : WalkerWords WalkRay) → Answered (timed_step bytes h w).answer
      → timed_step bytes h w ≡ step_at bytes by_boxes (length h.indices) w
  unfolding step_at
  all_day_step w =
      subst (λ (N : NodeWords WalkRay Float). Answered (step_words (node_count bytes) N (length h.indices) w).answer
      → step_words (node_count bytes) N (length h.indices) w
      ≡ step_words (node_count bytes) (node_words_at bytes by_boxes) (length h.indices) w) (sym words_are)
      (step_same (node_count bytes) (node_words_at bytes by_boxes) (mask_in (nodes_at bytes) (rays_at h)) (λ r p. not (present h p)) same_mask
      (λ r p. refl) (length h.indices) w)

  -- and a timed query that is not refused is the untimed query: what it has noted, as any-hit its list, its tests and how it ends.
  pub all_day_query : {a : Type 0} (react : ℕ → WalkRay → a → Reaction Float a) (x : a) (ray : Ray)
      → Answered (timed_query bytes h react x ray).ended
      → timed_query bytes h react x ray ≡ query_at bytes by_boxes react x (length h.indices) (walk_ray ray)
  unfolding query_at
  all_day_query react x ray =
      let m = node_count bytes in
      let w = fresh_words (walk_ray ray) in
      subst (λ (N : NodeWords WalkRay Float). Answered (query_words m N react (steps_for m) (length h.indices) w x).ended
      → query_words m N react (steps_for m) (length h.indices) w x
      ≡ query_words m (node_words_at bytes by_boxes) react (steps_for m) (length h.indices) w x) (sym words_are)
      (query_same m (node_words_at bytes by_boxes) (mask_in (nodes_at bytes) (rays_at h)) (λ r p. not (present h p)) same_mask
      (λ r p. refl) react (steps_for m) (length h.indices) w x)
