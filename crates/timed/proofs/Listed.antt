-- Any-hit's walk at a quarter hour, over every sound record and any side table as it is read: the list has a position once where all boxes and spans
-- on the way down let the ray through and the pane's own span holds the quarter hour, and has no other; and the tests are as many as the nodes that
-- are reached so.
use mathlib.Core.Bool.{Bool, true, false, not, ◌||◌}
use mathlib.Core.List.{List, Nodup}
use mathlib.Core.Logic.{◌↔◌}
use mathlib.Core.Path.{◌≡◌, refl, sym, ap, subst}
use Prim.Native.Nat.{ℕ, ◌/◌, ◌≤◌, ◌<◌}
use native.Mathlib.Omega.{arith}
use borrow.Author.Tests.{lt-ltb}
use lib.ListN.{length}
use Rattle.lists.specs.Counts.{count}
use Rattle.lists.proofs.Tells.{both_pass}
use Rattle.ray.specs.declared.Ray.{Ray}
use Rattle.span.specs.Span.{holds}
use Rattle.soundness.specs.Shape.{Holds}
use Rattle.node.specs.Node.{node_at}
use Rattle.node_slot.specs.Mask.{passes_slot}
use Rattle.record_shape.specs.Record.{node_count, nodes_at, shape_in, shape_at, RuleIn}
use Rattle.walk.specs.Step.{done}
use Rattle.walk.specs.Listing.{In, first, child}
use Rattle.walk.specs.Slots.{ReachedBySlots, PassedBySlots, SlotLaws}
use Rattle.walk.specs.WordQueries.{decoded_outcome}
use Rattle.walk.proofs.AnyHit.{Meets, meets_as}
use Rattle.walk.proofs.Listing.{reached_node}
use Rattle.walk.proofs.Slots.{slots_sound, reached_iff}
use Rattle.walk_record.specs.Record.{node_words_at}
use Rattle.walk_record.specs.WalkRay.{walk_ray, forged_ray}
use Rattle.walk_record.specs.Walk.{any_hit_at, listing_at}
use Rattle.walk_record.proofs.WalkRay.{gated_forged, walk_ray_laws}
use Rattle.walk_record.proofs.Laws.{slot_laws, bytes_fit}
use Rattle.walk_record.proofs.Demands.{SoundWalk, any_hit_meets}
use Rattle.side_table.specs.SideTable.{side_span}
use Rattle.timed.specs.Hours.{Timetable, has_row, slot_open, pane_of, present, drawn, gates_at}
use Rattle.timed.specs.Walk.{rays_at, timed_slots, timed_any_hit}
use Rattle.timed.specs.Reached.{SoundAt, PassesAt, ReachedAt, PassedAt}

-- a position that is there is admitted by its own span alone
pub own_span : (h : Timetable) (p : ℕ) → present h p ≡ true → not (present h p) || drawn h p ≡ true → drawn h p ≡ true
own_span h p e = subst (λ (b : Bool). not b || drawn h p ≡ true → drawn h p ≡ true) (sym e) (λ a. a)

pub drawn_admitted : (h : Timetable) (p : ℕ) → drawn h p ≡ true → not (present h p) || drawn h p ≡ true
drawn_admitted h p e = go (not (present h p))
  where
    go : (b : Bool) → b || drawn h p ≡ true
    go true = refl
    go false = e

-- as many index words as positions, each naming a pane: all positions are there
there_all : (h : Timetable) → ((p : ℕ) → p < length h.indices → pane_of h p < h.panes) → (p : ℕ) → p < length h.indices → present h p ≡ true
there_all h panes p l = rw (lt-ltb p (length h.indices) l, lt-ltb (pane_of h p) h.panes (panes p l)) refl

pub timed_laws : (bytes : List ℕ) (h : Timetable) → SlotLaws (timed_slots bytes h) (RuleIn (nodes_at bytes) (length h.indices))
timed_laws bytes h = slot_laws (nodes_at bytes) (rays_at h) (walk_ray_laws (gates_at h)) (length h.indices)

pub row : {bytes : List ℕ} {h : Timetable} → SoundAt bytes h → (v : ℕ) → v < node_count bytes → has_row h v ≡ true
row {h} good v l = lt-ltb v (length h.side / 16) (omega (arith, good.rows))

-- so is one that stands in a slot of a sound record
pub position_there : {bytes : List ℕ} {h : Timetable} → SoundAt bytes h → (v j p : ℕ) → Holds (shape_at bytes (length h.indices)) v j p
    → present h p ≡ true
unfolding shape_in
position_there {bytes} {h} good v j p q =
    let l = ((timed_laws bytes h).placed v q.node (good.sound.rule v q.node)).inside j q.slot (omega (arith, q.from, q.before)) in
    there_all h good.panes p (omega (arith, q.before))

module _ {bytes : List ℕ} {h : Timetable} {ray : Ray} (good : SoundAt bytes h) (accepted : forged_ray (walk_ray ray) ≡ false) where
  pub timed_walk : SoundWalk (nodes_at bytes) (rays_at h) (length h.indices) (walk_ray ray)
  timed_walk = record {
    rays = walk_ray_laws (gates_at h);
    fields = bytes_fit bytes good.are_bytes;
    sound = good.sound;
    nodes = good.nodes;
    positions = good.positions;
    present = λ b p l. ap not (there_all h good.panes p l);
    accepted = gated_forged (gates_at h) (walk_ray ray) (ap not good.quarter) accepted;
  }

  -- ---- slots

  -- a slot is passed by the gate as it is in the words of the requirement
  slot_passed : (v j : ℕ) → (timed_slots bytes h).passes (walk_ray ray) v j ≡ true → PassesAt bytes h ray v j
  slot_passed v j e =
      let a = both_pass (slot_open h v j) (passes_slot (node_at bytes v) ray j) e in
      let b = both_pass (has_row h v) (holds (side_span h.side v j) h.quarter) a.0 in
      record { box = a.1; span = b.1 }

  passed_slot : (v j : ℕ) → v < node_count bytes → PassesAt bytes h ray v j → (timed_slots bytes h).passes (walk_ray ray) v j ≡ true
  passed_slot v j l p = rw (row good v l, p.span, p.box) refl

  -- ---- nodes

  there : (v : ℕ) → ReachedBySlots (timed_slots bytes h) (walk_ray ray) v → v < node_count bytes
  unfolding shape_in
  there v r =
      let rule = RuleIn (nodes_at bytes) (length h.indices) in
      reached_node (slots_sound (timed_slots bytes h) rule (timed_laws bytes h) good.sound) (walk_ray ray) timed_walk.accepted v
      ((reached_iff (timed_slots bytes h) rule (timed_laws bytes h) good.sound (walk_ray ray) timed_walk.accepted v).1 r)

  to_at : (v : ℕ) → ReachedBySlots (timed_slots bytes h) (walk_ray ray) v → ReachedAt bytes h ray v
  unfolding shape_in
  to_at v (first e l) = first e l
  to_at v (child {v = u} r q) = child (to_at u r) (record {
    slot = q.slot;
    child = record { of_eight_lem = q.of_eight_lem; inner = q.inner; is_child = q.is_child };
    by_slot = slot_passed u q.slot q.passes;
  })

  from_at : (v : ℕ) → ReachedAt bytes h ray v → ReachedBySlots (timed_slots bytes h) (walk_ray ray) v
  unfolding shape_in
  from_at v (first e l) = first e l
  from_at v (child {v = u} r q) = let s = from_at u r in child s (record {
    slot = q.slot;
    of_eight_lem = q.child.of_eight_lem;
    inner = q.child.inner;
    passes = passed_slot u q.slot (there u s) q.by_slot;
    is_child = q.child.is_child;
  })

  reached_at : (v : ℕ) → ReachedBySlots (timed_slots bytes h) (walk_ray ray) v ↔ ReachedAt bytes h ray v
  reached_at v = (to_at v, from_at v)

  -- ---- positions

  pub passed_at : (p : ℕ) → PassedBySlots (timed_slots bytes h) (walk_ray ray) p ↔ PassedAt bytes h ray p
  unfolding shape_in
  passed_at p = (
    λ q. (
      q.0,
      to_at q.0 q.1,
      record {
        slot = q.2.slot;
        stands = q.2.holds;
        by_slot = slot_passed q.0 q.2.slot q.2.passes;
        own = own_span h p (position_there good q.0 q.2.slot p q.2.holds) q.2.admitted;
      },
    ),
    λ q. (
      q.0,
      from_at q.0 q.1,
      record {
        slot = q.2.slot;
        holds = q.2.stands;
        passes = passed_slot q.0 q.2.slot q.2.stands.node q.2.by_slot;
        admitted = drawn_admitted h p q.2.own;
      },
    ),
  )

  -- ---- any-hit

  pub timed_meets : Meets (length h.indices) (listing_at bytes (rays_at h) (length h.indices) (walk_ray ray)) (ReachedAt bytes h ray)
      (PassedAt bytes h ray) (decoded_outcome (node_words_at bytes (rays_at h)) (timed_any_hit bytes h ray))
  unfolding any_hit_at
  timed_meets = meets_as reached_at passed_at (any_hit_meets timed_walk)

  -- Its walk is not refused. The list has a position exactly where all boxes and spans on the way down let the ray through and the pane's own span
  -- holds the quarter hour, and has it once.
  pub timed_listed : ((timed_any_hit bytes h ray).ended ≡ done)
      × ((p : ℕ) → In p (timed_any_hit bytes h ray).accumulator ↔ PassedAt bytes h ray p)
      × ((p : ℕ) → count p (timed_any_hit bytes h ray).accumulator ≤ 1)
  timed_listed = (timed_meets.ends, timed_meets.exact, timed_meets.once)

  -- Its tests are as many as the nodes reached by boxes and spans: as a list has that holds each of them once and no other.
  pub timed_tests : (reached : List ℕ) × Nodup reached × ((v : ℕ) → In v reached ↔ ReachedAt bytes h ray v)
      × ((timed_any_hit bytes h ray).walker.tests ≡ length reached)
  timed_tests = (timed_meets.reached, timed_meets.reached_once, timed_meets.reached_all, timed_meets.tests)
