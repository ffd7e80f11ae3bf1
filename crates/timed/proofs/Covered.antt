-- Over a side table that loses nothing that is drawn, any-hit lists at a quarter hour what it lists without one, less the positions whose own spans
-- do not hold it, in the same sequence.
use mathlib.Core.Bool.{Bool, true, false, not, ◌&&◌, ◌||◌, cond}
use mathlib.Core.List.{List, [], ◌++◌}
use mathlib.Core.Logic.{◌⊎◌, inl, inr}
use mathlib.Core.Path.{◌≡◌, refl, sym, ap, ap₂, ◌∙◌}
use Prim.Native.Nat.{ℕ, zero, suc, ◌+◌, ◌<◌}
use native.Mathlib.Omega.{arith}
use lib.Bits.{bit_xor, xor_lt}
use lib.Dec.{eqb}
use lib.Ieee.{Float}
use lib.ListN.{length}
use borrow.Author.Tests.{eqb-true}
use Rattle.std.specs.List.{filter}
use Rattle.std.proofs.lemmas.List.Elements.{filter-append}
use Rattle.lists.proofs.Tells.{clash, tells_same, tells_as, and_tells, true_tells, both_pass}
use Rattle.ray.specs.declared.Ray.{Ray}
use Rattle.soundness.proofs.Range.{range_stands}
use Rattle.gate.specs.Gates.{all_open}
use Rattle.node.specs.Node.{node_at, inner_bit}
use Rattle.node_slot.specs.Mask.{passes_slot}
use Rattle.record_shape.specs.Record.{node_count, nodes_at, shape_in, RuleIn}
use Rattle.walk.specs.Listing.{In, flat, gather_below}
use Rattle.walk.specs.Slots.{WalkRecord, child_number, passed_child, passed_position, positions_passed, children_passed, SlotLaws}
use Rattle.walk.proofs.Cases.{and-false}
use Rattle.walk.proofs.Filters.{filter_none, filter_falling, filter_flat}
use Rattle.walk.proofs.Lists.{in_none, in_append, in_flat}
use Rattle.walk.proofs.Listing.{passed_rises}
use Rattle.walk.proofs.Slots.{PassedSlot, position_tells, children_iff, stands_passed, slots_sound}
use Rattle.walk_record.specs.Record.{slots_at}
use Rattle.walk_record.specs.WalkRay.{WalkRay, walk_ray, forged_ray, by_boxes}
use Rattle.walk_record.specs.Walk.{any_hit_at}
use Rattle.walk_record.proofs.WalkRay.{walk_ray_laws, by_boxes_present}
use Rattle.walk_record.proofs.Laws.{slot_laws, bytes_fit}
use Rattle.walk_record.proofs.Demands.{SoundWalk, any_hit_meets}
use Rattle.timed.specs.Hours.{Timetable, slot_open, present, drawn}
use Rattle.timed.specs.Walk.{timed_slots, timed_any_hit}
use Rattle.timed.specs.Reached.{SoundAt, ChildIn}
use Rattle.timed.specs.Below.{Below, stands, further, Covers}
use Rattle.timed.proofs.Listed.{own_span, drawn_admitted, row, position_there, timed_meets}

-- the slots of a record as an untimed walk sees them
abbrev plain_slots : List ℕ → Timetable → WalkRecord WalkRay Float
plain_slots bytes h = slots_at bytes by_boxes (length h.indices)

plain_laws : (bytes : List ℕ) (h : Timetable) → SlotLaws (plain_slots bytes h) (RuleIn (nodes_at bytes) (length h.indices))
plain_laws bytes h = slot_laws (nodes_at bytes) by_boxes (walk_ray_laws all_open) (length h.indices)

module _ {bytes : List ℕ} {h : Timetable} (ray : Ray) (good : SoundAt bytes h) (accepted : forged_ray (walk_ray ray) ≡ false) where
  pub untimed_walk : SoundWalk (nodes_at bytes) by_boxes (length h.indices) (walk_ray ray)
  untimed_walk = record {
    rays = walk_ray_laws all_open;
    fields = bytes_fit bytes good.are_bytes;
    sound = good.sound;
    nodes = good.nodes;
    positions = good.positions;
    present = by_boxes_present (length h.indices);
    accepted = accepted;
  }

  -- ---- untimed

  abbrev plain_children : ℕ → List ℕ
  plain_children = children_passed (plain_slots bytes h) (walk_ray ray)

  abbrev plain : (k v : ℕ) → List ℕ
  plain k v = gather_below [] ◌++◌ plain_children (positions_passed (plain_slots bytes h) (walk_ray ray)) k v

  child_rises : (v c : ℕ) → v < node_count bytes → In c (plain_children v) → c < node_count bytes
  unfolding shape_in
  child_rises v c l i =
      (passed_rises (slots_sound (plain_slots bytes h) (RuleIn (nodes_at bytes) (length h.indices)) (plain_laws bytes h) good.sound) (walk_ray ray)
      accepted v l c i).1

  -- what is gathered from a node lies below its slots
  plain_below : (k v p : ℕ) → v < node_count bytes → In p (plain k v) → (j : ℕ) × (j < 8) × Below bytes (length h.indices) v j p
  unfolding gather_below shape_in
  plain_below zero v p l i = in_none p i
  plain_below (suc k) v p l i =
      go (in_append p (positions_passed (plain_slots bytes h) (walk_ray ray) v) (flat (plain k) (plain_children v)) i) (plain_below k)
    where
      go : In p (positions_passed (plain_slots bytes h) (walk_ray ray) v) ⊎ In p (flat (plain k) (plain_children v))
          → ((c q : ℕ) → c < node_count bytes → In q (plain k c) → (j : ℕ) × (j < 8) × Below bytes (length h.indices) c j q)
          → (j : ℕ) × (j < 8) × Below bytes (length h.indices) v j p
      go (inl a) r = let q = stands_passed (plain_slots bytes h) (walk_ray ray) v p l a in (q.slot, q.holds.slot, stands q.holds)
      go (inr a) r =
          let c = in_flat p (plain k) (plain_children v) a in
          let s = (children_iff (plain_slots bytes h) _ (plain_laws bytes h) (walk_ray ray) v c.0 accepted).0 c.1 in
          let z = r c.0 p (child_rises v c.0 l c.1) c.2 in (
            s.slot,
            s.of_eight_lem,
            further l (record { of_eight_lem = s.of_eight_lem; inner = s.inner; is_child = s.is_child }) z.2,
          )

  -- ---- at a quarter hour

  module _ (covers : Covers bytes h) where
    abbrev timed : (k v : ℕ) → List ℕ
    timed k v =
        gather_below [] ◌++◌ (children_passed (timed_slots bytes h) (walk_ray ray)) (positions_passed (timed_slots bytes h) (walk_ray ray)) k v

    -- below an open slot alone anything is drawn
    slot_lets : (v j p : ℕ) → v < node_count bytes → Below bytes (length h.indices) v j p → drawn h p ≡ true → slot_open h v j ≡ true
    slot_lets v j p l b d = rw (row good v l, covers v j p b d) refl

    -- ---- positions

    position_kept : (v x : ℕ) → v < node_count bytes
        → passed_position (timed_slots bytes h) (walk_ray ray) v x ≡ (passed_position (plain_slots bytes h) (walk_ray ray) v x && drawn h x)
    unfolding shape_in
    position_kept v x l =
        tells_same (tells_as (position_tells (timed_slots bytes h) (walk_ray ray) v x) to from)
        (and_tells (position_tells (plain_slots bytes h) (walk_ray ray) v x) (true_tells (drawn h x)))
      where
        to : PassedSlot (timed_slots bytes h) (walk_ray ray) v x × (not (present h x) || drawn h x ≡ true)
            → (PassedSlot (plain_slots bytes h) (walk_ray ray) v x × (true ≡ true)) × (drawn h x ≡ true)
        to q =
            let j = q.0.0 in
            let z = range_stands x _ _ (omega (arith, q.0.2.0)) in
            let here = position_there good v j x (record { node = l; slot = q.0.1; from = z.0; before = z.1 }) in
            (((j, q.0.1, (q.0.2.0, (both_pass (slot_open h v j) (passes_slot (node_at bytes v) ray j) q.0.2.1).1)), refl), own_span h x here q.1)

        from : (PassedSlot (plain_slots bytes h) (walk_ray ray) v x × (true ≡ true)) × (drawn h x ≡ true)
            → PassedSlot (timed_slots bytes h) (walk_ray ray) v x × (not (present h x) || drawn h x ≡ true)
        from q =
            let j = q.0.0.0 in
            let s = q.0.0.2 in
            let z = range_stands x _ _ (omega (arith, s.0)) in
            let o = slot_lets v j x l (stands (record { node = l; slot = q.0.0.1; from = z.0; before = z.1 })) q.1 in
            ((j, q.0.0.1, (s.0, rw (o, s.1) refl)), drawn_admitted h x q.1)

    positions_kept : (v : ℕ) → v < node_count bytes
        → positions_passed (timed_slots bytes h) (walk_ray ray) v ≡ filter (drawn h) (positions_passed (plain_slots bytes h) (walk_ray ray) v)
    positions_kept v l =
        filter_falling (drawn h) (λ b. (node_at bytes v).primitive_base_idx + b) _ _ 24
        (λ b i. position_kept v ((node_at bytes v).primitive_base_idx + b) l)

    -- ---- children

    -- what is gathered from a child is left, where it is passed at the quarter hour too; else nothing of it is drawn
    child_kept : (k v s : ℕ) → v < node_count bytes → s < 8
        → ((c : ℕ) → c < node_count bytes → timed k c ≡ filter (drawn h) (plain k c))
        → let c = child_number (plain_slots bytes h) v s in
        cond (passed_child (timed_slots bytes h) (walk_ray ray) v s) (timed k c) []
        ≡ filter (drawn h) (cond (passed_child (plain_slots bytes h) (walk_ray ray) v s) (plain k c) [])
    unfolding shape_in
    child_kept k v s l i r = go (eqb bit 1) (passes_slot (node_at bytes v) ray s) (slot_open h v s) refl refl refl
      where
        bit : ℕ
        bit = inner_bit (node_at bytes v).imask s

        c : ℕ
        c = child_number (plain_slots bytes h) v s

        child : eqb bit 1 ≡ true → ChildIn bytes v s c
        child e = record { of_eight_lem = i; inner = eqb-true bit 1 e; is_child = refl }

        later : eqb bit 1 ≡ true → passes_slot (node_at bytes v) ray s ≡ true → c < node_count bytes
        later e p =
            child_rises v c l ((children_iff (plain_slots bytes h) _ (plain_laws bytes h) (walk_ray ray) v c accepted).1
            (record { slot = s; of_eight_lem = i; inner = eqb-true bit 1 e; passes = p; is_child = refl }))

        undrawn : eqb bit 1 ≡ true → passes_slot (node_at bytes v) ray s ≡ true → slot_open h v s ≡ false → (q : ℕ) → In q (plain k c)
            → drawn h q ≡ false
        undrawn e p o q m = by (drawn h q) refl
          where
            by : (b : Bool) → drawn h q ≡ b → b ≡ false
            by false d = refl
            by true d = clash (sym o ∙ slot_lets v s q l (further l (child e) (plain_below k c q (later e p) m).2) d)

        go : (e p o : Bool) → eqb bit 1 ≡ e → passes_slot (node_at bytes v) ray s ≡ p → slot_open h v s ≡ o
            → cond (e && (o && p)) (timed k c) [] ≡ filter (drawn h) (cond (e && p) (plain k c) [])
        go false p o x y z = refl
        go true false o x y z = rw (and-false o) refl
        go true true true x y z = r c (later x y)
        go true true false x y z = sym (filter_none (drawn h) (plain k c) (undrawn x y z))

    -- ---- the listing

    listing_kept : (k v : ℕ) → (0 < k → v < node_count bytes) → timed k v ≡ filter (drawn h) (plain k v)
    unfolding gather_below
    listing_kept zero v l = refl
    listing_kept (suc k) v l =
        let t = l (omega arith) in
        let o = (walk_ray ray).octant in
        ap₂ ◌++◌ (positions_kept v t)
        (filter_flat (drawn h) (λ i. child_number (plain_slots bytes h) v (bit_xor i o)) _ _ (timed k) (plain k) 8
        (λ i a. child_kept k v (bit_xor i o) t (xor_lt 3 i o a (untimed_walk.rays.octant_lt (walk_ray ray) accepted))
        (λ c l. listing_kept k c (λ b. l))))
        ∙ sym (filter-append (drawn h) (positions_passed (plain_slots bytes h) (walk_ray ray) v) (flat (plain k) (plain_children v)))

    pub covered_filtered : (timed_any_hit bytes h ray).accumulator
        ≡ filter (drawn h) (any_hit_at bytes by_boxes (length h.indices) (walk_ray ray)).accumulator
    unfolding any_hit_at shape_in
    covered_filtered =
        (timed_meets good accepted).lists ∙ listing_kept (node_count bytes) 0 (λ l. l)
        ∙ ap (filter (drawn h)) (sym (any_hit_meets untimed_walk).lists)
