-- Over the side table that a conversion writes, any-hit lists at a quarter hour what it lists without one, less the positions whose own spans do not
-- hold it, in the same sequence: no screen that is drawn is lost by the spans of slots.
use mathlib.Core.Bool.{false}
use mathlib.Core.List.{List, [], ◌∷◌}
use mathlib.Core.Path.{◌≡◌, refl, sym, ap, ◌∙◌, subst}
use Prim.Native.Nat.{ℕ, zero, suc, ◌+◌, ◌-◌, ◌<◌}
use native.Mathlib.Omega.{arith}
use lib.ListN.{length, get_or, length-map}
use Rattle.std.specs.List.{filter}
use Rattle.std.proofs.lemmas.List.{get_or-map}
use Rattle.lists.specs.At.{words_at}
use Rattle.lists.specs.Counts.{count}
use Rattle.lists.proofs.Counts.{Same, equal, apart, same?}
use Rattle.words.specs.Ones.{ones_below}
use Rattle.ray.specs.declared.Ray.{Ray}
use Rattle.aabb.specs.declared.Aabb.{Aabb}
use Rattle.span.specs.declared.Span.{Span}
use Rattle.span.specs.Span.{holds}
use Rattle.span.proofs.Hulls.{hull_holds}
use Rattle.soundness.specs.Shape.{Holds}
use Rattle.wide_layout.specs.Wide.{Slots, end, empty, leaf, inner, Wide}
use Rattle.wide_layout.specs.Content.{Content, none, leaf_child, inner_child, content_at}
use Rattle.wide_layout.specs.Sizes.{inner_before, slots_positions}
use Rattle.wide_layout.specs.Layout.{nodes, index_list, index_count}
use Rattle.wide_layout.specs.Shape.{layout_entry}
use Rattle.wide_layout.proofs.Sizes.{index_length}
use Rattle.wide_layout.proofs.ChildNodes.{node_child}
use Rattle.node.specs.declared.Node.{Node}
use Rattle.node.specs.Node.{inner_bit, child_index}
use Rattle.record.specs.Record.{record_bytes, node_of}
use Rattle.record.specs.Children.{child_inner, child_positions}
use Rattle.record_shape.specs.Record.{nodes_at, shape_in, shape_at}
use Rattle.record_laws.specs.Writable.{Writable}
use Rattle.record_laws.proofs.Codes.{mask_bit, mask_rank}
use Rattle.record_laws.proofs.ReadBack.{record-count}
use Rattle.record_laws.proofs.ShapeRead.{node_read, record_reads}
use Rattle.record_laws.proofs.Words.{count_of, held_word}
use Rattle.side_table.specs.SideTable.{positions_under, panes_under, slot_span}
use Rattle.side_table.proofs.Table.{side_span_lem}
use Rattle.walk.specs.Listing.{In}
use Rattle.walk.proofs.Lists.{in_head, in_tail, in_none, in_left, in_right}
use Rattle.walk_record.specs.WalkRay.{walk_ray, forged_ray, by_boxes}
use Rattle.walk_record.specs.Walk.{any_hit_at}
use Rattle.timed.specs.Hours.{Timetable, pane_of, drawn}
use Rattle.timed.specs.Walk.{timed_any_hit}
use Rattle.timed.specs.Reached.{SoundAt, ChildIn}
use Rattle.timed.specs.Below.{Below, stands, further, Covers}
use Rattle.timed.specs.Converted.{timetable_of_tree}
use Rattle.timed.proofs.Covered.{covered_filtered}

-- ---- members

-- the word at a place of a list is a member of it
in_at : (l : List ℕ) (i : ℕ) → i < length l → In (get_or l i 0) l
in_at [] i h = absurd (omega arith)
in_at (x ∷ l) zero h = in_head x l
in_at (x ∷ l) (suc i) h = in_tail (get_or l i 0) x l (in_at l i (omega arith))

-- the word at a place is among those at all places of a list that has it
words_in : (words : List ℕ) (p : ℕ) (l : List ℕ) → In p l → In (get_or words p 0) (words_at words l)
unfolding count
words_in words p [] i = in_none p i
words_in words p (q ∷ l) i = go (same? p q) (words_in words p l)
  where
    go : Same p q → (In p l → In (get_or words p 0) (words_at words l)) → In (get_or words p 0) (get_or words q 0 ∷ words_at words l)
    go (equal e n) r =
        subst (λ (z : ℕ). In (get_or words z 0) (get_or words q 0 ∷ words_at words l)) (sym e) (in_head (get_or words q 0) (words_at words l))
    go (apart e n) r = in_tail (get_or words p 0) (get_or words q 0) (words_at words l) (r (omega arith))

-- ---- positions below what stands in a slot

leaf_under : (c : Content) (x : ℕ) → In x (child_positions c) → In x (positions_under c)
unfolding child_positions positions_under
leaf_under none x i = i
leaf_under (leaf_child b ps) x i = i
leaf_under (inner_child b t) x i = in_none x i

-- are among those of all slots
pub slot_under : {w : ℕ} (s : Slots w) (k x : ℕ) → In x (positions_under (content_at s k)) → In x (slots_positions s)
unfolding content_at positions_under
slot_under end k x i = i
slot_under (empty s) zero x i = in_none x i
slot_under (empty s) (suc k) x i = slot_under s k x i
slot_under (leaf b ps s) zero x i = in_left x ps (slots_positions s) i
slot_under (leaf b ps s) (suc k) x i = in_right x ps (slots_positions s) (slot_under s k x i)
slot_under (inner b t s) zero x i = in_left x (slots_positions t) (slots_positions s) i
slot_under (inner b t s) (suc k) x i = in_right x (slots_positions t) (slots_positions s) (slot_under s k x i)

-- a slot of the mask has an inner child
inner_there : (c : Content) → child_inner c ≡ 1 → (b : Aabb) × (u : Slots 8) × (c ≡ inner_child b u)
unfolding child_inner
inner_there none e = absurd (omega arith)
inner_there (leaf_child b ps) e = absurd (omega arith)
inner_there (inner_child b u) e = (b, u, refl)

-- ---- a wide tree's record

module _ (t : Wide) (ok : Writable t) where
  abbrev bytes : List ℕ
  bytes = record_bytes t

  abbrev content : (v j : ℕ) → Content
  content v j = content_at (layout_entry t v).slots j

  there : (v : ℕ) → v < (nodes_at bytes).count → v < nodes t
  there v l = omega (arith, record-count t)

  -- the word of a position below a slot of the record is a position below the slot of the tree
  abbrev WordUnder : (v j p : ℕ) → Type 0
  WordUnder v j p = (p < index_count t) × In (get_or (index_list t) p 0) (positions_under (content v j))

  stands_under : (v j p : ℕ) → Holds (shape_at bytes (index_count t)) v j p → WordUnder v j p
  unfolding shape_in
  stands_under v j p q =
      let S = shape_at bytes (index_count t) in
      let l = there v q.node in
      let ps = child_positions (content v j) in
      let i = p - S.start v j in
      let k : i < length ps = omega (arith, count_of S t (record_reads t ok) v j l q.slot, q.from, q.before) in
      let w = held_word S t (record_reads t ok) v j l q.slot ps refl i k in
      let e : S.start v j + i ≡ p = omega (arith, q.from) in (
        omega (arith, w.1),
        leaf_under (content v j) (get_or (index_list t) p 0)
            (subst (λ (x : ℕ). In x ps) (sym w.0 ∙ ap (λ (x : ℕ). get_or (index_list t) x 0) e) (in_at ps i k)),
      )

  child_under : (v j c k p : ℕ) → v < nodes t → ChildIn bytes v j c → WordUnder c k p → WordUnder v j p
  unfolding child_index node_of positions_under
  child_under v j c k p l q w =
      let bit = ap (λ (n : Node). inner_bit n.imask j) (node_read t ok v l) ∙ mask_bit (layout_entry t v).slots j q.of_eight_lem in
      let x = inner_there (content v j) (sym bit ∙ q.inner) in
      let number : c ≡ (layout_entry t v).child_base + inner_before (layout_entry t v).slots j =
      q.is_child
      ∙ ap (λ (n : Node). n.child_base_idx + ones_below j n.imask) (node_read t ok v l)
      ∙ ap (λ (i : ℕ). (layout_entry t v).child_base + i) (mask_rank (layout_entry t v).slots j (omega (arith, q.of_eight_lem))) in
      let slots : (layout_entry t c).slots ≡ x.1 =
      ap (λ (i : ℕ). (layout_entry t i).slots) number ∙ (node_child t v l j x.0 x.1 x.2).slots in
      let word = get_or (index_list t) p 0 in (
        w.0,
        subst (λ (d : Content). In word (positions_under d)) (sym x.2)
            (subst (λ (s : Slots 8). In word (slots_positions s)) slots (slot_under (layout_entry t c).slots k word w.1)),
      )

  below_place : {n : ℕ} (v j p : ℕ) → Below bytes n v j p → (v < (nodes_at bytes).count) × (j < 8)
  unfolding shape_in
  below_place v j p (stands q) = (q.node, q.slot)
  below_place v j p (further l q b) = (l, q.of_eight_lem)

  below_under : (v j p : ℕ) → Below bytes (index_count t) v j p → WordUnder v j p
  below_under v j p (stands q) = stands_under v j p q
  below_under v j p (further {c = c} {k = k} l q b) = child_under v j c k p (there v l) q (below_under c k p b)

  -- ---- beside its side table

  module _ (indices : List ℕ) (panes : ℕ) (spans : List ℕ) (quarter : ℕ) where
    abbrev h : Timetable
    h = timetable_of_tree t indices panes spans quarter

    as_many : length h.indices ≡ index_count t
    as_many = length-map (index_list t) _ ∙ index_length t

    -- the span of a slot is over the spans of all panes below it
    pub tree_covers : Covers bytes h
    unfolding slot_span panes_under
    tree_covers v j p b d =
        let place = below_place v j p b in
        let slots = (layout_entry t v).slots in
        let u = below_under v j p (subst (λ (n : ℕ). Below bytes n v j p) as_many b) in
        let pane : pane_of h p ≡ get_or indices (get_or (index_list t) p 0) 0 =
        get_or-map (λ (i : ℕ). get_or indices i 0) (index_list t) p 0 0 (omega (arith, u.0, index_length t)) in
        let under : In (pane_of h p) (panes_under indices slots j) =
        subst (λ (x : ℕ). In x (panes_under indices slots j)) (sym pane)
        (words_in indices (get_or (index_list t) p 0) (positions_under (content v j)) u.1) in
        ap (λ (s : Span). holds s quarter) (side_span_lem spans indices t v j (there v place.0) place.1)
        ∙ hull_holds spans (panes_under indices slots j) (pane_of h p) quarter under d

    -- Any-hit's list at a quarter hour is the untimed list without the positions whose own spans do not hold it, in the same sequence.
    pub timed_is_filtered : SoundAt bytes h → (ray : Ray) → forged_ray (walk_ray ray) ≡ false → (timed_any_hit bytes h ray).accumulator
        ≡ filter (drawn h) (any_hit_at bytes by_boxes (index_count t) (walk_ray ray)).accumulator
    timed_is_filtered good ray accepted =
        covered_filtered ray good accepted tree_covers
        ∙ ap (λ (n : ℕ). filter (drawn h) (any_hit_at bytes by_boxes n (walk_ray ray)).accumulator) as_many
