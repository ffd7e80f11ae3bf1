-- A conversion of panes that are drawn all day writes a side table in which every slot that is not empty has the whole day, so that timed walks over
-- it are untimed.
use mathlib.Core.Bool.{true}
use mathlib.Core.List.{List, [], ◌∷◌}
use mathlib.Core.Path.{◌≡◌, refl, sym, ap, ◌∙◌, subst}
use Prim.Native.Nat.{ℕ, ◌+◌, ◌<◌}
use native.Mathlib.Omega.{arith}
use lib.ListN.{length, get_or, length-map}
use Rattle.lists.specs.At.{words_at}
use Rattle.lists.specs.Counts.{count}
use Rattle.lists.proofs.Counts.{Same, equal, apart, same?}
use Rattle.span.specs.Span.{span_at, quarter_fits}
use Rattle.span.proofs.Hulls.{hull_all_day}
use Rattle.node.specs.declared.Node.{Node}
use Rattle.node.specs.Node.{node_at}
use Rattle.wide_layout.specs.Wide.{Slots, end, empty, leaf, inner, Wide}
use Rattle.wide_layout.specs.Content.{Content, none, leaf_child, inner_child, content_at}
use Rattle.wide_layout.specs.Sizes.{inner_children, nodes_below, own_count, count_below, own_before, slots_positions, Branching}
use Rattle.wide_layout.specs.Layout.{entries, EachEntry, nodes}
use Rattle.wide_layout.specs.Shape.{layout_entry}
use Rattle.wide_layout.proofs.Each.{each_append, node_has}
use Rattle.record.specs.Record.{record_bytes, node_of}
use Rattle.record.specs.Children.{child_meta}
use Rattle.record_shape.specs.Record.{meta_at}
use Rattle.record_laws.specs.Writable.{Writable}
use Rattle.record_laws.proofs.Range.{node_of_lem}
use Rattle.record_laws.proofs.ReadBack.{record-count}
use Rattle.record_laws.proofs.ShapeRead.{node_read}
use Rattle.record_laws.proofs.Slots.{meta_of}
use Rattle.side_table.specs.SideTable.{positions_under, panes_under, slot_span, side_bytes, side_span}
use Rattle.side_table.proofs.Table.{side_length, side_span_lem}
use Rattle.side_table.proofs.Under.{SomeUnder, some_under, node_branching}
use Rattle.walk.specs.Listing.{In}
use Rattle.walk.proofs.Lists.{in_head, in_tail, in_none, in_left, in_right}
use Rattle.timed.specs.AllDay.{whole_day, AllDay}
use Rattle.timed.specs.Converted.{timetable_of_tree}
use Rattle.timed.proofs.Filtered.{slot_under}

-- a member of the words at some places stands at one of them
word_from : (words : List ℕ) (x : ℕ) (l : List ℕ) → In x (words_at words l) → (p : ℕ) × In p l × (x ≡ get_or words p 0)
unfolding count
word_from words x [] i = in_none x i
word_from words x (q ∷ l) i = go (same? x (get_or words q 0)) (word_from words x l)
  where
    go : Same x (get_or words q 0) → (In x (words_at words l) → (p : ℕ) × In p l × (x ≡ get_or words p 0))
        → (p : ℕ) × In p (q ∷ l) × (x ≡ get_or words p 0)
    go (equal e n) r = (q, in_head q l, e)
    go (apart e n) r = let z = r (omega arith) in (z.0, in_tail z.0 q l z.1, z.2)

-- positions below the nodes of a layout are among those below the slots that lead to them
module _ (Whole : ℕ → Type 0) where
  abbrev Part : {w : ℕ} → Slots w → Type 0
  Part s = (x : ℕ) → In x (slots_positions s) → Whole x

  parts : {w : ℕ} (s : Slots w) (l p k i c q : ℕ) → Part s → EachEntry (λ e. Part e.slots) (entries s l p k i c q)
  parts end l p k i c q h = tt
  parts (empty s) l p k i c q h = parts s l p (k + 1) i c q h
  parts (leaf b ps s) l p k i c q h = parts s l p (k + 1) i c q (λ x m. h x (in_right x ps (slots_positions s) m))
  parts (inner b t s) l p k i c q h =
      let here : Part t = λ x m. h x (in_left x (slots_positions t) (slots_positions s) m) in
      let later : Part s = λ x m. h x (in_right x (slots_positions t) (slots_positions s) m) in (
        here,
        each_append (λ e. Part e.slots) (entries t (l + 1) i 0 c (c + inner_children t) (q + own_count t))
            (entries s l p (k + 1) (i + 1) (c + (inner_children t + nodes_below t)) (q + (own_count t + count_below t)))
            (parts t (l + 1) i 0 c (c + inner_children t) (q + own_count t) here)
            (parts s l p (k + 1) (i + 1) (c + (inner_children t + nodes_below t)) (q + (own_count t + count_below t)) later),
      )

node_part : (t : Wide) (v : ℕ) → v < nodes t → (x : ℕ) → In x (slots_positions (layout_entry t v).slots) → In x (slots_positions t.slots)
node_part t =
    let Whole : ℕ → Type 0 = λ x. In x (slots_positions t.slots) in
    node_has (λ e. Part Whole e.slots) t
    (λ x i. i, parts Whole t.slots 1 0 0 1 (1 + inner_children t.slots) (0 + own_count t.slots) (λ x i. i))

-- below what stands in a slot, if anything does, there are panes
filled : (c : Content) → ¬ (c ≡ none) → SomeUnder c → 0 < length (positions_under c)
unfolding positions_under
filled none f s = absurd (f refl)
filled (leaf_child b ps) f s = s
filled (inner_child b t) f s = s

module _ (t : Wide) (ok : Writable t) (branching : Branching t.slots) (indices : List ℕ) (panes : ℕ) (spans : List ℕ) (quarter : ℕ)
    (named : (p : ℕ) → In p (slots_positions t.slots) → get_or indices p 0 < panes)
    (day : (k : ℕ) → k < panes → span_at spans k ≡ whole_day)
    (fits : quarter_fits quarter ≡ true) where
  abbrev slots : ℕ → Slots 8
  slots v = (layout_entry t v).slots

  meta_is : (v k : ℕ) → v < nodes t → k < 8
      → meta_at (node_at (record_bytes t) v) k ≡ child_meta (content_at (slots v) k) k (own_before (slots v) k)
  unfolding node_of
  meta_is v k l i = ap (λ (n : Node). get_or n.child_meta k 0) (node_read t ok v l) ∙ meta_of (slots v) (node_of_lem t ok v l).small k i

  slot_day : (v k : ℕ) → v < nodes t → k < 8 → ¬ (meta_at (node_at (record_bytes t) v) k ≡ 0)
      → side_span (side_bytes spans indices t) v k ≡ whole_day
  unfolding slot_span panes_under child_meta
  slot_day v k l i f =
      side_span_lem spans indices t v k l i
      ∙ hull_all_day spans (panes_under indices (slots v) k) some
      (λ x m. let q = word_from indices x (positions_under (content_at (slots v) k)) m in
      subst (λ (y : ℕ). span_at spans y ≡ whole_day) (sym q.2)
      (day (get_or indices q.0 0) (named q.0 (node_part t v l q.0 (slot_under (slots v) k q.0 q.1)))))
    where
      full : 0 < length (positions_under (content_at (slots v) k))
      full =
          filled (content_at (slots v) k)
          (λ e. f (meta_is v k l i ∙ ap (λ (c : Content). child_meta c k (own_before (slots v) k)) e))
          (some_under (slots v) (node_of_lem t ok v l).small (node_branching t branching v l) k)

      some : 0 < length (panes_under indices (slots v) k)
      some = omega (arith, full, length-map (positions_under (content_at (slots v) k)) (λ (p : ℕ). get_or indices p 0))

  pub converted_all_day : AllDay (record_bytes t) (timetable_of_tree t indices panes spans quarter)
  converted_all_day = record {
    rows = omega (arith, side_length spans indices t, record-count t);
    slots = λ v k l i f. slot_day v k (omega (arith, record-count t)) i f;
    panes = day;
    quarter = fits;
  }
