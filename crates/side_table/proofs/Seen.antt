-- What a record as conversion left it says of its wide tree: node by node, and slot by slot by a slot's meta byte and its bit.
use mathlib.Core.Bool.{true, false}
use mathlib.Core.List.{List, ◌++◌, map}
use mathlib.Core.Path.{◌≡◌, refl, sym, ap, ap₂, ◌∙◌, subst}
use Prim.Native.Nat.{ℕ, ◌+◌, ◌*◌, ◌%◌, ◌≤◌, ◌<◌}
use native.Mathlib.Omega.{arith}
use borrow.Author.Tests.{eqb-true, eqb-false}
use lib.Dec.{eqb}
use lib.ListN.{length, get_or, take, drop, length-map, length-drop, take-append-drop}
use lib.Seq.{get_or-take, get_or-drop}
use Rattle.std.proofs.lemmas.List.{length-take, take-map, drop-map, take-append-le, drop-append-le}
use Rattle.words.specs.Ones.{ones_below}
use Rattle.lists.specs.At.{words_at}
use Rattle.aabb.specs.declared.Aabb.{Aabb}
use Rattle.node.specs.declared.Node.{Node}
use Rattle.node.specs.Node.{node_at, inner_bit, code_count}
use Rattle.wide_layout.specs.Wide.{Slots}
use Rattle.wide_layout.specs.Content.{Content, none, leaf_child, inner_child, content_at}
use Rattle.wide_layout.specs.Sizes.{inner_before, own_before, own_at, positions_at, slots_positions, SmallLeaves}
use Rattle.wide_layout.specs.Layout.{Entry, nodes, index_list, index_count}
use Rattle.wide_layout.specs.Ranges.{Holding}
use Rattle.wide_layout.specs.Shape.{layout_entry, EntryInside}
use Rattle.wide_layout.proofs.Sizes.{index_length, own_inside}
use Rattle.wide_layout.proofs.Each.{node_has}
use Rattle.wide_layout.proofs.Placed.{inside, small}
use Rattle.wide_layout.proofs.Held.{holding}
use Rattle.wide_layout.proofs.ChildNodes.{node_child, child_there}
use Rattle.record.specs.Record.{metas, node_of}
use Rattle.record.specs.Children.{child_meta, child_inner, child_positions}
use Rattle.record.proofs.Children.{metas-length, boxes_length}
use Rattle.record.proofs.Length.{record-length}
use Rattle.record_laws.proofs.ReadBack.{record_read}
use Rattle.record_laws.proofs.Codes.{mask_rank}
use Rattle.record_laws.proofs.Slots.{SmallChild, small_child, own_child, positions_content, meta_of, bit_of, slot_count, slot_start}
use Rattle.record_shape.specs.Record.{slot_positions}
use Rattle.side_table.specs.SideTable.{positions_under}
use Rattle.side_table.specs.Laid.{Laid}
use Rattle.side_table.proofs.Corner.{word_corner, corner_back}
use Rattle.side_table.proofs.Under.{SomeUnder, some_under, node_branching}

-- ---- a slot, by its node

module _ (e : Entry) (small : SmallLeaves e.slots) (n : Node) (same : n ≡ word_corner (node_of e)) (k : ℕ) (l : k < 8) where
  abbrev here : Content
  here = content_at e.slots k

  abbrev meta_byte : ℕ
  meta_byte = get_or n.child_meta k 0

  meta_is : meta_byte ≡ get_or (metas e.slots 0 0) k 0
  unfolding node_of
  meta_is = ap (λ (x : Node). get_or x.child_meta k 0) same

  bit_is : inner_bit n.imask k ≡ child_inner here
  unfolding node_of
  bit_is = ap (λ (x : Node). inner_bit x.imask k) same ∙ bit_of e.slots small k l

  -- a leaf code says how many positions there are
  count_is : inner_bit n.imask k ≡ 0 → code_count meta_byte ≡ length (child_positions here)
  unfolding node_of slot_positions
  count_is z =
      sym (ap (λ (b : ℕ). slot_positions b meta_byte) z) ∙ ap (λ (x : Node). slot_positions (inner_bit x.imask k) (get_or x.child_meta k 0)) same
      ∙ slot_count e.slots small k l ∙ own_child e.slots k

  -- meta 0: nothing
  pub none_seen : meta_byte ≡ 0 → here ≡ none
  unfolding child_meta child_inner child_positions ones_below
  none_seen z = go here refl (small_child e.slots small k)
    where
      go : (c : Content) → here ≡ c → SmallChild c → here ≡ none
      go none q s = q
      go (leaf_child b ps) q s =
          let none : code_count meta_byte ≡ 0 = ap code_count z in
          absurd (omega (arith, count_is (bit_is ∙ ap child_inner q), ap (λ (c : Content). length (child_positions c)) q, s.0))
      go (inner_child b t) q s =
          absurd (omega (arith, meta_is, meta_of e.slots small k l, ap (λ (c : Content). child_meta c k (own_before e.slots k)) q))

  -- another meta byte: something, with positions below it
  pub some_seen : SomeUnder here → ¬ (meta_byte ≡ 0) → 0 < length (positions_under here)
  unfolding child_meta positions_under
  some_seen s f = go here refl s
    where
      go : (c : Content) → here ≡ c → SomeUnder c → 0 < length (positions_under c)
      go none q s = absurd (f (meta_is ∙ meta_of e.slots small k l ∙ ap (λ (c : Content). child_meta c k (own_before e.slots k)) q))
      go (leaf_child b ps) q s = s
      go (inner_child b t) q s = s

  -- a bit: an inner child, at the node that the bits below it count
  pub inner_seen : ¬ (inner_bit n.imask k ≡ 0) → (b : Aabb) × (t : Slots 8) × (here ≡ inner_child b t)
  unfolding child_inner
  inner_seen f = go here refl
    where
      go : (c : Content) → here ≡ c → (b : Aabb) × (t : Slots 8) × (here ≡ inner_child b t)
      go none q = absurd (f (bit_is ∙ ap child_inner q))
      go (leaf_child b ps) q = absurd (f (bit_is ∙ ap child_inner q))
      go (inner_child b t) q = (b, t, q)

  pub child_seen : n.child_base_idx + ones_below k n.imask ≡ e.child_base + inner_before e.slots k
  unfolding node_of
  child_seen =
      ap (λ (x : Node). x.child_base_idx + ones_below k x.imask) same
      ∙ ap (λ (r : ℕ). e.child_base + r) (mask_rank e.slots k (omega arith))

  -- neither: a leaf child, whose code counts its positions from the node's first
  pub leaf_seen : ¬ (meta_byte ≡ 0) → inner_bit n.imask k ≡ 0
      → (b : Aabb) × (ps : List ℕ) × (here ≡ leaf_child b ps) × (code_count meta_byte ≡ length ps)
      × (n.primitive_base_idx + meta_byte % 32 ≡ e.position_base + own_before e.slots k)
  unfolding child_meta child_inner child_positions node_of
  leaf_seen f z = go here refl (small_child e.slots small k)
    where
      go : (c : Content) → here ≡ c → SmallChild c
          → (b : Aabb) × (ps : List ℕ) × (here ≡ leaf_child b ps) × (code_count meta_byte ≡ length ps)
          × (n.primitive_base_idx + meta_byte % 32 ≡ e.position_base + own_before e.slots k)
      go none q s = absurd (f (meta_is ∙ meta_of e.slots small k l ∙ ap (λ (c : Content). child_meta c k (own_before e.slots k)) q))
      go (leaf_child b ps) q s =
          let count : length (child_positions here) ≡ length ps = ap (λ (c : Content). length (child_positions c)) q in (
            b,
            ps,
            q,
            count_is z ∙ count,
            ap₂ (λ (x y : ℕ). x + y % 32) (ap (λ (x : Node). x.primitive_base_idx) same) meta_is
                ∙ ap (λ (x : ℕ). e.position_base + x) (slot_start e.slots small k l (omega (arith, own_child e.slots k, s.0))),
          )
      go (inner_child b t) q s = absurd (let o : ◌≡◌ {A = ℕ} 1 0 = sym (bit_is ∙ ap child_inner q) ∙ z in omega arith)

-- ---- the whole

module _ {bytes list spans : List ℕ} {m : ℕ} (h : Laid bytes list spans m) where
  abbrev node : ℕ → Entry
  node v = layout_entry h.tree v

  pub bytes_room : 80 * m ≤ length bytes
  bytes_room = omega (arith, ap length h.bytes_are, length-take (80 * m) bytes, record-length h.tree, h.nodes_are)

  pub list_room : index_count h.tree ≤ length list
  list_room =
      omega (
        arith,
        ap length h.list_is,
        length-take (index_count h.tree) list,
        length-map (index_list h.tree) (λ (p : ℕ). get_or h.indices p 0),
        index_length h.tree,
      )

  there : (v : ℕ) → v < m → v < nodes h.tree
  there v l = omega (arith, h.nodes_are)

  entry_inside : (v : ℕ) → v < m → EntryInside (nodes h.tree) (index_count h.tree) (node v)
  entry_inside v l = node_has (EntryInside (nodes h.tree) (index_count h.tree)) h.tree (inside h.tree) v (there v l)

  pub node_laid : (v : ℕ) → v < m → node_at bytes v ≡ word_corner (node_of (node v))
  unfolding node_of
  node_laid v l =
      let i = entry_inside v l in
      ap (λ (b : List ℕ). node_at b v) (sym (take-append-drop (80 * m) bytes) ∙ ap (λ (b : List ℕ). b ++ drop (80 * m) bytes) h.bytes_are)
      ∙ record_read h.tree (drop (80 * m) bytes) v (there v l)
      ∙ corner_back (node_of (node v)) (omega (arith, i.nodes, h.few)) (omega (arith, i.positions, h.short)) (metas-length (node v).slots 0 0)
      (boxes_length (node v).box (node v).slots)

  pub small_laid : (v : ℕ) → v < m → SmallLeaves (node v).slots
  small_laid v l = node_has (λ e. SmallLeaves e.slots) h.tree (small h.tree h.leaves) v (there v l)

  -- below each child there is a position
  pub some_laid : (v : ℕ) → v < m → (k : ℕ) → SomeUnder (content_at (node v).slots k)
  some_laid v l = some_under (node v).slots (small_laid v l) (node_branching h.tree h.branching v (omega (arith, h.nodes_are)))

  -- a leaf child's panes stand in the list from the place of its first position on
  module _ (v : ℕ) (l : v < m) (k : ℕ) (b : Aabb) (ps : List ℕ) (is : content_at (node v).slots k ≡ leaf_child b ps) where
    abbrev leaf_start : ℕ
    leaf_start = (node v).position_base + own_before (node v).slots k

    own_ps : own_at (node v).slots k ≡ length ps
    unfolding child_positions
    own_ps = own_child (node v).slots k ∙ ap (λ (c : Content). length (child_positions c)) is

    pub leaf_ends : leaf_start + length ps ≤ index_count h.tree
    leaf_ends =
        let i = entry_inside v l in
        omega (arith, i.positions, own_inside (node v).slots k, own_ps)

    pub leaf_panes : take (length ps) (drop leaf_start list) ≡ words_at h.indices ps
    unfolding child_positions
    leaf_panes =
        let I = index_list h.tree in
        let N = index_count h.tree in
        let f : ℕ → ℕ = λ p. get_or h.indices p 0 in
        let W = map f I in
        let size : length W ≡ N = length-map I f ∙ index_length h.tree in
        let g : list ≡ W ++ drop N list = sym (take-append-drop N list) ∙ ap (λ (x : List ℕ). x ++ drop N list) h.list_is in
        let held : take (own_at (node v).slots k) (drop leaf_start I) ≡ positions_at (node v).slots k =
        node_has (Holding I) h.tree (holding h.tree) v (omega (arith, h.nodes_are)) k in
        ap (λ (x : List ℕ). take (length ps) (drop leaf_start x)) g
        ∙ ap (take (length ps)) (drop-append-le leaf_start W (drop N list) (omega (arith, leaf_ends, size)))
        ∙ take-append-le (length ps) (drop leaf_start W) (drop N list) (omega (arith, leaf_ends, size, length-drop leaf_start W))
        ∙ ap (take (length ps)) (drop-map f leaf_start I) ∙ take-map f (length ps) (drop leaf_start I)
        ∙ ap (map f) (ap (λ (x : ℕ). take x (drop leaf_start I)) (sym own_ps) ∙ held ∙ positions_content (node v).slots k ∙ ap child_positions is)

    -- and each of them has a span
    pub leaf_spans : (i : ℕ) → i < length ps → 2 * get_or (take (length ps) (drop leaf_start list)) i 0 + 1 < length spans
    leaf_spans i j =
        let q = h.panes (leaf_start + i) (omega (arith, leaf_ends)) in
        omega (arith, get_or-take (length ps) (drop leaf_start list) i 0 j, get_or-drop leaf_start list i 0)

  -- ---- slot k of node v as code reads it: its meta byte, the mask, and what they lead to

  -- `count` index words from `start` on are those of slot k's leaf child in node v
  pub record LeafRange (v k start count : ℕ) : Type 0 where
    pub ps : List ℕ
    pub under : positions_under (content_at (node v).slots k) ≡ ps
    pub some : 0 < count
    pub within : start + count ≤ length list
    pub panes : take count (drop start list) ≡ words_at h.indices ps
    pub spanned : (i : ℕ) → i < count → 2 * get_or (take count (drop start list)) i 0 + 1 < length spans

  -- `child` is the node of slot k's inner child in node v
  pub record ChildAt (v k child : ℕ) : Type 0 where
    pub later : v < child
    pub there : child < m
    pub under : positions_under (content_at (node v).slots k) ≡ slots_positions (node child).slots

  module _ (n : Node) (v : ℕ) (l : v < m) (same : n ≡ word_corner (node_of (node v))) (k : ℕ) (kl : k < 8) where
    pub leaf_range : (meta imask base start count : ℕ) → meta ≡ get_or n.child_meta k 0 → imask ≡ n.imask → base ≡ n.primitive_base_idx
        → ¬ (meta ≡ 0) → eqb (inner_bit imask k) 0 ≡ true → start ≡ base + meta % 32 → count ≡ code_count meta → LeafRange v k start count
    unfolding positions_under
    leaf_range meta imask base start count e f g z leaf s c =
        let y = leaf_seen (node v) (small_laid v l) n same k kl (λ d. z (e ∙ d))
        (ap (λ (i : ℕ). inner_bit i k) (sym f) ∙ eqb-true (inner_bit imask k) 0 leaf) in
        let b = y.0 in
        let ps = y.1 in
        let is = y.2 in
        let size : count ≡ length ps = c ∙ ap code_count e ∙ y.3 in
        let from : start ≡ (node v).position_base + own_before (node v).slots k = s ∙ ap₂ (λ (i j : ℕ). i + j % 32) g e ∙ y.4 in
        let part : take count (drop start list) ≡ take (length ps) (drop ((node v).position_base + own_before (node v).slots k) list) =
        ap₂ (λ (i j : ℕ). take i (drop j list)) size from in
        record {
          ps = ps;
          under = ap positions_under is;
          some = let q : 0 < length ps = subst SomeUnder is (some_laid v l k) in omega (arith, size);
          within = omega (arith, size, from, leaf_ends v l k b ps is, list_room);
          panes = part ∙ leaf_panes v l k b ps is;
          spanned = λ i j. rw part (leaf_spans v l k b ps is i (omega (arith, size)));
        }

    pub child_at : (imask base rank : ℕ) → imask ≡ n.imask → base ≡ n.child_base_idx → eqb (inner_bit imask k) 0 ≡ false → rank ≡ ones_below k imask
        → ChildAt v k (base + rank)
    unfolding positions_under
    child_at imask base rank f g inner r =
        let y = inner_seen (node v) (small_laid v l) n same k kl (λ z. eqb-false (inner_bit imask k) 0 inner (ap (λ (i : ℕ). inner_bit i k) f ∙ z)) in
        let q : v < nodes h.tree = omega (arith, h.nodes_are) in
        let e : base + rank ≡ (node v).child_base + inner_before (node v).slots k =
        ap₂ (λ (i j : ℕ). i + j) g (r ∙ ap (ones_below k) f) ∙ child_seen (node v) (small_laid v l) n same k kl in
        let at = child_there h.tree v q k y.0 y.1 y.2 in
        record {
          later = omega (arith, at.0, e);
          there = omega (arith, at.1, e, h.nodes_are);
          under =
              ap positions_under y.2
              ∙ sym (ap (λ (i : ℕ). slots_positions (node i).slots) e
              ∙ ap (λ (s : Slots 8). slots_positions s) (node_child h.tree v q k y.0 y.1 y.2).slots);
        }
