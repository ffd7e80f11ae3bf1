-- A record that has a layout's shape is sound, with the wide tree's level as its deepest.
use mathlib.Core.List.{List, [], ◌∷◌}
use mathlib.Core.Logic.{inr}
use mathlib.Core.Path.{◌≡◌, refl, sym, ap, ap₂, ◌∙◌, subst}
use Prim.Native.Nat.{ℕ, suc, ◌+◌, ◌<◌, ◌≤◌}
use native.Mathlib.Decide.{dec_lt}
use native.Mathlib.Nat.{add-zero, add_assoc}
use native.Mathlib.Omega.{arith}
use lib.ListN.{length}
use Rattle.lists.specs.Counts.{count}
use Rattle.lists.specs.Sums.{sum, sum_over}
use Rattle.lists.proofs.Counts.{count-append}
use Rattle.lists.proofs.Sums.{sum_cong, sum_front, sum_renumbered}
use Rattle.soundness.specs.Range.{in_range}
use Rattle.soundness.specs.Shape.{Shape, ChildOf, parents, positions_held, holders, Level}
use Rattle.soundness.specs.Sound.{Sound, Deepest, OneLevel}
use Rattle.soundness.proofs.Range.{in_range_lem, before_range, range_most, range_none, range_split, count_range}
use Rattle.soundness.proofs.Once.{one-level}
use Rattle.wide_layout.specs.Wide.{Slots, end, empty, leaf, inner, Wide}
use Rattle.wide_layout.specs.Sizes.{inner_children, nodes_below, own_count, own_before, own_at, count_below}
use Rattle.wide_layout.specs.Layout.{Entry, entry, entries, layout, numbers, EachEntry, nodes, index_count, level}
use Rattle.wide_layout.specs.Ranges.{child_range, slot_ranges, child_ranges, leaf_ranges}
use Rattle.wide_layout.specs.Shape.{EntryInside, ReadsNode, Reads, layout_entry}
use Rattle.wide_layout.proofs.Sizes.{rank_below}
use Rattle.wide_layout.proofs.Ranges.{slot_ranges_lem, child_count_lem, leaf_count_lem}
use Rattle.wide_layout.proofs.Numbers.{number_below, number_past}
use Rattle.wide_layout.proofs.Each.{each_append, each_left, each_right, each_map, each_both, find_node, node-each, node-number, node_has}
use Rattle.wide_layout.proofs.Links.{node_linked}
use Rattle.wide_layout.proofs.Placed.{inside}
use Rattle.wide_layout.proofs.Levels.{level_most, level-some}

-- ---- the eight leaf ranges of a node are one range

slots_held : {w : ℕ} (s : Slots w) (q x : ℕ) → sum (λ k. in_range x (q + own_before s k) (own_at s k)) w ≡ in_range x q (own_count s)
unfolding sum
slots_held end q x = sym (range_none x q)
slots_held (empty {w = v} s) q x =
    omega (arith, sum_front (λ k. in_range x (q + own_before (empty s) k) (own_at (empty s) k)) v, range_none x (q + 0), slots_held s q x)
slots_held (leaf {w = v} b ps s) q x =
    let n = length ps in
    let e : in_range x (q + 0) n ≡ in_range x q n = ap (λ (a : ℕ). in_range x a n) (add-zero q) in
    omega (
      arith,
      sum_front (λ k. in_range x (q + own_before (leaf b ps s) k) (own_at (leaf b ps s) k)) v,
      e,
      sum_cong (λ k. in_range x (q + (n + own_before s k)) (own_at s k)) (λ k. in_range x (q + n + own_before s k) (own_at s k)) v
          (λ k h. ap (λ (a : ℕ). in_range x a (own_at s k)) (sym (add_assoc q n (own_before s k)))),
      slots_held s (q + n) x,
      range_split x q n (own_count s),
    )
slots_held (inner {w = v} b t s) q x =
    omega (arith, sum_front (λ k. in_range x (q + own_before (inner b t s) k) (own_at (inner b t s) k)) v, range_none x (q + 0), slots_held s q x)

module _ (S : Shape) where
  node-held : (e : Entry) → ReadsNode S e → (x : ℕ) → positions_held S e.number x ≡ in_range x e.position_base (own_count e.slots)
  node-held e h x =
      sum_cong (λ s. in_range x (S.start e.number s) (S.count e.number s))
      (λ s. in_range x (e.position_base + own_before e.slots s) (own_at e.slots s)) 8
      (λ s l. go s l (dec_lt 0 (own_at e.slots s)))
      ∙ slots_held e.slots e.position_base x
    where
      go : (s : ℕ) → s < 8 → Dec (0 < own_at e.slots s) → in_range x (S.start e.number s) (S.count e.number s)
          ≡ in_range x (e.position_base + own_before e.slots s) (own_at e.slots s)
      go s l (yes p) = ap₂ (λ (a n : ℕ). in_range x a n) (h.start s l p) (h.count s l)
      go s l (no p) =
          let z : own_at e.slots s ≡ 0 = omega arith in
          ap (λ (n : ℕ). in_range x (S.start e.number s) n) (h.count s l ∙ z)
          ∙ range_none x (S.start e.number s)
          ∙ sym (ap (λ (n : ℕ). in_range x (e.position_base + own_before e.slots s) n) z ∙ range_none x (e.position_base + own_before e.slots s))

  -- ---- counts over the numbers are counts over the layout

  children_counted : (x : ℕ) (r : List Entry) → EachEntry (ReadsNode S) r → sum_over (λ i. in_range x (S.base i) (S.children i)) (numbers r)
      ≡ count x (child_ranges r)
  unfolding count sum_over
  children_counted x [] h = refl
  children_counted x (e ∷ r) h =
      let a = ap₂ (λ (b n : ℕ). in_range x b n) h.0.base h.0.children in
      omega (
        arith,
        a,
        children_counted x r h.1,
        count-append x (child_range e) (child_ranges r),
        count_range x e.child_base
            (inner_children e.slots),
      )

  leaves_counted : (x : ℕ) (r : List Entry) → EachEntry (ReadsNode S) r → sum_over (λ i. positions_held S i x) (numbers r) ≡ count x (leaf_ranges r)
  unfolding count sum_over
  leaves_counted x [] h = refl
  leaves_counted x (e ∷ r) h =
      let q = e.position_base in
      let a = ap (λ (l : List ℕ). count x l) (slot_ranges_lem e.slots q) in
      omega (
        arith,
        node-held e h.0 x,
        leaves_counted x r h.1,
        count-append x (slot_ranges e.slots q) (leaf_ranges r),
        a,
        count_range x q
            (own_count e.slots),
      )

  -- ---- levels

  child_of_lem : (e : Entry) → ReadsNode S e → e.number < S.nodes → (x : ℕ) → e.child_base ≤ x → x < e.child_base + inner_children e.slots
      → ChildOf S e.number x
  child_of_lem e h n x a b = let u = h.base in let v = h.children in record { parent = n; from = omega arith; before = omega arith }

  level_next : (l m p v : ℕ) → m ≡ suc l → Level S l p → ChildOf S p v → Level S m v
  unfolding Level
  level_next l m p v e a c = subst (λ (x : ℕ). Level S x v) (sym e) (p, c, a)

  levels_below_lem : {w : ℕ} (s : Slots w) (l m p k i c q : ℕ) → m ≡ suc l → Level S l p
      → ((x : ℕ) → i ≤ x → x < i + inner_children s → ChildOf S p x)
      → EachEntry (λ e. ReadsNode S e × (e.number < S.nodes)) (entries s m p k i c q)
      → EachEntry (λ e. Level S e.level e.number) (entries s m p k i c q)
  levels_below_lem end l m p k i c q g a f h = tt
  levels_below_lem (empty s) l m p k i c q g a f h = levels_below_lem s l m p (k + 1) i c q g a f h
  levels_below_lem (leaf b ps s) l m p k i c q g a f h = levels_below_lem s l m p (k + 1) i c q g a f h
  levels_below_lem (inner b t s) l m p k i c q g a f h = (
    here,
    each_append (λ e. Level S e.level e.number) first last
        (levels_below_lem t m (m + 1) i 0 c (c + inner_children t) (q + own_count t) (omega arith) here
        (child_of_lem (entry b t m p k i c q) h.0.0 h.0.1) (each_left (λ e. ReadsNode S e × (e.number < S.nodes)) first last h.1))
        (levels_below_lem s l m p (k + 1) (i + 1) (c + (inner_children t + nodes_below t)) (q + (own_count t + count_below t)) g a
        (λ x u v. f x (omega arith) (omega arith)) (each_right (λ e. ReadsNode S e × (e.number < S.nodes)) first last h.1)),
  )
    where
      first : List Entry
      first = entries t (m + 1) i 0 c (c + inner_children t) (q + own_count t)

      last : List Entry
      last = entries s m p (k + 1) (i + 1) (c + (inner_children t + nodes_below t)) (q + (own_count t + count_below t))

      here : Level S m i
      here = level_next l m p i g a (f i (omega arith) (omega arith))

  -- ---- the whole

  module _ (t : Wide) (h : Reads S t) where
    pub reads_parents : (v : ℕ) → parents S S.nodes v ≡ in_range v 1 (inner_children t.slots + nodes_below t.slots)
    reads_parents v =
        ap (λ (m : ℕ). parents S m v) h.nodes
        ∙ sum_renumbered (nodes t) (λ i. in_range v (S.base i) (S.children i)) (numbers (layout t)) (number_below t) (number_past t)
        ∙ children_counted v (layout t) h.each
        ∙ child_count_lem t v

    pub reads_holders : (x : ℕ) → holders S S.nodes x ≡ in_range x 0 (index_count t)
    reads_holders x =
        ap (λ (m : ℕ). holders S m x) h.nodes
        ∙ sum_renumbered (nodes t) (λ i. positions_held S i x) (numbers (layout t)) (number_below t) (number_past t)
        ∙ leaves_counted x (layout t) h.each
        ∙ leaf_count_lem t x

    pub reads_levels : EachEntry (λ e. Level S e.level e.number) (layout t)
    unfolding Level
    reads_levels =
        let m = h.nodes in
        let r = each_both (ReadsNode S) (λ e. e.number < S.nodes) (layout t) h.each
        (each_map (EntryInside (nodes t) (index_count t)) (λ e. e.number < S.nodes) (layout t) (λ e k. omega (arith, k.number)) (inside t)) in (
          refl,
          levels_below_lem t.slots 0 1 0 0 1 (1 + inner_children t.slots) (0 + own_count t.slots) refl refl
              (child_of_lem (entry t.box t.slots 0 0 0 0 1 0) r.0.0 r.0.1) r.1,
        )

    reads_first : parents S S.nodes 0 ≡ 0
    reads_first = reads_parents 0 ∙ before_range 0 1 (inner_children t.slots + nodes_below t.slots) (omega arith)

    reads_others : (v : ℕ) → 0 < v → v < S.nodes → parents S S.nodes v ≡ 1
    reads_others v z l = reads_parents v ∙ in_range_lem v 1 (inner_children t.slots + nodes_below t.slots) z (omega (arith, h.nodes))

    -- a node has the level of its entry and no other
    reads_entry_level : (v : ℕ) → v < S.nodes → (o : OneLevel S v) × (o.level ≤ level t)
    reads_entry_level v b =
        let k = each_both (λ e. Level S e.level e.number) (λ e. e.level ≤ level t) (layout t) reads_levels (level_most t) in
        let r = find_node (λ e. Level S e.level e.number × (e.level ≤ level t)) t v (omega (arith, h.nodes)) k in
        let a : Level S r.0.level v = subst (λ (x : ℕ). Level S r.0.level x) r.1 r.2.0 in
        (record { level = r.0.level; has = a; only = λ l c. one-level S reads_first most l r.0.level v b c a }, r.2.1)
      where
        most : (u : ℕ) → u < S.nodes → parents S S.nodes u ≤ 1
        most u k = omega (arith, reads_parents u, range_most u 1 (inner_children t.slots + nodes_below t.slots))

    pub reads_one_level : (v : ℕ) → v < S.nodes → OneLevel S v
    reads_one_level v b = (reads_entry_level v b).0

    pub reads_level : (v l : ℕ) → v < S.nodes → Level S l v → l ≤ level t
    reads_level v l b a = let r = reads_entry_level v b in omega (arith, r.0.only l a, r.1)

    -- A record with the layout's shape is sound if its nodes meet the rule and the wide tree's level is at most 31,
    pub reads_sound : (Rule : ℕ → Type 0) → ((i : ℕ) → i < S.nodes → Rule i) → level t ≤ 31 → Sound S Rule
    reads_sound Rule rule d = record {
      rule = rule;
      first = reads_first;
      others = reads_others;
      filled = λ x l. reads_holders x ∙ in_range_lem x 0 (index_count t) (omega arith) (omega (arith, h.positions));
      levels = λ v l b a. omega (arith, reads_level v l b a);
    }

    -- and its deepest level is the wide tree's.
    pub reads_deepest : Deepest S (level t)
    reads_deepest =
        let r = level-some (λ e. Level S e.level e.number × EntryInside (nodes t) (index_count t) e) t
        (each_both (λ e. Level S e.level e.number) (EntryInside (nodes t) (index_count t)) (layout t) reads_levels (inside t)) in
        record {
          most = reads_level;
          some = inr (r.0.number, omega (arith, r.2.1.number, h.nodes), subst (λ (l : ℕ). Level S l r.0.number) r.1 r.2.0);
        }

    -- the parent that a node's entry names is its parent
    pub reads_parent : (v : ℕ) → 0 < v → v < nodes t → ChildOf S (layout_entry t v).parent v
    reads_parent v z l =
        let k = node_linked t v z l in
        let n = node-number t v l in
        let p = (layout_entry t v).parent in
        let m = h.nodes in
        let b : p < nodes t = omega (arith, k.earlier) in
        let e = node-number t p b in
        let r = node_has (ReadsNode S) t h.each p b in
        let g : (layout_entry t p).child_base ≡ S.base p = sym r.base ∙ ap (λ (i : ℕ). S.base i) e in
        let c : inner_children (layout_entry t p).slots ≡ S.children p = sym r.children ∙ ap (λ (i : ℕ). S.children i) e in
        record {
          parent = omega arith;
          from = omega (arith, k.number);
          before = omega (arith, k.number, rank_below (layout_entry t p).slots (layout_entry t v).slot k.inner);
        }

-- ---- a shape read by number

pub reads_by_number : (S : Shape) (t : Wide) → S.nodes ≡ nodes t → S.positions ≡ index_count t
    → ((v : ℕ) → v < nodes t → ReadsNode S (layout_entry t v)) → Reads S t
reads_by_number S t m n h = record {
  nodes = m;
  positions = n;
  each = each_map (λ e. (layout_entry t e.number ≡ e) × EntryInside (nodes t) (index_count t) e) (ReadsNode S) (layout t)
      (λ e k. subst (ReadsNode S) k.0 (h e.number k.1.number))
      (each_both (λ e. layout_entry t e.number ≡ e) (EntryInside (nodes t) (index_count t)) (layout t) (node-each t) (inside t));
}
