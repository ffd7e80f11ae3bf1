-- Slots worked through one after another give the node of a layout's entry, where each of them says what stands in the wide node's slot.
use mathlib.Core.Path.{◌≡◌, refl, sym, ap, ap₂, ◌∙◌}
use mathlib.Core.Logic.{◌⊎◌, inl, inr}
use mathlib.Core.List.{List, ◌++◌, map-append, append-nil}
use Prim.Native.Nat.{ℕ, zero, suc, ◌+◌, ◌-◌, ◌^◌, ◌≤◌, ◌<◌}
use native.Mathlib.Nat.{eq-or-lt_of_le, le_of_suc-le-suc, zero-add}
use native.Mathlib.Decide.{dec_lt}
use native.Mathlib.Omega.{arith}
use lib.ListN.{length, get_or, set, replicate, length-set, get_or-replicate, get_or-eq_default}
use lib.Seq.{ext_get_or, get_or-set_same, get_or-set_other}
use Rattle.lists.specs.Splice.{splice}
use Rattle.lists.proofs.Splice.{written_next, splice_none}
use Rattle.aabb.specs.declared.Aabb.{Aabb}
use Rattle.bvh2.specs.Tree.{leaves, positions}
use Rattle.node.specs.Node.{no_slot}
use Rattle.wide_layout.specs.Wide.{Slots}
use Rattle.wide_layout.specs.Sizes.{inner_children, inner_before, own_count, own_before, own_positions}
use Rattle.wide_layout.proofs.Sizes.{own_inside}
use Rattle.record.specs.Record.{metas, inner_mask, grid_boxes, leaf_meta, inner_meta, grid_box}
use Rattle.wide_layout.specs.Content.{Content, content_at}
use Rattle.record.specs.Children.{child_meta, child_bytes, child_bit, child_positions, child_inner, bits_before, positions_before}
use Rattle.record.proofs.Children.{metas-length, boxes_length, meta_at_lem, bytes_at, mask_all, bits_next, positions-all, positions_next, own_next}
use Rattle.record.proofs.Children.{inner_next, own_all, inner_all, own_first, before_length}
use Rattle.lists.specs.At.{words_at}
use Rattle.emit.specs.Own.{Cell, none, as_leaf, as_node, OwnState, begin, held_in, leaf_words_in, with_child, first_slots, Matches}
use Rattle.emit.proofs.LeafSteps.{positions-length, words_length}

-- ---- lists of eight filled from the front
pub record Filled {A : Type 0} (z : A) (f : ℕ → A) (k : ℕ) (x : List A) : Type 0 where
  pub size : length x ≡ 8
  pub before : (i : ℕ) → i < k → get_or x i z ≡ f i
  pub after : (i : ℕ) → k ≤ i → get_or x i z ≡ z

module _ {A : Type 0} (z : A) (f : ℕ → A) where
  filled_none : Filled z f 0 (replicate 8 z)
  filled_none = record { size = refl; before = λ i h. absurd (omega arith); after = λ i h. all i (small i) }
    where
      small : (i : ℕ) → Dec (i < 8)
      small i = dec_lt i 8

      all : (i : ℕ) → Dec (i < 8) → get_or (replicate 8 z) i z ≡ z
      all i (yes h) = get_or-replicate 8 i z z h
      all i (no h) = get_or-eq_default (replicate 8 z) z {n = i} (omega arith)

  filled-set : (k : ℕ) (x : List A) (v : A) → k < 8 → v ≡ f k → Filled z f k x → Filled z f (suc k) (set x k v)
  filled-set k x v l e h = record {
    size = length-set x k v ∙ h.size;
    before = λ i j. at i (eq-or-lt_of_le (le_of_suc-le-suc j));
    after = λ i j. get_or-set_other x k i v z (λ q. omega (arith, q)) ∙ h.after i (omega arith);
  }
    where
      at : (i : ℕ) → (i ≡ k) ⊎ (i < k) → get_or (set x k v) i z ≡ f i
      at i (inl q) = ap (λ (j : ℕ). get_or (set x k v) j z) q ∙ get_or-set_same x k v z (omega (arith, h.size)) ∙ e ∙ ap f (sym q)
      at i (inr q) = get_or-set_other x k i v z (λ p. omega (arith, p)) ∙ h.before i q

  filled-all : (x y : List A) → length y ≡ 8 → ((i : ℕ) → i < 8 → get_or y i z ≡ f i) → Filled z f 8 x → x ≡ y
  filled-all x y e g h = ext_get_or z x y (h.size ∙ sym e) (λ i l. let j : i < 8 = omega (arith, h.size) in h.before i j ∙ sym (g i j))

-- ---- the first k slots
pub record Upto (indices : List ℕ) (b : Aabb) (start : ℕ) (s : Slots 8) (before : List ℕ) (k : ℕ) (z : OwnState) : Type 0 where
  pub metas : Filled 0 (λ i. child_meta (content_at s i) i (own_before s i)) k z.own.metas
  pub boxes : Filled no_slot (λ i. child_bytes b (content_at s i)) k z.own.boxes
  pub mask : z.own.imask ≡ bits_before s 0 k
  pub inner : z.own.inner ≡ inner_before s k
  pub at : z.own.at ≡ start + own_before s k
  pub list : z.list ≡ splice before start (words_at indices (positions_before s k))

module _ (indices : List ℕ) (b : Aabb) (start : ℕ) (s : Slots 8) (before : List ℕ) (room : start + own_count s ≤ length before) where
  begun : Upto indices b start s before 0 (record { own = begin start; list = before })
  unfolding bits_before positions_before
  begun = record {
    metas = filled_none 0 (λ i. child_meta (content_at s i) i (own_before s i));
    boxes = filled_none no_slot (λ i. child_bytes b (content_at s i));
    mask = refl;
    inner = sym (own_first s).1;
    at = omega (arith, (own_first s).0);
    list = sym (splice_none before start);
  }

  step : (k : ℕ) (c : Cell) (z : OwnState) → k < 8 → Matches c (content_at s k) → Upto indices b start s before k z
      → Upto indices b start s before (suc k) (with_child indices b start k c z)
  unfolding with_child held_in leaf_words_in Matches child_meta child_bytes child_bit child_positions child_inner
  step k none z l m h = record {
    metas = filled-set 0 (λ i. child_meta (content_at s i) i (own_before s i)) k z.own.metas 0 l
        (ap (λ (d : Content). child_meta d k (own_before s k)) (sym m)) h.metas;
    boxes = filled-set no_slot (λ i. child_bytes b (content_at s i)) k z.own.boxes no_slot l (ap (child_bytes b) (sym m)) h.boxes;
    mask = omega (arith, h.mask, bits_next s 0 k, ap (λ (d : Content). child_bit d (0 + k)) m);
    inner = omega (arith, h.inner, inner_next s k, ap child_inner m);
    at = omega (arith, h.at, own_next s k, ap (λ (d : Content). length (child_positions d)) m);
    list =
        h.list
        ∙ ap (λ (ps : List ℕ). splice before start (words_at indices ps))
        (sym (positions_next s k ∙ ap (λ (d : Content). positions_before s k ++ child_positions d) m ∙ append-nil (positions_before s k)));
  }
  step k (as_leaf c t) z l m h =
      let p = own_next s k ∙ ap (λ (d : Content). own_before s k + length (child_positions d)) m in
      let q = positions-length t in
      let fits : start + (own_before s k + leaves t) ≤ length before = omega (arith, p, q, own_inside s (suc k)) in
      record {
        metas = filled-set 0 (λ i. child_meta (content_at s i) i (own_before s i)) k z.own.metas (leaf_meta (leaves t) (z.own.at - start)) l
            (ap₂ leaf_meta (sym q) (omega (arith, h.at)) ∙ ap (λ (d : Content). child_meta d k (own_before s k)) (sym m)) h.metas;
        boxes = filled-set no_slot (λ i. child_bytes b (content_at s i)) k z.own.boxes (grid_box b c) l (ap (child_bytes b) (sym m)) h.boxes;
        mask = omega (arith, h.mask, bits_next s 0 k, ap (λ (d : Content). child_bit d (0 + k)) m);
        inner = omega (arith, h.inner, inner_next s k, ap child_inner m);
        at = omega (arith, h.at, p, q);
        list =
            written_next before start (own_before s k) (leaves t) (words_at indices (positions_before s k)) (words_at indices (positions t)) z.list
            (splice z.list z.own.at (words_at indices (positions t)))
            (words_length indices (positions_before s k) ∙ before_length s k) (words_length indices (positions t) ∙ q) fits h.list
            (ap (λ (j : ℕ). splice z.list j (words_at indices (positions t))) h.at)
            ∙ ap (splice before start) (sym (map-append (λ p. get_or indices p 0) (positions_before s k) (positions t)))
            ∙ ap (λ (ps : List ℕ). splice before start (words_at indices ps))
            (sym (positions_next s k ∙ ap (λ (d : Content). positions_before s k ++ child_positions d) m));
      }
  step k (as_node c) z l m h =
      let e = m.1 in
      record {
        metas = filled-set 0 (λ i. child_meta (content_at s i) i (own_before s i)) k z.own.metas (inner_meta k) l
            (ap (λ (d : Content). child_meta d k (own_before s k)) (sym e)) h.metas;
        boxes = filled-set no_slot (λ i. child_bytes b (content_at s i)) k z.own.boxes (grid_box b c) l (ap (child_bytes b) (sym e)) h.boxes;
        mask = omega (arith, h.mask, bits_next s 0 k, ap (λ (d : Content). child_bit d (0 + k)) e, ap (λ (j : ℕ). 2 ^ j) (zero-add k));
        inner = omega (arith, h.inner, inner_next s k, ap child_inner e);
        at = omega (arith, h.at, own_next s k, ap (λ (d : Content). length (child_positions d)) e);
        list =
            h.list
            ∙ ap (λ (ps : List ℕ). splice before start (words_at indices ps))
            (sym (positions_next s k ∙ ap (λ (d : Content). positions_before s k ++ child_positions d) e ∙ append-nil (positions_before s k)));
      }

  module _ (cell : ℕ → Cell) (matches : (k : ℕ) → k < 8 → Matches (cell k) (content_at s k)) where
    pub first_upto : (k : ℕ) → k ≤ 8 → Upto indices b start s before k (first_slots indices b start cell k before)
    unfolding first_slots
    first_upto zero h = begun
    first_upto (suc k) h = step k (cell k) (first_slots indices b start cell k before) h (matches k h) (first_upto k (omega arith))

-- ---- all eight
pub record Entered (indices : List ℕ) (b : Aabb) (start : ℕ) (s : Slots 8) (before : List ℕ) (z : OwnState) : Type 0 where
  pub metas : z.own.metas ≡ metas s 0 0
  pub boxes : z.own.boxes ≡ grid_boxes b s
  pub mask : z.own.imask ≡ inner_mask s 0
  pub inner : z.own.inner ≡ inner_children s
  pub at : z.own.at ≡ start + own_count s
  pub list : z.list ≡ splice before start (words_at indices (own_positions s))

pub all_slots_lem : (indices : List ℕ) (b : Aabb) (start : ℕ) (s : Slots 8) (before : List ℕ) → start + own_count s ≤ length before
    → (cell : ℕ → Cell)
    → ((k : ℕ) → k < 8 → Matches (cell k) (content_at s k)) → Entered indices b start s before (first_slots indices b start cell 8 before)
all_slots_lem indices b start s before room cell matches =
    let h = first_upto indices b start s before room cell matches 8 (omega arith) in
    let z = first_slots indices b start cell 8 before in
    record {
      metas = filled-all 0 (λ i. child_meta (content_at s i) i (own_before s i)) z.own.metas (metas s 0 0) (metas-length s 0 0)
          (λ i l. meta_at_lem s 0 0 i l ∙ ap₂ (λ (j o : ℕ). child_meta (content_at s i) j o) (zero-add i) (zero-add (own_before s i))) h.metas;
      boxes = filled-all no_slot (λ i. child_bytes b (content_at s i)) z.own.boxes (grid_boxes b s) (boxes_length b s) (λ i l. bytes_at b s i)
          h.boxes;
      mask = h.mask ∙ sym (mask_all s 0);
      inner = h.inner ∙ inner_all s;
      at = h.at ∙ ap (λ (n : ℕ). start + n) (own_all s);
      list = h.list ∙ ap (λ (ps : List ℕ). splice before start (words_at indices ps)) (sym (positions-all s));
    }
