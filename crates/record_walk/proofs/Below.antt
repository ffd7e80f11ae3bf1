-- A walk over a record of a wide tree's layout, with any tests of slots and of positions that see what the tree has there: what is gathered from a
-- node is what the tree's kept children give below it.
use mathlib.Core.Bool.{Bool, true, false, ◌&&◌, cond}
use mathlib.Core.List.{List, [], ◌∷◌}
use mathlib.Core.Path.{◌≡◌, refl, sym, ap, ap₂, ◌∙◌}
use Prim.Native.Nat.{ℕ, zero, suc, ◌+◌, ◌≤◌, ◌<◌}
use native.Mathlib.Omega.{arith}
use lib.Dec.{eqb}
use lib.ListN.{length, get_or}
use Rattle.std.specs.List.{filter}
use Rattle.lists.specs.Counts.{upto}
use Rattle.lists.specs.Sums.{sum, sum_over}
use Rattle.lists.proofs.Sums.{sum_cong, sum-zero, sum-add}
use Rattle.aabb.specs.declared.Aabb.{Aabb}
use Rattle.soundness.specs.Sound.{Sound}
use Rattle.node.specs.Node.{inner_bit}
use Rattle.wide_layout.specs.Wide.{Slots, Wide}
use Rattle.wide_layout.specs.Content.{Content, none, leaf_child, inner_child, content_at}
use Rattle.wide_layout.specs.Sizes.{inner_before, slots_positions}
use Rattle.wide_layout.specs.Layout.{Entry, nodes, index_list, index_count}
use Rattle.wide_layout.specs.Shape.{layout_entry, Reads}
use Rattle.wide_layout.specs.Kept.{kept}
use Rattle.wide_layout.proofs.Placed.{some-node}
use Rattle.wide_layout.proofs.Each.{node-each}
use Rattle.wide_layout.proofs.ChildNodes.{node_child, child_there}
use Rattle.wide_layout.proofs.Kept.{share, kept_by_slots}
use Rattle.record.specs.Children.{child_inner, child_positions}
use Rattle.walk.specs.Listing.{gather_below}
use Rattle.walk.specs.Slots.{WalkRecord, child_number, passed_child, positions_passed, children_passed, SlotLaws}
use Rattle.walk.proofs.Lists.{joined_sum}
use Rattle.walk.proofs.Gather.{gather_is}
use Rattle.walk.proofs.Listing.{passed_rises}
use Rattle.walk.proofs.Slots.{slots_sound}
use Rattle.record_laws.proofs.Words.{count_of, held_word}
use Rattle.record_walk.proofs.BySlots.{zero_either, slot_passed, children_sum, positions_sum}

-- A test of slots keeps the tree's children: in each node of the layout it passes a slot as `keep` says of the node's box, the child's box and the
-- positions below the child.
pub record KeepsChildren (t : Wide) (keep : Aabb → Aabb → List ℕ → Bool) (passes : ℕ → ℕ → Bool) : Type 0 where
  pub leaf_kept : (v j : ℕ) → v < nodes t → j < 8 → (c : Aabb) (ps : List ℕ) → content_at (layout_entry t v).slots j ≡ leaf_child c ps
      → passes v j ≡ keep (layout_entry t v).box c ps
  pub inner_kept : (v j : ℕ) → v < nodes t → j < 8 → (c : Aabb) (u : Slots 8) → content_at (layout_entry t v).slots j ≡ inner_child c u
      → passes v j ≡ keep (layout_entry t v).box c (slots_positions u)

-- A walk sees the wide tree in the record: the record has the layout's shape; a slot's bit and rank are its inner child's; slots are passed as
-- children are kept; and a position passes its own test as its place in the index list does.
pub record SeesTree {RayData Distance : Type 0} (W : WalkRecord RayData Distance) (ray : RayData) (t : Wide)
    (keep : Aabb → Aabb → List ℕ → Bool) (own : ℕ → Bool) : Type 0 where
  pub reads : Reads W.shape t
  pub bits : (v j : ℕ) → v < nodes t → j < 8 → inner_bit (W.imask v) j ≡ child_inner (content_at (layout_entry t v).slots j)
  pub ranks : (v j : ℕ) → v < nodes t → j < 8 → child_number W v j ≡ (layout_entry t v).child_base + inner_before (layout_entry t v).slots j
  pub keeps : KeepsChildren t keep (W.passes ray)
  pub admitted : (p : ℕ) → p < index_count t → W.admits ray p ≡ own (get_or (index_list t) p 0)

-- ---- what a slot has

bit_clear : (b : ℕ) (p : Bool) → b ≡ 0 → (eqb b 1 && p) ≡ false
bit_clear b p e = rw e

bit_set : (b : ℕ) (p : Bool) → b ≡ 1 → (eqb b 1 && p) ≡ p
bit_set b p e = rw e

module _ {RayData Distance : Type 0} (W : WalkRecord RayData Distance) (Rule : ℕ → Type 0) (laws : SlotLaws W Rule) (sound : Sound W.shape Rule)
    (ray : RayData) (accepted : W.forged ray ≡ false) (t : Wide) (keep : Aabb → Aabb → List ℕ → Bool) (own : ℕ → Bool)
    (sees : SeesTree W ray t keep own) where
  abbrev box : ℕ → Aabb
  box v = (layout_entry t v).box

  abbrev content : ℕ → ℕ → Content
  content v j = content_at (layout_entry t v).slots j

  there : (v : ℕ) → v < nodes t → v < W.shape.nodes
  there v h = omega (arith, sees.reads.nodes)

  -- ---- what is gathered from a node

  module _ (of_leaf : List ℕ → ℕ) where
    -- what a leaf child in a slot gives
    abbrev leaf_share : Aabb → Content → ℕ
    leaf_share b none = 0
    leaf_share b (leaf_child c ps) = cond (keep b c ps) (of_leaf ps) 0
    leaf_share b (inner_child c u) = 0

  module _ (of_leaf : List ℕ → ℕ) (of_inner : ℕ) (value : ℕ → ℕ) where
    abbrev pub gathered : ℕ → ℕ
    gathered v = gather_below 0 ◌+◌ (children_passed W ray) value W.shape.nodes v

    abbrev pub below : Aabb → Slots 8 → ℕ
    below b s = kept keep 0 ◌+◌ of_leaf of_inner b s

    -- a slot gives what its leaf child gives, and what is gathered from its inner child's node where the ray passes it
    slot_share : (v j : ℕ) → v < nodes t → j < 8
        → ((c : Aabb) (u : Slots 8) → content v j ≡ inner_child c u → gathered (child_number W v j) ≡ of_inner + below c u)
        → leaf_share of_leaf (box v) (content v j) + cond (passed_child W ray v j) (gathered (child_number W v j)) 0
        ≡ share keep of_leaf of_inner (box v) (content v j)
    unfolding share child_inner
    slot_share v j h l f = go (content v j) refl
      where
        bit : ℕ
        bit = inner_bit (W.imask v) j

        go : (c : Content) → content v j ≡ c
            → leaf_share of_leaf (box v) c + cond (passed_child W ray v j) (gathered (child_number W v j)) 0 ≡ share keep of_leaf of_inner (box v) c
        go none e = rw (bit_clear bit (W.passes ray v j) (sees.bits v j h l ∙ ap child_inner e))
        go (leaf_child c ps) e =
            rw (bit_clear bit (W.passes ray v j) (sees.bits v j h l ∙ ap child_inner e)) (omega arith)
        go (inner_child c u) e =
            rw (bit_set bit (W.passes ray v j) (sees.bits v j h l ∙ ap child_inner e), sees.keeps.inner_kept v j h l c u e, f c u e) (omega arith)

    -- where each node itself gives what its leaf children give, what is gathered from a node is what the kept children give below it
    module _ (own_value : (v : ℕ) → v < nodes t → value v ≡ of_inner + sum (λ j. leaf_share of_leaf (box v) (content v j)) 8) where
      gathered_below : (k v : ℕ) → v < nodes t → nodes t ≤ v + k → gathered v ≡ of_inner + below (box v) (layout_entry t v).slots
      gathered_below zero v h l = absurd (omega arith)
      gathered_below (suc k) v h l =
          omega (
            arith,
            gather_is 0 ◌+◌ (children_passed W ray) value W.shape.nodes (passed_rises (slots_sound W Rule laws sound) ray accepted) v (there v h),
            joined_sum gathered (children_passed W ray v),
            children_sum W ray (laws.octant_lt ray accepted) gathered v,
            own_value v h,
            sum-add (λ j. leaf_share of_leaf (box v) (content v j)) (λ j. cond (passed_child W ray v j) (gathered (child_number W v j)) 0) 8,
            sum_cong (λ j. leaf_share of_leaf (box v) (content v j) + cond (passed_child W ray v j) (gathered (child_number W v j)) 0)
                (λ j. share keep of_leaf of_inner (box v) (content v j)) 8
                (λ j i. slot_share v j h i (λ c u e. child_value (gathered_below k) j i c u e)),
            kept_by_slots keep of_leaf of_inner (box v) (layout_entry t v).slots,
          )
        where
          -- the node of an inner child
          child_value : ((x : ℕ) → x < nodes t → nodes t ≤ x + k → gathered x ≡ of_inner + below (box x) (layout_entry t x).slots)
              → (j : ℕ) → j < 8 → (c : Aabb) (u : Slots 8) → content v j ≡ inner_child c u → gathered (child_number W v j) ≡ of_inner + below c u
          child_value r j i c u e =
              let x = (layout_entry t v).child_base + inner_before (layout_entry t v).slots j in
              let n = node_child t v h j c u e in
              let p = child_there t v h j c u e in
              ap gathered (sees.ranks v j h i) ∙ r x p.1 (omega (arith, p.0)) ∙ ap₂ (λ (a : Aabb) (s : Slots 8). of_inner + below a s) n.box n.slots

      gathered_first : gathered 0 ≡ of_inner + below t.box t.slots
      gathered_first =
          let e = (node-each t).0 in
          gathered_below (nodes t) 0 (omega (arith, some-node t)) (omega arith)
          ∙ ap (λ (x : Entry). of_inner + below x.box x.slots) e

  -- ---- of a node's positions

  abbrev word : ℕ → ℕ
  word p = get_or (index_list t) p 0

  module _ (f : ℕ → ℕ) where
    only_where : (b : Bool) (l : List ℕ) → sum_over f (cond b l []) ≡ cond b (sum_over f l) 0
    unfolding sum_over
    only_where true l = refl
    only_where false l = refl

  -- a leaf child's positions stand at a place of the index list, each with its own test
  range_words : (f : ℕ → ℕ) (ps : List ℕ) (a : ℕ)
      → ((i : ℕ) → i < length ps → (word (a + i) ≡ get_or ps i 0) × (W.admits ray (a + i) ≡ own (word (a + i))))
      → sum_over (λ p. f (word p)) (filter (W.admits ray) (upto a (length ps))) ≡ sum_over f (filter own ps)
  unfolding upto sum_over
  range_words f [] a h = refl
  range_words f (x ∷ ps) a h =
      here (own x) (ap (λ (p : ℕ). W.admits ray p) z ∙ (h 0 (omega arith)).1 ∙ ap own w)
      (range_words f ps (suc a) (λ i l. let r = h (suc i) (omega arith) in
      let n : a + suc i ≡ suc a + i = omega arith in
      (ap word (sym n) ∙ r.0, ap (λ (p : ℕ). W.admits ray p) (sym n) ∙ r.1 ∙ ap (λ (p : ℕ). own (word p)) n)))
    where
      z : a ≡ a + 0
      z = omega arith

      w : word (a + 0) ≡ x
      w = (h 0 (omega arith)).0

      here : (b : Bool) → W.admits ray a ≡ b
          → sum_over (λ p. f (word p)) (filter (W.admits ray) (upto (suc a) (length ps))) ≡ sum_over f (filter own ps)
          → sum_over (λ p. f (word p)) (cond (W.admits ray a) (a ∷ filter (W.admits ray) (upto (suc a) (length ps)))
          (filter (W.admits ray) (upto (suc a) (length ps)))) ≡ sum_over f (cond b (x ∷ filter own ps) (filter own ps))
      here true e r = rw e (let y : f (word a) ≡ f x = ap f (ap word z ∙ w) in omega arith)
      here false e r = rw e r

  module _ (v j : ℕ) (h : v < nodes t) (l : j < 8) where
    count : W.shape.count v j ≡ length (child_positions (content v j))
    count = count_of W.shape t sees.reads v j h l

    slot_words : (f : ℕ → ℕ) → sum_over (λ p. f (word p)) (slot_passed W ray v j)
        ≡ leaf_share (λ ps. sum_over f (filter own ps)) (box v) (content v j)
    unfolding child_positions upto sum_over
    slot_words f = go (content v j) refl
      where
        none_there : W.shape.count v j ≡ 0 → sum_over (λ p. f (word p)) (slot_passed W ray v j) ≡ 0
        none_there z = rw z (only_where (λ p. f (word p)) (W.passes ray v j) [] ∙ zero_either (W.passes ray v j))

        go : (c : Content) → content v j ≡ c
            → sum_over (λ p. f (word p)) (slot_passed W ray v j) ≡ leaf_share (λ ps. sum_over f (filter own ps)) (box v) c
        go none e = none_there (count ∙ ap (λ (c : Content). length (child_positions c)) e)
        go (inner_child c u) e = none_there (count ∙ ap (λ (c : Content). length (child_positions c)) e)
        go (leaf_child c ps) e =
            only_where (λ p. f (word p)) (W.passes ray v j) (filter (W.admits ray) (upto (W.shape.start v j) (W.shape.count v j)))
            ∙ ap₂ (λ (b : Bool) (m : ℕ). cond b m 0) (sees.keeps.leaf_kept v j h l c ps e)
            (ap (λ (m : ℕ). sum_over (λ p. f (word p)) (filter (W.admits ray) (upto (W.shape.start v j) m)))
            (count ∙ ap (λ (x : Content). length (child_positions x)) e)
            ∙ range_words f ps (W.shape.start v j) (λ i k. let r = held_word W.shape t sees.reads v j h l ps (ap child_positions e) i k in
            (r.0, sees.admitted (W.shape.start v j + i) r.1)))

  -- ---- the whole

  -- values of the words at the passed positions, gathered from the first node, are those of what is met of the tree
  pub words_gathered : (f : ℕ → ℕ) → gathered (λ ps. sum_over f (filter own ps)) 0 (λ v. sum_over (λ p. f (word p)) (positions_passed W ray v)) 0
      ≡ below (λ ps. sum_over f (filter own ps)) 0 (λ v. sum_over (λ p. f (word p)) (positions_passed W ray v)) t.box t.slots
  words_gathered f =
      gathered_first (λ ps. sum_over f (filter own ps)) 0 (λ v. sum_over (λ p. f (word p)) (positions_passed W ray v))
      (λ v h.
      positions_sum W Rule laws sound ray accepted v (there v h) (λ p. f (word p))
      ∙ sum_cong (λ j. sum_over (λ p. f (word p)) (slot_passed W ray v j))
      (λ j. leaf_share (λ ps. sum_over f (filter own ps)) (box v) (content v j)) 8 (λ j l. slot_words v j h l f)
      ∙ omega arith) ∙ omega arith

  -- and the nodes gathered are those reached in it
  pub nodes_gathered : gathered (λ ps. 0) 1 (λ v. 1) 0 ≡ 1 + below (λ ps. 0) 1 (λ v. 1) t.box t.slots
  nodes_gathered =
      gathered_first (λ ps. 0) 1 (λ v. 1)
      (λ v h. omega (arith, sum-zero (λ j. leaf_share (λ ps. 0) (box v) (content v j)) 8 (λ j l. nothing (box v) (content v j))))
    where
      nothing : (b : Aabb) (c : Content) → leaf_share (λ ps. 0) b c ≡ 0
      nothing b none = refl
      nothing b (leaf_child c ps) = zero_either (keep b c ps)
      nothing b (inner_child c u) = refl
