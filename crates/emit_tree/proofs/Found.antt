-- From the children that were gathered to a node's slots.
use mathlib.Core.Path.{◌≡◌, refl, sym, ap, ap₂, ◌∙◌}
use mathlib.Core.Bool.{Bool, true, false}
use mathlib.Core.List.{List, [], ◌∷◌, map}
use Prim.Native.Nat.{ℕ, zero, suc, ◌+◌, ◌-◌, ◌*◌, ◌≤◌, ◌<◌}
use native.Mathlib.Nat.{zero-add, le_of_suc-le-suc, not-suc-le-zero}
use native.Mathlib.Omega.{arith}
use lib.ListN.{length, get_or, take, drop, replicate, length-map}
use lib.Seq.{take_at, get_or-take}
use Rattle.lists.specs.Splice.{splice}
use Rattle.aabb.specs.declared.Aabb.{Aabb}
use Rattle.bvh2.specs.Tree.{Tree, label_of, box_of}
use Rattle.bvh2.specs.Words.{box_at, tree_at}
use Rattle.bvh2.proofs.Reading.{box_is}
use Rattle.bvh2.proofs.Subtree.{node}
use Rattle.bvh2.proofs.Decoded.{subtree_leaves}
use Rattle.cost.specs.Table.{word_of}
use Rattle.cost.specs.Rows.{RowsHold}
use Rattle.children.specs.Gather.{gather, EachTree}
use Rattle.children.specs.Tabled.{Tabled, Gathered}
use Rattle.children.proofs.Gather.{gather_width}
use Rattle.children.proofs.Reread.{Reread, gather_here}
use Rattle.order.specs.Lists.{padded}
use Rattle.order.specs.Assign.{partner}
use Rattle.order.specs.Order.{gathered_order, slots_of, placed}
use Rattle.emit_tree.specs.Emission.{slot_words}

-- the boxes of gathered nodes, read by their numbers, and that they can be read
boxes_read : (ws ds : List ℕ) (n limit d : ℕ) (g : List (Tree ℕ)) → EachTree (Reread ws ds n limit d) g → map (box_at ws) (map label_of g)
    ≡ map box_of g
unfolding EachTree
boxes_read ws ds n limit d [] h = refl
boxes_read ws ds n limit d (t ∷ g) h =
    ap₂ (λ (b : Aabb) (bs : List Aabb). b ∷ bs) (sym (box_is ws d (label_of t)) ∙ ap box_of h.0.tree) (boxes_read ws ds n limit d g h.1)

rows_read : (ws ds : List ℕ) (n limit d : ℕ) (g : List (Tree ℕ)) → EachTree (Reread ws ds n limit d) g → (i : ℕ) → i < length (map label_of g)
    → get_or (map label_of g) i 0 * 7 + 6 < length ws
unfolding EachTree
rows_read ws ds n limit d [] h i l = absurd (not-suc-le-zero l)
rows_read ws ds n limit d (t ∷ g) h zero l = let k = node h.0.subtree in omega (arith, k.room)
rows_read ws ds n limit d (t ∷ g) h (suc i) l = rows_read ws ds n limit d g h.1 i (le_of_suc-le-suc l)

-- up to eight children in their order, and z behind them, are the children placed in order
in_order_placed : {A : Type 0} (z : A) (xs : List A) → length xs ≤ 8 → splice (replicate 8 z) 0 xs ≡ placed z (gathered_order (length xs)) xs
unfolding splice placed gathered_order partner
in_order_placed z [] h = refl
in_order_placed z (a ∷ []) h = refl
in_order_placed z (a ∷ b ∷ []) h = refl
in_order_placed z (a ∷ b ∷ c ∷ []) h = refl
in_order_placed z (a ∷ b ∷ c ∷ d ∷ []) h = refl
in_order_placed z (a ∷ b ∷ c ∷ d ∷ e ∷ []) h = refl
in_order_placed z (a ∷ b ∷ c ∷ d ∷ e ∷ f ∷ []) h = refl
in_order_placed z (a ∷ b ∷ c ∷ d ∷ e ∷ f ∷ g ∷ []) h = refl
in_order_placed z (a ∷ b ∷ c ∷ d ∷ e ∷ f ∷ g ∷ i ∷ []) h = refl
in_order_placed z (a ∷ b ∷ c ∷ d ∷ e ∷ f ∷ g ∷ i ∷ j ∷ xs) h = absurd (omega arith)

module _ {ws ds : List ℕ} {d v r : ℕ} {found : List ℕ} (h : Tabled ws ds d v)
    (k : (limit : ℕ) → RowsHold (word_of limit) 0 ds (tree_at ws d v)
    → Gathered (gather limit (tree_at ws d v) 0) 0 (replicate 8 0xffff_ffff) found r)
  where
    -- as many as there are, and their numbers
    number : (limit : ℕ) → RowsHold (word_of limit) 0 ds (tree_at ws d v) → length (map label_of (gather limit (tree_at ws d v) 0)) ≡ r
    number limit z = length-map (gather limit (tree_at ws d v) 0) label_of ∙ sym ((k limit z).number ∙ zero-add _)

    numbers : (limit : ℕ) → RowsHold (word_of limit) 0 ds (tree_at ws d v) → take r found ≡ map label_of (gather limit (tree_at ws d v) 0)
    unfolding splice
    numbers limit z =
        let g = gather limit (tree_at ws d v) 0 in
        ap (take r) (k limit z).written ∙ take_at (map label_of g) (drop (0 + length (map label_of g)) (replicate 8 0xffff_ffff)) r (number limit z)

    pub found_few : r ≤ 8
    found_few =
        omega (
          arith,
          number h.limit h.holds,
          length-map (gather h.limit (tree_at ws d v) 0) label_of,
          gather_width h.limit (tree_at ws d v) h.tree.boxes (omega (arith, subtree_leaves h.tree, h.tree.few)),
        )

    pub found_read : (i : ℕ) → i < r → get_or found i 0 * 7 + 6 < length ws
    found_read i l =
        let g = gather h.limit (tree_at ws d v) 0 in
        let e : get_or found i 0 ≡ get_or (map label_of g) i 0 = sym (get_or-take r found i 0 l) ∙ ap (λ (xs : List ℕ). get_or xs i 0)
        (numbers h.limit h.holds) in
        let q = rows_read ws ds h.n h.limit d g (gather_here ws ds h.n h.limit d v h.tree h.holds 0) i
        (omega (arith, number h.limit h.holds)) in
        rw e q

    -- with ordering
    pub found_slots : (ordered : Bool) → ordered ≡ true → (p : Aabb) (bs : List Aabb) → p ≡ box_at ws v → bs
        ≡ padded p (map (box_at ws) (take r found))
        → (limit : ℕ) → RowsHold (word_of limit) 0 ds (tree_at ws d v)
        → placed 0xffff_ffff (slots_of true p (take r bs)) (take r found) ≡ slot_words ordered limit (tree_at ws d v)
    unfolding slot_words padded
    found_slots ordered o p bs e f limit z =
        let g = gather limit (tree_at ws d v) 0 in
        let l = map label_of g in
        let b : take r bs ≡ map box_of g =
        ap (take r) (f ∙ ap (λ (xs : List ℕ). padded p (map (box_at ws) xs)) (numbers limit z))
        ∙ take_at (map (box_at ws) l) (replicate (8 - length (map (box_at ws) l)) p) r (length-map l (box_at ws) ∙ number limit z)
        ∙ boxes_read ws ds h.n limit d g (gather_here ws ds h.n limit d v h.tree z 0) in
        rw (numbers limit z, b, e, ← (box_is ws d v), o) refl

    -- without
    pub found_in_order : (ordered : Bool) → ordered ≡ false → (limit : ℕ) → RowsHold (word_of limit) 0 ds (tree_at ws d v) → found
        ≡ slot_words ordered limit (tree_at ws d v)
    unfolding slot_words slots_of
    found_in_order ordered o limit z =
        let g = gather limit (tree_at ws d v) 0 in
        let n : length (map label_of g) ≡ length (map box_of g) = length-map g label_of ∙ sym (length-map g box_of) in
        rw o
        ((k limit z).written
        ∙ in_order_placed 0xffff_ffff (map label_of g) (omega (arith, number limit z, found_few))
        ∙ ap (λ (m : ℕ). placed 0xffff_ffff (gathered_order m) (map label_of g)) n)
