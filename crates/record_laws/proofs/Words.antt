-- A record of a wide tree's layout has in the leaf range of a slot the words of the leaf child there.
use mathlib.Core.List.{List}
use mathlib.Core.Path.{◌≡◌, sym, ap, ◌∙◌}
use Prim.Native.Nat.{ℕ, ◌+◌, ◌<◌}
use native.Mathlib.Omega.{arith}
use lib.ListN.{length, get_or, take, drop}
use Rattle.std.proofs.lemmas.List.{get_or-drop, get_or-take}
use Rattle.soundness.specs.Shape.{Shape}
use Rattle.wide_layout.specs.Wide.{Slots, Wide}
use Rattle.wide_layout.specs.Content.{content_at}
use Rattle.wide_layout.specs.Sizes.{own_before, own_at}
use Rattle.wide_layout.specs.Layout.{nodes, index_list, index_count}
use Rattle.wide_layout.specs.Ranges.{Holding}
use Rattle.wide_layout.specs.Shape.{layout_entry, EntryInside, ReadsNode, Reads}
use Rattle.wide_layout.proofs.Sizes.{own_inside}
use Rattle.wide_layout.proofs.Placed.{inside}
use Rattle.wide_layout.proofs.Each.{node_has, node-number}
use Rattle.wide_layout.proofs.Held.{holding}
use Rattle.record.specs.Children.{child_positions}
use Rattle.record_laws.proofs.Slots.{own_child, positions_content}

module _ (S : Shape) (t : Wide) (reads : Reads S t) (v j : ℕ) (h : v < nodes t) (l : j < 8) where
  abbrev slots : Slots 8
  slots = (layout_entry t v).slots

  reads_node : ReadsNode S (layout_entry t v)
  reads_node = node_has (ReadsNode S) t reads.each v h

  -- it is as long as that has positions
  pub count_of : S.count v j ≡ length (child_positions (content_at slots j))
  count_of = ap (λ (i : ℕ). S.count i j) (sym (node-number t v h)) ∙ reads_node.count j l ∙ own_child slots j

  start_of : 0 < own_at slots j → S.start v j ≡ (layout_entry t v).position_base + own_before slots j
  start_of p = ap (λ (i : ℕ). S.start i j) (sym (node-number t v h)) ∙ reads_node.start j l p

  -- and position i of the leaf child stands in the index list at place i of it, which is there
  pub held_word : (ps : List ℕ) → child_positions (content_at slots j) ≡ ps → (i : ℕ) → i < length ps
      → (get_or (index_list t) (S.start v j + i) 0 ≡ get_or ps i 0) × (S.start v j + i < index_count t)
  held_word ps e i k =
      let n : own_at slots j ≡ length ps = own_child slots j ∙ ap length e in
      let a = start_of (omega arith) in
      let b = (layout_entry t v).position_base + own_before slots j in
      let g : take (own_at slots j) (drop b (index_list t)) ≡ ps =
      node_has (Holding (index_list t)) t (holding t) v h j ∙ positions_content slots j ∙ e in
      let z = node_has (EntryInside (nodes t) (index_count t)) t (inside t) v h in (
        ap (λ (x : ℕ). get_or (index_list t) (x + i) 0) a
            ∙ sym (get_or-drop b (index_list t) i 0)
            ∙ sym (get_or-take (own_at slots j) (drop b (index_list t)) i 0 (omega arith))
            ∙ ap (λ (y : List ℕ). get_or y i 0) g,
        omega (arith, own_inside slots j, z.positions),
      )
