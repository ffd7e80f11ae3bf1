-- The wide tree of an accepted tree, with ordering on or off.
use mathlib.Core.Path.{◌≡◌, sym, subst, ◌∙◌}
use mathlib.Core.Bool.{Bool}
use mathlib.Core.Logic.{inl, inr}
use mathlib.Core.List.Perm
use mathlib.Core.List.{List, [], ◌∷◌, Perm}
use Prim.Native.Nat.{ℕ, ◌-◌, ◌≤◌, max}
use native.Mathlib.Omega.{arith}
use lib.Dec.{T}
use Rattle.lists.specs.Counts.{upto}
use Rattle.aabb.specs.declared.Aabb.{Aabb}
use Rattle.aabb.specs.Aabb.{accepted_box}
use Rattle.bvh2.specs.Tree.{positions}
use Rattle.bvh2.specs.Words.{tree_of}
use Rattle.bvh2.specs.Decoded.{Decoded}
use Rattle.bvh2.proofs.Decoded.{decoded_leaves}
use Rattle.order.specs.Assign.{slot_of}
use Rattle.order.specs.Order.{slots_of}
use Rattle.order.proofs.Lists.{All}
use Rattle.order.proofs.Slots.{slots_one_to_one}
use Rattle.wide_layout.specs.Layout as L
use Rattle.wide_layout.proofs.Index.{slots_rearranged}
use Rattle.wide_tree.specs.WideTree.{wide_of}
use Rattle.wide_tree.specs.Ordered.{placing, wide_tree_of}
use Rattle.wide_tree.proofs.WideTree.{AllAccepted, Places, Fine}
use Rattle.wide_tree.proofs.Positions.{wide_positions, wide_index, wide_nodes}

all_tests_lem : (boxes : List Aabb) → AllAccepted boxes → All (λ b. T (accepted_box b)) boxes
unfolding AllAccepted
all_tests_lem [] h = tt
all_tests_lem (b ∷ bs) h = (subst T (sym h.0) tt, all_tests_lem bs h.1)

-- each of up to eight accepted children has a slot of its own
pub places : (ordered : Bool) → Places (placing ordered)
places ordered box boxes few h k =
    let ps = slots_of ordered box boxes in
    let o = slots_one_to_one ordered box boxes few (subst T (sym h) tt) (all_tests_lem boxes k) in
    record {
      slot = slot_of ps;
      below = o.slot;
      there = o.there;
      back = λ s u v. elim (o.back s) [ inl e ↦ absurd (omega arith) | inr w ↦ w.2 ];
    }

-- ---- the tree of accepted words
pub fine : (ws : List ℕ) (n : ℕ) → Decoded ws n → Fine (tree_of ws)
fine ws n h = record { boxes = h.boxes; few = omega (arith, decoded_leaves ws n h, h.few) }

module _ (ordered : Bool) (limit : ℕ) (ws : List ℕ) (n : ℕ) (h : Decoded ws n) where
  -- the positions written, in the order in which they are written, are the tree's, each once
  pub index_list_lem : Perm (L.index_list (wide_tree_of ws ordered limit)) (positions (tree_of ws))
  unfolding wide_of
  index_list_lem = Perm.trans (slots_rearranged (wide_tree_of ws ordered limit).slots)
      (wide_positions (placing ordered) limit (places ordered) (tree_of ws) (fine ws n h))

  pub index_upto : Perm (L.index_list (wide_tree_of ws ordered limit)) (upto 0 n)
  index_upto = Perm.trans index_list_lem h.held

  pub index_count_lem : L.index_count (wide_tree_of ws ordered limit) ≡ n
  index_count_lem = wide_index (placing ordered) limit (places ordered) (tree_of ws) (fine ws n h) ∙ decoded_leaves ws n h

  -- a record of max(1, n − 1) nodes has room
  pub node-count : limit ≤ 3 → L.nodes (wide_tree_of ws ordered limit) ≤ max 1 (n - 1)
  node-count u = rw (decoded_leaves ws n h) at (wide_nodes (placing ordered) limit (places ordered) (tree_of ws) u (fine ws n h))
