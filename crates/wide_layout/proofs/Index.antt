-- Positions in the order in which they are written are the positions slot by slot, rearranged.
use mathlib.Core.List.Perm
use mathlib.Core.List.{List, [], ◌++◌, append_assoc, map, Perm}
use mathlib.Core.List.{perm_append_comm}
use Prim.Native.Nat.{ℕ}
use Rattle.wide_layout.specs.Wide.{Slots, end, empty, leaf, inner, Wide}
use Rattle.wide_layout.specs.Sizes.{own_positions, positions_below, slots_positions}
use Rattle.wide_layout.specs.Layout.{index_list}

swap : (a b c : List ℕ) → Perm (a ++ (b ++ c)) (b ++ (a ++ c))
swap a b c = simp append_assoc at (Perm.append_right c (perm_append_comm a b))

pub slots_rearranged : {w : ℕ} (s : Slots w) → Perm (own_positions s ++ positions_below s) (slots_positions s)
slots_rearranged end = Perm.refl []
slots_rearranged (empty s) = slots_rearranged s
slots_rearranged (leaf b ps s) = rw append_assoc (Perm.append_left ps (slots_rearranged s))
slots_rearranged (inner b t s) = Perm.trans (swap (own_positions s) (own_positions t ++ positions_below t) (positions_below s))
    (Perm.append (slots_rearranged t) (slots_rearranged s))

-- so the index list, each position by what stands for it, is the tree's positions so, rearranged
pub indices_rearranged : (t : Wide) (index : ℕ → ℕ) → Perm (map index (index_list t)) (map index (slots_positions t.slots))
indices_rearranged t index = Perm.map index (slots_rearranged t.slots)
