-- The wide tree with ordering on or off (01, "Corners of each file", bvh2_to_cwbvh.rs).
use Rattle.std.specs.Prelude.{Bool, List, ℕ}
use Rattle.bvh2.specs.Tree.{Tree}
use Rattle.bvh2.specs.Words.{tree_of}
use Rattle.wide_layout.specs.Wide.{Wide}
use Rattle.order.specs.Assign.{child_of}
use Rattle.order.specs.Order.{slots_of}
use Rattle.wide_tree.specs.WideTree.{Placing, wide_of}

-- children to slots by direction costs, or each in the slot of its own number
abbrev pub placing : Bool → Placing
placing ordered box boxes = let ps = slots_of ordered box boxes in λ s. child_of ps s

-- the wide tree of a binary tree
abbrev pub wide_tree : {A : Type 0} → Bool → ℕ → Tree A → Wide
wide_tree ordered limit t = wide_of (placing ordered) limit t

-- the wide tree of a binary tree's words
abbrev pub wide_tree_of : List ℕ → Bool → ℕ → Wide
wide_tree_of ws ordered limit = wide_tree ordered limit (tree_of ws)
