-- Internal: what a branch stands for.
use Rattle.std.specs.Prelude.{◌≡◌, List, ℕ, ◌+◌, ◌≤◌, length}
use Rattle.bvh2.specs.Tree.{Tree}
use Rattle.cost.specs.Table.{word_of}
use Rattle.cost.specs.Rows.{RowsHold}
use Rattle.children.specs.Tabled.{subtree_at}
use Rattle.children.specs.declared.branch.Branch.{Branch}

-- its tree's words
abbrev pub words_of : Branch → List ℕ
words_of b = b.tree.now.words.now

-- and decision words
abbrev pub decisions_of : Branch → List ℕ
decisions_of b = b.tree.now.decisions.now

-- the subtree that its node reads as
abbrev pub subtree_of : Branch → Tree ℕ
subtree_of b = subtree_at (words_of b) b.node

-- its decision words are those for a limit
abbrev pub DecidedBy : ℕ → Branch → Type 0
DecidedBy limit b = RowsHold (word_of limit) 0 (decisions_of b) (subtree_of b)

-- c is the branch of node v of the same tree
pub record BranchAt (b : Branch) (v : ℕ) (c : Branch) : Type 0 where
  pub tree : c.tree ≡ b.tree
  pub node : c.node ≡ v

-- for a limit that they are for, the nodes that it gives have places behind `count` of eight
pub record Room (b : Branch) (count : ℕ) (given : ℕ → List (Tree ℕ)) : Type 0 where
  pub limit : ℕ
  pub decided : DecidedBy limit b
  pub slots : count + length (given limit) ≤ 8
