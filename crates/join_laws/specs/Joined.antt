-- What is claimed of two trees joined (02, [4]). `join_of c` is what a call answers, and leaves of the slices lent.
use Rattle.std.specs.Prelude.{true, List, [], ◌∷◌, ◌++◌, ◌≡◌, ℕ, zero, suc, ◌+◌, ◌*◌, ◌≤◌, ◌<◌, length, get_or, take, drop, replicate}
use Rattle.aabb.specs.declared.Aabb.{Aabb}
use Rattle.aabb.specs.Aabb.{union_of, accepted_box, HoldsBox, NoMinusZero}
use Rattle.bvh2.specs.Tree.{Tree, leaf, inner, box_of, relabel, reposition}
use Rattle.bvh2.specs.Words.{tree_nodes, box_at, tree_of}
use Rattle.bvh2.specs.Causes.{Accepted}
use Rattle.bvh2.specs.Words.{boxed_words}
use Rattle.join.specs.Join.{JoinCall, first_leaves, second_leaves, both_leaves, moved_node, marks_needed, joined, join_of}

-- ---- the tree that two become

-- the number that a node gets: a root its own, another the one it had, moved up
abbrev pub moved_label : (root nodes : ℕ) → ℕ → ℕ
moved_label root nodes v = elim v [ zero ↦ root | suc k ↦ suc k + nodes ]

-- both under a root that has the union of their boxes; the second's leaves stand as many positions higher as the first, of n leaves, has
unfoldable pub joined_tree : (n : ℕ) → Tree ℕ → Tree ℕ → Tree ℕ
unfolding relabel reposition
joined_tree n t u =
    inner 0 (union_of (box_of t) (box_of u)) (relabel (moved_label 1 2) t) (reposition (λ p. p + n) (relabel (moved_label 2 (2 * n)) u))

-- the seven words of node v
abbrev pub seven_words : List ℕ → ℕ → List ℕ
seven_words ws v = take 7 (drop (v * 7) ws)

-- Words that hold two trees, of n and m leaves, node by node: the new root; the old roots; the rest of the first in its order; the rest of the second
-- in its own.
pub record InOrder (ws : List ℕ) (n : ℕ) (us : List ℕ) (m : ℕ) (both : List ℕ) : Type 0 where
  pub root : seven_words both 0 ≡ boxed_words (union_of (box_at ws 0) (box_at us 0)) 1
  pub first_root : seven_words both 1 ≡ moved_node ws 2 0 0
  pub second_root : seven_words both 2 ≡ moved_node us (2 * n) n 0
  pub first_rest : (v : ℕ) → 0 < v → v < tree_nodes n → seven_words both (v + 2) ≡ moved_node ws 2 0 v
  pub second_rest : (v : ℕ) → 0 < v → v < tree_nodes m → seven_words both (v + 2 * n) ≡ moved_node us (2 * n) n v

-- the leaves from left to right, each by its box and the index word at its position
unfoldable pub leaf_panes : {A : Type 0} → List ℕ → Tree A → List (Aabb × ℕ)
leaf_panes indices (leaf v b p) = (b, get_or indices p 0) ∷ []
leaf_panes indices (inner v b l r) = leaf_panes indices l ++ leaf_panes indices r

-- the same leaf with its index word counted on from so many panes
abbrev pub counted_on : (panes : ℕ) → Aabb × ℕ → Aabb × ℕ
counted_on panes x = (x.0, x.1 + panes)

-- ---- a call
module _ (c : JoinCall) where
  -- it gives a tree, and not a refusal
  abbrev pub Joins : Type 0
  Joins = (join_of c).answer ≡ joined (both_leaves c)

  -- the words and index words that it then writes, in front of the slices lent
  abbrev pub words_given : List ℕ
  words_given = take (tree_nodes (both_leaves c) * 7) (join_of c).words

  abbrev pub indices_given : List ℕ
  indices_given = take (both_leaves c) (join_of c).indices

  -- the trees that it is given, and the one that it gives
  abbrev pub first_tree : Tree ℕ
  first_tree = tree_of c.first

  abbrev pub second_tree : Tree ℕ
  second_tree = tree_of c.second

  abbrev pub tree_given : Tree ℕ
  tree_given = tree_of words_given

  -- both trees are accepted
  abbrev pub BothAccepted : Type 0
  BothAccepted = Accepted c.first (first_leaves c) × Accepted c.second (second_leaves c)

  -- the lent slices are long enough
  pub record HasRoom : Type 0 where
    pub marks : marks_needed (first_leaves c) (second_leaves c) ≤ length c.marks
    pub words : tree_nodes (both_leaves c) * 7 ≤ length c.words
    pub indices : both_leaves c ≤ length c.indices

  -- the root box that it gives is the union of the old ones, is accepted, and holds both; no end of it is -0
  pub record RootBox : Type 0 where
    pub union : box_of tree_given ≡ union_of (box_of first_tree) (box_of second_tree)
    pub accepted : accepted_box (box_of tree_given) ≡ true
    pub holds_first : HoldsBox (box_of tree_given) (box_of first_tree)
    pub holds_second : HoldsBox (box_of tree_given) (box_of second_tree)
    pub plain : NoMinusZero (box_of tree_given).min × NoMinusZero (box_of tree_given).max

  -- what lies behind all that it writes is as it was, and the marks that it needs are zero
  pub record RestKept : Type 0 where
    pub words : drop (tree_nodes (both_leaves c) * 7) (join_of c).words ≡ drop (tree_nodes (both_leaves c) * 7) c.words
    pub indices : drop (both_leaves c) (join_of c).indices ≡ drop (both_leaves c) c.indices
    pub marks : drop (marks_needed (first_leaves c) (second_leaves c)) (join_of c).marks
        ≡ drop (marks_needed (first_leaves c) (second_leaves c)) c.marks
    pub zeros : take (marks_needed (first_leaves c) (second_leaves c)) (join_of c).marks
        ≡ replicate (marks_needed (first_leaves c) (second_leaves c)) 0

  -- nothing is written
  pub record NothingWritten : Type 0 where
    pub answer : (join_of c).answer ≡ joined 0
    pub marks : (join_of c).marks ≡ c.marks
    pub words : (join_of c).words ≡ c.words
    pub indices : (join_of c).indices ≡ c.indices
