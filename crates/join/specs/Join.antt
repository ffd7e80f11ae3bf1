-- Two trees joined under a new root (02, [4]).
use Rattle.std.specs.Prelude.{Bool, true, false, ◌&&◌, List, [], ◌∷◌, ◌++◌, map, ℕ, zero, suc, ◌+◌, ◌-◌, ◌*◌, max, eqb, leb, length, get_or}
use Rattle.std.specs.Prelude.{replicate}
use Rattle.lists.specs.Below.{all_below}
use Rattle.lists.specs.Splice.{splice}
use Rattle.lists.specs.Values.{values}
use Rattle.causes.specs.Causes.{Condition, ◌unless◌, first_cause}
use Rattle.aabb.specs.Aabb.{union_of}
use Rattle.bvh2.specs.Tree.{depth}
use Rattle.bvh2.specs.Words.{tree_nodes, children, position, malformed, link_of, word_at, box_at, tree_of}
use Rattle.bvh2.specs.FirstCause.{links_inside, boxes_accepted, is_tree}
use Rattle.bvh2.specs.Words.{boxed_words}
use Rattle.tree_words.specs.Nodes.{in_turn}
use Rattle.std.specs.Prelude.{Result, Ok, Err}
use Rattle.causes.specs.declared.Refusal.{Refusal}
use Rattle.causes.specs.Refusal.{cause_number}

-- what the call is given: two trees' words and index words, how many panes the first's indices name, and the three lent slices
pub record JoinCall : Type 0 where
  pub first : List ℕ
  pub first_indices : List ℕ
  pub panes : ℕ
  pub second : List ℕ
  pub second_indices : List ℕ
  pub marks : List ℕ
  pub words : List ℕ
  pub indices : List ℕ

-- how many leaves each tree has, and both
abbrev pub first_leaves : JoinCall → ℕ
first_leaves c = length c.first_indices

abbrev pub second_leaves : JoinCall → ℕ
second_leaves c = length c.second_indices

abbrev pub both_leaves : JoinCall → ℕ
both_leaves c = first_leaves c + second_leaves c

-- ---- the tree in words

-- a link word: that of a pair of children moved up by so many nodes, a leaf's by so many positions
unfoldable pub moved_link : (nodes positions : ℕ) → ℕ → ℕ
moved_link nodes positions w = elim (link_of w) [ children f ↦ w + nodes | position p ↦ w + positions | malformed ↦ w ]

-- node v: its box words as they are, then its link word moved
unfoldable pub moved_node : List ℕ → (nodes positions v : ℕ) → List ℕ
unfolding moved_link
moved_node ws nodes positions v = values (word_at ws v) 6 ++ (moved_link nodes positions (word_at ws v 6) ∷ [])

-- first words with n leaves, second words with m
module _ (ws : List ℕ) (n : ℕ) (us : List ℕ) (m : ℕ) where
  -- The first's node v, from 1 on, becomes node v + 2, with the three roots before it; the second's becomes node 2n + v, with these and the first's
  -- 2n − 2 others before it.
  abbrev pub first_node : ℕ → List ℕ
  first_node = moved_node ws 2 0

  abbrev pub second_node : ℕ → List ℕ
  second_node = moved_node us (2 * n) n

  -- the new root, with the union of the old roots' boxes and nodes 1 and 2 as its children; the old roots; the first's other nodes in their order;
  -- the second's
  unfoldable pub under_root : List ℕ
  unfolding moved_node in_turn
  under_root =
      boxed_words (union_of (box_at ws 0) (box_at us 0)) 1 ++ first_node 0 ++ second_node 0 ++ in_turn (λ v. first_node (v + 1)) (tree_nodes n - 1)
      ++ in_turn (λ v. second_node (v + 1)) (tree_nodes m - 1)

-- with an empty partner a tree stays as it is
abbrev pub joined_words : List ℕ → ℕ → List ℕ → ℕ → List ℕ
joined_words ws zero us m = us
joined_words ws (suc n) us zero = ws
joined_words ws (suc n) us (suc m) = under_root ws (suc n) us (suc m)

-- the first's index words, then the second's, counted on from the first's panes
abbrev pub joined_indices : List ℕ → (panes : ℕ) → List ℕ → List ℕ
joined_indices l panes k = l ++ map (λ i. i + panes) k

-- ---- what refuses the call

-- the marks needed: one for each node and each position of the greater tree, since each tree is looked at by itself
abbrev pub marks_needed : (first second : ℕ) → ℕ
marks_needed n m = 3 * max n m - 1

-- room for them, for the joined words and for the index words
unfoldable pub room_for : (first_leaves second_leaves marks words indices : ℕ) → Bool
room_for n m marks words indices = leb (marks_needed n m) marks && leb (tree_nodes (n + m) * 7) words && leb (n + m) indices

-- 1, 2 and 4: the lengths of both trees' words, the number of leaves, the room
unfoldable pub size_tests : (firstWords first_leaves secondWords second_leaves marks words indices : ℕ) → List Condition
unfolding room_for
size_tests a n b m marks words indices =
    1 unless (eqb a (tree_nodes n * 7) && eqb b (tree_nodes m * 7)) ∷ 2 unless leb (n + m) 65536
    ∷ 4 unless room_for n m marks words indices ∷ []

-- cause 7 does not hold of words with n leaves; without leaves there is nothing that it could hold of
unfoldable pub tree_or_none : List ℕ → ℕ → Bool
unfolding is_tree
tree_or_none ws zero = true
tree_or_none ws (suc n) = is_tree (suc n) ws (tree_of ws)

-- the edge to a new root, where there is one, makes no path longer than 127
unfoldable pub edge_to_spare : List ℕ → ℕ → List ℕ → ℕ → Bool
unfolding depth
edge_to_spare ws zero us m = true
edge_to_spare ws (suc n) us zero = true
edge_to_spare ws (suc n) us (suc m) = leb (suc (max (depth (tree_of ws)) (depth (tree_of us)))) 127

-- 5 to 7, each of both trees before the next
unfoldable pub tree_tests : List ℕ → ℕ → List ℕ → ℕ → List Condition
unfolding tree_or_none edge_to_spare
tree_tests ws n us m =
    5 unless (links_inside ws n && links_inside us m) ∷ 6 unless (boxes_accepted ws n && boxes_accepted us m)
    ∷ 7 unless (tree_or_none ws n && tree_or_none us m && edge_to_spare ws n us m) ∷ []

-- 13: an index word of the second is one of 32 bits still when it is moved up
abbrev pub sums_fit : (panes : ℕ) → List ℕ → Bool
sums_fit panes l = all_below (λ i. leb (get_or l i 0 + panes) 0xffff_ffff) (length l)

-- all of them, in the order of causes, and the number of the first that holds
unfoldable pub join_tests : JoinCall → List Condition
unfolding size_tests tree_tests all_below
join_tests c =
    size_tests (length c.first) (first_leaves c) (length c.second) (second_leaves c) (length c.marks) (length c.words) (length c.indices)
    ++ tree_tests c.first (first_leaves c) c.second (second_leaves c) ++ 13 unless sums_fit c.panes c.second_indices ∷ []

abbrev pub join_cause : JoinCall → ℕ
join_cause c = first_cause (join_tests c)

-- ---- what the call answers, and leaves of the slices lent

-- how many leaves the joined tree has, or a refusal
pub data JoinAnswer : Type 0 where
  joined : (leaves : ℕ) → JoinAnswer
  refused_join : (number : ℕ) → JoinAnswer

-- an answer with the three slices as they are left
pub record JoinEnd : Type 0 where
  pub answer : JoinAnswer
  pub marks : List ℕ
  pub words : List ℕ
  pub indices : List ℕ

-- the marks needed are zero
abbrev pub zeroed_marks : JoinCall → List ℕ
zeroed_marks c = splice c.marks 0 (replicate (marks_needed (first_leaves c) (second_leaves c)) 0)

-- Words and indices stand in front of what was there. A refusal leaves both as they were, and the marks too unless it is one of 5 or more.
unfoldable pub join_by : (cause : ℕ) → JoinCall → JoinEnd
unfolding under_root splice
join_by zero c = record {
  answer = joined (both_leaves c);
  marks = zeroed_marks c;
  words = splice c.words 0 (joined_words c.first (first_leaves c) c.second (second_leaves c));
  indices = splice c.indices 0 (joined_indices c.first_indices c.panes c.second_indices);
}
join_by (suc k) c = record {
  answer = refused_join (suc k);
  marks = elim (leb (suc k) 4) [ true ↦ c.marks | false ↦ zeroed_marks c ];
  words = c.words;
  indices = c.indices;
}

-- so does the first cause decide
unfoldable pub join_of : JoinCall → JoinEnd
unfolding join_tests first_cause join_by
join_of c = join_by (join_cause c) c

-- the cases of the result in the requirements' terms
unfoldable pub joining_answer : Result ℕ Refusal → JoinAnswer
joining_answer (Ok leaves) = joined leaves
joining_answer (Err refusal) = refused_join (cause_number refusal)
