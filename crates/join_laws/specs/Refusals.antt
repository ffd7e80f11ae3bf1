-- Why a call of `join` is refused (02, [4]): each constructor is one way for the cause of that number to hold.
use Rattle.std.specs.Prelude.{List, ℕ, suc, ◌+◌, ◌*◌, ◌<◌, max, length, get_or}
use Rattle.causes.specs.Causes.{First}
use Rattle.bvh2.specs.Tree.{depth}
use Rattle.bvh2.specs.Words.{tree_nodes}
use Rattle.bvh2.specs.Causes.{Turn, Reaches, Cause}
use Rattle.join.specs.Join.{JoinCall, first_leaves, second_leaves, both_leaves, marks_needed}
use Rattle.join_laws.specs.Joined.{first_tree, second_tree}

-- some path of a tree of n leaves has more than 126 edges: one more is over 127
pub record DeepPath (ws : List ℕ) (n : ℕ) : Type 0 where
  pub node : ℕ
  pub path : List Turn
  pub there : node < tree_nodes n
  pub leads : Reaches ws node path
  pub edges : 126 < length path

-- both trees have leaves, and the greater depth with the edge to the new root is over 127
abbrev pub TooDeep : JoinCall → Type 0
TooDeep c = (0 < first_leaves c) × (0 < second_leaves c) × (127 < suc (max (depth (first_tree c)) (depth (second_tree c))))

-- a second index word and the first's panes make more than 32 bits hold
pub record SumOver (c : JoinCall) : Type 0 where
  pub place : ℕ
  pub there : place < second_leaves c
  pub over : 0xffff_ffff < get_or c.second_indices place 0 + c.panes

pub data JoinRefusal (c : JoinCall) : ℕ → Type 0 where
  -- 1, 2, 5, 6, 7: of either tree
  first_refused : {k : ℕ} → Cause c.first (first_leaves c) k → JoinRefusal c k
  second_refused : {k : ℕ} → Cause c.second (second_leaves c) k → JoinRefusal c k
  -- 2: of both together
  leaves_over : 65536 < both_leaves c → JoinRefusal c 2
  -- 4
  marks_short : length c.marks < marks_needed (first_leaves c) (second_leaves c) → JoinRefusal c 4
  words_short : length c.words < tree_nodes (both_leaves c) * 7 → JoinRefusal c 4
  indices_short : length c.indices < both_leaves c → JoinRefusal c 4
  -- 7: of the joined tree, where there is a new root
  first_deep : 0 < second_leaves c → DeepPath c.first (first_leaves c) → JoinRefusal c 7
  second_deep : 0 < first_leaves c → DeepPath c.second (second_leaves c) → JoinRefusal c 7
  -- 13
  sum_over_lem : SumOver c → JoinRefusal c 13

-- cause k holds, and none that is looked at before it
abbrev pub FirstJoinRefusal : JoinCall → ℕ → Type 0
FirstJoinRefusal c k = First (JoinRefusal c) k
