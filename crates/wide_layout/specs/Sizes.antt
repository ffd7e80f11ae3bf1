-- What the slots of a node hold (01, "Words, bytes and bounds"), and what lies further down.
use Rattle.std.specs.Prelude.{List, [], ◌++◌, ℕ, zero, suc, ◌+◌, ◌≤◌, max, length}
use Rattle.wide_layout.specs.Wide.{Slots, end, empty, leaf, inner}

-- ---- nodes

-- how many children: slots that are not empty
abbrev pub children : {w : ℕ} → Slots w → ℕ
children end = 0
children (empty s) = children s
children (leaf b ps s) = suc (children s)
children (inner b t s) = suc (children s)

-- how many inner children, and how many of them in the slots before slot k
abbrev pub inner_children : {w : ℕ} → Slots w → ℕ
inner_children end = 0
inner_children (empty s) = inner_children s
inner_children (leaf b ps s) = inner_children s
inner_children (inner b t s) = suc (inner_children s)

abbrev pub inner_before : {w : ℕ} → Slots w → ℕ → ℕ
inner_before end k = 0
inner_before (empty s) zero = 0
inner_before (empty s) (suc k) = inner_before s k
inner_before (leaf b ps s) zero = 0
inner_before (leaf b ps s) (suc k) = inner_before s k
inner_before (inner b t s) zero = 0
inner_before (inner b t s) (suc k) = suc (inner_before s k)

-- 1 if slot k has an inner child, else 0
abbrev pub inner_at : {w : ℕ} → Slots w → ℕ → ℕ
inner_at end k = 0
inner_at (empty s) zero = 0
inner_at (empty s) (suc k) = inner_at s k
inner_at (leaf b ps s) zero = 0
inner_at (leaf b ps s) (suc k) = inner_at s k
inner_at (inner b t s) zero = 1
inner_at (inner b t s) (suc k) = inner_at s k

-- how many nodes lie below the inner children
abbrev pub nodes_below : {w : ℕ} → Slots w → ℕ
nodes_below end = 0
nodes_below (empty s) = nodes_below s
nodes_below (leaf b ps s) = nodes_below s
nodes_below (inner b t s) = inner_children t + nodes_below t + nodes_below s

-- how many levels lie below the node
abbrev pub levels_below : {w : ℕ} → Slots w → ℕ
levels_below end = 0
levels_below (empty s) = levels_below s
levels_below (leaf b ps s) = levels_below s
levels_below (inner b t s) = max (suc (levels_below t)) (levels_below s)

-- ---- positions

-- the positions of the leaf children, in slot order, and how many they are
abbrev pub own_positions : {w : ℕ} → Slots w → List ℕ
own_positions end = []
own_positions (empty s) = own_positions s
own_positions (leaf b ps s) = ps ++ own_positions s
own_positions (inner b t s) = own_positions s

abbrev pub own_count : {w : ℕ} → Slots w → ℕ
own_count end = 0
own_count (empty s) = own_count s
own_count (leaf b ps s) = length ps + own_count s
own_count (inner b t s) = own_count s

-- how many of them stand in the slots before slot k, and how many slot k has
abbrev pub own_before : {w : ℕ} → Slots w → ℕ → ℕ
own_before end k = 0
own_before (empty s) zero = 0
own_before (empty s) (suc k) = own_before s k
own_before (leaf b ps s) zero = 0
own_before (leaf b ps s) (suc k) = length ps + own_before s k
own_before (inner b t s) zero = 0
own_before (inner b t s) (suc k) = own_before s k

abbrev pub own_at : {w : ℕ} → Slots w → ℕ → ℕ
own_at end k = 0
own_at (empty s) zero = 0
own_at (empty s) (suc k) = own_at s k
own_at (leaf b ps s) zero = length ps
own_at (leaf b ps s) (suc k) = own_at s k
own_at (inner b t s) zero = 0
own_at (inner b t s) (suc k) = own_at s k

-- the positions of slot k's leaf child
abbrev pub positions_at : {w : ℕ} → Slots w → ℕ → List ℕ
positions_at end k = []
positions_at (empty s) zero = []
positions_at (empty s) (suc k) = positions_at s k
positions_at (leaf b ps s) zero = ps
positions_at (leaf b ps s) (suc k) = positions_at s k
positions_at (inner b t s) zero = []
positions_at (inner b t s) (suc k) = positions_at s k

-- The positions below the inner children, in the order in which they are written: an inner child's own, then those below it, then the next
-- inner child's; and how many they are.
abbrev pub positions_below : {w : ℕ} → Slots w → List ℕ
positions_below end = []
positions_below (empty s) = positions_below s
positions_below (leaf b ps s) = positions_below s
positions_below (inner b t s) = (own_positions t ++ positions_below t) ++ positions_below s

abbrev pub count_below : {w : ℕ} → Slots w → ℕ
count_below end = 0
count_below (empty s) = count_below s
count_below (leaf b ps s) = count_below s
count_below (inner b t s) = own_count t + count_below t + count_below s

-- all positions, slot by slot down the tree
abbrev pub slots_positions : {w : ℕ} → Slots w → List ℕ
slots_positions end = []
slots_positions (empty s) = slots_positions s
slots_positions (leaf b ps s) = ps ++ slots_positions s
slots_positions (inner b t s) = slots_positions t ++ slots_positions s

-- ---- what the cost table ensures of a wide tree

-- each leaf child, here and further down, has one to three positions
abbrev pub SmallLeaves : {w : ℕ} → Slots w → Type 0
SmallLeaves end = Unit {0}
SmallLeaves (empty s) = SmallLeaves s
SmallLeaves (leaf b ps s) = (1 ≤ length ps) × (length ps ≤ 3) × SmallLeaves s
SmallLeaves (inner b t s) = SmallLeaves t × SmallLeaves s

-- each inner child, here and further down, has two children or more
abbrev pub Branching : {w : ℕ} → Slots w → Type 0
Branching end = Unit {0}
Branching (empty s) = Branching s
Branching (leaf b ps s) = Branching s
Branching (inner b t s) = (2 ≤ children t) × Branching t × Branching s
