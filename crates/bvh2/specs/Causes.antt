-- What may be wrong with the words of a tree (01, "Causes of refusal", 1, 2 and 5 to 7). n is the number of index words.
use Rattle.std.specs.Prelude.{◌≡◌, false, List, [], ◌∷◌, ℕ, ◌+◌, ◌*◌, ◌<◌, ◌≤◌, length}
use Rattle.aabb.specs.Aabb.{accepted_box}
use Rattle.bvh2.specs.Words.{tree_nodes, Link, children, position, malformed, link_at, box_at}

-- a link stays inside: both children are nodes of the tree, or the position is one of the list's
unfoldable pub LinkInside : ℕ → Link → Type 0
LinkInside n (children f) = f + 1 < tree_nodes n
LinkInside n (position p) = p < n
LinkInside n malformed = ⊥

-- a path is a list of turns, one an edge
pub data Turn : Type 0 where
  left right : Turn

abbrev pub turn : Turn → ℕ → ℕ
turn left f = f
turn right f = f + 1

-- the path leads from node u to node v
unfoldable pub LeadsTo : List ℕ → ℕ → List Turn → ℕ → Type 0
LeadsTo ws u [] v = u ≡ v
LeadsTo ws u (t ∷ path) v = (f : ℕ) × (link_at ws u ≡ children f) × LeadsTo ws (turn t f) path v

-- the path leads from the root to node v
abbrev pub Reaches : List ℕ → ℕ → List Turn → Type 0
Reaches ws v path = LeadsTo ws 0 path v

-- node v is a leaf of the tree that holds position p
abbrev pub LeafHolds : List ℕ → ℕ → ℕ → ℕ → Type 0
LeafHolds ws n p v = (v < tree_nodes n) × (link_at ws v ≡ position p)

abbrev pub ExactlyOne : {A : Type 0} → (A → Type 0) → Type 0
ExactlyOne {A} P = (x : A) × P x × ((y : A) → P y → y ≡ x)

-- the causes by their numbers: each constructor is one way for the words to be refused with that number
pub data Cause (ws : List ℕ) (n : ℕ) : ℕ → Type 0 where
  length_unfit : (length ws ≡ tree_nodes n * 7 → ⊥) → Cause ws n 1
  too_many : 65536 < n → Cause ws n 2
  link_outside : (v : ℕ) → v < tree_nodes n → (LinkInside n (link_at ws v) → ⊥) → Cause ws n 5
  box_refused : (v : ℕ) → v < tree_nodes n → accepted_box (box_at ws v) ≡ false → Cause ws n 6
  not_one_path : (v : ℕ) → v < tree_nodes n → (ExactlyOne (Reaches ws v) → ⊥) → Cause ws n 7
  too_deep : (v : ℕ) (path : List Turn) → v < tree_nodes n → Reaches ws v path → 127 < length path → Cause ws n 7
  not_one_leaf : (p : ℕ) → p < n → (ExactlyOne (LeafHolds ws n p) → ⊥) → Cause ws n 7

-- neither cause 1 nor cause 2 holds
pub record TreeSized (ws : List ℕ) (n : ℕ) : Type 0 where
  pub fit : length ws ≡ tree_nodes n * 7
  pub few : n ≤ 65536

-- the tree is accepted: no cause holds
abbrev pub Accepted : List ℕ → ℕ → Type 0
Accepted ws n = (k : ℕ) → Cause ws n k → ⊥
