-- Internal: all but `row` and `fill`. Tables in slices (01, "Words, bytes and bounds"): a decision word and a cost for each of seven entries, from
-- place 7 * v on for node v.
use Rattle.std.specs.Prelude.{◌≡◌, List, ◌⊎◌, ℕ, zero, suc, ◌+◌, ◌*◌, ◌≤◌, ◌<◌, cond, eqb, get_or, set, Float}
use Rattle.std.specs.Float.{nan}
use Rattle.bvh2.specs.Tree.{Tree, leaf, inner}
use Rattle.bvh2.specs.Words.{tree_nodes}
use Rattle.bvh2.specs.Decoded.{Subtree}
use Rattle.cost.specs.declared.Split.{Split}
use Rattle.cost.specs.declared.Entry.{Entry}
use Rattle.cost.specs.Table.{Decision, decision, word}

-- the list with f 0 to f (n − 1) from place b on
unfoldable pub row : {A : Type 0} → (ℕ → A) → ℕ → ℕ → List A → List A
row f b zero s = s
row f b (suc n) s = set (row f b n s) (b + n) (f n)

-- the list with the row of seven of every node of a tree: g t 0 to g t 6 for the node whose subtree is t
unfoldable pub fill : {A : Type 0} → (Tree ℕ → ℕ → A) → Tree ℕ → List A → List A
fill g (leaf v box p) s = row (g (leaf v box p)) (v * 7) 7 s
fill g (inner v box a b) s = row (g (inner v box a b)) (v * 7) 7 (fill g b (fill g a s))

-- every node's row holds its seven values
unfoldable pub RowsHold : {A : Type 0} → (Tree ℕ → ℕ → A) → A → List A → Tree ℕ → Type 0
RowsHold g d s (leaf v box p) = (k : ℕ) → k < 7 → get_or s (v * 7 + k) d ≡ g (leaf v box p) k
RowsHold g d s (inner v box a b) = ((k : ℕ) → k < 7 → get_or s (v * 7 + k) d ≡ g (inner v box a b) k) × RowsHold g d s a × RowsHold g d s b

-- the costs that stand in node v's row
abbrev pub costs_at : List Float → ℕ → ℕ → Float
costs_at cs v k = get_or cs (v * 7 + k) nan

-- entry i of a node, by the costs of its children `first` and `first + 1` as cs holds them
abbrev pub entry_from : List Float → ℕ → Float → ℕ → ℕ → ℕ → Decision
entry_from cs first area count limit i = decision area count limit (costs_at cs first) (costs_at cs (first + 1)) i

-- a decision as it is stored
abbrev pub stored : Decision → Entry
stored d = record { cost = d.cost; word = word d }

-- the entry after one that is stored
abbrev pub next_entry : Entry → Split → Entry
next_entry e s = cond (eqb s.left 255) e (record { cost = s.cost; word = 0x8000_0000 + (s.left * 256 + s.right) })

-- the splits fit a byte each
pub record Small (s : Split) : Type 0 where
  pub left : s.left ≤ 255
  pub right : s.right ≤ 255

-- tables of d words and c costs have room for node v and for its children, first and first + 1, and v is neither
pub record RowRoom (d c v first : ℕ) : Type 0 where
  pub decisions : v * 7 + 7 ≤ d
  pub costs : v * 7 + 7 ≤ c
  pub children : first * 7 + 14 ≤ c
  pub apart : (v < first) ⊎ (first + 1 < v)

-- what filling the tables of node v, with `depth` edges left below it, asks: the words are an accepted tree's, and its tables have room
pub record RowsReady (ws : List ℕ) (d c depth v : ℕ) : Type 0 where
  pub n : ℕ
  pub tree : Subtree ws n depth v
  pub decisions : tree_nodes n * 7 ≤ d
  pub costs : tree_nodes n * 7 ≤ c
