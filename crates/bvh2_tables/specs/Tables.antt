-- Conversion up to its tables (01, "Causes of refusal"; "Words, bytes and bounds"): the causes 1 to 7, and the working slices after.
use Rattle.std.specs.Prelude.{Bool, true, false, ◌&&◌, List, ◌∷◌, ◌++◌, ℕ, zero, suc, ◌*◌, ◌≤◌, max, leb, length, drop, replicate}
use Rattle.causes.specs.Causes.{Condition, ◌unless◌, first_cause}
use Rattle.bvh2.specs.Tree.{Tree}
use Rattle.bvh2.specs.Words.{tree_nodes, tree_of}
use Rattle.bvh2.specs.Causes.{Accepted}
use Rattle.bvh2.specs.FirstCause.{size_conditions, structure_conditions}
use Rattle.cost.specs.Rows.{fill}
use Rattle.bvh2_tables.specs.Call.{Lengths}

-- how many decision words, and how many costs, n leaves need
abbrev pub table_size : ℕ → ℕ
table_size n = tree_nodes n * 7

-- how many record bytes: 80 × max(1, n − 1), and none for n = 0
unfoldable pub record_size : ℕ → ℕ
record_size zero = 0
record_size (suc k) = 80 * max 1 k

-- decisions, costs, record bytes and output indices are long enough
unfoldable pub slices_fit : ℕ → Lengths → Bool
unfolding record_size
slices_fit n l = leb (table_size n) l.decisions && leb (table_size n) l.costs && leb (record_size n) l.bytes && leb n l.list

-- the tree's sizes, then the leaf limit, then the lengths, then the tree's structure
unfoldable pub prepare_conditions : List ℕ → (n limit : ℕ) → Lengths → List Condition
unfolding size_conditions structure_conditions slices_fit
prepare_conditions ws n limit l = size_conditions (length ws) n ++ 3 unless leb limit 3 ∷ 4 unless slices_fit n l ∷ structure_conditions ws n

abbrev pub prepare_cause : List ℕ → (n limit : ℕ) → Lengths → ℕ
prepare_cause ws n limit l = first_cause (prepare_conditions ws n limit l)

-- none of these causes: the tree is accepted, the limit is at most 3, and the slices are long enough
pub record Prepared (ws : List ℕ) (n limit : ℕ) (l : Lengths) : Type 0 where
  pub accepted : Accepted ws n
  pub small : limit ≤ 3
  pub words : table_size n ≤ l.decisions
  pub costs : table_size n ≤ l.costs
  pub bytes : record_size n ≤ l.bytes
  pub list : n ≤ l.list

-- the list with its first k elements made z
abbrev pub cleared : {A : Type 0} → A → ℕ → List A → List A
cleared z k s = replicate k z ++ drop k s

-- a working slice for a cause of 5 or more, where it is cleared, and for none, where it holds the rows of every node
unfoldable pub tabled : {A : Type 0} → (Tree ℕ → ℕ → A) → List ℕ → ℕ → List A → List A
tabled g ws zero s = fill g (tree_of ws) s
tabled g ws (suc c) s = s

-- a working slice at the end: as it was for causes 1 to 4 and where no leaf is there, else cleared, and filled if there is no cause
unfoldable pub work_after : {A : Type 0} → A → (Tree ℕ → ℕ → A) → List ℕ → (n cause : ℕ) → List A → List A
unfolding tabled
work_after z g ws zero cause s = s
work_after z g ws (suc n) zero s = tabled g ws 0 (cleared z (table_size (suc n)) s)
work_after z g ws (suc n) (suc c) s = elim (leb (suc c) 4) [ true ↦ s | false ↦ cleared z (table_size (suc n)) s ]
