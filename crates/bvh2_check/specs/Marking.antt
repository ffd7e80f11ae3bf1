-- Internal: the walk that marks a tree's nodes and positions in working words, as the code makes it.
use Rattle.std.specs.Prelude.{Bool, true, false, List, ℕ, zero, suc, ◌+◌, ◌<◌, ◌≤◌, get_or, set}
use Rattle.bvh2.specs.Tree.{Tree, leaf, inner}
use Rattle.bvh2.specs.Words.{tree_nodes, link_at}
use Rattle.bvh2.specs.Causes.{LinkInside}
use Rattle.bvh2.specs.FirstCause.{is_position}
use Rattle.bvh2.specs.Decoded.{Subtree}

-- a mark for each node, then one for each position
abbrev pub mark_count : ℕ → ℕ
mark_count n = tree_nodes n + n

-- the walk goes on or stops, with the marks as they then are
pub data Marking : Type 0 where
  stop : List ℕ → Marking
  go : List ℕ → Marking

abbrev pub marking_if : Bool → List ℕ → Marking
marking_if true o = go o
marking_if false o = stop o

-- mark i, unless it is marked already
abbrev pub mark : List ℕ → ℕ → Marking
mark o i = elim (get_or o i 0) [ zero ↦ go (set o i 1) | suc k ↦ stop o ]

-- mark each node v at v and each position p at m + p; stop at a second mark, and at a leaf below which the words go on
unfoldable pub walk : List ℕ → ℕ → Tree ℕ → List ℕ → Marking
walk ws m (leaf v b p) o =
    elim (mark o v) [
      | stop o₁ ↦ stop o₁
      | go o₁ ↦ elim (is_position p (link_at ws v)) [ false ↦ stop o₁ | true ↦ mark o₁ (m + p) ]
    ]
walk ws m (inner v b l r) o =
    elim (mark o v) [
      | stop o₁ ↦ stop o₁
      | go o₁ ↦ elim (walk ws m l o₁) [ stop o₂ ↦ stop o₂ | go o₂ ↦ walk ws m r o₂ ]
    ]

-- how many calls of itself this walk makes, this one included, which law `linear` bounds. No contract ties the code's own calls to it: it is read off
-- the code, which comes to a node exactly where this walk does
unfoldable pub mark_calls : List ℕ → ℕ → Tree ℕ → List ℕ → ℕ
mark_calls ws m (leaf v b p) o = 1
mark_calls ws m (inner v b l r) o =
    elim (mark o v) [
      | stop o₁ ↦ 1
      | go o₁ ↦ elim (walk ws m l o₁) [ stop o₂ ↦ 1 + mark_calls ws m l o₁ | go o₂ ↦ 1 + (mark_calls ws m l o₁ + mark_calls ws m r o₂) ]
    ]

-- the first k marks are set
unfoldable pub marks_set : ℕ → List ℕ → Bool
marks_set zero o = true
marks_set (suc k) o = elim (get_or o k 0) [ zero ↦ false | suc j ↦ marks_set k o ]

-- what a call at node v needs: links that stay inside, and room for all marks
pub record MarkReady (ws : List ℕ) (n marks v : ℕ) : Type 0 where
  pub inside : (u : ℕ) → u < tree_nodes n → LinkInside n (link_at ws u)
  pub room : mark_count n ≤ marks
  pub node : v < tree_nodes n

-- node v is one of an accepted tree
pub record InTree (ws : List ℕ) (v : ℕ) : Type 0 where
  pub leaves : ℕ
  pub edges : ℕ
  pub subtree : Subtree ws leaves edges v
