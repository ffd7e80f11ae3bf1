-- Internal: what the side table is written from, and how far it is written.
use Rattle.std.specs.Prelude.{List, ◌≡◌, ℕ, ◌+◌, ◌*◌, ◌^◌, ◌<◌, ◌≤◌, length, get_or, take}
use Rattle.lists.specs.At.{words_at}
use Rattle.wide_layout.specs.Wide.{Wide}
use Rattle.wide_layout.specs.Sizes.{SmallLeaves, Branching}
use Rattle.wide_layout.specs.Layout.{Entry, nodes, index_list, index_count}
use Rattle.wide_layout.specs.Shape.{layout_entry}
use Rattle.record.specs.Record.{record_bytes}
use Rattle.side_table.specs.SideTable.{node_spans}

-- A record of m nodes and an index list as conversion leaves them: those of a wide tree stand in front, and each of its index words names a pane that
-- has a span.
pub record Laid (bytes list spans : List ℕ) (m : ℕ) : Type 0 where
  pub tree : Wide
  pub indices : List ℕ
  pub leaves : SmallLeaves tree.slots
  pub branching : Branching tree.slots
  pub few : nodes tree < 2 ^ 32
  pub short : index_count tree < 2 ^ 32
  pub nodes_are : m ≡ nodes tree
  pub bytes_are : take (80 * m) bytes ≡ record_bytes tree
  pub list_is : take (index_count tree) list ≡ words_at indices (index_list tree)
  pub panes : (p : ℕ) → p < index_count tree → 2 * get_or list p 0 + 1 < length spans

-- in a table a node's 16 bytes stand at number v
abbrev pub StandsAt : (spans indices side : List ℕ) → (v : ℕ) → Entry → Type 0
StandsAt spans indices side v e = (j : ℕ) → j < 16 → get_or side (16 * v + j) 0 ≡ get_or (node_spans spans indices e) j 0

-- those of all nodes from number v on stand
abbrev pub StandFrom : (spans indices : List ℕ) → Wide → (side : List ℕ) → (v : ℕ) → Type 0
StandFrom spans indices t side v = (u : ℕ) → v ≤ u → u < nodes t → StandsAt spans indices side u (layout_entry t u)
