-- A record and an index list as conversion writes them, or would but for their levels.
use mathlib.Core.List.{List, [], Perm}
use mathlib.Core.Path.{◌≡◌}
use Prim.Native.Nat.{ℕ}
use Rattle.wide_layout.specs.Wide.{Wide}
use Rattle.wide_layout.specs.Sizes.{slots_positions}
use Rattle.lists.specs.At.{words_at}
use Rattle.wide_layout.specs.Layout.{index_list, level}
use Rattle.record.specs.Record.{record_bytes}
use Rattle.record_laws.specs.Writable.{Writable}

-- `leaves` are the positions that the tree's leaves hold, `indices` its index words, `bytes` and `list` the record and the index list written, and
-- `deepest` the deepest level. A tree without leaves has nothing written; any other becomes a wide tree with the same leaves, whose layout is
-- written.
pub data Writes (leaves indices bytes list : List ℕ) (deepest : ℕ) : Type 0 where
  nothing : leaves ≡ [] → bytes ≡ [] → list ≡ [] → deepest ≡ 0 → Writes leaves indices bytes list deepest
  written : (t : Wide) → Writable t → Perm (slots_positions t.slots) leaves
      → bytes ≡ record_bytes t → list ≡ words_at indices (index_list t) → deepest ≡ level t → Writes leaves indices bytes list deepest
