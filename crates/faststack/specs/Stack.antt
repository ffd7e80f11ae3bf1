-- A stack of at most 32 groups (01, "Corners of each file", faststack.rs): the words below its depth, the last pushed highest.
use Rattle.std.specs.Prelude.{Bool, ◌&&◌, cond, List, ℕ, ◌-◌, ltb, leb, get_or, set, take}

abbrev pub capacity : ℕ
capacity = 32

-- the groups on a stack of depth d, the first pushed first
abbrev pub groups : List ℕ → ℕ → List ℕ
groups words d = take d words

-- whether one more goes on
abbrev pub has_room : ℕ → Bool
has_room d = ltb d capacity

-- the words after a push: the group above the others, or all as it was where there is no room
unfoldable pub pushed : List ℕ → ℕ → ℕ → List ℕ
pushed words d group = cond (has_room d) (set words d group) words

-- the group last pushed; 0 where the depth is none of 1 to 32
unfoldable pub top_of : List ℕ → ℕ → ℕ
top_of words d = cond (ltb 0 d && leb d capacity) (get_or words (d - 1) 0) 0
