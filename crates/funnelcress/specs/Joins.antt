-- Two trees joined as C and Rust call it (02, [4]): its answer is a number.
use Rattle.std.specs.Prelude.{List, ℕ, ◌+◌}
use Rattle.join.specs.Join.{JoinAnswer, joined, refused_join, JoinEnd}

-- kind 0 is the joined tree's leaves; kind 2 is refused with its number, as the record check has it
unfoldable pub join_number : JoinAnswer → ℕ
join_number (joined leaves) = leaves
join_number (refused_join number) = 0x2_0000_0000 + number

-- what the caller has at the end: that number, and the three lent slices
pub record HandedJoin : Type 0 where
  pub number : ℕ
  pub marks : List ℕ
  pub words : List ℕ
  pub indices : List ℕ

abbrev pub handed_join : JoinEnd → HandedJoin
handed_join e = record { number = join_number e.answer; marks = e.marks; words = e.words; indices = e.indices }
