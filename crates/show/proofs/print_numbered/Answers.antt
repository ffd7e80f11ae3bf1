use native.Mathlib.Omega.{arith}
use Rattle.std.proofs.Common.{rules}
use Rattle.text.specs.Text.{chars}
use Rattle.text.proofs.Put.{room_first, room_next, put_first, put_then}
use Rattle.show.specs.Show.{numbered_line}
use Rattle.show.proofs.Lengths.{numbered_room}
use Rattle.show.proofs.print_numbered.Goals as goal

pub put_decimal-requires : goal.put_decimal-requires
unfolding numbered_line
put_decimal-requires c =
    let a = c.args in
    let room = numbered_room c.new-w.ensures a.word.now a.k (omega arith) (omega arith) in
    room_first c.put_bytes.new.self _ _ (room_next _ room c.put_bytes.ensures)

pub put_byte-requires : goal.put_byte-requires
unfolding numbered_line chars
put_byte-requires c =
    let a = c.args in
    let room = numbered_room c.new-w.ensures a.word.now a.k (omega arith) (omega arith) in
    room_next _ (room_next _ room c.put_bytes.ensures) c.put_decimal.ensures

pub returns : goal.returns
unfolding numbered_line chars
returns c =
    let a = c.args in
    let room = numbered_room c.new-w.ensures a.word.now a.k (omega arith) (omega arith) in
    let p = put_first c.new-w.ensures
    (put_then room c.put_bytes.ensures (λ r. put_then r c.put_decimal.ensures (λ _. c.put_byte.ensures))) in
    search rules
