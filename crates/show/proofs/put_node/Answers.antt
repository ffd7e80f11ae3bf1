use Rattle.text.specs.Text.{chars}
use Rattle.text.proofs.Put.{room_first, room_next, put_then}
use Rattle.show.specs.Show.{node_line}
use Rattle.show.proofs.put_node.Goals as goal

pub put_hex-requires : goal.put_hex-requires
unfolding node_line chars
put_hex-requires c =
    let room = room_next _ (room_next _ c.requires c.put_decimal.ensures) c.put_byte.ensures in
    room_first c.put_byte.new.self _ _ room

pub put_byte-requires-2 : goal.put_byte-requires-2
unfolding node_line chars
put_byte-requires-2 c =
    room_next _ (room_next _ (room_next _ c.requires c.put_decimal.ensures) c.put_byte.ensures) c.put_hex.ensures

pub returns : goal.returns
unfolding node_line chars
returns c =
    put_then c.requires c.put_decimal.ensures
    (λ h. put_then h c.put_byte.ensures (λ h. put_then h c.put_hex.ensures (λ _. c.put_byte-2.ensures)))
