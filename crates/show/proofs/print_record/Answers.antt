use native.Mathlib.Omega.{arith}
use Rattle.std.proofs.Common.{rules}
use Rattle.text.proofs.Put.{room_first, room_next, put_first, put_then}
use Rattle.show.specs.Show.{record_text}
use Rattle.show.proofs.Lengths.{record_room}
use Rattle.show.proofs.print_record.Goals as goal

pub put_nodes-requires-clause-m_in_bounds_2 : goal.put_nodes-requires-clause-m_in_bounds_2
unfolding record_text
put_nodes-requires-clause-m_in_bounds_2 c =
    let a = c.args in
    let room = record_room c.new-w.ensures a.«record».now a.m a.n a.indices.now (omega arith) (omega arith)
    (λ k. (c.type_inv.indices k).fits) (omega arith) in
    room_first c.new-w.result _ _ room

pub put_indices-requires : goal.put_indices-requires
unfolding record_text
put_indices-requires c =
    let a = c.args in
    let room = record_room c.new-w.ensures a.«record».now a.m a.n a.indices.now (omega arith) (omega arith)
    (λ k. (c.type_inv.indices k).fits) (omega arith) in
    room_next _ room c.put_nodes.ensures

pub returns : goal.returns
unfolding record_text
returns c =
    let a = c.args in
    let room = record_room c.new-w.ensures a.«record».now a.m a.n a.indices.now (omega arith) (omega arith)
    (λ k. (c.type_inv.indices k).fits) (omega arith) in
    let p = put_first c.new-w.ensures (put_then room c.put_nodes.ensures (λ _. c.put_indices.ensures)) in
    search rules
