use Rattle.std.proofs.Common.{ap, arith}
use Rattle.advance.specs.declared.Walk.{Walk}
use Rattle.advance.specs.Turn.{walker_of}
use Rattle.walk_record.proofs.WalkRay.{gated_forged}
use Rattle.query.proofs.Begins.{sized_of}
use Rattle.any_hit_walk.specs.AnyHit.{any_hit_answer, result_of}
use Rattle.any_hit_walk.proofs.Walks.{walk_begins}
use Rattle.any_hit_walk.proofs.Answers.{counted_only, ends_short, ends_unrefused, ends_again}
use Rattle.any_hit_walk.proofs.walk_again.Goals as goal

pub returns-then-list-count : goal.returns-then-list-count
unfolding any_hit_answer result_of
returns-then-list-count g c =
    let e = ends_short (g.G.Gate.gates c.args.gate) c.args.query.bvh.bytes.now c.args.query.bvh.positions c.args.query.aim.ray c.args.list.now
    c.requires.counted c.if-list-count.true in
    record { result_value = e.0; list_after = e.1 }

pub gather-requires : goal.gather-requires
gather-requires g c =
    let query = c.args.query in
    let bvh = query.bvh in
    let aim = query.aim in
    let r = c.begin-start in (
      ap (λ (v : Walk). v.positions.bits) r.ensures,
      omega arith,
      walk_begins (g.G.Gate.gates c.args.gate) bvh.bytes.now bvh.positions aim.ray c.args.list.now query.fields
          (gated_forged (g.G.Gate.gates c.args.gate) _ c.requires.entered query.accepted) aim.octant query.own r.result r.ensures,
    )

pub returns-in_err-again : goal.returns-in_err-again
returns-in_err-again g c =
    let a = c.args in
    let bvh = a.query.bvh in
    let aim = a.query.aim in
    absurd (ends_unrefused (g.G.Gate.gates c.args.gate) bvh.bytes.now bvh.positions aim.ray a.list.now c.requires.counted _ c.in_err-again.ensures)

pub returns : goal.returns
unfolding any_hit_answer result_of
returns g c =
    let a = c.args in
    let bvh = a.query.bvh in
    let aim = a.query.aim in
    let again = c.in_ok-again.again in
    let w = walker_of aim.ray aim.octant again.walk c.gather.new.stack in
    let k = counted_only (g.G.Gate.gates c.args.gate) bvh.bytes.now bvh.positions aim.ray again.done 0xffff_0000 w again.count a.list.now
    c.gather.new.found
    (sized_of _ _ bvh.fit a.query.some) (omega arith) c.in_ok-again.ensures.1 in
    let e = ends_again (g.G.Gate.gates c.args.gate) bvh.bytes.now bvh.positions aim.ray a.list.now c.requires.counted c.if-list-count.false w k.0
    k.1 in
    record { result_value = e.0; list_after = e.1 }
