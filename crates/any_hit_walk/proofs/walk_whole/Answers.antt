use Rattle.std.proofs.Common.{◌≡◌, ◌≤◌, Bool, length, replicate, ap, subst, ◌∙◌, arith, rules}
use Rattle.causes.specs.Refusal.{cause_number}
use Rattle.advance.specs.declared.Walk.{Walk}
use Rattle.advance.specs.Turn.{walker_of}
use Rattle.walk_record.proofs.WalkRay.{gated_forged}
use Rattle.query.specs.Result.{unanswered}
use Rattle.any_hit_walk.specs.AnyHit.{refused, any_hit_answer, result_of}
use Rattle.any_hit_walk.specs.Gather.{Stands}
use Rattle.any_hit_walk.proofs.Walks.{walk_begins, walk_kept}
use Rattle.any_hit_walk.proofs.Answers.{ends_kept, ends_refused}
use Rattle.any_hit_walk.proofs.walk_whole.Goals as goal
use Rattle.any_hit_walk.proofs.walk_whole.Goals.{In_ok-first}

-- ---- after the first walk

-- where it stands
stands : (g : _) (c : In_ok-first g) → {done : Bool} → c.in_ok-first.first.done ≡ done
    → let bvh = c.args.query.bvh in let aim = c.args.query.aim in let r = c.in_ok-first.first in
    Stands (g.G.Gate.gates c.args.gate) bvh.bytes.now bvh.positions aim.ray done 40 (walker_of aim.ray aim.octant r.walk c.gather.new.stack)
    r.count (replicate 64 0)
    c.gather.new.found
stands g c e =
    let bvh = c.args.query.bvh in
    let aim = c.args.query.aim in
    let r = c.in_ok-first.first in
    subst (λ (d : Bool). Stands (g.G.Gate.gates c.args.gate) bvh.bytes.now bvh.positions aim.ray d 40
    (walker_of aim.ray aim.octant r.walk c.gather.new.stack) r.count
    (replicate 64 0) c.gather.new.found) e c.in_ok-first.ensures.1

pub gather-requires : goal.gather-requires
gather-requires g c =
    let query = c.args.query in
    let bvh = query.bvh in
    let aim = query.aim in
    let r = c.begin-start in (
      ap (λ (v : Walk). v.positions.bits) r.ensures,
      omega arith,
      walk_begins (g.G.Gate.gates c.args.gate) bvh.bytes.now bvh.positions aim.ray (replicate 64 0) query.fields
          (gated_forged (g.G.Gate.gates c.args.gate) _ c.requires query.accepted) aim.octant query.own r.result r.ensures,
    )

pub walk_on-requires : goal.walk_on-requires
walk_on-requires g c =
    let p = stands g (goal.at.walk_on-requires g c).In_ok-first c.if-first.false in
    let h = c.in_ok-first.ensures.0 in
    record { entered = c.requires; walking = walk_kept p.2; between = (p.1, omega (arith, h, c.gather.auto.found), omega (arith, h)) }

pub returns-then-first : goal.returns-then-first
returns-then-first g c =
    let p = stands g (goal.at.returns-then-first g c).In_ok-first c.if-first.true in
    let a = c.args in
    let bvh = a.query.bvh in
    let aim = a.query.aim in
    let r = c.in_ok-first.first in
    let h : r.count ≤ length c.gather.new.found = omega (arith, c.in_ok-first.ensures.0, c.gather.auto.found) in
    let q = ends_kept (g.G.Gate.gates c.args.gate) bvh.bytes.now bvh.positions aim.ray a.list.now p.0 (replicate 64 0) c.gather.new.found p.1 h in
    record { result_value = c.deliver.ensures.result_value ∙ q.0; list_after = c.deliver.ensures.list_after ∙ q.1 }

pub returns-in_err-first : goal.returns-in_err-first
unfolding any_hit_answer result_of
returns-in_err-first g c =
    let a = c.args in
    let bvh = a.query.bvh in
    let aim = a.query.aim in
    let f = c.in_err-first.field-0.0 in
    let own : result_of c.from_residual.result ≡ unanswered (refused (cause_number f)) = search rules in
    let e = ends_refused (g.G.Gate.gates c.args.gate) bvh.bytes.now bvh.positions aim.ray a.list.now (cause_number f) c.in_err-first.ensures in
    record { result_value = own ∙ e.0; list_after = e.1 }
