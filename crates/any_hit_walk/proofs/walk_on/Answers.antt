use Rattle.std.proofs.Common.{◌≡◌, ◌≤◌, ℕ, List, true, length, ◌++◌, drop, replicate, ◌∙◌, arith, rules}
use lib.ListN.{length-append, length-take, length-drop}
use Rattle.causes.specs.Refusal.{cause_number}
use Rattle.advance.specs.Turn.{walker_of}
use Rattle.query.proofs.Begins.{sized_of}
use Rattle.query.specs.Result.{unanswered}
use Rattle.any_hit_walk.specs.AnyHit.{refused, any_hit_answer, result_of}
use Rattle.any_hit_walk.specs.Gather.{Stands}
use Rattle.any_hit_walk.proofs.Copies.{copied}
use Rattle.any_hit_walk.proofs.Walks.{walk_moved}
use Rattle.any_hit_walk.proofs.Answers.{counted_only, ends_kept, ends_refused}
use Rattle.any_hit_walk.proofs.walk_on.Goals as goal
use Rattle.any_hit_walk.proofs.walk_on.Goals.{In_ok-rest}

-- ---- after the walk has gone on

done : (g : _) (c : In_ok-rest g) → let bvh = c.args.query.bvh in let aim = c.args.query.aim in let r = c.in_ok-rest.rest in
    Stands (g.G.Gate.gates c.args.gate) bvh.bytes.now bvh.positions aim.ray true 0xffff_0000
    (walker_of aim.ray aim.octant r.walk c.gather.new.stack) r.count
    (c.copy_from_slice.new.self ++ drop c.args.first.count (replicate 1024 0)) c.gather.new.found
done g c =
    let query = c.args.query in
    let bvh = query.bvh in
    let aim = query.aim in
    let r = c.in_ok-rest.rest in
    counted_only (g.G.Gate.gates c.args.gate) bvh.bytes.now bvh.positions aim.ray r.done 0xffff_0000 _ r.count _ c.gather.new.found
    (sized_of _ _ bvh.fit query.some) (omega arith)
    c.in_ok-rest.ensures.1

pub gather-requires : goal.gather-requires
gather-requires g c =
    let p = c.requires.between in
    let more : List ℕ = replicate 1024 0 in (
      p.0,
      omega (arith, p.2),
      walk_moved c.requires.walking p.1 more p.2 _
          (copied more c.args.found.now c.copy_from_slice.new.self c.args.first.count p.1 c.copy_from_slice.ensures.after),
    )

pub walk_again-requires : goal.walk_again-requires
walk_again-requires g c = record { entered = c.requires.entered; counted = (done g (goal.at.walk_again-requires g c).In_ok-rest).0 }

pub returns-in_err-rest : goal.returns-in_err-rest
unfolding any_hit_answer result_of
returns-in_err-rest g c =
    let a = c.args in
    let bvh = a.query.bvh in
    let aim = a.query.aim in
    let f = c.in_err-rest.field-0.0 in
    let own : result_of c.from_residual.result ≡ unanswered (refused (cause_number f)) = search rules in
    let e = ends_refused (g.G.Gate.gates c.args.gate) bvh.bytes.now bvh.positions aim.ray a.list.now (cause_number f) c.in_err-rest.ensures in
    record { result_value = own ∙ e.0; list_after = e.1 }

pub returns : goal.returns
returns g c =
    let a = c.args in
    let bvh = a.query.bvh in
    let aim = a.query.aim in
    let d = done g (goal.at.returns g c).In_ok-rest in
    let l : length c.gather.new.found ≡ 1024 =
    c.gather.auto.found ∙ simp (length-append, c.copy_from_slice.ensures.len, length-take, length-drop) (omega arith) in
    let h : c.in_ok-rest.rest.count ≤ length c.gather.new.found = omega (arith, c.if-rest-gt1024.false, l) in
    let q = ends_kept (g.G.Gate.gates c.args.gate) bvh.bytes.now bvh.positions aim.ray a.list.now d.0 _ c.gather.new.found d.1 h in
    record { result_value = c.deliver.ensures.result_value ∙ q.0; list_after = c.deliver.ensures.list_after ∙ q.1 }
