use Rattle.std.proofs.Common.{take, ap, ◌∙◌}
use Rattle.query.specs.Result.{Result}
use Rattle.any_hit_walk.specs.AnyHit.{AnyHitAnswer, any_hit_answer, list_for, result_of}
use Rattle.any_hit_walk.proofs.Answers.{fits, lacks}
use Rattle.any_hit_walk.proofs.Copies.{copied}
use Rattle.any_hit_walk.proofs.deliver.Goals as goal

pub returns-then-short : goal.returns-then-short
unfolding any_hit_answer result_of list_for
returns-then-short c =
    let a = c.args in
    let e = lacks a.count a.tests _ c.if-short.true in
    record {
      result_value = e;
      list_after = ap (λ (x : Result AnyHitAnswer). list_for x.answer (take a.count a.found.now) a.list.now) e;
    }

pub returns : goal.returns
unfolding any_hit_answer result_of list_for
returns c =
    let a = c.args in
    let e = fits a.count a.tests _ c.if-short.false in
    record {
      result_value = e;
      list_after = copied a.list.now a.found.now c.copy_from_slice.new.self a.count c.requires c.copy_from_slice.ensures.after
          ∙ ap (λ (x : Result AnyHitAnswer). list_for x.answer (take a.count a.found.now) a.list.now) e;
    }
