use Rattle.validate.proofs.Answering.{starts, zeroed, zeroed_again, none_says}
use Rattle.validate.proofs.run.Goals as goal

pub returns-then-m-eq0 : goal.returns-then-m-eq0
returns-then-m-eq0 c =
    record {
      result_value = none_says _ _ _ _ c.requires _ c.if-m-eq0.true c.then_some.ensures;
      work_after = zeroed _ _ _ _ c.requires _ (c.fill.ensures.after (λ y h. h));
    }

pub pass-r-requires : goal.pass-r-requires
pass-r-requires c = starts _ _ _ _ c.requires _ c.if-m-eq0.false (c.fill.ensures.after (λ y h. h))

pub returns-clause-work_after : goal.returns-clause-work_after
returns-clause-work_after c =
    zeroed_again _ _ _ _ c.requires _ _ _ (c.fill.ensures.after (λ y h. h)) c.pass-r.auto.work (c.fill-2.ensures.after (λ y h. h))
