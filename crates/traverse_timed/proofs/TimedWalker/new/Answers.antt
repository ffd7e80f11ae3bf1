use Rattle.std.proofs.Common.{sym, ap, ◌∙◌}
use Rattle.causes.specs.Refusal.{cause_number}
use Rattle.causes.proofs.Refusals.{some_number}
use Rattle.ray.specs.Ray.{ray_from}
use Rattle.traverse.specs.Walker.{walker_words, started_of}
use Rattle.traverse_timed.proofs.Begun.{refuses_quarter, begins, refuses_ray}
use Rattle.traverse_timed.proofs.TimedWalker.new.Goals as goal

pub returns-then-not-quarter_fits : goal.returns-then-not-quarter_fits
returns-then-not-quarter_fits c =
    refuses_quarter (ray_from c.args.beam) c.args.quarter (sym c.quarter_fits.ensures ∙ c.if-not-quarter_fits.true)

pub returns-in-Ok : goal.returns-in-Ok
returns-in-Ok c =
    begins (ray_from c.args.beam) c.args.quarter (sym c.quarter_fits.ensures ∙ c.if-not-quarter_fits.false) (walker_words c.in-Ok.walker)
    (sym (ap started_of c.in-Ok.is) ∙ c.new.ensures)

pub returns-in-Err : goal.returns-in-Err
returns-in-Err c =
    refuses_ray (ray_from c.args.beam) c.args.quarter (sym c.quarter_fits.ensures ∙ c.if-not-quarter_fits.false) (cause_number c.in-Err.refusal)
    (some_number c.in-Err.refusal) (sym (ap started_of c.in-Err.is) ∙ c.new.ensures)
