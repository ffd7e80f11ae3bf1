use mathlib.Core.Path.{◌≡◌, sym, ap, ◌∙◌}
use native.Mathlib.Omega.{arith}
use Rattle.std.proofs.Common.{rules}
use Rattle.std.specs.Prelude.{Err}
use Rattle.causes.proofs.Refusals.{ok_none}
use Rattle.validate.specs.Validity.{verdict_of}
use Rattle.validate.proofs.Answering.{refuses, words_left, room, part_length, part_sized, sum_fits, answers, words_cleared}
use Rattle.validate.proofs.validate.Goals as goal

pub returns-in_err-check_call : goal.returns-in_err-check_call
returns-in_err-check_call c =
    let f = c.in_err-check_call.field-0.0 in
    let own : c.from_residual.result ≡ Err f = search rules in
    record {
      result_value = ap verdict_of own ∙ refuses _ _ _ f c.in_err-check_call.ensures;
      work_after = words_left _ _ _ f c.in_err-check_call.ensures;
    }

pub overflow_add-m : goal.overflow_add-m
overflow_add-m c = omega (arith, sum_fits _ _ _ (ok_none c.in_ok-check_call.was c.check_call.ensures))

pub slice_bounds-run-end : goal.slice_bounds-run-end
slice_bounds-run-end c = room _ _ _ (ok_none c.in_ok-check_call.was c.check_call.ensures)

pub slice_bounds-run-end-2 : goal.slice_bounds-run-end-2
slice_bounds-run-end-2 c = sym (part_length _ _ _ (ok_none c.in_ok-check_call.was c.check_call.ensures))

pub run-requires : goal.run-requires
run-requires c = part_sized _ _ _ (ok_none c.in_ok-check_call.was c.check_call.ensures)

pub returns : goal.returns
returns c =
    let none = ok_none c.in_ok-check_call.was c.check_call.ensures in
    record {
      result_value = answers _ _ _ none _ c.run.ensures.result_value;
      work_after = words_cleared _ _ _ none _ c.run.ensures.work_after;
    }
