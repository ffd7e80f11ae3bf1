use Rattle.check_text.proofs.Answers.{wrote_short, wrote_checked}
use Rattle.check_text.proofs.check_text.Goals as goal

pub returns-then-input-lt4 : goal.returns-then-input-lt4
returns-then-input-lt4 c =
    let e = c.print_refusal.ensures in
    let w = wrote_short _ _ _ _ c.if-input-lt4.true (e.value, e.out_after) in
    record { value = w.0; out_after = w.1 }

pub returns : goal.returns
returns c =
    let e = c.put_answer.ensures in
    let n = c.load_u32-n.ensures.value in
    let w = wrote_checked _ _ _ _ _ _ _ c.if-input-lt4.false n c.requires.0 c.validate-verdict.ensures.result_value (e.value, e.out_after) in
    record { value = w.0; out_after = w.1 }
