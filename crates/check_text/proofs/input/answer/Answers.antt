use Rattle.std.proofs.Common.{◌≡◌, ℕ, List, length}
use Rattle.lists.specs.Splice.{splice}
use Rattle.check_text.specs.CheckText.{check_text}
use Rattle.std.proofs.lemmas.Option.{IfSome_then}
use Rattle.check_text.proofs.Answers.{text_fits, counts}
use Rattle.check_text.proofs.Held.{held_line}
use Rattle.check_text.proofs.input.answer.Goals as goal

pub returns-clause-prefix : goal.returns-clause-prefix
returns-clause-prefix g c =
    let e = c.check_text.ensures in
    counts _ _ (text_fits _ _ _ _ c.check_text.auto.out e.value e.out_after)

pub returns-clause-text : goal.returns-clause-text
returns-clause-text g c =
    let e = c.check_text.ensures in
    let line = c.args.line.now in
    let lines = λ (xs : List ℕ). (c.check_text.result ≡ length (check_text xs)) × (c.check_text.new.out ≡ splice line 0 (check_text xs)) in
    IfSome_then _ {Q = lines} c.in_ok-held.ensures.held (λ all stands. rw (← held_line all _ stands) (e.value, e.out_after))
