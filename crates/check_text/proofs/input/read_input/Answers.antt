use Rattle.std.proofs.Common.{◌≡◌, ◌+◌, [], ◌++◌, rules, arith, take, take_all, sym, ap, ◌∙◌, subst, length-append, append-nil}
use Rattle.std.specs.Io.KnownBytes.{Consumes}
use Rattle.std.proofs.KnownBytes.{Consumes-nil, Consumes-trans, Consumes-whole}
use Rattle.check_text.specs.Held.{held_length, StandsFor}
use Rattle.check_text.proofs.Held.{all_holds, read_holds, held_room, held_fits, held_more}
use Rattle.check_text.proofs.input.read_input.Goals as goal

pub returns-then-held-bytes-clause-held : goal.returns-then-held-bytes-clause-held
returns-then-held-bytes-clause-held g c =
    let e = c.in_ok-held.ensures in
    Consumes-whole _ _ _ _ e.taken (e.end c.if-held-bytes.true) (all_holds _ (omega (arith, e.prefix.0, e.prefix.1)))

pub loop-init : goal.loop-init
loop-init g c =
    let e = c.in_ok-held.ensures in
    let full : c.in_ok-held.held ≡ 5242884 = omega (arith, e.prefix.0) in
    record { within = omega arith; room = omega arith; taken = ([], Consumes-nil _, full ∙ sym held_room) }

pub returns-then-more-eq0-clause-held : goal.returns-then-more-eq0-clause-held
returns-then-more-eq0-clause-held g c =
    let e = c.in_ok-held.ensures in
    let first = c.read_full.new.bytes in
    let full = take_all c.in_ok-held.held first (omega (arith, c.if-held-bytes.false)) in
    let t = c.loop.invariant.taken in
    let last = c.in_ok-more.ensures in
    let rest = c.read_full-in-loop.new.bytes in
    let nothing = ap (λ n. take n rest) c.if-more-eq0.true in
    let read = Consumes-trans _ _ _ _ _ (subst (Consumes _ _) full e.taken) t.1 in
    let all = Consumes-trans _ _ _ _ _ read (subst (Consumes _ _) nothing last.taken) in
    let held = read_holds first t.0 _ (omega arith) t.2 in
    Consumes-whole _ _ _ (λ xs. StandsFor xs (take c.loop.held first)) all (last.end (omega arith)) (rw append-nil held)

pub loop-preserved : goal.loop-preserved
loop-preserved g c =
    let t = c.loop.invariant.taken in
    let e = c.in_ok-more.ensures in
    let more = take c.in_ok-more.more c.read_full-in-loop.new.bytes in
    record {
      within = rw c.held_length-held.ensures (held_fits _);
      room = search rules;
      taken = (
        t.0 ++ more,
        Consumes-trans _ _ _ _ _ t.1 e.taken,
        c.held_length-held.ensures
            ∙ ap (λ h. held_length (h + c.in_ok-more.more)) t.2
            ∙ held_more _ c.in_ok-more.more
            ∙ ap held_length (omega (arith, length-append t.0 more, e.prefix.1)),
      );
    }
