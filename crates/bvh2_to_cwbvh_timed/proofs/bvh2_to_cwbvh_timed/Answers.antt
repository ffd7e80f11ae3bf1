use mathlib.Core.Bool.{true}
use mathlib.Core.Path.{◌≡◌, sym, ap, ◌∙◌}
use Prim.Native.Nat.{◌<◌}
use native.Mathlib.Omega.{arith}
use borrow.Author.Tests.{leb-true}
use lib.ListN.{length}
use Rattle.std.proofs.Common.{rules}
use Rattle.lists.specs.Splice.{splice}
use Rattle.lists.proofs.Splice.{splice_none}
use Rattle.causes.specs.Refusal.{cause_number}
use Rattle.causes.proofs.Refusals.{some_number}
use Rattle.side_table.specs.Laid.{Laid}
use Rattle.bvh2_tables.proofs.Causes.{both_kept}
use Rattle.bvh2_to_cwbvh.specs.Conversion.{converted, refused, conversion_cause, conversion_of, Outcome}
use Rattle.bvh2_to_cwbvh.specs.Answer.{conversion_answer}
use Rattle.bvh2_to_cwbvh.proofs.Answers.{refused_cause}
use Rattle.bvh2_to_cwbvh.proofs.Endings.{ended}
use Rattle.bvh2_to_cwbvh_timed.specs.TimedConversion.{TimedCall, timed_conversion_cause}
use Rattle.bvh2_to_cwbvh_timed.proofs.Entry.{entry_passed, entry_most}
use Rattle.bvh2_to_cwbvh_timed.proofs.Cause.{room, cause_entered, cause_panes, cause_untimed}
use Rattle.bvh2_to_cwbvh_timed.proofs.Written.{side_empty, side_is, no_cause, side_fits, laid}
use Rattle.bvh2_to_cwbvh_timed.proofs.Endings.{timed_ended, refused_ends, untimed_ends, side_written, side_kept}
use Rattle.bvh2_to_cwbvh_timed.proofs.bvh2_to_cwbvh_timed.Goals as goal
use Rattle.bvh2_to_cwbvh_timed.proofs.bvh2_to_cwbvh_timed.Goals.{In_ok-check_sizes, Else-not-panes_fit, In_ok-converted}

-- ---- the call, and what is known in turn
abbrev call : In_ok-check_sizes → TimedCall
call q =
    let a = q.args in
    record {
      untimed = record {
        words = a.words.now;
        indices = a.indices.now;
        limit = a.limit;
        ordered = a.ordered;
        decisions = a.decisions.now;
        costs = a.costs.now;
        bytes = a.«record».now;
        list = a.list.now;
      };
      panes = a.panes;
      spans = a.spans.now;
      side = a.side.now;
    }

-- the side table has room
has_room : (q : In_ok-check_sizes) → room (call q) ≡ true
has_room q =
    let a = q.args in entry_passed a.words.now (length a.indices.now) a.limit (length a.side.now) (sym q.in_ok-check_sizes.ensures)

-- the panes fit
as_untimed : (c : Else-not-panes_fit) → let q = (goal.at.Else-not-panes_fit c).In_ok-check_sizes in
    timed_conversion_cause (call q) ≡ conversion_cause (call q).untimed
as_untimed c = let q = (goal.at.Else-not-panes_fit c).In_ok-check_sizes in cause_untimed (call q) (has_room q) (sym c.if-not-panes_fit.ensures)

pub returns-in_err-check_sizes : goal.returns-in_err-check_sizes
unfolding conversion_answer
returns-in_err-check_sizes c =
    let a = c.args in
    let f = c.in_err-check_sizes.field-0.0 in
    let e = c.in_err-check_sizes.ensures in
    let some = some_number f in
    let most = entry_most a.words.now (length a.indices.now) a.limit (length a.side.now) in
    let own : conversion_answer c.from_residual.result ≡ refused (cause_number f) = search rules in
    let kept = both_kept a.limit a.words.now (length a.indices.now) (cause_number f) a.decisions.now a.costs.now (omega arith) (omega arith) in
    ap (λ x. timed_ended (ended x a.decisions.now a.costs.now a.«record».now a.list.now) a.side.now) own
    ∙ refused_ends _ (cause_number f) _ _ (cause_entered _ (cause_number f) e some) some kept.0 kept.1

pub returns-then-not-panes_fit : goal.returns-then-not-panes_fit
unfolding conversion_answer
returns-then-not-panes_fit c =
    let q = (goal.at.returns-then-not-panes_fit c).In_ok-check_sizes in
    let e = c.refuse_panes.ensures in
    let some = some_number c.refuse_panes.result in
    refused_ends (call q) (cause_number c.refuse_panes.result) _ _
    (cause_panes (call q) (has_room q) (sym c.if-not-panes_fit.ensures) (cause_number c.refuse_panes.result) e.value some)
    some e.decisions_after e.costs_after

pub returns-in_err-converted : goal.returns-in_err-converted
unfolding conversion_answer
returns-in_err-converted c =
    let p = goal.at.returns-in_err-converted c in
    let k = call p.In_ok-check_sizes in
    let f = c.in_err-converted.field-0.0 in
    let h = c.in_err-converted.ensures in
    let n = c.bvh2_to_cwbvh.new in
    let own : conversion_answer c.from_residual-in_err-converted.result ≡ refused (cause_number f) = search rules in
    let some = (refused_cause k.untimed (cause_number f)).0 (ap (λ (o : Outcome). o.answer) (sym h)) in
    ap (λ x. timed_ended (ended x n.decisions n.costs n.«record» n.list) k.side) own
    ∙ untimed_ends k (as_untimed p.Else-not-panes_fit) _ k.side h (side_kept k (omega (arith, some.0, some.1)))

answers : (c : In_ok-converted) → let k = call (goal.at.In_ok-converted c).In_ok-check_sizes in let v = c.in_ok-converted.converted in
    (conversion_of k.untimed).answer ≡ converted v.nodes v.level
unfolding conversion_answer
answers c = ap (λ (o : Outcome). o.answer) (sym c.in_ok-converted.ensures)

-- where there are leaves, what is left is as the side table is written from
abbrev ready : (c : In_ok-converted) → 0 < length c.args.indices.now
    → let n = c.bvh2_to_cwbvh.new in Laid n.«record» n.list c.args.spans.now c.in_ok-converted.converted.nodes
ready c some =
    let p = goal.at.In_ok-converted c in
    let v = c.in_ok-converted.converted in
    let h = c.in_ok-converted.ensures in
    laid (call p.In_ok-check_sizes) v.nodes v.level (answers c) some (sym p.Else-not-panes_fit.if-not-panes_fit.ensures) _ _
    (ap (λ (o : Outcome). o.bytes) h) (ap (λ (o : Outcome). o.list) h)

pub write_side-requires : goal.write_side-requires
write_side-requires c =
    let p = goal.at.write_side-requires c in
    let q = p.In_ok-check_sizes in
    let some : 0 < length c.args.indices.now = omega (arith, c.if-some.true) in
    let v = c.in_ok-converted.converted in
    (ready p.In_ok-converted some, side_fits (call q) v.nodes v.level (answers p.In_ok-converted) some (leb-true _ _ (has_room q)))

pub returns-then-some : goal.returns-then-some
unfolding conversion_answer laid
returns-then-some c =
    let p = goal.at.returns-then-some c in
    let k = call p.In_ok-check_sizes in
    let v = c.in_ok-converted.converted in
    let some : 0 < length c.args.indices.now = omega (arith, c.if-some.true) in
    let written = c.write_side.ensures (ready p.In_ok-converted some) ∙ ap (splice k.side 0) (sym (side_is k some)) in
    untimed_ends k (as_untimed p.Else-not-panes_fit) _ _ c.in_ok-converted.ensures
    (written ∙ side_written k (no_cause k v.nodes v.level (answers p.In_ok-converted)))

pub returns-else-some : goal.returns-else-some
unfolding conversion_answer
returns-else-some c =
    let p = goal.at.returns-else-some c in
    let k = call p.In_ok-check_sizes in
    let v = c.in_ok-converted.converted in
    untimed_ends k (as_untimed p.Else-not-panes_fit) _ k.side c.in_ok-converted.ensures
    (sym (splice_none k.side 0) ∙ ap (splice k.side 0) (sym (side_empty k (omega (arith, c.if-some.false))))
    ∙ side_written k (no_cause k v.nodes v.level (answers p.In_ok-converted)))
