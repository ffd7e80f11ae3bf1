use mathlib.Core.Path.{◌≡◌, sym, ◌∙◌}
use native.Mathlib.Omega.{arith}
use Rattle.std.proofs.Common.{rules}
use Rattle.causes.specs.Refusal.{cause_number, cause_in}
use Rattle.causes.proofs.Refusals.{some_number}
use Rattle.bvh2_to_cwbvh_timed.proofs.Entry.{entry_sizes, entry_limit, entry_room, entry_none}
use Rattle.bvh2_to_cwbvh_timed.proofs.check_sizes.Goals as goal

pub returns-in_err-tree : goal.returns-in_err-tree
returns-in_err-tree c =
    let s = c.args in
    let f = c.in_err-tree.field-0.0 in
    let own : cause_in c.from_residual.result ≡ cause_number f = search rules in
    entry_sizes s.words.now s.n s.limit s.side _ (own ∙ c.in_err-tree.ensures.value) (λ z. some_number f (sym own ∙ z))

pub returns-then-over : goal.returns-then-over
returns-then-over c =
    let s = c.args in entry_limit s.words.now s.n s.limit s.side (sym c.in_ok-tree.ensures.value) c.if-over.true

pub returns-then-short : goal.returns-then-short
returns-then-short c =
    let s = c.args in
    let size = rw c.in_ok-tree.ensures.tree.1 at c.side_size.ensures in
    entry_room s.words.now s.n s.limit s.side (sym c.in_ok-tree.ensures.value) c.if-over.false (omega (arith, size, c.if-short.true))

pub returns : goal.returns
returns c =
    let s = c.args in
    let size = rw c.in_ok-tree.ensures.tree.1 at c.side_size.ensures in
    entry_none s.words.now s.n s.limit s.side (sym c.in_ok-tree.ensures.value) c.if-over.false (omega (arith, size, c.if-short.false))
