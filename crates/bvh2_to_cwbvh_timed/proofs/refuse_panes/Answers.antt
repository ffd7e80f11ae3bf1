use mathlib.Core.Logic.{inl, inr}
use mathlib.Core.Path.{refl, sym, ◌∙◌}
use native.Mathlib.Omega.{arith}
use Rattle.float.specs.Compare.{plus_zero}
use Rattle.lists.proofs.Tells.{told, denied}
use Rattle.causes.specs.Refusal.{cause_number}
use Rattle.causes.proofs.Refusals.{some_number}
use Rattle.cost.specs.Table.{word_of, cost_of}
use Rattle.bvh2_to_cwbvh_timed.proofs.OneTree.{one_tree_tells}
use Rattle.bvh2_to_cwbvh_timed.proofs.Refused.{panes_first, panes_later, filled, cleared_alike, filled_cleared}
use Rattle.bvh2_to_cwbvh_timed.proofs.refuse_panes.Goals as goal

pub clear_tables-requires : goal.clear_tables-requires
clear_tables-requires c =
    let a = c.args in
    let f = filled a.words.now a.n a.limit _ (sym c.in-Ok.ensures.value) in
    (omega (arith, f.few), omega (arith, f.words), omega (arith, f.costs))

pub returns-in-Ok-clause-value : goal.returns-in-Ok-clause-value
returns-in-Ok-clause-value c = sym (panes_first c.args.words.now c.args.n c.args.limit _ 0 (sym c.in-Ok.ensures.value) (inl refl))

pub returns-in-Ok-clause-decisions_after : goal.returns-in-Ok-clause-decisions_after
returns-in-Ok-clause-decisions_after c =
    let a = c.args in
    let f = filled a.words.now a.n a.limit _ (sym c.in-Ok.ensures.value) in
    filled_cleared 0 (word_of a.limit) a.words.now a.n 14 a.decisions.now _ _ (omega arith) f.tree c.in-Ok.ensures.decisions_after
    c.clear_tables.ensures.decisions_after

pub returns-in-Ok-clause-costs_after : goal.returns-in-Ok-clause-costs_after
returns-in-Ok-clause-costs_after c =
    let a = c.args in
    let f = filled a.words.now a.n a.limit _ (sym c.in-Ok.ensures.value) in
    filled_cleared plus_zero (cost_of a.limit) a.words.now a.n 14 a.costs.now _ _ (omega arith) f.tree c.in-Ok.ensures.costs_after
    c.clear_tables.ensures.costs_after

pub returns-in-Err-clause-value : goal.returns-in-Err-clause-value
returns-in-Err-clause-value c =
    let seven = told (one_tree_tells c.in-Err.refusal) (sym c.if-eq.ensures) in
    sym (panes_first c.args.words.now c.args.n c.args.limit _ 7 (sym c.in-Err.ensures.value ∙ seven) (inr refl))

pub returns-in-Err-clause-decisions_after : goal.returns-in-Err-clause-decisions_after
returns-in-Err-clause-decisions_after c =
    let a = c.args in
    let seven = told (one_tree_tells c.in-Err.refusal) (sym c.if-eq.ensures) in
    c.in-Err.ensures.decisions_after
    ∙ cleared_alike 0 (word_of a.limit) a.words.now a.n (cause_number c.in-Err.refusal) 14 a.decisions.now (omega arith) (omega arith)

pub returns-in-Err-clause-costs_after : goal.returns-in-Err-clause-costs_after
returns-in-Err-clause-costs_after c =
    let a = c.args in
    let seven = told (one_tree_tells c.in-Err.refusal) (sym c.if-eq.ensures) in
    c.in-Err.ensures.costs_after
    ∙ cleared_alike plus_zero (cost_of a.limit) a.words.now a.n (cause_number c.in-Err.refusal) 14 a.costs.now (omega arith) (omega arith)

pub returns-in-Err-2-clause-value : goal.returns-in-Err-2-clause-value
returns-in-Err-2-clause-value c =
    let e = c.in-Err.ensures.value in
    let f = c.in-Err.refusal in
    e
    ∙ sym (panes_later c.args.words.now c.args.n c.args.limit _ (λ z. some_number f (e ∙ z))
    (λ z. denied (one_tree_tells f) (sym c.if-eq.ensures) (e ∙ z)))
