use mathlib.Core.Path.{sym, ap, ◌∙◌}
use native.Mathlib.Omega.{arith}
use lib.ListN.{length}
use Rattle.cost.specs.Table.{word_of, cost_of}
use Rattle.cost.proofs.Start.{ready}
use Rattle.causes.proofs.Refusals.{some_number}
use Rattle.bvh2_tables.specs.Tables.{table_size}
use Rattle.bvh2_tables.proofs.Cleared.{cleared-length}
use Rattle.bvh2_tables.proofs.Filled.{still-cleared, tabled-filled, tabled-cleared, decoded}
use Rattle.bvh2_tables.proofs.fill_tables.Goals as goal

pub returns-in_err-structure-clause-decisions_after : goal.returns-in_err-structure-clause-decisions_after
returns-in_err-structure-clause-decisions_after c =
    let s = c.args in
    let d = still-cleared s.tree.leaves s.decisions.now _ _ c.requires.0 c.clear_tables.ensures.decisions_after c.structure.ensures.marks_after in
    tabled-cleared (word_of s.limit) s.tree.words.now _ _ _ (λ q. some_number c.in_err-structure.field-0.0 (c.in_err-structure.ensures.value ∙ q)) d

pub returns-in_err-structure-clause-costs_after : goal.returns-in_err-structure-clause-costs_after
returns-in_err-structure-clause-costs_after c =
    let s = c.args in
    tabled-cleared (cost_of s.limit) s.tree.words.now _ _ _ (λ q. some_number c.in_err-structure.field-0.0 (c.in_err-structure.ensures.value ∙ q))
    c.clear_tables.ensures.costs_after

pub calculate_cost-requires : goal.calculate_cost-requires
calculate_cost-requires c =
    let s = c.args in
    let d = decoded s.tree.words.now s.tree.leaves s.tree.sized c.requires.0 (sym c.in_ok-structure.ensures.value) in
    let kept = ap length c.clear_tables.ensures.decisions_after ∙ cleared-length 0 (table_size s.tree.leaves) s.decisions.now c.requires.1 in
    ready s.tree.words.now s.tree.leaves _ _ d (omega (arith, c.structure.auto.marks, kept)) (omega (arith, c.clear_tables.auto.costs))

pub returns-clause-decisions_after : goal.returns-clause-decisions_after
returns-clause-decisions_after c =
    let s = c.args in
    let d = still-cleared s.tree.leaves s.decisions.now _ _ c.requires.0 c.clear_tables.ensures.decisions_after c.structure.ensures.marks_after in
    tabled-filled (word_of s.limit) s.tree.words.now _ _ _ _ (sym c.in_ok-structure.ensures.value) d c.calculate_cost.ensures.decisions_after

pub returns-clause-costs_after : goal.returns-clause-costs_after
returns-clause-costs_after c =
    let s = c.args in
    tabled-filled (cost_of s.limit) s.tree.words.now _ _ _ _ (sym c.in_ok-structure.ensures.value) c.clear_tables.ensures.costs_after
    c.calculate_cost.ensures.costs_after
