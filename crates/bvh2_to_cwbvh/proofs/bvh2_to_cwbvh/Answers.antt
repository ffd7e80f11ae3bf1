use mathlib.Core.Path.{◌≡◌, ap, ◌∙◌}
use Prim.Native.Nat.{◌<◌}
use native.Mathlib.Omega.{arith}
use Rattle.std.proofs.Common.{rules}
use Rattle.causes.specs.Refusal.{cause_number}
use Rattle.causes.proofs.Refusals.{some_number}
use Rattle.children.proofs.Start.{tabled_most}
use Rattle.emit_tree.proofs.WholeTree.{emit_most}
use Rattle.bvh2_tables.specs.Call.{Call, leaf_count}
use Rattle.bvh2_to_cwbvh.specs.Conversion.{refused}
use Rattle.bvh2_to_cwbvh.specs.Answer.{conversion_answer}
use Rattle.bvh2_to_cwbvh.proofs.Endings.{Prepares, ended, early_ends, empty_ends, level_ready, emit_ready, level_found, few_leaves, words_room}
use Rattle.bvh2_to_cwbvh.proofs.Endings.{costs_room, deep_ends, written_ends, nodes_fit}
use Rattle.bvh2_to_cwbvh.proofs.Ready.{is_root}
use Rattle.bvh2_to_cwbvh.proofs.bvh2_to_cwbvh.Goals as goal
use Rattle.bvh2_to_cwbvh.proofs.bvh2_to_cwbvh.Goals.{In_ok-prepare, Else-empty}

-- ---- the call, and what is known once the tables are made
abbrev call : In_ok-prepare → Call
call q =
    let a = q.args in
    record {
      words = a.words.now;
      indices = a.indices.now;
      limit = a.limit;
      ordered = a.ordered;
      decisions = a.decisions.now;
      costs = a.costs.now;
      bytes = a.«record».now;
      list = a.list.now;
    }

prepared : (q : In_ok-prepare) → Prepares (call q) 0 q.prepare.new.decisions q.prepare.new.costs
prepared q = let e = q.in_ok-prepare.ensures in record { cause = e.value; decisions = e.decisions_after; costs = e.costs_after }

-- there are leaves
some : (c : Else-empty) → 0 < leaf_count (call (goal.at.Else-empty c).In_ok-prepare)
some c = omega (arith, c.if-empty.false)

pub returns-in_err-prepare : goal.returns-in_err-prepare
unfolding conversion_answer
returns-in_err-prepare c =
    let f = c.in_err-prepare.field-0.0 in
    let e = c.in_err-prepare.ensures in
    let own : conversion_answer c.from_residual.result ≡ refused (cause_number f) = search rules in
    let a = c.args in
    let n = c.prepare.new in
    ap (λ x. ended x n.decisions n.costs a.«record».now a.list.now) own
    ∙ early_ends (record { cause = e.value; decisions = e.decisions_after; costs = e.costs_after }) (some_number f)

pub returns-then-empty : goal.returns-then-empty
unfolding conversion_answer
returns-then-empty c = empty_ends (prepared (goal.at.returns-then-empty c).In_ok-prepare) c.if-empty.true

pub invariant_of-root : goal.invariant_of-root
invariant_of-root c =
    let p = goal.at.invariant_of-root c in
    record { tabled = ∣ tabled_most (level_ready (prepared p.In_ok-prepare) (some p.Else-empty)) ∣₁ }

pub clear_tables-requires : goal.clear_tables-requires
clear_tables-requires c =
    let p = goal.at.clear_tables-requires c in
    let q = prepared p.In_ok-prepare in
    let s = some p.Else-empty in
    (few_leaves q s, words_room q s, costs_room q s)

pub returns-then-deep : goal.returns-then-deep
unfolding conversion_answer
returns-then-deep c =
    let p = goal.at.returns-then-deep c in
    let r = c.deepest_level-deepest in
    let e = c.clear_tables.ensures in
    let q = prepared p.In_ok-prepare in
    let s = some p.Else-empty in
    deep_ends q s r.result (level_found q s r.ensures) _ _ c.if-deep.true e.decisions_after e.costs_after

pub emit-written-requires : goal.emit-written-requires
emit-written-requires c =
    let p = goal.at.emit-written-requires c in
    emit_most (emit_ready (prepared p.In_ok-prepare) (some p.Else-empty) _ is_root)

pub overflow_cast-result : goal.overflow_cast-result
overflow_cast-result c =
    let p = goal.at.overflow_cast-result c in
    let r = c.deepest_level-deepest in
    let o = c.emit-written in
    let q = prepared p.In_ok-prepare in
    let s = some p.Else-empty in
    omega (arith, nodes_fit q s r.result (level_found q s r.ensures) _ is_root _ _ o.result o.ensures)

pub returns : goal.returns
unfolding conversion_answer
returns c =
    let p = goal.at.returns c in
    let r = c.deepest_level-deepest in
    let o = c.emit-written in
    let q = prepared p.In_ok-prepare in
    let s = some p.Else-empty in
    written_ends q s r.result (level_found q s r.ensures) c.if-deep.false _ is_root o.new.bytes o.new.out o.result o.ensures
