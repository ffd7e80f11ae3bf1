use mathlib.Core.Path.{◌≡◌, sym, ◌∙◌}
use Prim.Native.Nat.{◌<◌}
use native.Mathlib.Omega.{arith}
use lib.ListN.{length}
use Rattle.std.proofs.Common.{rules}
use Rattle.float.specs.Compare.{plus_zero}
use Rattle.causes.specs.Refusal.{cause_number, cause_in}
use Rattle.causes.proofs.Refusals.{some_number}
use Rattle.bvh2.specs.FirstCause.{sizes_cause}
use Rattle.bvh2_check.proofs.Verdict.{none}
use Rattle.cost.specs.Table.{word_of, cost_of}
use Rattle.bvh2_tables.proofs.Causes.{tabled_at, sizes_most, cause_size, cause_limit, cause_room, cause_structure, both_kept}
use Rattle.bvh2_tables.proofs.Causes.{work_none}
use Rattle.bvh2_tables.proofs.Room.{room_parts}
use Rattle.bvh2_tables.proofs.prepare.Goals as goal

pub returns-in_err-tree : goal.returns-in_err-tree
returns-in_err-tree c =
    let s = c.args in
    let f = c.in_err-tree.field-0.0 in
    let own : cause_in c.from_residual.result ≡ cause_number f = search rules in
    let e : cause_in c.from_residual.result ≡ sizes_cause (length s.words.now) s.n = own ∙ c.in_err-tree.ensures.value in
    let some = λ (z : cause_in c.from_residual.result ≡ 0). some_number f (sym own ∙ z) in
    let m = sizes_most (length s.words.now) s.n in
    let kept = both_kept s.limit s.words.now s.n (cause_in c.from_residual.result) _ _ (omega arith) (omega arith) in
    record { value = cause_size s.words.now s.n s.limit _ _ e some; decisions_after = kept.0; costs_after = kept.1 }

pub returns-then-over : goal.returns-then-over
returns-then-over c =
    let s = c.args in
    let kept = both_kept s.limit s.words.now s.n 3 _ _ (omega arith) (omega arith) in
    record {
      value = cause_limit s.words.now s.n s.limit _ (sym c.in_ok-tree.ensures.value) c.if-over.true;
      decisions_after = kept.0;
      costs_after = kept.1;
    }

pub returns-then-not-has_room : goal.returns-then-not-has_room
returns-then-not-has_room c =
    let s = c.args in
    let room = rw c.in_ok-tree.ensures.tree.1 at c.if-not-has_room.ensures in
    let kept = both_kept s.limit s.words.now s.n 4 _ _ (omega arith) (omega arith) in
    record {
      value = cause_room s.words.now s.n s.limit _ (sym c.in_ok-tree.ensures.value) c.if-over.false (sym room);
      decisions_after = kept.0;
      costs_after = kept.1;
    }

pub returns-then-n-eq0 : goal.returns-then-n-eq0
returns-then-n-eq0 c =
    let s = c.args in
    let z = c.if-n-eq0.true in
    let room = rw c.in_ok-tree.ensures.tree.1 at c.if-not-has_room.ensures in
    record {
      value = none s.words.now s.n z
          ∙ cause_structure s.words.now s.n s.limit _ (sym c.in_ok-tree.ensures.value) c.if-over.false (sym room);
      decisions_after = work_none 0 (word_of s.limit) s.words.now s.n 0 _ z;
      costs_after = work_none plus_zero (cost_of s.limit) s.words.now s.n 0 _ z;
    }

pub fill_tables-requires : goal.fill_tables-requires
fill_tables-requires c =
    let r = room_parts _ _ (sym c.if-not-has_room.ensures) in
    (omega (arith, c.in_ok-tree.ensures.tree.1), r.0, r.1)

pub returns : goal.returns
returns c =
    let s = c.args in
    let q = c.in_ok-tree.ensures.tree in
    let e = rw (q.0, q.1) at c.fill_tables.ensures in
    let room = rw q.1 at c.if-not-has_room.ensures in
    let p : 0 < s.n = omega arith in
    record {
      value = e.value ∙ cause_structure s.words.now s.n s.limit _ (sym c.in_ok-tree.ensures.value) c.if-over.false (sym room);
      decisions_after = tabled_at (word_of s.limit) 0 s.words.now s.n (cause_in c.fill_tables.result) s.decisions.now _ p e.value e.decisions_after;
      costs_after = tabled_at (cost_of s.limit) plus_zero s.words.now s.n (cause_in c.fill_tables.result) s.costs.now _ p e.value e.costs_after;
    }
