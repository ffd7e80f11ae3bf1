use mathlib.Core.Path.{◌≡◌, sym, ◌∙◌}
use native.Mathlib.Omega.{arith}
use Prim.Native.Nat.{ℕ, ◌*◌, ◌≤◌}
use lib.ListN.{length}
use Rattle.std.proofs.Common.{rules}
use Rattle.std.specs.Prelude.{Result, Err}
use Rattle.lists.specs.Splice.{splice}
use Rattle.causes.specs.declared.Refusal.{Refusal}
use Rattle.causes.specs.Causes.{first_cause}
use Rattle.causes.specs.Refusal.{cause_in}
use Rattle.causes.proofs.Refusals.{ok_none, err_number, some_number}
use Rattle.bvh2.specs.Words.{tree_nodes}
use Rattle.join.specs.Join.{JoinCall, first_leaves, second_leaves, both_leaves, joined_words, marks_needed, size_tests, tree_tests, zeroed_marks}
use Rattle.join.specs.Join.{joining_answer}
use Rattle.join.proofs.Room.{room_parts}
use Rattle.join.proofs.Ends.{room_left, ends_sizes, ends_trees, ends_sums, ends_joined}
use Rattle.join.proofs.join.Goals as goal
use Rattle.join.proofs.join.Goals.{Start, In_ok-trees, After-check_trees, In_ok-accepted, After-put_words}

-- the call
abbrev call_of : Start → JoinCall
call_of s = record {
  first = s.args.first.now;
  first_indices = s.args.first_indices.now;
  panes = s.args.first_panes;
  second = s.args.second.now;
  second_indices = s.args.second_indices.now;
  marks = s.args.marks.now;
  words = s.args.words.now;
  indices = s.args.indices.now;
}

-- the trees are looked at where sizes are no cause
no_size : (t : In_ok-trees) → let c = call_of (goal.at.In_ok-trees t).Start in
    first_cause (size_tests (length c.first) (first_leaves c) (length c.second) (second_leaves c) (length c.marks) (length c.words)
    (length c.indices)) ≡ 0
no_size t = ok_none t.in_ok-trees.was t.check_sizes.ensures.value

-- by the causes of the call's own trees, with the marks zero
trees_cause : (t : After-check_trees) → let c = call_of (goal.at.After-check_trees t).Start in
    cause_in t.check_trees.result ≡ first_cause (tree_tests c.first (first_leaves c) c.second (second_leaves c))
trees_cause t =
    let e = t.in_ok-trees.ensures in
    rw (e.first.0, e.first.1, e.second.0, e.second.1) at t.check_trees.ensures.value

marks_zero : (t : After-check_trees) → t.check_trees.new.marks ≡ zeroed_marks (call_of (goal.at.After-check_trees t).Start)
marks_zero t =
    let e = t.in_ok-trees.ensures in
    rw (e.first.1, e.second.1) at t.check_trees.ensures.marks_after

-- they are written where these are no cause either
no_tree : (t : In_ok-accepted) → let c = call_of (goal.at.In_ok-accepted t).Start in
    first_cause (tree_tests c.first (first_leaves c) c.second (second_leaves c)) ≡ 0
no_tree t = ok_none t.in_ok-accepted.was (trees_cause (goal.at.In_ok-accepted t).After-check_trees)

room : (t : In_ok-accepted) → let c = call_of (goal.at.In_ok-accepted t).Start in
    (marks_needed (first_leaves c) (second_leaves c) ≤ length c.marks) × (tree_nodes (both_leaves c) * 7 ≤ length c.words)
    × (both_leaves c ≤ length c.indices)
room t =
    let p = goal.at.In_ok-accepted t in
    room_parts _ _ _ _ _ (room_left (call_of p.Start) (no_size p.In_ok-trees))

words_joined : (t : After-put_words) → let c = call_of (goal.at.After-put_words t).Start in
    t.put_words.new.words ≡ splice c.words 0 (joined_words c.first (first_leaves c) c.second (second_leaves c))
words_joined t =
    let e = t.in_ok-trees.ensures in
    let a = t.in_ok-accepted.ensures.given in
    rw (a.0, a.1, e.first.0, e.first.1, e.second.0, e.second.1) at t.put_words.ensures

pub returns-in_err-trees : goal.returns-in_err-trees
unfolding joining_answer
returns-in_err-trees c =
    let f = c.in_err-trees.field-0.0 in
    let own : ◌≡◌ {A = Result ℕ Refusal} c.from_residual.result (Err f) = search rules in
    rw own (ends_sizes (call_of (goal.at.returns-in_err-trees c).Start) _ c.in_err-trees.ensures.value (some_number f))

pub check_trees-requires : goal.check_trees-requires
check_trees-requires c =
    let p = goal.at.check_trees-requires c in
    let r = room_parts _ _ _ _ _ (room_left (call_of p.Start) (no_size p.In_ok-trees)) in
    omega (arith, r.0, c.in_ok-trees.ensures.first.1, c.in_ok-trees.ensures.second.1)

pub returns-in_err-accepted : goal.returns-in_err-accepted
unfolding joining_answer
returns-in_err-accepted c =
    let p = goal.at.returns-in_err-accepted c in
    let f = c.in_err-accepted.field-0.0 in
    let own : ◌≡◌ {A = Result ℕ Refusal} c.from_residual-in_err-accepted.result (Err f) = search rules in
    let cause = err_number c.in_err-accepted.was (trees_cause p.After-check_trees) in
    rw own (ends_trees (call_of p.Start) (no_size p.In_ok-trees) _ cause (some_number f) _ (marks_zero p.After-check_trees))

pub returns-then-not-sums_fit : goal.returns-then-not-sums_fit
unfolding joining_answer
returns-then-not-sums_fit c =
    let p = goal.at.returns-then-not-sums_fit c in
    ends_sums (call_of p.Start) (no_size p.In_ok-trees) (no_tree p.In_ok-accepted) _ (marks_zero p.After-check_trees) _ c.sums_fit.ensures
    c.if-not-sums_fit.true

pub put_words-requires : goal.put_words-requires
put_words-requires c =
    let e = c.in_ok-trees.ensures in
    let a = c.in_ok-accepted.ensures.given in
    let k : c.in_ok-accepted.accepted.first.tree.leaves ≡ length c.args.first_indices.now = rw a.0 e.first.1 in
    let j : c.in_ok-accepted.accepted.second.tree.leaves ≡ length c.args.second_indices.now = rw a.1 e.second.1 in
    omega (arith, (room (goal.at.put_words-requires c).In_ok-accepted).1)

pub put_indices-requires : goal.put_indices-requires
put_indices-requires c = ((room (goal.at.put_indices-requires c).In_ok-accepted).2, sym c.sums_fit.ensures ∙ c.if-not-sums_fit.false)

pub returns : goal.returns
unfolding joining_answer
returns c =
    let p = goal.at.returns c in
    ends_joined (call_of p.Start) (no_size p.In_ok-trees) (no_tree p.In_ok-accepted) _ (marks_zero p.After-check_trees) _ c.sums_fit.ensures
    c.if-not-sums_fit.false _ _ (words_joined p.After-put_words) c.put_indices.ensures
