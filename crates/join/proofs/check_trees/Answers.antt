use mathlib.Core.Path.{◌≡◌, ap₂, ◌∙◌}
use lib.ListN.{replicate}
use Rattle.std.proofs.Common.{rules}
use Rattle.lists.specs.Splice.{splice}
use Rattle.causes.specs.Refusal.{cause_number, cause_in}
use Rattle.causes.proofs.Refusals.{ok_none, some_number}
use Rattle.bvh2.specs.declared.Bvh2.{Bvh2}
use Rattle.bvh2.specs.FirstCause.{structure_cause}
use Rattle.join.specs.Join.{marks_needed, edge_to_spare}
use Rattle.join.specs.Steps.{lesser_cause}
use Rattle.join.proofs.Causes.{trees_found, trees_deep, trees_pass}
use Rattle.join.proofs.Marks.{both_zeroed}
use Rattle.join.proofs.check_trees.Goals as goal
use Rattle.join.proofs.check_trees.Goals.{After-structure-b, In_ok-accepted, After-edge_to_spare}

-- the marks after both trees
zeroed : (c : After-structure-b) → let t = c.args.trees in c.structure-b.new.marks
    ≡ splice c.args.marks.now 0 (replicate (marks_needed t.first.leaves t.second.leaves) 0)
zeroed c = both_zeroed _ _ _ _ _ c.requires c.structure-a.ensures.marks_after c.structure-b.ensures.marks_after

-- neither tree's structure is a cause
none : (c : In_ok-accepted) → let t = c.args.trees in lesser_cause (structure_cause t.first.words.now t.first.leaves)
    (structure_cause t.second.words.now t.second.leaves) ≡ 0
none c = ok_none c.in_ok-accepted.was (c.both.ensures.value ∙ ap₂ lesser_cause c.structure-a.ensures.value c.structure-b.ensures.value)

first_tree : (c : In_ok-accepted) → c.in_ok-accepted.accepted.first.tree ≡ c.args.trees.first
first_tree c = search rules

second_tree : (c : In_ok-accepted) → c.in_ok-accepted.accepted.second.tree ≡ c.args.trees.second
second_tree c = search rules

-- the edge of these trees
spare : (c : After-edge_to_spare) → let t = c.args.trees in c.edge_to_spare.result
    ≡ edge_to_spare t.first.words.now t.first.leaves t.second.words.now t.second.leaves
spare c =
    let k = (goal.at.After-edge_to_spare c).In_ok-accepted in
    c.edge_to_spare.ensures
    ∙ ap₂ (λ (a b : Bvh2). edge_to_spare a.words.now a.leaves b.words.now b.leaves) (first_tree k) (second_tree k)

pub returns-in_err-accepted : goal.returns-in_err-accepted
returns-in_err-accepted c =
    let f = c.in_err-accepted.field-0.0 in
    let own : cause_in c.from_residual.result ≡ cause_number f = search rules in
    let k = c.in_err-accepted.ensures.value ∙ ap₂ lesser_cause c.structure-a.ensures.value c.structure-b.ensures.value in
    record {
      value = own ∙ trees_found _ _ _ _ (cause_number f) k (some_number f);
      given = search rules;
      marks_after = zeroed (goal.at.returns-in_err-accepted c).After-structure-b;
    }

pub returns-then-not-edge_to_spare : goal.returns-then-not-edge_to_spare
returns-then-not-edge_to_spare c =
    let p = goal.at.returns-then-not-edge_to_spare c in
    record {
      value = trees_deep _ _ _ _ (none p.In_ok-accepted) _ (spare p.After-edge_to_spare) c.if-not-edge_to_spare.true;
      given = tt;
      marks_after = zeroed p.After-structure-b;
    }

pub returns : goal.returns
returns c =
    let p = goal.at.returns c in
    record {
      value = trees_pass _ _ _ _ (none p.In_ok-accepted) _ (spare p.After-edge_to_spare) c.if-not-edge_to_spare.false;
      given = (first_tree p.In_ok-accepted, second_tree p.In_ok-accepted);
      marks_after = zeroed p.After-structure-b;
    }
