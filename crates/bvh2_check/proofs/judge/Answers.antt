use mathlib.Core.Bool.{true, false}
use mathlib.Core.Path.{refl, sym}
use native.Mathlib.Omega.{arith}
use Rattle.causes.specs.Causes.{first_cause}
use Rattle.bvh2_check.specs.Marking.{mark_count}
use Rattle.bvh2_check.proofs.Verdict.{judge_5, judge_6, Begun, ready, ended}
use Rattle.bvh2_check.proofs.judge.Goals as goal
use Rattle.bvh2_check.proofs.judge.Goals.{Else-not-boxes_accepted}
use Rattle.bvh2_check.proofs.judge.Goals.{then-not-visit-via-then-not-visit, then-not-visit-via-else-not-visit+then-not-all_marked}

begun : (c : Else-not-boxes_accepted) → Begun c.args.tree.words.now c.args.tree.leaves c.args.marks.now
begun c = record {
  pos = c.requires.0;
  zeros = c.requires.1;
  links = sym c.if-not-links_inside.ensures;
  boxes = sym c.if-not-boxes_accepted.ensures;
}

pub returns-then-not-links_inside : goal.returns-then-not-links_inside
returns-then-not-links_inside c = judge_5 _ _ c.requires.0 (sym c.if-not-links_inside.ensures)

pub returns-then-not-boxes_accepted : goal.returns-then-not-boxes_accepted
returns-then-not-boxes_accepted c = judge_6 _ _ c.requires.0 (sym c.if-not-links_inside.ensures) (sym c.if-not-boxes_accepted.ensures)

pub visit-requires : goal.visit-requires
visit-requires c = ready (begun (goal.at.visit-requires c).Else-not-boxes_accepted)

pub returns-then-not-visit : goal.returns-then-not-visit
unfolding first_cause
returns-then-not-visit c =
    let b = begun (goal.at.returns-then-not-visit c).Else-not-boxes_accepted in
    elim c.then-not-visit.branch [
      | then-not-visit-via-then-not-visit w ↦ ended b _ false w.if-not-visit.ensures (mark_count c.args.tree.leaves) refl _ refl
      | then-not-visit-via-else-not-visit+then-not-all_marked w ↦
          ended b _ true w.if-not-visit.ensures _ (omega arith) false w.if-not-all_marked.ensures
    ]

pub returns : goal.returns
unfolding first_cause
returns c =
    ended (begun (goal.at.returns c).Else-not-boxes_accepted) _ true c.if-not-visit.ensures _ (omega arith) true c.if-not-all_marked.ensures
