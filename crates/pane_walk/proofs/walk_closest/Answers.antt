use Rattle.std.specs.Prelude as P
use Rattle.std.proofs.Common.{Bool, ◌≡◌, length, sym, ap, ◌∙◌, arith, rules}
use Rattle.causes.specs.Refusal.{cause_number}
use Rattle.walk.specs.Queries.{none, closest}
use Rattle.walk_record.specs.WalkRay.{walk_ray}
use Rattle.walk_record.proofs.WalkRay.{gated_forged}
use Rattle.query.specs.Result.{unanswered}
use Rattle.query.proofs.Entry.{ended_done, ended_refused}
use Rattle.query.proofs.Begins.{leads_begun}
use Rattle.pane_walk.specs.Panes.{pane_of, nearer, refused_closest, closest_found, closest_given}
use Rattle.pane_walk.proofs.Reactions.{found_by, closest_held}
use Rattle.pane_walk.proofs.Queries.{Setting, setting_over, closest_in, closest_ends, AtFirst, first_absent, first_skipped, AtPosition, at_there}
use Rattle.pane_walk.proofs.Queries.{closest_fails, closest_lowers, closest_passes}
use Rattle.pane_walk.proofs.Searches.{AfterSearch, after_search, search_tested, search_done, search_refused, search_no_position}
use Rattle.pane_walk.proofs.walk_closest.Goals as goal
use Rattle.pane_walk.proofs.walk_closest.Goals.{After-admits, After-position_met, After-walk_after-next}

-- ---- once the gate has said whether a position is admitted

module _ (g : _) (c : After-admits g) where
  -- what the walk is over
  abbrev setting : Setting
  setting =
      let a = c.args in setting_over (g.G.Gate.gates a.gate) a.query a.on.indices.now a.on.panes.now c.loop-walk-2.aim.octant c.requires.positions

  first : AtFirst setting (closest_in setting) (closest_ends setting c.args.query.aim.ray) c.loop-walk-2.aim.ray c.loop-walk-2.walk
      c.loop-walk.stack (found_by c.loop-walk-2.answer) c.first_position-p.result c.admits.result
  first = record { leads = c.loop-walk-2.invariant.2; held = c.loop-walk-2-test.true; named = c.first_position-p.ensures; is = c.admits.ensures }

-- ---- once it is met

module _ (g : _) (c : After-position_met g) where
  abbrev setting_met : Setting
  setting_met =
      let a = c.args in setting_over (g.G.Gate.gates a.gate) a.query a.on.indices.now a.on.panes.now c.loop-walk-2.aim.octant c.requires.positions

  at : AtPosition setting_met (closest_in setting_met) (closest_ends setting_met c.args.query.aim.ray) c.loop-walk-2.aim.ray c.loop-walk-2.walk
      c.loop-walk.stack (found_by c.loop-walk-2.answer) c.first_position-p.result c.position_met.result
  at = record {
    said = c.admits.result;
    first = record {
      leads = c.loop-walk-2.invariant.2;
      held = c.loop-walk-2-test.true;
      named = c.first_position-p.ensures;
      is = c.admits.ensures;
    };
    admitted = c.in_ok-admits.was ∙ ap (λ (b : Bool). P.Ok b) c.if-not-branch.false;
    pane = c.position_met.ensures;
  }

-- ---- after a search

module _ (g : _) (c : After-walk_after-next g) where
  abbrev setting_then : Setting
  setting_then =
      let a = c.args in setting_over (g.G.Gate.gates a.gate) a.query a.on.indices.now a.on.panes.now c.loop-walk-2.aim.octant c.requires.positions

  after : AfterSearch setting_then (closest_in setting_then) (closest_ends setting_then c.args.query.aim.ray)
      c.loop-walk-2.aim.ray c.loop-walk-2.walk c.loop-walk.stack (found_by c.loop-walk-2.answer)
      (record { answer = c.seek_on-turn.result.answer; walk = c.walk_after-next.result }) c.seek_on-turn.new.stack
  after =
      after_search 0xffff_ffff c.loop-walk-2.invariant.2 c.loop-walk-2-test.false _ _ c.walk_after-next.ensures _ _ c.requires.positions
      c.seek_on-turn.ensures

pub loop-walk-init : goal.loop-walk-init
loop-walk-init g c =
    let q = c.args.query in
    let on = c.args.on in (
      tt,
      leads_begun (g.G.Gate.gates c.args.gate) q.bvh.bytes.now (length on.indices.now) q.fields
          (closest (pane_of on.indices.now on.panes.now) nearer) none q.aim.ray
          (gated_forged (g.G.Gate.gates c.args.gate) (walk_ray q.aim.ray) c.requires.unforged q.accepted) q.aim.octant q.own
          c.begin-walk.result c.begin-walk.ensures,
    )

pub overflow_cast-answer : goal.overflow_cast-answer
overflow_cast-answer g c =
    let p = (at_there (at g (goal.at.overflow_cast-answer g c).After-position_met) _ c.in_ok-t.was).0 in
    omega (arith, p, c.requires, c.args.query.bvh.fit.few)

pub loop-walk-2-smaller-then-counts : goal.loop-walk-2-smaller-then-counts
loop-walk-2-smaller-then-counts g c =
    let k = (goal.at.loop-walk-2-smaller-then-counts g c).After-position_met in
    (closest_lowers (at g k) _ c.rest_of-positions.ensures _ c.in_ok-t.was (sym c.counts.ensures ∙ c.if-counts.true)).less

pub loop-walk-2-preserved-then-counts : goal.loop-walk-2-preserved-then-counts
loop-walk-2-preserved-then-counts g c =
    let k = (goal.at.loop-walk-2-preserved-then-counts g c).After-position_met in
    let g = closest_lowers (at g k) _ c.rest_of-positions.ensures _ c.in_ok-t.was (sym c.counts.ensures ∙ c.if-counts.true) in
    let e = c.set_reach.ensures in
    (tt, omega (arith, g.less, c.loop-walk-2.invariant.1), rw (e.0, e.1) g.leads)

pub loop-walk-2-smaller : goal.loop-walk-2-smaller
loop-walk-2-smaller g c =
    let k = (goal.at.loop-walk-2-smaller g c).After-position_met in
    (closest_passes (at g k) _ c.rest_of-positions.ensures _ c.in_ok-t.was (sym c.counts.ensures ∙ c.if-counts.false)).less

pub loop-walk-2-preserved : goal.loop-walk-2-preserved
loop-walk-2-preserved g c =
    let k = (goal.at.loop-walk-2-preserved g c).After-position_met in
    let g = closest_passes (at g k) _ c.rest_of-positions.ensures _ c.in_ok-t.was (sym c.counts.ensures ∙ c.if-counts.false) in
    let i = c.loop-walk-2.invariant in
    (i.0, omega (arith, g.less, i.1), g.leads)

pub returns-in_err-t : goal.returns-in_err-t
unfolding closest_given
returns-in_err-t g c =
    let k = (goal.at.returns-in_err-t g c).After-position_met in
    let f = c.in_err-t.field-0.0 in
    let own : closest_given c.from_residual-in_err-t.result ≡ unanswered (refused_closest (cause_number f)) = search rules in
    own ∙ closest_fails (at g k) f c.in_err-t.was

pub loop-walk-smaller : goal.loop-walk-smaller
loop-walk-smaller g c =
    let k = (goal.at.loop-walk-smaller g c).After-walk_after-next in
    omega (arith, (search_tested (after g k) _ c.in-Tested.is).less, c.loop-walk-2.invariant.1)

pub loop-walk-preserved : goal.loop-walk-preserved
loop-walk-preserved g c =
    let k = (goal.at.loop-walk-preserved g c).After-walk_after-next in
    let i = c.loop-walk-2.invariant in
    (i.0, (search_tested (after g k) _ c.in-Tested.is).leads)

pub returns-in-Done : goal.returns-in-Done
unfolding closest_given
returns-in-Done g c =
    let k = (goal.at.returns-in-Done g c).After-walk_after-next in
    closest_held c.loop-walk-2.answer c.walk_after-next.result.tests c.loop-walk-2.invariant.0
    ∙ ended_done refused_closest closest_found (closest_ends (setting_then g k) c.args.query.aim.ray) _ _ (search_done (after g k) c.in-Done.is)

pub returns-in-Refused : goal.returns-in-Refused
unfolding closest_given
returns-in-Refused g c =
    let k = (goal.at.returns-in-Refused g c).After-walk_after-next in
    ended_refused refused_closest closest_found (closest_ends (setting_then g k) c.args.query.aim.ray) _ _ _
    (search_refused (after g k) c.in-Refused.refusal c.in-Refused.is)

pub returns-in-Position : goal.returns-in-Position
returns-in-Position g c =
    absurd (search_no_position (after g (goal.at.returns-in-Position g c).After-walk_after-next) _ c.in-Position.is)

pub returns-in_err-admits : goal.returns-in_err-admits
unfolding closest_given
returns-in_err-admits g c =
    let k = (goal.at.returns-in_err-admits g c).After-admits in
    let f = c.in_err-admits.field-0.0 in
    let own : closest_given c.from_residual.result ≡ unanswered (refused_closest (cause_number f)) = search rules in
    own ∙ first_absent (first g k) refused_closest closest_found f c.in_err-admits.was

pub loop-walk-2-smaller-then-not-branch : goal.loop-walk-2-smaller-then-not-branch
loop-walk-2-smaller-then-not-branch g c =
    let k = (goal.at.loop-walk-2-smaller-then-not-branch g c).After-admits in
    (first_skipped (first g k) _ c.rest_of-positions.ensures (c.in_ok-admits.was ∙ ap (λ (b : Bool). P.Ok b) c.if-not-branch.true)).less

pub loop-walk-2-preserved-then-not-branch : goal.loop-walk-2-preserved-then-not-branch
loop-walk-2-preserved-then-not-branch g c =
    let k = (goal.at.loop-walk-2-preserved-then-not-branch g c).After-admits in
    let s = first_skipped (first g k) _ c.rest_of-positions.ensures (c.in_ok-admits.was ∙ ap (λ (b : Bool). P.Ok b) c.if-not-branch.true) in
    let i = c.loop-walk-2.invariant in
    (i.0, omega (arith, s.less, i.1), s.leads)
