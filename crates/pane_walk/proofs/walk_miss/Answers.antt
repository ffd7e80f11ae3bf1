use Rattle.std.specs.Prelude as P
use Rattle.std.proofs.Common.{Bool, ◌≡◌, length, refl, sym, ap, ◌∙◌, arith, rules}
use Rattle.causes.specs.Refusal.{cause_number}
use Rattle.walk.specs.Queries.{none, miss}
use Rattle.walk_record.specs.WalkRay.{walk_ray}
use Rattle.walk_record.proofs.WalkRay.{gated_forged}
use Rattle.query.specs.Result.{unanswered}
use Rattle.query.proofs.Entry.{ended_done, ended_refused}
use Rattle.query.proofs.Begins.{leads_begun}
use Rattle.pane_walk.specs.declared.Occlusion.{Occlusion}
use Rattle.pane_walk.specs.Panes.{pane_of, nearer, refused_miss, miss_found, miss_answer, miss_result}
use Rattle.pane_walk.proofs.Queries.{Setting, setting_over, miss_in, miss_ends, AtFirst, first_absent, first_skipped, AtPosition}
use Rattle.pane_walk.proofs.Queries.{miss_fails, miss_blocks, miss_passes}
use Rattle.pane_walk.proofs.Searches.{AfterSearch, after_search, search_tested, search_done, search_refused, search_no_position}
use Rattle.pane_walk.proofs.walk_miss.Goals as goal
use Rattle.pane_walk.proofs.walk_miss.Goals.{After-admits, After-position_met, After-walk_after-next}

-- ---- once the gate has said whether a position is admitted

module _ (g : _) (c : After-admits g) where
  -- what the walk is over
  abbrev setting : Setting
  setting = let a = c.args in setting_over (g.G.Gate.gates a.gate) a.query a.on.indices.now a.on.panes.now a.query.aim.octant c.requires.positions

  first : AtFirst setting (miss_in setting) (miss_ends setting c.args.query.aim.ray) c.args.query.aim.ray c.loop-walk.walk c.walk.stack none
      c.first_position-position.result c.admits.result
  first = record { leads = c.loop-walk.invariant.2; held = c.loop-walk-test.true; named = c.first_position-position.ensures; is = c.admits.ensures }

-- ---- once it is met

module _ (g : _) (c : After-position_met g) where
  abbrev setting_met : Setting
  setting_met =
      let a = c.args in setting_over (g.G.Gate.gates a.gate) a.query a.on.indices.now a.on.panes.now a.query.aim.octant c.requires.positions

  at : AtPosition setting_met (miss_in setting_met) (miss_ends setting_met c.args.query.aim.ray) c.args.query.aim.ray c.loop-walk.walk
      c.walk.stack none c.first_position-position.result c.position_met.result
  at = record {
    said = c.admits.result;
    first = record {
      leads = c.loop-walk.invariant.2;
      held = c.loop-walk-test.true;
      named = c.first_position-position.ensures;
      is = c.admits.ensures;
    };
    admitted = c.in_ok-admits.was ∙ ap (λ (b : Bool). P.Ok b) c.if-not-branch.false;
    pane = c.position_met.ensures;
  }

-- ---- after a search

module _ (g : _) (c : After-walk_after-next g) where
  abbrev setting_then : Setting
  setting_then =
      let a = c.args in setting_over (g.G.Gate.gates a.gate) a.query a.on.indices.now a.on.panes.now a.query.aim.octant c.requires.positions

  after : AfterSearch setting_then (miss_in setting_then) (miss_ends setting_then c.args.query.aim.ray) c.args.query.aim.ray c.loop-walk.walk
      c.walk.stack none (record { answer = c.seek_on-turn.result.answer; walk = c.walk_after-next.result }) c.seek_on-turn.new.stack
  after =
      after_search 0xffff_ffff c.loop-walk.invariant.2 c.loop-walk-test.false _ _ c.walk_after-next.ensures _ _ c.requires.positions
      c.seek_on-turn.ensures

pub walk-init : goal.walk-init
walk-init g c =
    let q = c.args.query in
    let on = c.args.on in (
      refl,
      leads_begun (g.G.Gate.gates c.args.gate) q.bvh.bytes.now (length on.indices.now) q.fields
          (miss (pane_of on.indices.now on.panes.now) nearer) none q.aim.ray
          (gated_forged (g.G.Gate.gates c.args.gate) (walk_ray q.aim.ray) c.requires.unforged q.accepted) q.aim.octant q.own
          c.begin-walk.result c.begin-walk.ensures,
    )

pub loop-walk-smaller : goal.loop-walk-smaller
loop-walk-smaller g c =
    let k = (goal.at.loop-walk-smaller g c).After-position_met in
    (miss_passes (at g k) _ c.rest_of-positions.ensures _ c.in_ok-distance.was (sym c.counts.ensures ∙ c.if-counts.false)).less

pub loop-walk-preserved : goal.loop-walk-preserved
loop-walk-preserved g c =
    let k = (goal.at.loop-walk-preserved g c).After-position_met in
    let g = miss_passes (at g k) _ c.rest_of-positions.ensures _ c.in_ok-distance.was (sym c.counts.ensures ∙ c.if-counts.false) in
    let i = c.loop-walk.invariant in
    (i.0, omega (arith, g.less, i.1), g.leads)

pub returns-in_err-distance : goal.returns-in_err-distance
unfolding miss_result
returns-in_err-distance g c =
    let k = (goal.at.returns-in_err-distance g c).After-position_met in
    let f = c.in_err-distance.field-0.0 in
    let own : miss_result c.from_residual-in_err-distance.result ≡ unanswered (refused_miss (cause_number f)) = search rules in
    own ∙ miss_fails (at g k) f c.in_err-distance.was

pub walk-smaller : goal.walk-smaller
walk-smaller g c =
    let k = (goal.at.walk-smaller g c).After-walk_after-next in
    omega (arith, (search_tested (after g k) _ c.in-Tested.is).less, c.loop-walk.invariant.1)

pub walk-preserved : goal.walk-preserved
walk-preserved g c =
    let k = (goal.at.walk-preserved g c).After-walk_after-next in
    (c.loop-walk.invariant.0, (search_tested (after g k) _ c.in-Tested.is).leads)

pub returns-in-Refused : goal.returns-in-Refused
unfolding miss_result
returns-in-Refused g c =
    let k = (goal.at.returns-in-Refused g c).After-walk_after-next in
    ended_refused refused_miss miss_found (miss_ends (setting_then g k) c.args.query.aim.ray) _ _ _
    (search_refused (after g k) c.in-Refused.refusal c.in-Refused.is)

pub returns-in-Position : goal.returns-in-Position
returns-in-Position g c =
    absurd (search_no_position (after g (goal.at.returns-in-Position g c).After-walk_after-next) _ c.in-Position.is)

pub returns-then-counts : goal.returns-then-counts
unfolding miss_answer miss_result
returns-then-counts g c =
    let k = (goal.at.returns-then-counts g c).After-position_met in
    miss_blocks (at g k) _ c.in_ok-distance.was (sym c.counts.ensures ∙ c.if-counts.true)

pub returns-in-Done : goal.returns-in-Done
unfolding miss_answer miss_found miss_result
returns-in-Done g c =
    let k = (goal.at.returns-in-Done g c).After-walk_after-next in
    ap (λ (a : Occlusion). record { answer = miss_answer a; tests = c.walk_after-next.result.tests }) c.loop-walk.invariant.0
    ∙ ended_done refused_miss miss_found (miss_ends (setting_then g k) c.args.query.aim.ray) _ _ (search_done (after g k) c.in-Done.is)

pub returns-in_err-admits : goal.returns-in_err-admits
unfolding miss_result
returns-in_err-admits g c =
    let k = (goal.at.returns-in_err-admits g c).After-admits in
    let f = c.in_err-admits.field-0.0 in
    let own : miss_result c.from_residual.result ≡ unanswered (refused_miss (cause_number f)) = search rules in
    own ∙ first_absent (first g k) refused_miss miss_found f c.in_err-admits.was

pub loop-walk-smaller-then-not-branch : goal.loop-walk-smaller-then-not-branch
loop-walk-smaller-then-not-branch g c =
    let k = (goal.at.loop-walk-smaller-then-not-branch g c).After-admits in
    (first_skipped (first g k) _ c.rest_of-positions.ensures (c.in_ok-admits.was ∙ ap (λ (b : Bool). P.Ok b) c.if-not-branch.true)).less

pub loop-walk-preserved-then-not-branch : goal.loop-walk-preserved-then-not-branch
loop-walk-preserved-then-not-branch g c =
    let k = (goal.at.loop-walk-preserved-then-not-branch g c).After-admits in
    let s = first_skipped (first g k) _ c.rest_of-positions.ensures (c.in_ok-admits.was ∙ ap (λ (b : Bool). P.Ok b) c.if-not-branch.true) in
    let i = c.loop-walk.invariant in
    (i.0, omega (arith, s.less, i.1), s.leads)
