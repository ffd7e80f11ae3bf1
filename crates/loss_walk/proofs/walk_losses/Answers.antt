use Rattle.std.proofs.Common.{◌≡◌, ℕ, ◌+◌, ◌<◌, true, false, Bool, List, length, get_or, set, refl, ap, ◌∙◌, subst, rules, arith}
use Rattle.std.specs.Prelude.{Result, Ok, Err}
use Rattle.causes.specs.declared.Refusal.{Refusal}
use Rattle.causes.specs.Refusal.{cause_number}
use Rattle.gate.specs.Gates.{Gates, admitted}
use Rattle.record_shape.specs.Record.{node_count}
use Rattle.walk.specs.WordStep.{WalkerWords, SteppedWords, seek_words}
use Rattle.walk_record.specs.WalkRay.{WalkRay, rays_of}
use Rattle.walk_record.specs.Record.{node_words_at}
use Rattle.advance.specs.declared.Walk.{Walk}
use Rattle.advance.specs.declared.Answer.{Answer}
use Rattle.advance.specs.Turn.{group_of, walker_of, step_answer}
use Rattle.advance.proofs.Seeks.{seeking_from}
use Rattle.query.specs.Result.{unanswered}
use Rattle.query.proofs.Begins.{sized_of}
use Rattle.gate.proofs.Says.{Said, says}
use Rattle.loss_walk.specs.Losses.{refused, loss_result}
use Rattle.loss_walk.proofs.Charged.{fit_length, fit_most}
use Rattle.loss_walk.proofs.Adding.{Onward, Added, adding_begins, sum_most, totals_most, adding_skips, adding_absent, adding_takes, adding_fault}
use Rattle.loss_walk.proofs.Adding.{After, adding_seeks}
use Rattle.loss_walk.proofs.walk_losses.Goals as goal
use Rattle.loss_walk.proofs.walk_losses.Goals.{In_ok-admits, In_ok-k, After-walk_after-next}

-- ---- what the gate says of a position in hand

module _ (g : Gates) (p : ℕ) (r : Result Bool Refusal) (e : r ≡ admitted g p) where
  said : (x : Result Bool Refusal) → r ≡ x → Said g p x
  said x w = subst (Said g p) w (says g p r e)

  said_ok : {b : Bool} → r ≡ Ok b → (d : Bool) → b ≡ d → Said g p (Ok d)
  said_ok {b} w d f = subst (λ (x : Bool). Said g p (Ok x)) f (said (Ok b) w)

-- ---- at a position that is there

module _ (g : _) (c : In_ok-admits g) where
  -- passed over
  skipped : c.in_ok-admits.field-0 ≡ false
      → Onward (sized_of _ _ c.args.scene.sizes c.requires.0) c.args.scene.fields c.loop-walk-2.invariant.1 c.loop-walk-2-test.true
      c.first_position-p.result c.first_position-p.ensures (group_of c.rest_of-positions.result) c.loop-walk-2.sum c.loop-walk-2.totals
  skipped e =
      adding_skips (sized_of _ _ c.args.scene.sizes c.requires.0) c.args.scene.fields c.loop-walk-2.invariant.1 c.loop-walk-2-test.true
      c.first_position-p.result c.first_position-p.ensures
      (said_ok (g.G.Gate.gates c.args.gate) c.first_position-p.result c.admits.result c.admits.ensures c.in_ok-admits.was false e)
      (group_of c.rest_of-positions.result) c.rest_of-positions.ensures

-- ---- at one whose pane is there

module _ (g : _) (c : In_ok-k g) where
  -- its pane has a loss
  has_loss : c.in_ok-k.k < length c.args.scene.losses.now
  has_loss = omega (arith, c.in_ok-k.ensures.1, fit_length c.args.scene.panes c.args.scene.losses.now c.args.scene.fitting)

  -- after it
  next : (totals : List ℕ)
      → totals ≡ set c.loop-walk-2.totals c.in_ok-k.k (get_or c.loop-walk-2.totals c.in_ok-k.k 0 + get_or c.args.scene.losses.now c.in_ok-k.k 0)
      → Added (sized_of _ _ c.args.scene.sizes c.requires.0) c.args.scene.fields c.loop-walk-2.invariant.1 c.loop-walk-2-test.true
      c.first_position-p.result c.first_position-p.ensures (group_of c.rest_of-positions.result) c.in_ok-k.k totals
  next totals e =
      adding_takes (sized_of _ _ c.args.scene.sizes c.requires.0) c.args.scene.fields c.loop-walk-2.invariant.1 c.loop-walk-2-test.true
      c.first_position-p.result c.first_position-p.ensures
      (said_ok (g.G.Gate.gates c.args.gate) c.first_position-p.result c.admits.result c.admits.ensures c.in_ok-admits.was true
      c.if-not-branch.false) c.in_ok-k.k c.in_ok-k.ensures.0 c.in_ok-k.ensures.1 (group_of c.rest_of-positions.result)
      c.rest_of-positions.ensures totals e

-- ---- after a search

module _ (g : _) (c : After-walk_after-next g) where
  abbrev gates : Gates
  gates = g.G.Gate.gates c.args.gate

  -- the walker then
  abbrev then : WalkerWords WalkRay
  then = walker_of c.args.aim.ray c.args.aim.octant c.walk_after-next.result c.seek_on-turn.new.stack

  after : After (sized_of _ _ c.args.scene.sizes c.requires.0) c.args.scene.fields c.loop-walk-2.invariant.1 c.seek_on-turn.result.answer then
  after =
      let a = c.args in
      let octant = c.args.aim.octant in
      let none : c.loop-walk-2.walk.positions.bits ≡ 0 = omega (arith, c.loop-walk-2-test.false) in
      let turned : Walk → SteppedWords WalkRay = λ v. record {
        walker = walker_of a.aim.ray octant v c.seek_on-turn.new.stack;
        answer = step_answer c.seek_on-turn.result.answer;
      } in
      adding_seeks (sized_of _ _ c.args.scene.sizes c.requires.0) c.args.scene.fields c.loop-walk-2.invariant.1 none 0xffff_ffff
      c.seek_on-turn.result.answer then
      (ap turned c.walk_after-next.ensures ∙ c.seek_on-turn.ensures
      ∙ ap (seek_words (node_count a.scene.bytes.now) (node_words_at a.scene.bytes.now (rays_of gates)) 0xffff_ffff (length a.scene.indices.now))
      (seeking_from a.aim.ray octant c.loop-walk.stack c.loop-walk-2.walk none))

  -- by its answer
  stated : (b : Answer) → c.seek_on-turn.result.answer ≡ b
      → After (sized_of _ _ c.args.scene.sizes c.requires.0) c.args.scene.fields c.loop-walk-2.invariant.1 b then
  stated b e =
      subst (λ (x : Answer). After (sized_of _ _ c.args.scene.sizes c.requires.0) c.args.scene.fields c.loop-walk-2.invariant.1 x then) e after

pub loop-walk-init : goal.loop-walk-init
loop-walk-init g c =
    adding_begins (g.G.Gate.gates c.args.gate) c.args.scene.bytes.now c.args.scene.indices.now c.args.scene.panes c.args.scene.losses.now
    c.args.aim.ray c.args.scene.fields c.requires.2.accepted c.args.aim.octant c.requires.1 c.begin-walk.result c.begin-walk.ensures
    c.args.totals.now

pub returns-in_err-admits : goal.returns-in_err-admits
unfolding loss_result
returns-in_err-admits g c =
    let f = c.in_err-admits.field-0.0 in
    let own : loss_result c.from_residual.result ≡ unanswered (refused (cause_number f)) = search rules in
    let s = said (g.G.Gate.gates c.args.gate) c.first_position-p.result c.admits.result c.admits.ensures (Err f) c.in_err-admits.was in
    let w = adding_absent (sized_of _ _ c.args.scene.sizes c.requires.0) c.args.scene.fields c.loop-walk-2.invariant.1 c.loop-walk-2-test.true
    c.first_position-p.result c.first_position-p.ensures f s in
    record { result_value = own ∙ w; charges = search rules }

pub loop-walk-2-smaller-then-not-branch : goal.loop-walk-2-smaller-then-not-branch
loop-walk-2-smaller-then-not-branch g c =
    (skipped g (goal.at.loop-walk-2-smaller-then-not-branch g c).In_ok-admits c.if-not-branch.true).1

pub loop-walk-2-preserved-then-not-branch : goal.loop-walk-2-preserved-then-not-branch
loop-walk-2-preserved-then-not-branch g c =
    let h = skipped g (goal.at.loop-walk-2-preserved-then-not-branch g c).In_ok-admits c.if-not-branch.true in
    (omega (arith, h.1, c.loop-walk-2.invariant.0), h.0)

pub returns-in_err-k : goal.returns-in_err-k
unfolding loss_result
returns-in_err-k g c =
    let f = c.in_err-k.field-0.0 in
    let own : loss_result c.from_residual-in_err-k.result ≡ unanswered (refused (cause_number f)) = search rules in
    let s = said_ok (g.G.Gate.gates c.args.gate) c.first_position-p.result c.admits.result c.admits.ensures c.in_ok-admits.was true
    c.if-not-branch.false in
    let w = adding_fault (sized_of _ _ c.args.scene.sizes c.requires.0) c.args.scene.fields c.loop-walk-2.invariant.1 c.loop-walk-2-test.true
    c.first_position-p.result c.first_position-p.ensures s _ refl c.in_err-k.ensures.1 in
    record {
      result_value = own ∙ ap (λ (j : ℕ). unanswered (refused j)) c.in_err-k.ensures.0 ∙ w;
      charges = search rules;
    }

pub offset_bounds-scene-k : goal.offset_bounds-scene-k
offset_bounds-scene-k g c = let h = has_loss g (goal.at.offset_bounds-scene-k g c).In_ok-k in search rules

pub bounds-scene-k : goal.bounds-scene-k
bounds-scene-k g c = has_loss g (goal.at.bounds-scene-k g c).In_ok-k

pub overflow_add-sum : goal.overflow_add-sum
overflow_add-sum g c =
    let h = (next g (goal.at.overflow_add-sum g c).In_ok-k _ refl).0 in
    let a = c.args in
    let m = sum_most (g.G.Gate.gates a.gate) a.scene.bytes.now a.scene.indices.now a.scene.panes a.scene.losses.now a.aim.ray h
    c.args.scene.fitting in
    let z = c.args.scene.sizes.small in
    search rules

pub charge-requires : goal.charge-requires
charge-requires g c =
    let a = c.args in
    let f = c.args.scene.fitting in
    let t = totals_most (g.G.Gate.gates a.gate) a.scene.bytes.now a.scene.indices.now a.scene.panes a.scene.losses.now a.aim.ray
    c.loop-walk-2.invariant.1 f c.in_ok-k.k in
    let k = fit_most a.scene.panes a.scene.losses.now f c.in_ok-k.k in
    let z = c.args.scene.sizes.small in
    let y = c.requires.2.spare c.in_ok-k.k c.in_ok-k.ensures.1 in
    omega (arith, t, k, z, y)

pub loop-walk-2-smaller : goal.loop-walk-2-smaller
loop-walk-2-smaller g c = (next g (goal.at.loop-walk-2-smaller g c).In_ok-k _ c.charge.ensures).1

pub loop-walk-2-preserved : goal.loop-walk-2-preserved
loop-walk-2-preserved g c =
    let h = next g (goal.at.loop-walk-2-preserved g c).In_ok-k _ c.charge.ensures in
    (omega (arith, h.1, c.loop-walk-2.invariant.0), h.0)

pub loop-walk-smaller : goal.loop-walk-smaller
loop-walk-smaller g c =
    omega (arith, (stated g (goal.at.loop-walk-smaller g c).After-walk_after-next _ c.in-Tested.is).1, c.loop-walk-2.invariant.0)

pub loop-walk-preserved : goal.loop-walk-preserved
loop-walk-preserved g c = (stated g (goal.at.loop-walk-preserved g c).After-walk_after-next _ c.in-Tested.is).0

pub returns-in-Done : goal.returns-in-Done
unfolding loss_result
returns-in-Done g c =
    let e = stated g (goal.at.returns-in-Done g c).After-walk_after-next _ c.in-Done.is in
    record { result_value = e.0; charges = e.1 }

pub returns-in-Refused : goal.returns-in-Refused
unfolding loss_result
returns-in-Refused g c = record {
  result_value = stated g (goal.at.returns-in-Refused g c).After-walk_after-next _ c.in-Refused.is;
  charges = tt;
}

pub returns-in-Position : goal.returns-in-Position
returns-in-Position g c = absurd (stated g (goal.at.returns-in-Position g c).After-walk_after-next _ c.in-Position.is)
