use mathlib.Core.Bool.{true, false}
use mathlib.Core.Path.{◌≡◌, sym, ◌∙◌}
use Prim.Native.Nat.{ℕ, ◌-◌, ◌<◌}
use native.Mathlib.Omega.{arith}
use lib.Ieee.{Float}
use lib.ListN.{length}
use Rattle.record_shape.specs.Record.{node_count}
use Rattle.walk.specs.WordStep.{WalkerWords, SteppedWords, NodeWords, advance_words, seek_words}
use Rattle.walk_record.specs.WalkRay.{WalkRay, rays_of}
use Rattle.walk_record.specs.Record.{node_words_at}
use Rattle.advance.specs.Turn.{walker_of, turned, goes_on}
use Rattle.advance.proofs.Seeks.{seek_ends, seek_goes, seek_left, seek_none}
use Rattle.advance.proofs.seek.Goals as goal
use Rattle.advance.proofs.seek.Goals.{After-goes_on}

-- ---- a turn in the loop
module _ (g : _) (c : After-goes_on g) where
  abbrev N : NodeWords WalkRay Float
  N = node_words_at c.args.bvh.bytes.now (rays_of (g.G.Gate.gates c.args.gate))

  abbrev m : ℕ
  m = node_count c.args.bvh.bytes.now

  abbrev n : ℕ
  n = c.args.bvh.positions

  -- the walker before it, and what it gave
  abbrev w : WalkerWords WalkRay
  w = walker_of c.args.aim.now.ray c.args.aim.now.octant c.loop-gate.walk c.loop-gate.stack

  abbrev r : SteppedWords WalkRay
  r = let t = c.test_due-turn in turned c.args.aim.now.ray c.args.aim.now.octant t.result t.new.stack

  turn : r ≡ advance_words m N n w
  turn = c.test_due-turn.ensures

  ends : c.goes_on.result ≡ false → r ≡ seek_words m N c.loop-gate.left n w
  unfolding goes_on
  ends h = seek_ends m N n w r c.loop-gate.left turn (sym c.goes_on.ensures ∙ h)

  goes : c.goes_on.result ≡ true → seek_words m N (c.loop-gate.left - 1) n r.walker ≡ seek_words m N c.loop-gate.left n w
  unfolding goes_on
  goes h = seek_goes m N n w r c.loop-gate.left turn (sym c.goes_on.ensures ∙ h)

  some_left : c.goes_on.result ≡ true → 0 < c.loop-gate.left
  unfolding goes_on
  some_left h = seek_left m N n w r c.loop-gate.left turn (sym c.goes_on.ensures ∙ h)

  none : c.goes_on.result ≡ true → r.walker.positions.bits ≡ 0
  unfolding goes_on
  none h = seek_none m N n w r c.loop-gate.left turn (sym c.goes_on.ensures ∙ h)

  same : length r.walker.stack ≡ length c.args.stack.now
  same = c.test_due-turn.auto.stack ∙ c.loop-gate.invariant.0

pub returns-then-not-goes_on : goal.returns-then-not-goes_on
returns-then-not-goes_on g c =
    ends g (goal.at.returns-then-not-goes_on g c).After-goes_on c.if-not-goes_on.true ∙ c.loop-gate.invariant.2

pub overflow_sub-left : goal.overflow_sub-left
overflow_sub-left g c = some_left g (goal.at.overflow_sub-left g c).After-goes_on c.if-not-goes_on.false

pub loop-gate-smaller : goal.loop-gate-smaller
loop-gate-smaller g c = let h = some_left g (goal.at.loop-gate-smaller g c).After-goes_on c.if-not-goes_on.false in omega arith

pub loop-gate-preserved : goal.loop-gate-preserved
loop-gate-preserved g c =
    let turn = (goal.at.loop-gate-preserved g c).After-goes_on in
    let h = c.if-not-goes_on.false in
    (same g turn, none g turn h, goes g turn h ∙ c.loop-gate.invariant.2)
