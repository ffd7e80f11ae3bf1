use mathlib.Core.Path.{◌≡◌, sym}
use native.Mathlib.Omega.{arith}
use lib.ListN.{length}
use Rattle.lists.specs.Counts.{upto}
use Rattle.lists.proofs.Splice.{splice_none}
use Rattle.tree_words.proofs.Writing.{value_next}
use Rattle.join.proofs.Moving.{stays_word, all_moved}
use Rattle.join.proofs.put_moved.Goals as goal

pub loop-i-init : goal.loop-i-init
unfolding upto
loop-i-init c = sym (splice_none _ _)

pub overflow_add-out : goal.overflow_add-out
overflow_add-out c = omega (arith, stays_word _ _ _ c.requires.1 c.loop-i-test.true)

pub overflow_cast-out-in-loop-i : goal.overflow_cast-out-in-loop-i
overflow_cast-out-in-loop-i c = omega (arith, stays_word _ _ _ c.requires.1 c.loop-i-test.true)

pub loop-i-preserved : goal.loop-i-preserved
loop-i-preserved c = value_next _ _ c.loop-i.i _ _ (omega (arith, c.requires.0, c.loop-i-test.true)) c.loop-i.invariant

pub returns : goal.returns
returns c =
    let a = c.args in
    let e : c.loop-i.i ≡ length a.list.now = omega (arith, c.loop-i.auto.i-end, c.loop-i-test.false) in
    all_moved a.list.now a.by _ _ _ _ c.loop-i.invariant e
