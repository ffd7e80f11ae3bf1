use mathlib.Core.Path.{refl, sym}
use native.Mathlib.Nat.{zero-add}
use native.Mathlib.Numerals.{add-one}
use native.Mathlib.Omega.{arith}
use Rattle.lists.proofs.Splice.{splice_none, set-splice, written_next}
use Rattle.show.specs.Input.{input_words}
use Rattle.show.proofs.Words.{length_words, words_more}
use Rattle.show.proofs.read_words.Goals as goal

pub loop-k-init : goal.loop-k-init
unfolding input_words
loop-k-init c = sym (splice_none _ _)

pub loop-k-preserved : goal.loop-k-preserved
loop-k-preserved c =
    let a = c.args in
    let i = c.loop-k in
    let taken = length_words a.input.now a.from i.k in
    let put = set-splice i.words i.k c.load_u32.result (omega arith) in
    rw (add-one, words_more a.input.now a.from i.k, ← c.load_u32.ensures.value)
    (written_next a.words.now 0 i.k 1 _ _ _ _ taken refl (omega arith) i.invariant (rw zero-add put))
