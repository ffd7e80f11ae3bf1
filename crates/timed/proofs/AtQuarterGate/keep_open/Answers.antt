use mathlib.Core.Bool.{Bool, true, false, cond}
use mathlib.Core.Path.{◌≡◌, refl, ap, ◌∙◌}
use Prim.Native.Nat.{ℕ, ◌+◌, ◌*◌, ◌<◌}
use native.Mathlib.Nat.{mod-eq_of_lt}
use borrow.Author.Tests.{lt-ltb, le-ltb}
use lib.Bits.{bit_and, and_mask, and_zero_r}
use Rattle.words.specs.Fields.{field}
use Rattle.words.proofs.Fields.{field_lt, field_and}
use Rattle.node_slot.proofs.Masks.{zero_field}
use Rattle.span.specs.Span.{holds, span_at}
use Rattle.timed.proofs.AtQuarterGate.keep_open.Goals as goal

-- a whole byte lets all bits through, an empty one none
through : (b : Bool) (n : ℕ) → n < 256 → bit_and n (cond b 255 0) ≡ cond b n 0
through true n h = and_mask n 8 ∙ mod-eq_of_lt h
through false n h = and_zero_r n

pub returns-then-v-h : goal.returns-then-v-h
returns-then-v-h c = record { byte = λ k l. zero_field k l ∙ rw (le-ltb _ _ c.if-v-h.true) refl }

pub returns : goal.returns
returns c =
    let h = c.args.self.hours.now in
    record {
      byte = λ k l.
          field_and 8 k c.args.marks c.open_slots.result
          ∙ ap (bit_and (field 8 k c.args.marks)) (c.open_slots.ensures.byte k l)
          ∙ through (holds (span_at h.side.now (8 * c.args.v + k)) h.quarter) (field 8 k c.args.marks) (field_lt 8 k c.args.marks)
          ∙ rw (lt-ltb _ _ c.if-v-h.false) refl;
    }
