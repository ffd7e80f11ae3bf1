use mathlib.Core.Path.{◌∙◌, ap, sym}
use mathlib.Core.Bool.{Bool}
use lib.IntN.{pos}
use lib.Ieee.{fin, of_bits, neg}
use Rattle.float.proofs.Sign.{negative_is}
use Rattle.ray.specs.Ray.{safe_inverse}
use Rattle.ray.proofs.safe_inverse.Goals as goal
use Rattle.ray.proofs.safe_inverse.Goals.{else-v-via-then-v+else-v-2, else-v-via-else-v}

pub returns-then-is_sign_negative : goal.returns-then-is_sign_negative
unfolding safe_inverse of_bits neg
returns-then-is_sign_negative c =
    rw (c.if-v.true, c.if-v-2.true)
    (ap (λ (s : Bool). fin s 1 (pos 23)) (sym c.if-is_sign_negative.true ∙ c.is_sign_negative.ensures ∙ negative_is c.args.v))

pub returns-else-is_sign_negative : goal.returns-else-is_sign_negative
unfolding safe_inverse of_bits neg
returns-else-is_sign_negative c =
    rw (c.if-v.true, c.if-v-2.true)
    (ap (λ (s : Bool). fin s 1 (pos 23)) (sym c.if-is_sign_negative.false ∙ c.is_sign_negative.ensures ∙ negative_is c.args.v))

pub returns-else-v : goal.returns-else-v
unfolding safe_inverse of_bits neg
returns-else-v c = elim c.else-v.branch [
  | else-v-via-then-v+else-v-2 w ↦ rw (w.if-v.true, w.if-v-2.false)
  | else-v-via-else-v w ↦ rw w.if-v.false
]
