use Rattle.text.specs.Text.{hex}
use native.Mathlib.Omega.{arith}
use Rattle.text.proofs.Put.{put_then}
use Rattle.text.proofs.Writer.put_hex_byte.Goals as goal

pub returns : goal.returns
unfolding hex
returns c =
    rw (← c.hex_digit-2.ensures, ← c.hex_digit.ensures)
    (put_then (omega (arith, c.requires)) c.put_byte.ensures (λ _. c.put_byte-2.ensures))
