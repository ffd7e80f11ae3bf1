use lib.ListN.{drop}
use Rattle.text.specs.Text.{hex}
use Rattle.text.proofs.Put.{Rest}
use Rattle.text.proofs.Writer.put_hex.Given as goal

abbrev pub invariant-loop-byte : goal.invariant-loop-byte
invariant-loop-byte l = Rest l.initial.self (hex l.bytes) (hex (drop l.byte-index l.bytes)) l.self
