use mathlib.Core.Path.{sym}
use Prim.Native.Nat.{ℕ}
use lib.ListN.{length-replicate}
use Rattle.check_text.proofs.input.room.Goals as goal

pub returns : goal.returns
returns c = sym (length-replicate {A = ℕ} 5242884 0)
