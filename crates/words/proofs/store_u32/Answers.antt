use mathlib.Core.Path.{◌≡◌, ◌∙◌}
use Prim.Native.Nat.{◌+◌, ◌-◌}
use native.Mathlib.Nat.{add-zero}
use native.Mathlib.Omega.{arith}
use Rattle.std.specs.Int.{to_le_bytes, w32}
use Rattle.words.proofs.Le.{sets_is, stored}
use Rattle.words.proofs.store_u32.Goals as goal

pub returns : goal.returns
returns c =
    let a = c.args in
    let four : a.at + 4 - a.at ≡ 4 = omega arith in
    let e = rw add-zero at (sets_is a.s.now a.at 0 (to_le_bytes w32 a.v) (omega arith) ∙ stored a.s.now a.at a.v) in
    rw (four, c.copy_from_slice.ensures.after, c.to_le_bytes.ensures) e
