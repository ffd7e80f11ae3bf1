-- Sums and complements of words whose bytes do not run over, byte by byte.
use mathlib.Core.Path.{◌≡◌, ◌∙◌, ap}
use Prim.Native.Nat.{ℕ, zero, suc, ◌+◌, ◌-◌, ◌*◌, ◌/◌, ◌%◌, ◌^◌, ◌≤◌, ◌<◌}
use native.Mathlib.Omega.{arith}
use native.Mathlib.Nat.{pow-succ'}
use Rattle.words.specs.Fields.{field}

-- bytes that do not run over are added each by itself
pub field-add : (i a b : ℕ) → ((j : ℕ) → j ≤ i → field 8 j a + field 8 j b < 256) → field 8 i (a + b) ≡ field 8 i a + field 8 i b
unfolding field
field-add zero a b h = let k : a % 256 + b % 256 < 256 = h 0 (omega arith) in omega arith
field-add (suc i) a b h =
    let k : a % 256 + b % 256 < 256 = h 0 (omega arith) in
    let e : (a + b) / 256 ≡ a / 256 + b / 256 = omega arith in
    ap (λ (x : ℕ). field 8 i x) e ∙ field-add i (a / 256) (b / 256) (λ j l. h (suc j) (omega (arith, l)))

-- the complement of a word of i + 1 bytes or more, byte by byte
pub field-not : (i m a : ℕ) → i < m → a < 256 ^ m → field 8 i (256 ^ m - 1 - a) ≡ 255 - field 8 i a
unfolding field
field-not i zero a l s = absurd (omega (arith, l))
field-not zero (suc m) a l s =
    let p : 256 ^ suc m ≡ 256 * 256 ^ m = pow-succ' 256 m in
    omega arith
field-not (suc i) (suc m) a l s =
    let p : 256 ^ suc m ≡ 256 * 256 ^ m = pow-succ' 256 m in
    let e : (256 ^ suc m - 1 - a) / 256 ≡ 256 ^ m - 1 - a / 256 = omega arith in
    ap (λ (x : ℕ). field 8 i x) e ∙ field-not i m (a / 256) (omega (arith, l)) (omega arith)
