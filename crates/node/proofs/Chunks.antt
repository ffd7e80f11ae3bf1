-- A list cut into parts of one length.
use mathlib.Core.Path.{◌≡◌, ap, ◌∙◌}
use mathlib.Core.List.{List}
use Prim.Native.Nat.{ℕ, zero, suc, ◌+◌, ◌*◌, ◌<◌}
use native.Mathlib.Nat.{not-suc-le-zero, le_of_suc-le-suc}
use native.Mathlib.Omega.{arith}
use lib.ListN.{take, drop, get_or}
use lib.Seq.{drop-drop}
use Rattle.std.specs.Simd.{first_chunks}

-- part i
pub part_at : (n k i : ℕ) (s d : List ℕ) → i < k → get_or (first_chunks n k s) i d ≡ take n (drop (n * i) s)
part_at n zero i s d h = absurd (not-suc-le-zero h)
part_at n (suc k) zero s d h = ap (λ (j : ℕ). take n (drop j s)) (let e : 0 ≡ n * 0 = omega arith in e)
part_at n (suc k) (suc i) s d h =
    part_at n k i (drop n s) d (le_of_suc-le-suc h)
    ∙ ap (take n) (drop-drop (n * i) n s ∙ ap (λ (j : ℕ). drop j s) (let e : n + n * i ≡ n * suc i = omega arith in e))
