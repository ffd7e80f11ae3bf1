-- Groups of bits as the code takes them apart: the highest bit, the child that it stands for, groups that wait.
use mathlib.Core.Path.{◌≡◌, ap, ◌∙◌}
use Prim.Native.Nat.{ℕ, ◌+◌, ◌-◌, ◌%◌, ◌≤◌, ◌<◌}
use native.Mathlib.Decide.{dec_lt}
use native.Mathlib.Omega.{arith}
use lib.Bits.{bit_xor, xor_lt}
use lib.Pow.{pow_pos, pow_mono}
use Rattle.words.specs.Ones.{ones_below}
use Rattle.words.specs.Top.{Top}
use Rattle.words.proofs.Ranks.{top_unique}
use Rattle.node.specs.Node.{child_index}
use Rattle.walk.specs.Words as W
use Rattle.walk.proofs.Words.{highest_is, cut_rank}

-- ---- the highest bit

pub highest_found : (n r : ℕ) → Top 32 n r → r ≡ W.highest n
highest_found n r t =
    top_unique 32 n r (W.highest n) t
    (highest_is n (omega (arith, t.low, pow_pos r)) (omega (arith, t.upper, pow_mono {i = r + 1} {j = 32} (omega (arith, t.within)))))

pub high_found : (n r : ℕ) → Top 32 n r → 0x100_0000 ≤ n → 24 ≤ r
high_found n r t h = go (dec_lt r 24)
  where
    go : Dec (r < 24) → 24 ≤ r
    go (yes l) = absurd (omega (arith, t.upper, pow_mono {i = r + 1} {j = 24} (omega arith)))
    go (no l) = omega arith

-- the child that a bit stands for: its rank is counted over the low byte
pub child_is : (base bits top octant : ℕ) → octant < 8 → Top 32 bits top → 0x100_0000 ≤ bits
    → child_index base (bits % 256) (bit_xor (top - 24) octant) ≡ W.first_child octant (record { base = base; bits = bits })
unfolding child_index
child_is base bits top octant l t h =
    let k = high_found bits top t h in
    ap (λ (x : ℕ). base + x) (cut_rank 8 (bit_xor (top - 24) octant) bits (omega (arith, xor_lt 3 (top - 24) octant (omega (arith, t.within)) l)))
    ∙ ap (λ (t : ℕ). base + ones_below (bit_xor (t - 24) octant) bits) (highest_found bits top t)
