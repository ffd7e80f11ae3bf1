-- What `round` keeps: a sign, the order of signed fractions, and each bound that the format holds.
use mathlib.Core.Path.{◌≡◌, refl, ap, subst}
use mathlib.Core.Logic.{inl, inr}
use Prim.Native.Nat.{ℕ, zero, suc, ◌+◌, ◌*◌, ◌^◌, ◌≤◌, ◌<◌}
use native.Mathlib.Nat.{mul-le-mul_right, le_of_mul-le-mul_right, mul-pos, eq-zero-or-pos}
use native.Mathlib.Omega.{arith}
use mathlib.Core.Bool.{Bool, true, false, not, cond, true≢false}
use lib.IntN.{pos}
use lib.Dec.{T, ltb, lit<}
use lib.Ieee.{Float, nan, inf, fin, Format, binary32, binary64, prec, low, up, down, odd, units, round, neg, le}
use lib.Ieee.Exact.{HasValue, round_exact}
use lib.Ieee.Fits.{up_pos, down_pos, round_is}
use lib.Ieee.Order.{round_mono}
use lib.Ieee.Scale.{overflow}
use Rattle.float.specs.Compare.{plus_zero}
use Rattle.float.specs.Magnitude.{AtMost, Upto, Held}
use Rattle.float.specs.Sign.{sign_bit}
use Rattle.float.proofs.Held.{held-zero}
use Rattle.float.proofs.Order.{le_transitive, le-neg}
use Rattle.float.proofs.Sign.{round_sign}
use Rattle.float.proofs.Signed.{pos_part, neg_part, le_cross}

-- ---- the sign
-- F of the other sign differs in its sign, and in nothing else
abbrev BySign : (Bool → Float) → Type 0
BySign F = (s : Bool) → F (not s) ≡ neg (F s)

odd_by_sign : (d q k l : ℕ) → BySign (λ s. odd d s q k l)
unfolding odd neg
odd_by_sign d zero k l s = refl
odd_by_sign d (suc q) k l s = refl

units_by_sign : (f : Format) (q k : ℕ) → BySign (λ s. units f s q k)
unfolding units neg
units_by_sign f q k = go (ltb (q * 2 ^ k) (overflow f))
  where
    go : (fine : Bool) → BySign (λ s. cond fine (odd (suc (prec f)) s q k (low f)) (inf s))
    go true = odd_by_sign (suc (prec f)) q k (low f)
    go false = λ s. refl

pub round-not : (f : Format) (s : Bool) (n d : ℕ) → round f (not s) n d ≡ neg (round f s n d)
round-not f s n d = rw (round_is f s n d, round_is f (not s) n d) (units_by_sign f _ _ s)

-- ---- the order
zero_rounded : (f : Format) → round f false 0 1 ≡ plus_zero
unfolding round
zero_rounded binary32 = refl
zero_rounded binary64 = refl

zeros : (s t : Bool) → T (le (fin s 0 (pos 0)) (fin t 0 (pos 0)))
unfolding le
zeros true true = tt
zeros true false = tt
zeros false true = tt
zeros false false = tt

-- a fraction that is not negative is not below a zero of either sign, and 0 / d is not above one
zero-le : (f : Format) (s : Bool) (n d : ℕ) → 0 < d → T (le (fin s 0 (pos 0)) (round f false n d))
zero-le f s n d D =
    le_transitive (fin s 0 (pos 0)) plus_zero (round f false n d) (zeros s false)
    (subst (λ (v : Float). T (le v (round f false n d))) (zero_rounded f) (round_mono f 0 1 n d (lit< tt) D (omega arith)))

le-zero : (f : Format) (s : Bool) (n d : ℕ) → 0 < d → n ≡ 0 → T (le (round f false n d) (fin s 0 (pos 0)))
le-zero f s n d D z =
    le_transitive (round f false n d) plus_zero (fin s 0 (pos 0))
    (subst (λ (v : Float). T (le (round f false n d) v)) (zero_rounded f) (round_mono f n d 0 1 D (lit< tt) (omega arith))) (zeros false s)

zero_factor : (a d : ℕ) → 0 < d → a * d ≡ 0 → a ≡ 0
zero_factor a d D h = elim (eq-zero-or-pos a) [ inl z ↦ z | inr p ↦ absurd (omega (arith, mul-pos p D)) ]

-- ±a / c ≤ ±b / d
pub round-le : (f : Format) (s : Bool) (a c : ℕ) (t : Bool) (b d : ℕ) → 0 < c → 0 < d
    → pos_part s a * d + neg_part t b * c ≤ pos_part t b * c + neg_part s a * d → T (le (round f s a c) (round f t b d))
unfolding neg
round-le f false a c false b d C D h = round_mono f a c b d C D (omega arith)
round-le f true a c true b d C D h =
    rw (round-not f false a c, round-not f false b d) (le-neg (round f false b d) (round f false a c) (round_mono f b d a c D C (omega arith)))
round-le f true a c false b d C D h =
    le_transitive (round f true a c) plus_zero (round f false b d)
    (rw (round-not f false a c) (le-neg (fin true 0 (pos 0)) (round f false a c) (zero-le f true a c C))) (zero-le f false b d D)
round-le f false a c true b d C D h =
    le_transitive (round f false a c) plus_zero (round f true b d) (le-zero f false a c C (zero_factor a d D (omega arith)))
    (rw (round-not f false b d) (le-neg (round f false b d) (fin true 0 (pos 0)) (le-zero f true b d D (zero_factor b c C (omega arith)))))

-- ---- bounds
pub neg_atmost : (x : Float) (a c : ℕ) → AtMost x a c → AtMost (neg x) a c
unfolding neg
neg_atmost nan a c h = h
neg_atmost (inf s) a c h = h
neg_atmost (fin s m e) a c h = h

-- a value that is not negative, and at most v, which is a / c
atmost_of_le : (x v : Float) (a c : ℕ) → sign_bit x ≡ false → HasValue v false a c → T (le x v) → AtMost x a c
unfolding le
atmost_of_le nan v a c n w h = h
atmost_of_le (inf true) v a c n w h = true≢false n
atmost_of_le (inf false) nan a c n w h = w
atmost_of_le (inf false) (inf t) a c n w h = w
atmost_of_le (inf false) (fin t k d) a c n w h = h
atmost_of_le (fin true m e) v a c n w h = absurd (true≢false n)
atmost_of_le (fin false m e) nan a c n w h = absurd w
atmost_of_le (fin false m e) (inf t) a c n w h = absurd w
atmost_of_le (fin false m e) (fin true k d) a c n w h = absurd (true≢false w.0)
atmost_of_le (fin false m e) (fin false k d) a c n w h =
    let l = (le_cross (fin false m e) (fin false k d) tt tt).0 h in
    le_of_mul-le-mul_right (omega (arith, mul-le-mul_right c l, ap (λ (z : ℕ). z * down e) w.1)) (down_pos d)

-- n / d ≤ a / c, which the format holds
pub round_atmost : (f : Format) (s : Bool) (n d a c : ℕ) → 0 < d → 0 < c → Held f a c → n * c ≤ a * d → AtMost (round f s n d) a c
round_atmost f s n d a c D C h k = go s
  where
    plain : AtMost (round f false n d) a c
    plain =
        atmost_of_le (round f false n d) (round f false a c) a c (round_sign f false n d)
        (round_exact f false a c h.q h.j C h.few h.under h.is) (round_mono f n d a c D C k)

    go : (s : Bool) → AtMost (round f s n d) a c
    go false = plain
    go true = rw (round-not f false n d) (neg_atmost (round f false n d) a c plain)

upto_of_atmost : (x : Float) (a c : ℕ) → (T (sign_bit x) → AtMost x 0 1) → AtMost x a c → Upto x a c
upto_of_atmost nan a c z h = h
upto_of_atmost (inf s) a c z h = h
upto_of_atmost (fin false m e) a c z h = h
upto_of_atmost (fin true m e) a c z h = zero_factor m (up e) (up_pos e) (omega (arith, z tt))

pub round-upto : (f : Format) (s : Bool) (n d a c : ℕ) → (T s → n ≡ 0) → 0 < d → 0 < c → Held f a c → n * c ≤ a * d → Upto (round f s n d) a c
round-upto f s n d a c z D C h k =
    upto_of_atmost (round f s n d) a c (λ t. nothing (z (subst T (round_sign f s n d) t))) (round_atmost f s n d a c D C h k)
  where
    nothing : n ≡ 0 → AtMost (round f s n d) 0 1
    nothing e = round_atmost f s n d 0 1 D (lit< tt) (held-zero f) (omega arith)
