-- The test of a list of spans tells of its faults.
use mathlib.Core.Bool.{Bool, false, ◌&&◌}
use mathlib.Core.List.{List}
use mathlib.Core.Path.{◌≡◌, ap}
use Prim.Native.Nat.{ℕ, ◌+◌, ◌*◌, ◌/◌, ◌%◌, ◌≤◌, ◌<◌}
use native.Mathlib.Decide.{dec_lt}
use native.Mathlib.Omega.{arith}
use lib.ListN.{length, get_or}
use Rattle.lists.specs.Below.{all_below}
use Rattle.lists.proofs.Tells.{Tells, passes, fails, denied, where_fails, eqb_tells, leb_tells, and_tells, below_tells}
use Rattle.span.specs.Span.{first_at, last_at, span_at, quarter_fits, span_fits, spans_fit}
use Rattle.timed_conversion_laws.specs.TimedRefusals.{SpansRefusal, not_each, first_over_last, quarter_over}

-- a span fits: first at most last, and last at most 95
abbrev pub Fits : List ℕ → ℕ → Type 0
Fits spans k = (first_at spans k ≤ last_at spans k) × (last_at spans k ≤ 95)

fits_tells : (spans : List ℕ) (k : ℕ) → Tells (Fits spans k) (span_fits (span_at spans k))
unfolding span_fits quarter_fits
fits_tells spans k = and_tells (leb_tells (first_at spans k) (last_at spans k)) (leb_tells (last_at spans k) 95)

module _ (panes : ℕ) (spans : List ℕ) where
  abbrev pub AllFit : Type 0
  AllFit = (length spans ≡ 2 * panes) × ((k : ℕ) → k < panes → Fits spans k)

  pub all_tell : Tells AllFit (spans_fit panes spans)
  unfolding spans_fit
  all_tell =
      and_tells (eqb_tells (length spans) (2 * panes))
      (below_tells (Fits spans) (λ k. span_fits (span_at spans k)) (fits_tells spans) panes)

  -- each byte is then a quarter hour of a day
  bytes_fit : AllFit → (i : ℕ) → i < length spans → get_or spans i 0 ≤ 95
  bytes_fit h i l = go (dec_lt (i % 2) 1)
    where
      f : Fits spans (i / 2)
      f = h.1 (i / 2) (omega (arith, h.0))

      go : Dec (i % 2 < 1) → get_or spans i 0 ≤ 95
      go (yes e) = let q : i ≡ 2 * (i / 2) = omega arith in omega (arith, ap (λ (x : ℕ). get_or spans x 0) q, f.0, f.1)
      go (no e) = let q : i ≡ 2 * (i / 2) + 1 = omega arith in omega (arith, ap (λ (x : ℕ). get_or spans x 0) q, f.1)

  -- then there is no fault,
  pub spans_sound : AllFit → SpansRefusal panes spans → ⊥
  spans_sound h (not_each f) = f h.0
  spans_sound h (first_over_last k l g) = omega (arith, (h.1 k l).0)
  spans_sound h (quarter_over i l g) = omega (arith, bytes_fit h i l)

  -- and the test fails where there is one
  pub spans_show : spans_fit panes spans ≡ false → SpansRefusal panes spans
  unfolding spans_fit
  spans_show e = go (eqb_tells (length spans) (2 * panes)) e
    where
      fits : ℕ → Bool
      fits k = span_fits (span_at spans k)

      one : (k : ℕ) → k < panes → length spans ≡ 2 * panes → (Fits spans k → ⊥) → Dec (last_at spans k < first_at spans k)
          → Dec (95 < last_at spans k) → SpansRefusal panes spans
      one k l size n (yes h) q = first_over_last k l h
      one k l size n (no h) (yes q) = quarter_over (2 * k + 1) (omega arith) (omega arith)
      one k l size n (no h) (no q) = absurd (n (omega arith, omega arith))

      go : {b : Bool} → Tells (length spans ≡ 2 * panes) b → b && all_below fits panes ≡ false → SpansRefusal panes spans
      go (fails n) e = not_each n
      go (passes size) e =
          let u = where_fails fits panes e in
          one u.0 u.1 size (denied (fits_tells spans u.0) u.2) (dec_lt (last_at spans u.0) (first_at spans u.0)) (dec_lt 95 (last_at spans u.0))
