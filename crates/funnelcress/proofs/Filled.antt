-- Lists filled from the front, one place at a time.
use Prim.Native.Nat.{ℕ, zero, suc, ◌+◌, ◌<◌}
use mathlib.Core.Path.{◌≡◌, refl, sym, ◌∙◌}
use mathlib.Core.List.{List}
use native.Mathlib.Numerals.{add-one}
use native.Mathlib.Omega.{arith}
use lib.ListN.{length, drop, set, length-append, length-set}
use lib.Seq.{drop-cons, set_at, append_snoc}
use lib.Ieee.{Float, nan}
use Rattle.funnelcress.specs.Lists.{firsts, filled}

length-firsts : (f : ℕ → Float) (k : ℕ) → length (firsts f k) ≡ k
unfolding firsts
length-firsts f zero = refl
length-firsts f (suc k) = simp length-append (omega (arith, length-firsts f k))

filled_next : (f : ℕ → Float) (k : ℕ) (s : List Float) → k < length s → set (filled f k s) k (f k) ≡ filled f (k + 1) s
unfolding filled firsts
filled_next f k s h =
    rw (add-one, drop-cons s k nan) (set_at (firsts f k) _ (drop (suc k) s) (f k) k (length-firsts f k) ∙ sym
    (append_snoc (firsts f k) (f k) (drop (suc k) s)))

-- a list as long as s whose first k places are filled
pub record Filling (f : ℕ → Float) (k : ℕ) (s out : List Float) : Type 0 where
  pub as_long : length out ≡ length s
  pub front : out ≡ filled f k s

pub filling_none : (f : ℕ → Float) (s : List Float) → Filling f 0 s s
unfolding filled firsts
filling_none f s = record { as_long = refl; front = refl }

-- a store at the first place that is not filled yet
pub filling_turn :
    {f : ℕ → Float} {k : ℕ} {s out : List Float} → Filling f k s out → (x : Float) → k < length s → x ≡ f k → Filling f (k + 1) s (set out k x)
filling_turn {f} {k} {s} r x h e = record { as_long = simp length-set r.as_long; front = rw (e, r.front) (filled_next f k s h) }
