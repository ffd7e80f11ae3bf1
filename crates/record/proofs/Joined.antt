-- Blocks of one length, one behind the other: how long they are, what stands in each, and which one holds a place.
use mathlib.Core.Path.{◌≡◌, sym, ap, ◌∙◌}
use mathlib.Core.Logic.{◌⊎◌, inl, inr}
use mathlib.Core.List.{List, ◌++◌}
use Prim.Native.Nat.{ℕ, zero, suc, ◌+◌, ◌-◌, ◌*◌, ◌≤◌, ◌<◌}
use native.Mathlib.Decide.{dec_lt}
use native.Mathlib.Nat.{mul-zero, mul-suc, eq-or-lt_of_le, le_of_suc-le-suc, mul-le-mul_left}
use native.Mathlib.Omega.{arith}
use lib.ListN.{length, get_or, length-append, get_or-append}
use lib.Seq.{get_or-append-add}
use Rattle.record.specs.Record.{joined_below}

module _ {A : Type 0} (size : ℕ) (f : ℕ → List A) (each : (i : ℕ) → length (f i) ≡ size) where
  pub joined_length : (k : ℕ) → length (joined_below k f) ≡ size * k
  unfolding joined_below
  joined_length zero = sym (mul-zero size)
  joined_length (suc k) = length-append (joined_below k f) (f k) ∙ omega (arith, joined_length k, each k, mul-suc size k)

  pub joined_at : (k v j : ℕ) (z : A) → v < k → j < size → get_or (joined_below k f) (size * v + j) z ≡ get_or (f v) j z
  unfolding joined_below
  joined_at zero v j z h l = absurd (omega arith)
  joined_at (suc k) v j z h l = pick (joined_at k v j z) (eq-or-lt_of_le (le_of_suc-le-suc h))
    where
      before : v < k → size * v + j < size * k
      before g = omega (arith, mul-le-mul_left size g, mul-suc size v)

      pick : (v < k → j < size → get_or (joined_below k f) (size * v + j) z ≡ get_or (f v) j z) → (v ≡ k) ⊎ (v < k)
          → get_or (joined_below k f ++ f k) (size * v + j) z ≡ get_or (f v) j z
      pick rest (inl e) =
          ap (λ (x : ℕ). get_or (joined_below k f ++ f k) x z) (omega (arith, joined_length k, ap (λ (x : ℕ). size * x) e))
          ∙ get_or-append-add (joined_below k f) (f k) j z ∙ ap (λ (x : ℕ). get_or (f x) j z) (sym e)
      pick rest (inr g) = get_or-append (joined_below k f) (f k) z (size * v + j) (omega (arith, joined_length k, before g)) ∙ rest g l

module _ (size : ℕ) where
  -- place i lies before or behind block v
  abbrev pub Beside : ℕ → ℕ → Type 0
  Beside i v = (i < size * v) ⊎ (size * v + size ≤ i)

  -- no place lies in two blocks
  pub beside_other : (u v j : ℕ) → j < size → ¬ (u ≡ v) → Beside (size * v + j) u
  beside_other u v j l n = pick (dec_lt u v)
    where
      pick : Dec (u < v) → Beside (size * v + j) u
      pick (yes h) = inr (omega (arith, mul-le-mul_left size h, mul-suc size u))
      pick (no h) = let g : v < u = omega arith in inl (omega (arith, mul-le-mul_left size g, mul-suc size v))

  -- the block that holds place i of m blocks, and how far in
  pub record Place (m i : ℕ) : Type 0 where
    pub block : ℕ
    pub offset : ℕ
    pub below : block < m
    pub within : offset < size
    pub place_is : size * block + offset ≡ i

  pub place : (m i : ℕ) → i < size * m → Place m i
  place zero i h = absurd (omega (arith, mul-zero size))
  place (suc m) i h = pick (place m i) (dec_lt i (size * m))
    where
      pick : (i < size * m → Place m i) → Dec (i < size * m) → Place (suc m) i
      pick rest (yes g) =
          let p = rest g in
          record { block = p.block; offset = p.offset; below = omega (arith, p.below); within = p.within; place_is = p.place_is }
      pick rest (no g) = record {
        block = m;
        offset = i - size * m;
        below = omega arith;
        within = omega (arith, mul-suc size m);
        place_is = omega arith;
      }
