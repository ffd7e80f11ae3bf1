-- What is gathered below a node, where numbers rise from a node to those below it and stay under m: m levels are all there are.
use mathlib.Core.List.{List}
use mathlib.Core.Path.{◌≡◌, refl, ap}
use Prim.Native.Nat.{ℕ, zero, suc, ◌-◌, ◌≤◌, ◌<◌}
use native.Mathlib.Omega.{arith}
use Rattle.walk.specs.Listing.{In, joined, gather_below}
use Rattle.walk.proofs.Lists.{joined_cong}

abbrev pub Rising : ℕ → (ℕ → List ℕ) → Type 0
Rising m next = (v : ℕ) → v < m → (c : ℕ) → In c (next v) → (v < c) × (c < m)

module _ {A : Type 0} (e : A) (op : A → A → A) (next : ℕ → List ℕ) (value : ℕ → A) where
  pub gather_none : (v : ℕ) → gather_below e op next value 0 v ≡ e
  unfolding gather_below
  gather_none v = refl

  enough : (m : ℕ) → Rising m next → (k l v : ℕ) → v < m → m - v ≤ k → m - v ≤ l → gather_below e op next value k v ≡ gather_below e op next value l v
  unfolding gather_below
  enough m r zero l v h a b = absurd (omega arith)
  enough m r (suc k) zero v h a b = absurd (omega arith)
  enough m r (suc k) (suc l) v h a b =
      ap (op (value v)) (joined_cong e op (gather_below e op next value k) (gather_below e op next value l) (next v)
      (λ c i. let j = r v h c i in enough m r k l c j.1 (omega (arith, j.0)) (omega (arith, j.0))))

  pub gather_is : (m : ℕ) → Rising m next → (v : ℕ) → v < m → gather_below e op next value m v
      ≡ op (value v) (joined e op (gather_below e op next value m) (next v))
  unfolding gather_below
  gather_is m r v h = enough m r m (suc m) v h (omega arith) (omega arith)
