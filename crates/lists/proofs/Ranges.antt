-- What `all` gives over the numbers below a bound: the test at every one of them.
use denote.Param.Members.{Mut}
use mathlib.Core.Bool.{Bool, true, false, ◌&&◌}
use mathlib.Core.List.{List}
use mathlib.Core.Path.{◌≡◌, refl, sym, ap, ◌∙◌}
use native.Mathlib.Nat.{add-zero, zero-add}
use native.Mathlib.Omega.{arith}
use Prim.Native.Nat.{ℕ, zero, suc, ◌+◌}
use Rattle.std.proofs.iter.Yields.{nat_range_steps}
use Rattle.std.proofs.lemmas.Iterator.{YieldsList-from_range}
use Rattle.std.proofs.lemmas.Iterator.Search.{all_from_yields_List}
use Rattle.std.specs.Fn.{Called}
use Rattle.std.specs.Iterator.{YieldsThen}
use Rattle.std.specs.List.{FoldsTo, list_all, range_with_len}
use Rattle.std.proofs.Common.{Option}
use Rattle.std.specs.Option.{MatchOption}
use Rattle.std.specs.declared.ops.Range.{Range}
use Rattle.lists.specs.Below.{all_below}

-- the first number before the others, as a list has it
all_front : (f : ℕ → Bool) (n : ℕ) → f 0 && all_below (λ k. f (suc k)) n ≡ all_below f (suc n)
unfolding all_below
all_front f zero = go (f 0)
  where
    go : (a : Bool) → a && true ≡ a
    go true = refl
    go false = refl
all_front f (suc n) = go (f 0) (all_below (λ k. f (suc k)) n) (f (suc n)) ∙ ap (λ (a : Bool). a && f (suc n)) (all_front f n)
  where
    go : (a b c : Bool) → a && (b && c) ≡ (a && b) && c
    go true b c = refl
    go false b c = refl

-- the numbers from a on
all_from : (f : ℕ → Bool) (a n : ℕ) → list_all f (range_with_len a n) ≡ all_below (λ k. f (a + k)) n
unfolding all_below
all_from f a zero = refl
all_from f a (suc n) =
    let next : (k : ℕ) → a + 1 + k ≡ a + suc k = λ k. omega arith in
    ap (λ (b : Bool). f a && b) (all_from f (a + 1) n ∙ (λ i. all_below (λ k. f (next k i)) n))
    ∙ ap (λ (x : ℕ). f x && all_below (λ k. f (a + suc k)) n) (sym (add-zero a))
    ∙ all_front (λ k. f (a + k)) n

-- `(0..n).all(..)`, whose closure computes f
pub all_in_range : {F : Type 0} {g : Mut F (ℕ × Unit {0}) Bool} (f : ℕ → Bool) (n : ℕ) {s u : Range ℕ} {c : F} {r : Bool}
    → (xs : List ℕ) × (o : Option ℕ) × (j : F) × YieldsThen nat_range_steps s xs o u × FoldsTo (λ p x q. Called g p (x, tt) true q) c xs j
    × MatchOption o (r ≡ true) (λ x. (r ≡ false) × ((h : F) × Called g j (x, tt) false h))
    → s ≡ record { start = 0; end = n }
    → ((x : ℕ) (b : Bool) (q : F) → Called g c (x, tt) b q → (q ≡ c) × (b ≡ f x)) → r ≡ all_below f n
all_in_range f n ran e closure =
    all_from_yields_List f _ _ _ ran (YieldsList-from_range 0 n n e (omega arith)) closure
    ∙ all_from f 0 n ∙ (λ i. all_below (λ k. f (zero-add k i)) n)
