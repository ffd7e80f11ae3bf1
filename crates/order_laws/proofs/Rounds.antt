-- The pairs after k rounds are the first k of the assignment, and what round k takes is the next.
use mathlib.Core.Path.{◌≡◌, sym, ap, ◌∙◌, subst}
use mathlib.Core.Logic.{◌⊎◌, inl, inr}
use mathlib.Core.List.{List, [], ◌∷◌, ◌++◌}
use Prim.Native.Nat.{ℕ, zero, suc, ◌≤◌, ◌<◌}
use native.Mathlib.Nat.{eq-or-lt_of_le}
use native.Mathlib.Omega.{arith}
use lib.ListN.{length, take, get_or, length-append}
use lib.Ieee.{Float}
use lib.Seq.{take_all, take-append-le, length-take-le, get_or-take, get_or-append_seam}
use Rattle.order.specs.Assign.{Pair, assigned, assignment}
use Rattle.order.proofs.Greedy.{Stuck, Taken, round_cases, round_stuck, round_taken, stuck_on, length_after, left_after}

-- what stands for a pair that is not there
abbrev pub no_pair : Pair
no_pair = record { child = 8; slot = 8 }

module _ (cost : Pair → Float) (n : ℕ) where
  -- a round that takes a pair comes after rounds that each took one
  length_before : (k : ℕ) (p : Pair) → Taken cost n (assigned cost n k) p → length (assigned cost n k) ≡ k
  length_before k p t = elim (length_after cost n k) [ inl e ↦ e | inr s ↦ absurd (s.none p t.fits) ]

  pub rounds_before : (m k : ℕ) → k ≤ length (assigned cost n m) → assigned cost n k ≡ take k (assigned cost n m)
  unfolding assigned
  rounds_before zero k h =
      let e : k ≡ 0 = omega arith in
      ap (assigned cost n) e ∙ ap (λ (j : ℕ). take j []) (sym e)
  rounds_before (suc m) k h = go (round_cases cost n (assigned cost n m)) (rounds_before m k)
    where
      go : Stuck cost n (assigned cost n m) ⊎ ((p : Pair) × Taken cost n (assigned cost n m) p)
          → (k ≤ length (assigned cost n m) → assigned cost n k ≡ take k (assigned cost n m)) → assigned cost n k ≡ take k (assigned cost n (suc m))
      go (inl s) r =
          let e = round_stuck cost n m s in
          r (omega (arith, h, ap length e)) ∙ ap (take k) (sym e)
      go (inr (p, t)) r =
          let e = round_taken cost n m p t in
          let l : k ≤ suc m = omega (arith, h, ap length e, length-append (assigned cost n m) (p ∷ []), length_before m p t) in
          elim (eq-or-lt_of_le l) [
            | inl d ↦
                ap (assigned cost n) d
                ∙ sym (take_all k (assigned cost n (suc m))
                (omega (arith, ap length e, length-append (assigned cost n m) (p ∷ []), length_before m p t)))
            | inr b ↦
                let w : k ≤ length (assigned cost n m) = omega (arith, b, length_before m p t) in
                r w ∙ sym (take-append-le k (assigned cost n m) (p ∷ []) w) ∙ ap (take k) (sym e)
          ]

  module _ (few : n ≤ 8) where
    pub at_most : length (assignment cost n) ≤ n
    at_most = omega (arith, (left_after cost n few n).children)

    pub length_of_rounds : (k : ℕ) → k ≤ length (assignment cost n) → length (assigned cost n k) ≡ k
    length_of_rounds k h = ap length (rounds_before n k h) ∙ length-take-le k (assignment cost n) h

    pub round_takes : (k : ℕ) → k < length (assignment cost n) → Taken cost n (assigned cost n k) (get_or (assignment cost n) k no_pair)
    round_takes k h = go (round_cases cost n (assigned cost n k))
      where
        w : length (assigned cost n k) ≡ k
        w = length_of_rounds k (omega arith)

        go : Stuck cost n (assigned cost n k) ⊎ ((p : Pair) × Taken cost n (assigned cost n k) p)
            → Taken cost n (assigned cost n k) (get_or (assignment cost n) k no_pair)
        go (inl s) = absurd (omega (arith, h, at_most, w, ap length (stuck_on cost n k n (omega (arith, h, at_most)) s)))
        go (inr (p, t)) =
            let e : p ≡ get_or (assignment cost n) k no_pair =
            sym (get_or-append_seam (assigned cost n k) p [] no_pair)
            ∙ ap (λ (j : ℕ). get_or (assigned cost n k ++ (p ∷ [])) j no_pair) w
            ∙ ap (λ (l : List Pair). get_or l k no_pair) (sym (round_taken cost n k p t) ∙ rounds_before n (suc k) (omega arith))
            ∙ get_or-take (suc k) (assignment cost n) k no_pair (omega arith) in
            subst (Taken cost n (assigned cost n k)) e t
