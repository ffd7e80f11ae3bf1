-- The children by slots, and in the order seated.
use mathlib.Core.Path.{◌≡◌, sym, ap, ap₂, ◌∙◌, fun_ext}
use mathlib.Core.Logic.{inl, inr}
use mathlib.Core.List.{List, map, map-map}
use Prim.Native.Nat.{ℕ, ◌≤◌, ◌<◌}
use native.Mathlib.Nat.{lt_of_lt_of_le}
use native.Mathlib.Omega.{arith}
use lib.ListN.{length, take, get_or, length-take, get_or-eq_default}
use lib.Seq.{get_or-take}
use Rattle.order.specs.Lists.{eight_of, padded}
use Rattle.order.specs.Assign.{Pair, child_of}
use Rattle.order.specs.Order.{placed, seated_of}
use Rattle.order.proofs.Lists.{all_map, map_same}
use Rattle.order.proofs.Padded.{map_padded}
use Rattle.order.proofs.Partners.{Matched, slot_child}

module _ {A : Type 0} (none : A) where
  -- as the code reads them from the whole array
  pub place_taken : (ps : List Pair) (xs : List A) (n count : ℕ) → length xs ≡ 8 → Matched n ps → n ≤ count
      → map (λ c. get_or xs c none) (eight_of (child_of ps)) ≡ placed none ps (take count xs)
  unfolding placed
  place_taken ps xs n count e m l = ap (λ (f : ℕ → A). eight_of f) (fun_ext at)
    where
      at : (s : ℕ) → get_or xs (child_of ps s) none ≡ get_or (take count xs) (child_of ps s) none
      at s = elim (slot_child n ps m s) [
        | inl z ↦
            get_or-eq_default xs none {n = child_of ps s} (omega (arith, z))
            ∙ sym (get_or-eq_default (take count xs) none {n = child_of ps s} (omega (arith, z, length-take count xs)))
        | inr w ↦ sym (get_or-take count xs (child_of ps s) none (lt_of_lt_of_le w.1 l))
      ]

  -- and in the order seated
  pub seat_taken : (ps : List Pair) (xs : List A) (n count : ℕ) → length xs ≡ 8 → Matched n ps → n ≤ count
      → map (λ c. get_or xs c none) (padded 8 (map (λ p. p.child) ps)) ≡ seated_of none ps (take count xs)
  unfolding seated_of
  seat_taken ps xs n count e m l =
      map_padded (λ c. get_or xs c none) 8 (map (λ p. p.child) ps)
      ∙ ap₂ padded (get_or-eq_default xs none {n = 8} (omega (arith, e)))
      (map-map (λ c. get_or xs c none) (λ p. p.child) ps
      ∙ map_same (λ p. get_or xs p.child none) (λ p. get_or (take count xs) p.child none) ps
      (all_map (λ p. p.child < n) (λ p. get_or xs p.child none ≡ get_or (take count xs) p.child none) ps
      (λ p h. sym (get_or-take count xs p.child none (lt_of_lt_of_le h l))) m.children))
