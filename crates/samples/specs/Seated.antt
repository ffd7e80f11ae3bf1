-- The samples of children seated by cost (02, [5]). `proofs/Seated.antt` computes them.
use Rattle.std.specs.Prelude.{◌≡◌, Bool, true, false, List, [], ◌∷◌, ◌++◌, ℕ, replicate}
use Rattle.std.specs.Float.{nan}
use Rattle.aabb.specs.declared.Aabb.{Aabb}
use Rattle.order.specs.Assign.{cost_in, greatest_finite, assigned_arrays}
use Rattle.order.specs.Order.{seating_of}
use Rattle.order.specs.declared.Assignment.{Assignment}
use Rattle.order.specs.declared.Seating.{Seating}
use Rattle.samples.specs.TreeT.{number}

-- a box as wide and as high as T's boxes, from x = a to x = b
abbrev pub between : ℕ → ℕ → Aabb
between a b = record {
  min = record { x = number a; y = number 0; z = number 0 };
  max = record { x = number b; y = number 1; z = number 1 };
}

-- so many slots without a child
abbrev pub empty : ℕ → List ℕ
empty k = replicate k 0xffff_ffff

-- T's root with A and B, numbered 5 and 7
abbrev pub seats_t : Bool → Seating
seats_t ordered = seating_of ordered (between 0 3) (between 0 1 ∷ between 2 3 ∷ []) (5 ∷ 7 ∷ [])

-- two children, the first of which no cost admits, the second any; and two that none admits
abbrev pub one_left : Assignment
one_left = assigned_arrays (cost_in (replicate 8 nan ∷ replicate 8 (number 1) ∷ [])) 2

abbrev pub both_left : Assignment
both_left = assigned_arrays (cost_in (replicate 8 nan ∷ replicate 8 greatest_finite ∷ [])) 2

pub record SeatedSamples : Type 0 where
  -- A is seated first, in slot 0, then B in slot 4; and without ordering both as gathered
  pub ordered_T : seats_t true
      ≡ record { slots = 5 ∷ empty 3 ++ (7 ∷ empty 3); seated = 5 ∷ 7 ∷ empty 6; count = 2; rounds = 2 }
  pub gathered_T : seats_t false ≡ record { slots = 5 ∷ 7 ∷ empty 6; seated = 5 ∷ 7 ∷ empty 6; count = 2; rounds = 0 }
  -- of two on one side the later child is farther out, and seated first
  pub later_first : seating_of true (between 0 4) (between 1 2 ∷ between 0 1 ∷ []) (5 ∷ 7 ∷ [])
      ≡ record { slots = 7 ∷ 5 ∷ empty 6; seated = 7 ∷ 5 ∷ empty 6; count = 2; rounds = 2 }
  -- three times one box: all costs are equal, and the lower child takes the lower slot
  pub ties : seating_of true (between 0 1) (between 0 1 ∷ between 0 1 ∷ between 0 1 ∷ []) (5 ∷ 7 ∷ 6 ∷ [])
      ≡ record { slots = 5 ∷ 7 ∷ 6 ∷ empty 5; seated = 5 ∷ 7 ∷ 6 ∷ empty 5; count = 3; rounds = 3 }
  -- no children, no search
  pub nobody : seating_of true (between 0 1) [] [] ≡ record { slots = empty 8; seated = empty 8; count = 0; rounds = 0 }
  -- a search that finds nothing for a child that is left is the last
  pub left : one_left ≡ record {
    slot = 8 ∷ 0 ∷ replicate 6 8;
    child = 1 ∷ replicate 7 8;
    seated = 1 ∷ replicate 7 8;
    count = 1;
    rounds = 2;
  }
  pub all_left : both_left ≡ record { slot = replicate 8 8; child = replicate 8 8; seated = replicate 8 8; count = 0; rounds = 1 }
