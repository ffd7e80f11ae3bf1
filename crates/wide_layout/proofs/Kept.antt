-- What is met and reached where every child is kept: all positions and all nodes. And what is met, measured.
use mathlib.Core.Bool.{Bool, true, false, cond}
use mathlib.Core.List.{List, [], ◌∷◌, ◌++◌}
use mathlib.Core.Path.{◌≡◌, refl, ap, ap₂, ◌∙◌}
use Prim.Native.Nat.{ℕ, ◌+◌}
use native.Mathlib.Omega.{arith}
use Rattle.std.specs.List.{filter}
use Rattle.aabb.specs.declared.Aabb.{Aabb}
use Rattle.wide_layout.specs.Wide.{Slots, end, empty, leaf, inner}
use Rattle.lists.specs.Sums.{sum}
use Rattle.lists.proofs.Sums.{sum_front}
use Rattle.wide_layout.specs.Content.{Content, none, leaf_child, inner_child, content_at}
use Rattle.wide_layout.specs.Sizes.{inner_children, nodes_below, slots_positions}
use Rattle.wide_layout.specs.Kept.{kept, met_below, reached_below}

-- ---- with every child kept

abbrev pub always : Aabb → Aabb → List ℕ → Bool
always b c ps = true

abbrev pub every : ℕ → Bool
every p = true

filter_every : (ps : List ℕ) → filter every ps ≡ ps
filter_every [] = refl
filter_every (p ∷ ps) = ap (λ (l : List ℕ). p ∷ l) (filter_every ps)

pub met_all : {w : ℕ} (b : Aabb) (s : Slots w) → met_below always every b s ≡ slots_positions s
unfolding kept
met_all b end = refl
met_all b (empty s) = met_all b s
met_all b (leaf c ps s) = ap₂ ◌++◌ (filter_every ps) (met_all b s)
met_all b (inner c t s) = ap₂ ◌++◌ (met_all c t) (met_all b s)

pub reached_all : {w : ℕ} (b : Aabb) (s : Slots w) → reached_below always b s ≡ inner_children s + nodes_below s
unfolding kept
reached_all b end = refl
reached_all b (empty s) = reached_all b s
reached_all b (leaf c ps s) = omega (arith, reached_all b s)
reached_all b (inner c t s) = omega (arith, reached_all c t, reached_all b s)

-- ---- a measure of lists that adds up over `++`, of what is met: the sum of the measures of the kept leaf children

module _ (keep : Aabb → Aabb → List ℕ → Bool) (own : ℕ → Bool) (μ : List ℕ → ℕ) (μ-none : μ [] ≡ 0)
    (μ-append : (a b : List ℕ) → μ (a ++ b) ≡ μ a + μ b) where
  either : (k : Bool) (a : List ℕ) (m : ℕ) → μ a ≡ m → μ (cond k a []) ≡ cond k m 0
  either true a m e = e
  either false a m e = μ-none

  pub met_measure : {w : ℕ} (b : Aabb) (s : Slots w) → μ (met_below keep own b s) ≡ kept keep 0 ◌+◌ (λ ps. μ (filter own ps)) 0 b s
  unfolding kept
  met_measure b end = μ-none
  met_measure b (empty s) = met_measure b s
  met_measure b (leaf c ps s) =
      μ-append (cond (keep b c ps) (filter own ps) []) (met_below keep own b s)
      ∙ ap₂ ◌+◌ (either (keep b c ps) (filter own ps) (μ (filter own ps)) refl) (met_measure b s)
  met_measure b (inner c t s) =
      μ-append (cond (keep b c (slots_positions t)) ([] ++ met_below keep own c t) []) (met_below keep own b s)
      ∙ ap₂ ◌+◌ (either (keep b c (slots_positions t)) (met_below keep own c t) _ (met_measure c t ∙ omega arith)) (met_measure b s)

-- ---- slot by slot

module _ (keep : Aabb → Aabb → List ℕ → Bool) (of_leaf : List ℕ → ℕ) (of_inner : ℕ) where
  -- what a slot's content gives below a box
  unfoldable pub share : Aabb → Content → ℕ
  unfolding kept
  share b none = 0
  share b (leaf_child c ps) = cond (keep b c ps) (of_leaf ps) 0
  share b (inner_child c t) = cond (keep b c (slots_positions t)) (of_inner + kept keep 0 ◌+◌ of_leaf of_inner c t) 0

  pub kept_by_slots : {w : ℕ} (b : Aabb) (s : Slots w) → kept keep 0 ◌+◌ of_leaf of_inner b s ≡ sum (λ j. share b (content_at s j)) w
  unfolding kept sum share content_at
  kept_by_slots b end = refl
  kept_by_slots b (empty {w} s) = omega (arith, kept_by_slots b s, sum_front (λ j. share b (content_at (empty s) j)) w)
  kept_by_slots b (leaf {w} c ps s) = omega (arith, kept_by_slots b s, sum_front (λ j. share b (content_at (leaf c ps s) j)) w)
  kept_by_slots b (inner {w} c t s) = omega (arith, kept_by_slots b s, sum_front (λ j. share b (content_at (inner c t s) j)) w)
