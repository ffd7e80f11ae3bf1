-- Pane totals as walks add to them: pane by pane, each as often as it is met.
use mathlib.Core.Bool.{true}
use mathlib.Core.List.{List, [], ◌∷◌, ◌++◌}
use mathlib.Core.Path.{◌≡◌, refl, sym, ap, ◌∙◌}
use Prim.Native.Nat.{ℕ, ◌+◌, ◌*◌, ◌≤◌, ◌<◌}
use native.Mathlib.Decide.{dec_lt, ℕ_discrete}
use native.Mathlib.Omega.{arith}
use lib.Dec.{eqb, leb}
use lib.ListN.{length, get_or, set, length-set, get_or-eq_default}
use lib.Seq.{get_or-set_same, get_or-set_other}
use borrow.Author.Tests.{eqb-true}
use Rattle.lists.specs.Counts.{same, count}
use Rattle.lists.proofs.Counts.{same_self, same_apart}
use Rattle.lists.proofs.Tells.{below_tells, leb_tells, told, both_pass}
use Rattle.loss_walk.specs.Losses.{losses_fit}
use Rattle.loss_walk.specs.Charged.{charged}

-- ---- losses that fit

-- one for each pane,
pub fit_length : (panes : ℕ) (losses : List ℕ) → losses_fit panes losses ≡ true → length losses ≡ panes
unfolding losses_fit
fit_length panes losses h = eqb-true (length losses) panes (both_pass (eqb (length losses) panes) _ h).0

-- and none over 1,000,000, those past the last included, which are 0
pub fit_most : (panes : ℕ) (losses : List ℕ) → losses_fit panes losses ≡ true → (k : ℕ) → get_or losses k 0 ≤ 1000000
unfolding losses_fit
fit_most panes losses h k = pick (dec_lt k panes)
  where
    pick : Dec (k < panes) → get_or losses k 0 ≤ 1000000
    pick (yes l) =
        told (below_tells (λ i. get_or losses i 0 ≤ 1000000) (λ i. leb (get_or losses i 0) 1000000)
        (λ i. leb_tells (get_or losses i 0) 1000000) panes)
        (both_pass (eqb (length losses) panes) _ h).1 k l
    pick (no l) = omega (arith, get_or-eq_default losses 0 {n = k} (omega (arith, fit_length panes losses h, l)))

-- ---- totals

module _ (losses : List ℕ) where
  pub charged-length : (totals l : List ℕ) → length (charged losses totals l) ≡ length totals
  unfolding charged
  charged-length totals [] = refl
  charged-length totals (k ∷ l) = charged-length (set totals k (get_or totals k 0 + get_or losses k 0)) l ∙ length-set totals k _

  -- a pane's total, where it has one, grows by its loss as often as it stands in the list
  pub charged_at : (totals l : List ℕ) (j : ℕ) → j < length totals
      → get_or (charged losses totals l) j 0 ≡ get_or totals j 0 + count j l * get_or losses j 0
  unfolding charged count
  charged_at totals [] j h = omega arith
  charged_at totals (k ∷ l) j h =
      charged_at (set totals k (get_or totals k 0 + get_or losses k 0)) l j
      (omega (arith, length-set totals k (get_or totals k 0 + get_or losses k 0), h))
      ∙ pick (ℕ_discrete j k)
    where
      pick : Dec (j ≡ k) → get_or (set totals k (get_or totals k 0 + get_or losses k 0)) j 0 + count j l * get_or losses j 0
          ≡ get_or totals j 0 + (same j k + count j l) * get_or losses j 0
      pick (yes e) =
          let s : same j k ≡ 1 = ap (same j) (sym e) ∙ same_self j in
          let g : get_or (set totals k (get_or totals k 0 + get_or losses k 0)) j 0 ≡ get_or totals j 0 + get_or losses j 0 =
          rw e (get_or-set_same totals k (get_or totals k 0 + get_or losses k 0) 0 (rw (← e) h)) in
          rw (s, g) (omega arith)
      pick (no d) =
          let s = same_apart j k d in
          let g = get_or-set_other totals k j (get_or totals k 0 + get_or losses k 0) 0 d in
          rw (s, g) (omega arith)

  -- one pane more
  pub charged_next : (totals l : List ℕ) (k : ℕ)
      → charged losses totals (l ++ (k ∷ [])) ≡ set (charged losses totals l) k (get_or (charged losses totals l) k 0 + get_or losses k 0)
  unfolding charged
  charged_next totals [] k = refl
  charged_next totals (j ∷ l) k = charged_next (set totals j (get_or totals j 0 + get_or losses j 0)) l k

  -- no total grows by more than 1,000,000 a pane
  pub charged_most : ((k : ℕ) → get_or losses k 0 ≤ 1000000) → (totals l : List ℕ) (j : ℕ)
      → get_or (charged losses totals l) j 0 ≤ get_or totals j 0 + length l * 1000000
  unfolding charged
  charged_most most totals [] j = omega arith
  charged_most most totals (k ∷ l) j =
      let r = charged_most most (set totals k (get_or totals k 0 + get_or losses k 0)) l j in
      omega (arith, r, one (ℕ_discrete j k) (dec_lt j (length totals)))
    where
      after : List ℕ
      after = set totals k (get_or totals k 0 + get_or losses k 0)

      one : Dec (j ≡ k) → Dec (j < length totals) → get_or after j 0 ≤ get_or totals j 0 + 1000000
      one (yes e) (yes h) =
          let g : get_or (set totals k (get_or totals k 0 + get_or losses k 0)) j 0 ≡ get_or totals j 0 + get_or losses j 0 =
          rw e (get_or-set_same totals k (get_or totals k 0 + get_or losses k 0) 0 (rw (← e) h)) in
          omega (arith, g, most j)
      one (yes e) (no h) =
          let g : get_or (set totals k (get_or totals k 0 + get_or losses k 0)) j 0 ≡ 0 =
          get_or-eq_default (set totals k (get_or totals k 0 + get_or losses k 0)) 0 {n = j}
          (omega (arith, length-set totals k (get_or totals k 0 + get_or losses k 0))) in
          omega (arith, g)
      one (no d) h = omega (arith, get_or-set_other totals k j (get_or totals k 0 + get_or losses k 0) 0 d)
