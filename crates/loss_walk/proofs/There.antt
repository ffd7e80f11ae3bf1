-- Panes that are there, and the loss over positions by panes.
use mathlib.Core.Bool.{Bool, true, false, ◌&&◌}
use mathlib.Core.List.{List, [], ◌∷◌}
use mathlib.Core.Path.{◌≡◌, refl, sym, ◌∙◌}
use Prim.Native.Nat.{ℕ, ◌*◌, ◌≤◌, ◌<◌}
use native.Mathlib.Omega.{arith}
use borrow.Author.Tests.{ltb-true, ltb-false}
use lib.Dec.{ltb}
use lib.ListN.{get_or}
use Rattle.lists.specs.Counts.{count}
use Rattle.lists.specs.Sums.{sum, sum_over}
use Rattle.lists.proofs.Counts.{same_apart}
use Rattle.lists.proofs.Sums.{over_words, sum_counted}
use Rattle.lists.proofs.Tells.{Tells, passes, clash, ltb_tells, and_tells, both_pass}
use Rattle.walk.specs.Calls.{All}
use Rattle.walk.specs.Listing.{In}
use Rattle.walk.proofs.Lists.{in_head, in_tail}
use Rattle.query.specs.Met.{panes_met}
use Rattle.loss_walk.specs.Losses.{loss_at, all_there}

module _ (panes : ℕ) where
  module _ (indices : List ℕ) where
    -- each position's pane is one of so many,
    pub there_tells : (l : List ℕ) → Tells (All (λ p. get_or indices p 0 < panes) l) (all_there panes (panes_met indices l))
    unfolding all_there
    there_tells [] = passes tt
    there_tells (q ∷ l) = and_tells (ltb_tells (get_or indices q 0) panes) (there_tells l)

    -- or some position's is not
    pub missing : (l : List ℕ) → all_there panes (panes_met indices l) ≡ false → (p : ℕ) × In p l × (panes ≤ get_or indices p 0)
    unfolding all_there
    missing [] e = clash (sym e)
    missing (q ∷ l) e = go (ltb (get_or indices q 0) panes) refl e (missing l)
      where
        go : (b : Bool) → ltb (get_or indices q 0) panes ≡ b → b && all_there panes (panes_met indices l) ≡ false
            → (all_there panes (panes_met indices l) ≡ false → (p : ℕ) × In p l × (panes ≤ get_or indices p 0))
            → (p : ℕ) × In p (q ∷ l) × (panes ≤ get_or indices p 0)
        go true h e r = let u = r e in (u.0, in_tail u.0 q l u.1, u.2)
        go false h e r = (q, in_head q l, ltb-false (get_or indices q 0) panes h)

  -- so no other stands in the list
  pub there_none : (l : List ℕ) → all_there panes l ≡ true → (x : ℕ) → panes ≤ x → count x l ≡ 0
  unfolding all_there count
  there_none [] h x g = refl
  there_none (k ∷ l) h x g =
      let a = both_pass (ltb k panes) (all_there panes l) h in
      let b = ltb-true k panes a.0 in
      omega (arith, same_apart x k (λ e. omega (arith, e, b)), there_none l a.1 x g)

  -- the losses of positions are those of their panes, each as often as it is named
  pub by_panes : (indices losses l : List ℕ) → all_there panes (panes_met indices l) ≡ true
      → sum_over (loss_at indices losses) l ≡ sum (λ k. count k (panes_met indices l) * get_or losses k 0) panes
  by_panes indices losses l h =
      sym (over_words (λ k. get_or losses k 0) indices l)
      ∙ sym (sum_counted panes (λ k. get_or losses k 0) (panes_met indices l) (there_none (panes_met indices l) h))
