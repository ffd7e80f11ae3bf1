-- Whether the new root's edge makes no path too long, by the depths of both trees.
use mathlib.Core.Bool.{Bool, true, false}
use mathlib.Core.List.{List}
use mathlib.Core.Logic.{◌⊎◌, inl, inr, ◌↔◌}
use mathlib.Core.Path.{◌≡◌, refl, sym, ◌∙◌}
use Prim.Native.Nat.{ℕ, zero, suc, ◌<◌, ◌≤◌, max}
use native.Mathlib.Decide.{dec_lt}
use native.Mathlib.Omega.{arith}
use lib.Dec.{leb}
use borrow.Author.Tests.{le-leb, lt-leb, leb-true, leb-false}
use Rattle.lists.proofs.Tells.{told, denied, tells_false, leb_tells}
use Rattle.bvh2.specs.Tree.{depth}
use Rattle.bvh2.specs.Words.{tree_at, tree_of}
use Rattle.bvh2.specs.Causes.{Accepted}
use Rattle.bvh2.specs.FirstCause.{is_whole}
use Rattle.bvh2.specs.Decoded.{AllRead}
use Rattle.bvh2.proofs.Decoded.{accepted_decoded}
use Rattle.bvh2.proofs.Once.{whole_tells}
use Rattle.bvh2.proofs.Stands.{depth_tells}
use Rattle.bvh2.proofs.Subtree.{root}
use Rattle.bvh2_check.specs.Marking.{InTree}
use Rattle.join.specs.Join.{edge_to_spare}

pub root_in_tree : (ws : List ℕ) (n : ℕ) → Accepted ws n → 0 < n → InTree ws 0
root_in_tree ws n a p = record { leaves = n; edges = 127; subtree = root ws n ((accepted_decoded ws n p).0 a) }

-- an accepted tree is read whole to 126 edges exactly if it is no deeper
shallow : (ws : List ℕ) (n : ℕ) → Accepted ws n → 0 < n → is_whole ws (tree_at ws 126 0) ≡ leb (depth (tree_of ws)) 126
shallow ws n a p = go (is_whole ws (tree_at ws 126 0)) refl (depth_tells ws 127 126 0 ((accepted_decoded ws n p).0 a).whole)
  where
    go : (b : Bool) → is_whole ws (tree_at ws 126 0) ≡ b → AllRead ws (tree_at ws 126 0) ↔ depth (tree_of ws) ≤ 126 → b ≡ leb (depth (tree_of ws)) 126
    go true e t = sym (le-leb (depth (tree_of ws)) 126 (t.0 (told (whole_tells ws (tree_at ws 126 0)) e)))
    go false e t = sym (tells_false (leb_tells (depth (tree_of ws)) 126) (λ l. denied (whole_tells ws (tree_at ws 126 0)) e (t.1 l)))

module _ (ws : List ℕ) (n : ℕ) (us : List ℕ) (m : ℕ) where
  -- one of the trees is empty,
  pub spare_empty : (n ≡ 0) ⊎ ((n ≡ 0 → ⊥) × (m ≡ 0)) → true ≡ edge_to_spare ws n us m
  unfolding edge_to_spare
  spare_empty (inl e) = rw e refl
  spare_empty (inr e) = go n e.0
    where
      go : (k : ℕ) → (k ≡ 0 → ⊥) → true ≡ edge_to_spare ws k us m
      go zero h = absurd (h refl)
      go (suc k) h = rw e.1 refl

  -- or neither is
  pub spare_both : (n ≡ 0 → ⊥) → (m ≡ 0 → ⊥) → edge_to_spare ws n us m ≡ leb (suc (max (depth (tree_of ws)) (depth (tree_of us)))) 127
  unfolding edge_to_spare
  spare_both h k = go n m h k
    where
      go : (i j : ℕ) → (i ≡ 0 → ⊥) → (j ≡ 0 → ⊥) → edge_to_spare ws i us j ≡ leb (suc (max (depth (tree_of ws)) (depth (tree_of us)))) 127
      go zero j h k = absurd (h refl)
      go (suc i) zero h k = absurd (k refl)
      go (suc i) (suc j) h k = refl

  module _ (a : Accepted ws n) (b : Accepted us m) (h : n ≡ 0 → ⊥) (k : m ≡ 0 → ⊥) where
    pub first_over : (x : Bool) → x ≡ is_whole ws (tree_at ws 126 0) → x ≡ false → false ≡ edge_to_spare ws n us m
    first_over x e f =
        let d = leb-false (depth (tree_of ws)) 126 (sym (shallow ws n a (omega (arith, h))) ∙ sym e ∙ f) in
        sym (spare_both h k ∙ lt-leb (suc (max (depth (tree_of ws)) (depth (tree_of us)))) 127 (omega (arith, d)))

    pub second_left : (x y : Bool) → x ≡ is_whole ws (tree_at ws 126 0) → x ≡ true → y ≡ is_whole us (tree_at us 126 0) → y ≡ edge_to_spare ws n us m
    second_left x y e f g = g ∙ shallow us m b (omega (arith, k)) ∙ same (dec_lt 126 (depth (tree_of us))) ∙ sym (spare_both h k)
      where
        d : depth (tree_of ws) ≤ 126
        d = leb-true (depth (tree_of ws)) 126 (sym (shallow ws n a (omega (arith, h))) ∙ sym e ∙ f)

        same : Dec (126 < depth (tree_of us)) → leb (depth (tree_of us)) 126 ≡ leb (suc (max (depth (tree_of ws)) (depth (tree_of us)))) 127
        same (yes l) = lt-leb (depth (tree_of us)) 126 l ∙ sym (lt-leb (suc (max (depth (tree_of ws)) (depth (tree_of us)))) 127 (omega (arith, l)))
        same (no l) =
            le-leb (depth (tree_of us)) 126 (omega (arith, l))
            ∙ sym (le-leb (suc (max (depth (tree_of ws)) (depth (tree_of us)))) 127 (omega (arith, d, l)))
