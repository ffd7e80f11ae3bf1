-- What holds of a call that joins: no test refuses it.
use mathlib.Core.Path.{◌≡◌, refl, sym, ◌∙◌}
use Prim.Native.Nat.{ℕ, zero, suc, ◌+◌, ◌*◌, ◌<◌, ◌≤◌, max}
use native.Mathlib.Omega.{arith}
use lib.Dec.{T}
use lib.ListN.{length}
use Rattle.lists.proofs.Tells.{told, true_tells, and_tells, eqb_tells, leb_tells}
use Rattle.causes.specs.Causes.{place_of}
use Rattle.causes.proofs.Causes.{Passed, sorted, none_passed}
use Rattle.bvh2.specs.Tree.{depth}
use Rattle.bvh2.specs.Words.{tree_nodes}
use Rattle.bvh2.specs.FirstCause.{links_inside, boxes_accepted}
use Rattle.join.specs.Join.{JoinCall, first_leaves, second_leaves, both_leaves}
use Rattle.join.specs.Join.{size_tests, tree_or_none, edge_to_spare, tree_tests, join_tests, join_cause, joined, join_by, join_of}
use Rattle.join.proofs.Depths.{spare_both}
use Rattle.join.proofs.Ends.{tests_accepted}
use Rattle.join_laws.specs.Joined.{Joins, first_tree, second_tree, BothAccepted}

module _ (c : JoinCall) where
  in_order_lem : T (sorted 0 (join_tests c))
  unfolding join_tests size_tests tree_tests sorted place_of
  in_order_lem = tt

  pub joins_none : Joins c → join_cause c ≡ 0
  unfolding join_of join_by
  joins_none j = go (join_cause c) j
    where
      go : (k : ℕ) → (join_by k c).answer ≡ joined (both_leaves c) → k ≡ 0
      go zero e = refl
      go (suc k) e = let z : ◌≡◌ {A = ℕ} 0 1 = cc in absurd (omega arith)

  -- what holds of it
  pub record Joinable : Type 0 where
    pub accepted : BothAccepted c
    pub few : both_leaves c ≤ 65536
    pub shallow : 0 < first_leaves c → 0 < second_leaves c → suc (max (depth (first_tree c)) (depth (second_tree c))) ≤ 127

  pub joinable : Joins c → Joinable
  unfolding join_tests size_tests tree_tests
  joinable j =
      let n = first_leaves c in
      let m = second_leaves c in
      let p : Passed (join_tests c) = none_passed 0 (join_tests c) in_order_lem (joins_none j) in
      let fit = told (and_tells (eqb_tells (length c.first) (tree_nodes n * 7)) (eqb_tells (length c.second) (tree_nodes m * 7))) p.0 in
      let few = told (leb_tells (n + m) 65536) p.1.0 in
      let links = told (and_tells (true_tells (links_inside c.first n)) (true_tells (links_inside c.second m))) p.1.1.1.0 in
      let boxes = told (and_tells (true_tells (boxes_accepted c.first n)) (true_tells (boxes_accepted c.second m))) p.1.1.1.1.0 in
      let whole =
      told (and_tells (and_tells (true_tells (tree_or_none c.first n)) (true_tells (tree_or_none c.second m)))
      (true_tells (edge_to_spare c.first n c.second m))) p.1.1.1.1.1.0 in
      record {
        accepted = (
          tests_accepted c.first n (record { fit = fit.0; few = omega arith }) links.0 boxes.0 whole.0.0,
          tests_accepted c.second m (record { fit = fit.1; few = omega arith }) links.1 boxes.1 whole.0.1,
        );
        few = few;
        shallow = λ p q.
            told (leb_tells (suc (max (depth (first_tree c)) (depth (second_tree c)))) 127)
            (sym (spare_both c.first n c.second m (λ z. omega (arith, p, z)) (λ z. omega (arith, q, z))) ∙ whole.1);
      }

  -- A call that joins was given two accepted trees.
  pub joins_accepted : Joins c → BothAccepted c
  joins_accepted j = (joinable j).accepted
