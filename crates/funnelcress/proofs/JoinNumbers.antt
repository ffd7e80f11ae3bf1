-- Every answer of a join fits its number, on any words, and no two share one.
use mathlib.Core.Path.{◌≡◌, refl, ap}
use Prim.Native.Nat.{ℕ, zero, suc, ◌≤◌}
use native.Mathlib.Omega.{arith}
use borrow.Author.Tests.{leb-true}
use Rattle.causes.proofs.Causes.{Passed, sorted, none_passed, all_numbers}
use Rattle.join.specs.Join.{JoinCall, both_leaves, size_tests, tree_tests, join_tests, join_cause, JoinAnswer, joined, refused_join}
use Rattle.join.specs.Join.{join_by, join_of}
use Rattle.funnelcress.specs.Joins.{join_number}
use Rattle.funnelcress.proofs.Bounds.{numbers_most}

-- ---- no two answers share a number

-- no more leaves than a tree may have, and a cause's number
unfoldable pub JoinFits : JoinAnswer → Type 0
JoinFits (joined leaves) = leaves ≤ 65536
JoinFits (refused_join number) = number ≤ 13

-- answers with the same number are the same
pub join_apart : (a b : JoinAnswer) → JoinFits a → JoinFits b → join_number a ≡ join_number b → a ≡ b
unfolding join_number JoinFits
join_apart (joined n) (joined m) h k e = ap joined e
join_apart (joined n) (refused_join m) h k e = absurd (omega arith)
join_apart (refused_join n) (joined m) h k e = absurd (omega arith)
join_apart (refused_join n) (refused_join m) h k e = ap refused_join (omega arith)

-- ---- every answer fits

module _ (c : JoinCall) where
  cause_most : join_cause c ≤ 13
  unfolding join_tests size_tests tree_tests all_numbers
  cause_most = numbers_most 13 (join_tests c) tt

  -- not refused: not too many leaves
  few : join_cause c ≡ 0 → both_leaves c ≤ 65536
  unfolding join_tests size_tests tree_tests sorted
  few e =
      let p : Passed (join_tests c) = none_passed 0 (join_tests c) tt e in
      leb-true (both_leaves c) 65536 p.1.0

  pub join_fits : JoinFits (join_of c).answer
  unfolding join_of join_by JoinFits
  join_fits = go (join_cause c) cause_most few
    where
      go : (k : ℕ) → k ≤ 13 → (k ≡ 0 → both_leaves c ≤ 65536) → JoinFits (join_by k c).answer
      go zero l h = h refl
      go (suc k) l h = l
