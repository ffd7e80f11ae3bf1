-- Sums over a node and all below it in a sound record: below the first node lie all nodes, each once, and so every position once.
use mathlib.Core.List.{List, ◌∷◌}
use mathlib.Core.Logic.{◌⊎◌, inl, inr}
use mathlib.Core.Path.{◌≡◌, refl, sym, ap, ◌∙◌}
use Prim.Native.Nat.{ℕ, zero, suc, ◌+◌, ◌≤◌, ◌<◌}
use native.Mathlib.Omega.{arith}
use native.Mathlib.Decide.{dec_lt}
use Rattle.lists.specs.Counts.{count, upto}
use Rattle.lists.specs.Sums.{sum, sum_over}
use Rattle.lists.proofs.Counts.{same_self, same_apart}
use Rattle.lists.proofs.Sums.{sum_cong, sum-zero, sum_ones, sum-add, sum_renumbered}
use Rattle.soundness.specs.Range.{in_range}
use Rattle.soundness.specs.Shape.{Shape, parents, positions_held, holders, RangesPlaced}
use Rattle.soundness.specs.Sound.{Sound}
use Rattle.soundness.proofs.Range.{range_cases, count_range}
use Rattle.walk.specs.Listing.{flat, gather_below}
use Rattle.walk.proofs.Lists.{sum-upto, joined_sum, count-flat, sum-flat}
use Rattle.walk.proofs.Gather.{Rising, gather_none, gather_is}

-- a node's child range as a list
abbrev pub child_range : Shape → ℕ → List ℕ
child_range S v = upto (S.base v) (S.children v)

-- a weight of nodes, summed over v and all below it
abbrev pub total : Shape → (ℕ → ℕ) → ℕ → ℕ
total S w v = gather_below 0 ◌+◌ (child_range S) w S.nodes v

module _ (S : Shape) (Rule : ℕ → Type 0) (place : (v : ℕ) → v < S.nodes → Rule v → RangesPlaced S v) (sound : Sound S Rule) where
  placed : (v : ℕ) → v < S.nodes → RangesPlaced S v
  placed v h = place v h (sound.rule v h)

  pub child_rises : Rising S.nodes (child_range S)
  child_rises v h c i = go (range_cases c (S.base v) (S.children v))
    where
      go : (in_range c (S.base v) (S.children v) ≡ 0) ⊎ ((S.base v ≤ c) × (c < S.base v + S.children v)) → (v < c) × (c < S.nodes)
      go (inl e) = absurd (omega (arith, count_range c (S.base v) (S.children v)))
      go (inr k) = let p = placed v h in (
        omega (arith, k.0, k.1, p.later (omega (arith, k.0, k.1))),
        omega
            (arith, k.1, p.exist (omega (arith, k.0, k.1))),
      )

  -- no number from m on stands in a child range
  pub range_ends : (v x : ℕ) → v < S.nodes → S.nodes ≤ x → count x (child_range S v) ≡ 0
  range_ends v x h l = go (dec_lt 0 (count x (child_range S v)))
    where
      go : Dec (0 < count x (child_range S v)) → count x (child_range S v) ≡ 0
      go (yes k) = absurd (omega (arith, (child_rises v h x k).1))
      go (no k) = omega arith

  -- ---- totals

  pub total_is : (w : ℕ → ℕ) (v : ℕ) → v < S.nodes → total S w v ≡ w v + sum_over (total S w) (child_range S v)
  total_is w v h = gather_is 0 ◌+◌ (child_range S) w S.nodes child_rises v h ∙ ap (λ (x : ℕ). w v + x) (joined_sum (total S w) (child_range S v))

  -- all child ranges together
  ranges : List ℕ
  ranges = flat (child_range S) (upto 0 S.nodes)

  ranges_count : (x : ℕ) → count x ranges ≡ parents S S.nodes x
  unfolding ranges
  ranges_count x =
      count-flat x (child_range S) (upto 0 S.nodes)
      ∙ sum-upto (λ v. count x (child_range S v)) S.nodes
      ∙ sum_cong (λ v. count x (child_range S v)) (λ v. in_range x (S.base v) (S.children v)) S.nodes
      (λ v h. count_range x (S.base v) (S.children v))

  -- with the first node in front each node stands there once, and no other number
  once : (x : ℕ) → x < S.nodes → count x (0 ∷ ranges) ≡ 1
  unfolding count
  once zero h = omega (arith, same_self 0, ranges_count 0, sound.first)
  once (suc x) h = omega (arith, same_apart (suc x) 0 (λ e. omega arith), ranges_count (suc x), sound.others (suc x) (omega arith) h)

  past : (x : ℕ) → S.nodes ≤ x → 0 < S.nodes → count x (0 ∷ ranges) ≡ 0
  unfolding count
  past x h l =
      omega (
        arith,
        same_apart x 0 (λ e. omega arith),
        ranges_count x,
        sum-zero (λ v. in_range x (S.base v) (S.children v)) S.nodes
            (λ v k. sym (count_range x (S.base v) (S.children v)) ∙ range_ends v x k h),
      )

  -- below the first node lie all nodes, each once
  pub total_first : (w : ℕ → ℕ) → 0 < S.nodes → total S w 0 ≡ sum w S.nodes
  unfolding sum_over ranges
  total_first w h =
      let all = sum_renumbered S.nodes (total S w) (0 ∷ ranges) once (λ x l. past x l h) in
      let each = sum_cong (total S w) (λ v. w v + sum_over (total S w) (child_range S v)) S.nodes (total_is w) in
      let both = sum-add w (λ v. sum_over (total S w) (child_range S v)) S.nodes in
      let below = sum-flat (total S w) (child_range S) (upto 0 S.nodes) ∙ sum-upto (λ v. sum_over (total S w) (child_range S v)) S.nodes in
      omega (arith, all, each, both, below)

  pub total_ones : 0 < S.nodes → total S (λ v. 1) 0 ≡ S.nodes
  total_ones h = total_first (λ v. 1) h ∙ sum_ones (λ v. 1) S.nodes (λ j k. refl)

  -- ---- positions

  -- a node's leaf ranges hold no number from n on
  pub held_ends : (v x : ℕ) → v < S.nodes → S.positions ≤ x → positions_held S v x ≡ 0
  held_ends v x h l = sum-zero (λ j. in_range x (S.start v j) (S.count v j)) 8 (λ j k. go j k (range_cases x (S.start v j) (S.count v j)))
    where
      go : (j : ℕ) → j < 8 → (in_range x (S.start v j) (S.count v j) ≡ 0) ⊎ ((S.start v j ≤ x) × (x < S.start v j + S.count v j))
          → in_range x (S.start v j) (S.count v j) ≡ 0
      go j k (inl e) = e
      go j k (inr r) = absurd (omega (arith, r.0, r.1, (placed v h).inside j k (omega (arith, r.0, r.1))))

  pub holders_most : (x : ℕ) → holders S S.nodes x ≤ 1
  holders_most x = go (dec_lt x S.positions)
    where
      go : Dec (x < S.positions) → holders S S.nodes x ≤ 1
      go (yes h) = omega (arith, sound.filled x h)
      go (no h) = omega (arith, sum-zero (λ v. positions_held S v x) S.nodes (λ v k. held_ends v x k (omega arith)))

  -- no position lies below the first node twice
  pub total_once : (x : ℕ) → total S (λ v. positions_held S v x) 0 ≤ 1
  total_once x = go (dec_lt 0 S.nodes)
    where
      go : Dec (0 < S.nodes) → total S (λ v. positions_held S v x) 0 ≤ 1
      go (yes h) = omega (arith, total_first (λ v. positions_held S v x) h, holders_most x)
      go (no h) = let e : S.nodes ≡ 0 = omega arith in rw (e, gather_none) (omega arith)
