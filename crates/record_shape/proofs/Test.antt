-- The tests of a shape tell whether it is sound, and its deepest level.
use mathlib.Core.Bool.{Bool}
use mathlib.Core.Logic.{◌⊎◌, inl, inr}
use mathlib.Core.Path.{◌≡◌, refl, sym, subst}
use Prim.Native.Nat.{ℕ, zero, suc, ◌<◌, ◌≤◌, min}
use native.Mathlib.Decide.{dec_lt}
use native.Mathlib.Omega.{arith}
use Rattle.lists.specs.Sums.{sum}
use Rattle.lists.proofs.Counts.{Same, equal, apart, same?}
use Rattle.lists.proofs.Tells.{Tells, tells_as, eqb_tells, leb_tells, and_tells, below_tells}
use Rattle.soundness.specs.Range.{in_range}
use Rattle.soundness.specs.Shape.{Shape, ChildOf, parents, holders, Level, RangesPlaced}
use Rattle.soundness.specs.Sound.{Sound, Deepest}
use Rattle.soundness.proofs.Once.{child_counts, counts_child, same_parent, no_parent}
use Rattle.soundness.proofs.Sound.{parents_most, has_level}
use Rattle.record_shape.specs.Test.{if_nonzero, parent_among, level_upto, greatest, sound_test, deepest_of}

module _ (S : Shape) where
  -- the one parent is found
  found : (v p : ℕ) → parents S S.nodes v ≤ 1 → ChildOf S p v → (k : ℕ) → k ≤ S.nodes → p < k → parent_among S k v ≡ p
  unfolding parent_among
  found v p h c zero l b = absurd (omega arith)
  found v p h c (suc k) l b = go (in_range v (S.base k) (S.children k)) refl (found v p h c k (omega arith)) (same? p k)
    where
      go : (r : ℕ) → in_range v (S.base k) (S.children k) ≡ r → (p < k → parent_among S k v ≡ p) → Same p k → if_nonzero r k (parent_among S k v) ≡ p
      go zero e f (equal g i) = absurd (omega (arith, subst (λ (x : ℕ). in_range v (S.base x) (S.children x) ≡ 1) g (child_counts S p v c)))
      go zero e f (apart g i) = f (omega arith)
      go (suc r) e f s = same_parent S v k p h (counts_child S k v l (omega arith)) c

  pub parent_found : (v p : ℕ) → parents S S.nodes v ≤ 1 → ChildOf S p v → parent_among S S.nodes v ≡ p
  parent_found v p h c = found v p h c S.nodes (omega arith) c.parent

  -- a node's level is the steps that lead up from it, where no node has two parents and the first none
  pub level-upto : parents S S.nodes 0 ≡ 0 → ((v : ℕ) → v < S.nodes → parents S S.nodes v ≤ 1) → (g l v : ℕ) → v < S.nodes → Level S l v
      → level_upto S g v ≡ min g l
  unfolding Level level_upto
  level-upto z h zero l v b a = omega arith
  level-upto z h (suc g) zero v b a = rw a (omega arith)
  level-upto z h (suc g) (suc l) zero b (p, c, a) = absurd (no_parent S 0 z p c)
  level-upto z h (suc g) (suc l) (suc u) b (p, c, a) =
      let i = level-upto z h g l p c.parent a in
      rw (parent_found (suc u) p (h (suc u) b) c) (omega arith)

-- ---- the greatest value

greatest_most : (f : ℕ → ℕ) (k j : ℕ) → j < k → f j ≤ greatest f k
unfolding greatest
greatest_most f zero j l = absurd (omega arith)
greatest_most f (suc k) j l = go (greatest_most f k j) (same? j k)
  where
    go : (j < k → f j ≤ greatest f k) → Same j k → f j ≤ greatest f (suc k)
    go h (equal e i) = let z : f j ≡ f k = rw e in omega arith
    go h (apart e i) = let z = h (omega arith) in omega arith

greatest-some : (f : ℕ → ℕ) (k : ℕ) → 0 < k → (j : ℕ) × (j < k) × (greatest f k ≡ f j)
unfolding greatest
greatest-some f zero h = absurd (omega arith)
greatest-some f (suc k) h = go (greatest-some f k) (dec_lt (f k) (greatest f k)) (dec_lt 0 k)
  where
    go : (0 < k → (j : ℕ) × (j < k) × (greatest f k ≡ f j)) → Dec (f k < greatest f k) → Dec (0 < k) → (j : ℕ) × (j < suc k)
        × (greatest f (suc k) ≡ f j)
    go g (yes l) (yes p) = let r = g p in (r.0, omega (arith, r.1), omega (arith, r.2))
    go g (yes l) (no p) = absurd (let e : k ≡ 0 = omega arith in let z : greatest f k ≡ 0 = rw e in omega arith)
    go g (no l) d = (k, omega arith, omega arith)

-- ---- the whole

module _ (S : Shape) (Rule : ℕ → Type 0) (place : (i : ℕ) → i < S.nodes → Rule i → RangesPlaced S i) where
  abbrev Parts : Type 0
  Parts =
      ((((i : ℕ) → i < S.nodes → Rule i) × ((v : ℕ) → v < S.nodes → parents S S.nodes v ≡ min 1 v))
      × ((x : ℕ) → x < S.positions → holders S S.nodes x ≡ 1))
      × ((v : ℕ) → v < S.nodes → level_upto S 32 v ≤ 31)

  sound_to : Parts → Sound S Rule
  unfolding sum
  sound_to h = record {
    rule = h.0.0.0;
    first = first;
    others = λ v z l. let e = h.0.0.1 v l in omega arith;
    filled = h.0.1;
    levels = λ v l b a. omega (arith, level-upto S first most 32 l v b a, h.1 v b);
  }
    where
      none : (m : ℕ) → S.nodes ≡ m → parents S m 0 ≡ 0
      none zero e = refl
      none (suc m) e = subst (λ (k : ℕ). parents S k 0 ≡ 0) e (let z = h.0.0.1 0 (omega arith) in omega arith)

      first : parents S S.nodes 0 ≡ 0
      first = none S.nodes refl

      most : (v : ℕ) → v < S.nodes → parents S S.nodes v ≤ 1
      most v l = let e = h.0.0.1 v l in omega arith

  module _ (sound : Sound S Rule) where
    -- a node's level, found by going up
    pub level_of_lem : (v l : ℕ) → v < S.nodes → Level S l v → level_upto S 32 v ≡ l
    level_of_lem v l b a =
        let z = sound.levels v l b a in
        let e = level-upto S sound.first (parents_most S Rule place sound) 32 l v b a in
        omega arith

    pub at_level : (v : ℕ) → v < S.nodes → Level S (level_upto S 32 v) v × (level_upto S 32 v ≤ 31)
    at_level v b =
        let r = has_level S Rule place sound v b in
        let e = level_of_lem v r.0 b r.2 in
        (subst (λ (l : ℕ). Level S l v) (sym e) r.2, omega (arith, r.1))

    one_each : (v : ℕ) → v < S.nodes → parents S S.nodes v ≡ min 1 v
    one_each zero l = sound.first
    one_each (suc u) l = let e = sound.others (suc u) (omega arith) l in omega arith

    sound_from : Parts
    sound_from = (((sound.rule, one_each), sound.filled), λ v b. (at_level v b).1)

    pub deepest_is : Deepest S (deepest_of S)
    unfolding deepest_of
    deepest_is = record {
      most = λ v l b a. omega (arith, level_of_lem v l b a, greatest_most (level_upto S 32) S.nodes v b);
      some = go (dec_lt 0 S.nodes);
    }
      where
        go : Dec (0 < S.nodes) → ((S.nodes ≡ 0) × (greatest (level_upto S 32) S.nodes ≡ 0)) ⊎
            ((v : ℕ) × (v < S.nodes) × Level S (greatest (level_upto S 32) S.nodes) v)
        go (yes p) =
            let r = greatest-some (level_upto S 32) S.nodes p in
            inr (r.0, r.1, subst (λ (l : ℕ). Level S l r.0) (sym r.2) (at_level r.0 r.1).0)
        go (no p) = inl (none S.nodes (omega arith))
          where
            none : (m : ℕ) → m ≡ 0 → (m ≡ 0) × (greatest (level_upto S 32) m ≡ 0)
            none m e = (e, rw e)

  -- the test passes exactly if the shape is sound
  pub sound_tells : (rule : ℕ → Bool) → ((i : ℕ) → Tells (Rule i) (rule i)) → Tells (Sound S Rule) (sound_test S rule)
  unfolding sound_test
  sound_tells rule t =
      tells_as
      (and_tells (and_tells (and_tells (below_tells Rule rule t S.nodes)
      (below_tells _ _ (λ v. eqb_tells (parents S S.nodes v) (min 1 v)) S.nodes))
      (below_tells _ _ (λ x. eqb_tells (holders S S.nodes x) 1) S.positions))
      (below_tells _ _ (λ v. leb_tells (level_upto S 32 v) 31) S.nodes))
      sound_to sound_from
