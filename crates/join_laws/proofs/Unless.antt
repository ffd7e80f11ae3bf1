-- Two accepted trees, with room for what they become, are joined unless there are too many leaves, the tree is too deep or an index sum passes
-- 32 bits (02, [4]).
use mathlib.Core.List.{List, [], ◌∷◌}
use mathlib.Core.Logic.{◌↔◌}
use mathlib.Core.Path.{◌≡◌}
use Prim.Native.Nat.{ℕ, ◌≤◌, ◌<◌}
use native.Mathlib.Omega.{arith}
use Rattle.lists.specs.Counts.{same, count}
use Rattle.causes.specs.Causes.{place_of, Before, First}
use Rattle.bvh2.specs.Causes.{Accepted}
use Rattle.bvh2.proofs.First.{accepted_facts}
use Rattle.bvh2.proofs.Paths.{AllInside}
use Rattle.join.specs.Join.{JoinCall, first_leaves, second_leaves, both_leaves, refused_join, join_of}
use Rattle.join_laws.specs.Joined.{Joins, BothAccepted, HasRoom}
use Rattle.join_laws.specs.Refusals.{TooDeep, SumOver, JoinRefusal, first_refused, second_refused, leaves_over}
use Rattle.join_laws.specs.Refusals.{marks_short, words_short, indices_short, first_deep, second_deep, sum_over_lem}
use Rattle.join_laws.proofs.Causes.{OnceOrNone, first_too_deep, second_too_deep, too_deep_refused}
use Rattle.join_laws.proofs.Refusals.{join_refused_first, join_answered}

-- an accepted tree, which may be empty
module _ (ws : List ℕ) (n : ℕ) (a : Accepted ws n) where
  accepted_inside : AllInside ws n
  accepted_inside v l = (accepted_facts ws n a (omega arith)).inside v l

  accepted_once : OnceOrNone ws n
  accepted_once some = (accepted_facts ws n a some).once

-- the causes that remain
data Remaining (c : JoinCall) : ℕ → Type 0 where
  many : 65536 < both_leaves c → Remaining c 2
  deep : TooDeep c → Remaining c 7
  over : SumOver c → Remaining c 13

module _ (c : JoinCall) (accepted : BothAccepted c) (room : HasRoom c) where
  first_once : OnceOrNone c.first (first_leaves c)
  first_once = accepted_once c.first (first_leaves c) accepted.0

  second_once : OnceOrNone c.second (second_leaves c)
  second_once = accepted_once c.second (second_leaves c) accepted.1

  remains : (k : ℕ) → JoinRefusal c k → Remaining c k
  remains k (first_refused q) = absurd (accepted.0 k q)
  remains k (second_refused q) = absurd (accepted.1 k q)
  remains k (leaves_over h) = many h
  remains k (marks_short h) = absurd (omega (arith, h, room.marks))
  remains k (words_short h) = absurd (omega (arith, h, room.words))
  remains k (indices_short h) = absurd (omega (arith, h, room.indices))
  remains k (first_deep also p) = deep (first_too_deep c first_once second_once also p)
  remains k (second_deep some p) = deep (second_too_deep c first_once second_once some p)
  remains k (sum_over_lem p) = over p

  refuses : (k : ℕ) → Remaining c k → JoinRefusal c k
  refuses k (many h) = leaves_over h
  refuses k (deep d) =
      too_deep_refused c first_once second_once (accepted_inside c.first (first_leaves c) accepted.0)
      (accepted_inside c.second (second_leaves c) accepted.1) d
  refuses k (over p) = sum_over_lem p

  -- the number is that of the first that holds, and there is none exactly if the trees are joined
  first_remaining : (k : ℕ) → (join_of c).answer ≡ refused_join k ↔ First (Remaining c) k
  first_remaining k =
      let r = join_refused_first c k in
      (λ e. let f = r.0 e in (remains k f.0, λ j b h. f.1 j b (refuses j h)), λ f. r.1 (refuses k f.0, λ j b h. f.1 j b (remains j h)))

  none_remaining : Joins c ↔ ((k : ℕ) → Remaining c k → ⊥)
  none_remaining = let a = join_answered c in (λ j k h. a.0 j k (refuses k h), λ f. a.1 (λ k h. f k (remains k h)))

  -- They are refused for too many leaves;
  pub too_many_leaves : (join_of c).answer ≡ refused_join 2 ↔ 65536 < both_leaves c
  unfolding place_of
  too_many_leaves = (λ e. is ((first_remaining 2).0 e).0, λ h. (first_remaining 2).1 (many h, none))
    where
      is : Remaining c 2 → 65536 < both_leaves c
      is (many h) = h

      none : (j : ℕ) → Before j 2 → Remaining c j → ⊥
      none j b (many h) = omega arith
      none j b (deep d) = omega arith
      none j b (over p) = omega arith

  -- if there are not too many, for too long a path;
  pub too_great_depth : (join_of c).answer ≡ refused_join 7 ↔ (both_leaves c ≤ 65536) × TooDeep c
  unfolding place_of
  too_great_depth = (λ e. to ((first_remaining 7).0 e), λ h. (first_remaining 7).1 (deep h.1, none h.0))
    where
      is : Remaining c 7 → TooDeep c
      is (deep d) = d

      to : First (Remaining c) 7 → (both_leaves c ≤ 65536) × TooDeep c
      to f =
          let few : 65536 < both_leaves c → ⊥ = λ h. f.1 2 (omega arith) (many h) in
          (omega arith, is f.0)

      none : both_leaves c ≤ 65536 → (j : ℕ) → Before j 7 → Remaining c j → ⊥
      none few j b (many h) = omega arith
      none few j b (deep d) = omega arith
      none few j b (over p) = omega arith

  -- if there is none, for a sum that passes 32 bits;
  pub sum-passes : (join_of c).answer ≡ refused_join 13 ↔ (both_leaves c ≤ 65536) × (TooDeep c → ⊥) × SumOver c
  unfolding place_of
  sum-passes = (λ e. to ((first_remaining 13).0 e), λ h. (first_remaining 13).1 (over h.2, none h.0 h.1))
    where
      is : Remaining c 13 → SumOver c
      is (over p) = p

      to : First (Remaining c) 13 → (both_leaves c ≤ 65536) × (TooDeep c → ⊥) × SumOver c
      to f =
          let few : 65536 < both_leaves c → ⊥ = λ h. f.1 2 (omega arith) (many h) in
          (omega arith, λ d. f.1 7 (omega arith) (deep d), is f.0)

      none : both_leaves c ≤ 65536 → (TooDeep c → ⊥) → (j : ℕ) → Before j 13 → Remaining c j → ⊥
      none few low j b (many h) = omega arith
      none few low j b (deep d) = low d
      none few low j b (over p) = omega arith

  -- with no other number;
  pub no_other_refusal : (k : ℕ) → (join_of c).answer ≡ refused_join k → 0 < count k (2 ∷ 7 ∷ 13 ∷ [])
  unfolding count same
  no_other_refusal k e = pick k ((first_remaining k).0 e).0
    where
      pick : (k : ℕ) → Remaining c k → 0 < count k (2 ∷ 7 ∷ 13 ∷ [])
      pick k (many h) = omega arith
      pick k (deep d) = omega arith
      pick k (over p) = omega arith

  -- and otherwise they are joined.
  pub joined_unless : Joins c ↔ (both_leaves c ≤ 65536) × (TooDeep c → ⊥) × (SumOver c → ⊥)
  joined_unless = (λ j. to (none_remaining.0 j), λ h. none_remaining.1 (none h.0 h.1 h.2))
    where
      to : ((k : ℕ) → Remaining c k → ⊥) → (both_leaves c ≤ 65536) × (TooDeep c → ⊥) × (SumOver c → ⊥)
      to f =
          let few : 65536 < both_leaves c → ⊥ = λ h. f 2 (many h) in
          (omega arith, λ d. f 7 (deep d), λ p. f 13 (over p))

      none : both_leaves c ≤ 65536 → (TooDeep c → ⊥) → (SumOver c → ⊥) → (k : ℕ) → Remaining c k → ⊥
      none few low fit k (many h) = omega arith
      none few low fit k (deep d) = low d
      none few low fit k (over p) = fit p
