-- On a sound record the first node's listing holds a position exactly if it is passed, once; and the nodes reached are those gathered, each once.
use mathlib.Core.Bool.{false}
use mathlib.Core.List.{List, [], ◌∷◌, ◌++◌}
use mathlib.Core.Logic.{◌⊎◌, inl, inr, ◌↔◌}
use mathlib.Core.Path.{◌≡◌, refl, sym, subst}
use Prim.Native.Nat.{ℕ, zero, suc, ◌+◌, ◌≤◌, ◌<◌}
use native.Mathlib.Omega.{arith}
use native.Mathlib.Decide.{dec_lt}
use Rattle.lists.specs.Counts.{same, count, upto}
use Rattle.lists.proofs.Counts.{count-append, count_among}
use Rattle.soundness.specs.Shape.{Shape, positions_held}
use Rattle.walk.specs.Tests.{Tests}
use Rattle.walk.specs.Listing.{In, flat, gather_below, ReachedIn, first, child, PassedIn, listing, reached_from}
use Rattle.walk.specs.Lawful.{SoundTests}
use Rattle.walk.proofs.Lists.{in_head, in_none, in_one, in_left, in_right, in_append, in_flat, flat_in, count-flat, joined_sum}
use Rattle.walk.proofs.Lists.{sum_over_mono, sum_over_part, sum-upto, sum_same}
use Rattle.walk.proofs.Gather.{Rising, gather_none, gather_is}
use Rattle.walk.proofs.Subtrees.{child_range, child_rises, range_ends, held_ends, total_first, total_once}
use Rattle.walk.proofs.Once.{children-part}

module _ {RayData Distance : Type 0} {S : Shape} {Rule : ℕ → Type 0} {T : Tests RayData Distance} (K : SoundTests S Rule T) (ray : RayData)
    (accepted : T.forged ray ≡ false) where
  pub passed_rises : Rising S.nodes (T.children ray)
  passed_rises v h c i = child_rises S Rule K.lawful.placed K.sound v h c (omega (arith, children-part K ray v c accepted h))

  -- a node's listing: its passed positions, then its passed children's listings
  pub listing_is : (v : ℕ) → v < S.nodes → listing S.nodes T ray v ≡ T.positions ray v ++ flat (listing S.nodes T ray) (T.children ray v)
  listing_is v h = gather_is [] ◌++◌ (T.children ray) (T.positions ray) S.nodes passed_rises v h

  pub reached_from_is : (v : ℕ) → v < S.nodes → reached_from S.nodes T ray v ≡ v ∷ flat (reached_from S.nodes T ray) (T.children ray v)
  reached_from_is v h = gather_is [] ◌++◌ (T.children ray) (λ u. u ∷ []) S.nodes passed_rises v h

  pub reached_node : (v : ℕ) → ReachedIn S.nodes T ray v → v < S.nodes
  reached_node v (first e h) = rw e h
  reached_node v (child {v = u} r i) = (passed_rises u (reached_node u r) v i).1

  -- ---- what is gathered from the first node is what the reached nodes have

  module _ (w : ℕ → List ℕ) where
    abbrev all : ℕ → ℕ → List ℕ
    all k v = gather_below [] ◌++◌ (T.children ray) w k v

    found_at : (x k v : ℕ) → ReachedIn S.nodes T ray v → In x (all k v) → (u : ℕ) × ReachedIn S.nodes T ray u × In x (w u)
    unfolding gather_below
    found_at x zero v r i = in_none x i
    found_at x (suc k) v r i = go (in_append x (w v) (flat (all k) (T.children ray v)) i) (found_at x k)
      where
        go : In x (w v) ⊎ In x (flat (all k) (T.children ray v))
            → ((c : ℕ) → ReachedIn S.nodes T ray c → In x (all k c) → (u : ℕ) × ReachedIn S.nodes T ray u × In x (w u))
            → (u : ℕ) × ReachedIn S.nodes T ray u × In x (w u)
        go (inl j) f = (v, r, j)
        go (inr j) f = let q = in_flat x (all k) (T.children ray v) j in f q.0 (child r q.1) q.2

    up_from : (x v : ℕ) → ReachedIn S.nodes T ray v → In x (all S.nodes v) → In x (all S.nodes 0)
    up_from x v (first e h) i = subst (λ (u : ℕ). In x (all S.nodes u)) e i
    up_from x v (child {v = u} r k) i =
        up_from x u r
        (rw (gather_is [] ◌++◌ (T.children ray) w S.nodes passed_rises u (reached_node u r))
        (in_right x (w u) _ (flat_in x v (all S.nodes) (T.children ray u) k i)))

    gathered : (x : ℕ) → In x (all S.nodes 0) ↔ ((u : ℕ) × ReachedIn S.nodes T ray u × In x (w u))
    gathered x = (to (dec_lt 0 S.nodes), λ q. up_from x q.0 q.1 (here q.0 q.1 q.2))
      where
        here : (u : ℕ) → ReachedIn S.nodes T ray u → In x (w u) → In x (all S.nodes u)
        here u r i = rw (gather_is [] ◌++◌ (T.children ray) w S.nodes passed_rises u (reached_node u r)) (in_left x (w u) _ i)

        to : Dec (0 < S.nodes) → In x (all S.nodes 0) → (u : ℕ) × ReachedIn S.nodes T ray u × In x (w u)
        to (yes h) i = found_at x S.nodes 0 (first refl h) i
        to (no h) i =
            let e : S.nodes ≡ 0 = omega arith in
            let j : In x (all 0 0) = subst (λ (k : ℕ). In x (all k 0)) e i in
            let k : In x [] = rw gather_none at j in
            in_none x k

    -- none more often than among all nodes below
    gathered_le : (x k v : ℕ) (f : ℕ → ℕ) → ((u : ℕ) → u < S.nodes → count x (w u) ≤ f u) → v < S.nodes
        → count x (all k v) ≤ gather_below 0 ◌+◌ (child_range S) f k v
    unfolding gather_below count
    gathered_le x zero v f h l = omega arith
    gathered_le x (suc k) v f h l =
        omega (
          arith,
          h v l,
          count-append x (w v) (flat (all k) (T.children ray v)),
          count-flat x (all k) (T.children ray v),
          sum_over_mono (λ u. count x (all k u)) (gather_below 0 ◌+◌ (child_range S) f k) (T.children ray v)
              (λ c i. gathered_le x k c f h (passed_rises v l c i).1),
          sum_over_part S.nodes (gather_below 0 ◌+◌ (child_range S) f k) (T.children ray v) (child_range S v)
              (λ c. children-part K ray v c accepted l)
              (λ c j. range_ends S Rule K.lawful.placed K.sound v c l j),
          joined_sum (gather_below 0 ◌+◌ (child_range S) f k) (child_range S v),
        )

  -- ---- positions

  -- a position is listed exactly if it is passed,
  pub listed : (p : ℕ) → In p (listing S.nodes T ray 0) ↔ PassedIn S.nodes T ray p
  listed p = gathered (T.positions ray) p

  no_nodes : (w : ℕ → List ℕ) (x : ℕ) → S.nodes ≡ 0 → count x (gather_below [] ◌++◌ (T.children ray) w S.nodes 0) ≡ 0
  unfolding count
  no_nodes w x e = rw (e, gather_none)

  -- and once
  pub listed_once : (p : ℕ) → count p (listing S.nodes T ray 0) ≤ 1
  listed_once p = go (dec_lt 0 S.nodes)
    where
      go : Dec (0 < S.nodes) → count p (listing S.nodes T ray 0) ≤ 1
      go (yes h) =
          omega (
            arith,
            gathered_le (T.positions ray) p S.nodes 0 (λ v. positions_held S v p)
                (λ u l. K.lawful.own_positions_lem ray u p accepted l (K.sound.rule u l)) h,
            total_once S Rule K.lawful.placed K.sound p,
          )
      go (no h) = omega (arith, no_nodes (T.positions ray) p (omega arith))

  pub passed_position_lem : (p : ℕ) → PassedIn S.nodes T ray p → p < S.positions
  passed_position_lem p q = go (dec_lt p S.positions)
    where
      go : Dec (p < S.positions) → p < S.positions
      go (yes h) = h
      go (no h) =
          let u = q.0 in
          let l = reached_node u q.1 in
          let none = held_ends S Rule K.lawful.placed K.sound u p l (omega arith) in
          absurd (omega (arith, q.2, K.lawful.own_positions_lem ray u p accepted l (K.sound.rule u l), none))

  -- ---- nodes

  -- a node is gathered exactly if it is reached,
  pub reached_in : (v : ℕ) → In v (reached_from S.nodes T ray 0) ↔ ReachedIn S.nodes T ray v
  reached_in v = (λ i. only ((gathered (λ u. u ∷ []) v).0 i), λ r. (gathered (λ u. u ∷ []) v).1 (v, r, in_head v []))
    where
      only : (u : ℕ) × ReachedIn S.nodes T ray u × In v (u ∷ []) → ReachedIn S.nodes T ray v
      only q = subst (λ (u : ℕ). ReachedIn S.nodes T ray u) (sym (in_one v q.0 q.2)) q.1

  -- and once
  pub reached_once : (v : ℕ) → count v (reached_from S.nodes T ray 0) ≤ 1
  unfolding count
  reached_once v = go (dec_lt 0 (count v (reached_from S.nodes T ray 0)))
    where
      go : Dec (0 < count v (reached_from S.nodes T ray 0)) → count v (reached_from S.nodes T ray 0) ≤ 1
      go (yes i) =
          let l = reached_node v ((reached_in v).0 i) in
          omega (
            arith,
            gathered_le (λ u. u ∷ []) v S.nodes 0 (λ u. same v u) (λ u k. omega arith) (omega arith),
            total_first S Rule K.lawful.placed K.sound (λ u. same v u) (omega arith),
            sum-upto (λ u. same v u) S.nodes,
            sum_same v (upto 0 S.nodes),
            count_among v 0 S.nodes (omega arith) (omega arith),
          )
      go (no i) = omega arith
