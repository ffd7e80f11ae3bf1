-- Sums over what a ray passes in a node are sums over the node's slots.
use mathlib.Core.Bool.{Bool, true, false, cond}
use mathlib.Core.List.{List, [], ◌∷◌, ◌++◌}
use mathlib.Core.Path.{◌≡◌, refl, sym, ap, ◌∙◌}
use Prim.Native.Nat.{ℕ, zero, suc, ◌+◌, ◌≤◌, ◌<◌}
use native.Mathlib.Omega.{arith}
use lib.Bits.{bit_xor}
use Rattle.std.specs.List.{filter}
use Rattle.lists.specs.Counts.{same, count, upto}
use Rattle.lists.specs.Sums.{sum, sum_over}
use Rattle.lists.proofs.Counts.{Same, equal, apart, same?, Some, none, some, some?, count_among}
use Rattle.lists.proofs.Sums.{sum_term}
use Rattle.soundness.specs.Range.{in_range}
use Rattle.soundness.specs.Shape.{positions_held}
use Rattle.soundness.specs.Sound.{Sound}
use Rattle.soundness.proofs.Range.{range_stands, count_range}
use Rattle.walk.specs.Listing.{In, flat}
use Rattle.walk.specs.Slots.{WalkRecord, falling, child_number, passed_child, positions_passed, children_passed, SlotLaws}
use Rattle.walk.proofs.Lists.{in_none, in_flat, flat_in, count-flat, sum-flat, sum-upto, sum_over_mono, sum_over_part}
use Rattle.walk.proofs.Slots.{positions_iff, slots_sound}
use Rattle.walk.proofs.Subtrees.{held_ends, holders_most}

-- ---- children

falling_sum : (f g : ℕ → ℕ) (b : ℕ → Bool) (w : ℕ) → sum_over f (falling g b w) ≡ sum (λ k. cond (b k) (f (g k)) 0) w
unfolding sum_over sum
falling_sum f g b zero = refl
falling_sum f g b (suc w) = go (b w) (falling_sum f g b w)
  where
    go : (c : Bool) → sum_over f (falling g b w) ≡ sum (λ k. cond (b k) (f (g k)) 0) w
        → sum_over f (cond c (g w ∷ []) [] ++ falling g b w) ≡ sum (λ k. cond (b k) (f (g k)) 0) w + cond c (f (g w)) 0
    go true h = omega arith
    go false h = omega arith

-- the slots turned by an octant are all slots
turned : (f : ℕ → ℕ) (o : ℕ) → o < 8 → sum (λ k. f (bit_xor k o)) 8 ≡ sum f 8
unfolding sum
turned f zero h = omega arith
turned f (suc zero) h = omega arith
turned f (suc (suc zero)) h = omega arith
turned f (suc (suc (suc zero))) h = omega arith
turned f (suc (suc (suc (suc zero)))) h = omega arith
turned f (suc (suc (suc (suc (suc zero))))) h = omega arith
turned f (suc (suc (suc (suc (suc (suc zero)))))) h = omega arith
turned f (suc (suc (suc (suc (suc (suc (suc zero))))))) h = omega arith
turned f (suc (suc (suc (suc (suc (suc (suc (suc o)))))))) h = absurd (omega arith)

-- ---- positions

pub zero_either : (b : Bool) → ◌≡◌ {A = ℕ} (cond b 0 0) 0
zero_either true = refl
zero_either false = refl

count_filter : (x : ℕ) (p : ℕ → Bool) (l : List ℕ) → count x (filter p l) ≡ cond (p x) (count x l) 0
unfolding count
count_filter x p [] = sym (zero_either (p x))
count_filter x p (y ∷ l) = go (p y) refl (same? x y) (count_filter x p l)
  where
    go : (b : Bool) → p y ≡ b → Same x y → count x (filter p l) ≡ cond (p x) (count x l) 0
        → count x (cond b (y ∷ filter p l) (filter p l)) ≡ cond (p x) (same x y + count x l) 0
    go true e (equal z n) h = let q : p x ≡ true = ap p z ∙ e in rw q (let i = rw q at h in omega arith)
    go true e (apart z n) h = let m : same x y + count x l ≡ count x l = omega arith in rw m (omega arith)
    go false e (equal z n) h = let q : p x ≡ false = ap p z ∙ e in rw q (let i = rw q at h in omega arith)
    go false e (apart z n) h = let m : same x y + count x l ≡ count x l = omega arith in rw m h

module _ {RayData Distance : Type 0} (W : WalkRecord RayData Distance) (ray : RayData) where
  -- the positions of slot j of node v, where the ray passes it, that pass their own test
  abbrev pub slot_passed : ℕ → ℕ → List ℕ
  slot_passed v j = cond (W.passes ray v j) (filter (W.admits ray) (upto (W.shape.start v j) (W.shape.count v j))) []

  -- of children: a sum over those that are passed, slot by slot
  pub children_sum : W.octant ray < 8 → (f : ℕ → ℕ) (v : ℕ) → sum_over f (children_passed W ray v)
      ≡ sum (λ j. cond (passed_child W ray v j) (f (child_number W v j)) 0) 8
  children_sum o f v =
      falling_sum f (λ k. child_number W v (bit_xor k (W.octant ray))) (λ k. passed_child W ray v (bit_xor k (W.octant ray))) 8
      ∙ turned (λ j. cond (passed_child W ray v j) (f (child_number W v j)) 0) (W.octant ray) o

  slot_most : (x v j : ℕ) → count x (slot_passed v j) ≤ in_range x (W.shape.start v j) (W.shape.count v j)
  unfolding count
  slot_most x v j = go (W.passes ray v j)
    where
      range : List ℕ
      range = upto (W.shape.start v j) (W.shape.count v j)

      admitted : (b : Bool) → cond b (count x range) 0 ≤ count x range
      admitted true = omega arith
      admitted false = omega arith

      go : (b : Bool) → count x (cond b (filter (W.admits ray) range) []) ≤ in_range x (W.shape.start v j) (W.shape.count v j)
      go true =
          omega (
            arith,
            count_filter x (W.admits ray) range,
            admitted (W.admits ray x),
            count_range x (W.shape.start v j) (W.shape.count v j),
          )
      go false = omega arith

  -- what stands in a slot so
  slot_in : (x v j : ℕ) → W.passes ray v j ≡ true → W.admits ray x ≡ true → W.shape.start v j ≤ x → x < W.shape.start v j + W.shape.count v j
      → In x (slot_passed v j)
  slot_in x v j p a b c =
      let range = upto (W.shape.start v j) (W.shape.count v j) in
      let e : count x (filter (W.admits ray) range) ≡ count x range = count_filter x (W.admits ray) range ∙ rw a in
      rw p (omega (arith, e, count_among x (W.shape.start v j) (W.shape.count v j) b c))

  -- and back
  record InSlot (x v j : ℕ) : Type 0 where
    passes : W.passes ray v j ≡ true
    admits : W.admits ray x ≡ true
    from : W.shape.start v j ≤ x
    before : x < W.shape.start v j + W.shape.count v j

  in_slot : (x v j : ℕ) → In x (slot_passed v j) → InSlot x v j
  in_slot x v j i = go (W.passes ray v j) (W.admits ray x) refl refl i
    where
      range : List ℕ
      range = upto (W.shape.start v j) (W.shape.count v j)

      go : (b c : Bool) → W.passes ray v j ≡ b → W.admits ray x ≡ c → In x (cond b (filter (W.admits ray) range) []) → InSlot x v j
      go false c e f h = in_none x h
      go true false e f h =
          let n : count x (filter (W.admits ray) range) ≡ 0 = count_filter x (W.admits ray) range ∙ rw f in
          absurd (omega arith)
      go true true e f h =
          let n : count x (filter (W.admits ray) range) ≡ count x range = count_filter x (W.admits ray) range ∙ rw f in
          let r = range_stands x (W.shape.start v j) (W.shape.count v j) (omega (arith, count_range x (W.shape.start v j) (W.shape.count v j))) in
          record { passes = e; admits = f; from = r.0; before = r.1 }

-- two counts up to 1 that are positive together
one_count : (a b : ℕ) → a ≤ 1 → b ≤ 1 → (0 < a → 0 < b) → (0 < b → 0 < a) → a ≡ b
one_count a b h k f g = go (some? a) (some? b)
  where
    go : Some a → Some b → a ≡ b
    go (none d) (none e) = omega arith
    go (none d) (some e) = omega (arith, g e)
    go (some d) (none e) = omega (arith, f d)
    go (some d) (some e) = omega arith

module _ {RayData Distance : Type 0} (W : WalkRecord RayData Distance) (Rule : ℕ → Type 0) (laws : SlotLaws W Rule) (sound : Sound W.shape Rule)
    (ray : RayData) (accepted : W.forged ray ≡ false) (v : ℕ) (there : v < W.shape.nodes) where
  abbrev by_slot : List ℕ
  by_slot = flat (slot_passed W ray v) (upto 0 8)

  slot_counted : (x : ℕ) → count x by_slot ≤ positions_held W.shape v x
  slot_counted x =
      omega (
        arith,
        count-flat x (slot_passed W ray v) (upto 0 8),
        sum_over_mono (λ j. count x (slot_passed W ray v j)) (λ j. in_range x (W.shape.start v j) (W.shape.count v j)) (upto 0 8)
            (λ j i. slot_most W ray x v j),
        sum-upto (λ j. in_range x (W.shape.start v j) (W.shape.count v j)) 8,
      )

  held_once : (x : ℕ) → positions_held W.shape v x ≤ 1
  held_once x =
      omega (
        arith,
        sum_term (λ u. positions_held W.shape u x) W.shape.nodes v there,
        holders_most W.shape Rule laws.placed sound x,
      )

  positions_counted : (x : ℕ) → count x (positions_passed W ray v) ≡ count x by_slot
  positions_counted x =
      one_count (count x (positions_passed W ray v)) (count x by_slot)
      (omega (arith, (slots_sound W Rule laws sound).lawful.own_positions_lem ray v x accepted there (sound.rule v there), held_once x))
      (omega (arith, slot_counted x, held_once x)) to from
    where
      to : In x (positions_passed W ray v) → In x by_slot
      to i =
          let q = (positions_iff W Rule laws ray v x there (sound.rule v there)).0 i in
          flat_in x q.slot (slot_passed W ray v) (upto 0 8) (omega (arith, count_among q.slot 0 8 (omega arith) (omega (arith, q.holds.slot))))
          (slot_in W ray x v q.slot q.passes q.admitted q.holds.from q.holds.before)

      from : In x by_slot → In x (positions_passed W ray v)
      from i =
          let q = in_flat x (slot_passed W ray v) (upto 0 8) i in
          let z = range_stands q.0 0 8 (omega (arith, q.1, count_range q.0 0 8)) in
          let s = in_slot W ray x v q.0 q.2 in
          (positions_iff W Rule laws ray v x there (sound.rule v there)).1 (record {
            slot = q.0;
            holds = record { node = there; slot = omega (arith, z.1); from = s.from; before = s.before };
            passes = s.passes;
            admitted = s.admits;
          })

  -- a sum over the passed positions, slot by slot
  pub positions_sum : (f : ℕ → ℕ) → sum_over f (positions_passed W ray v) ≡ sum (λ j. sum_over f (slot_passed W ray v j)) 8
  positions_sum f =
      omega (
        arith,
        sum_over_part W.shape.positions f (positions_passed W ray v) by_slot (λ x. omega (arith, positions_counted x)) past,
        sum_over_part W.shape.positions f by_slot (positions_passed W ray v) (λ x. omega (arith, positions_counted x))
            (λ x h. omega (arith, positions_counted x, past x h)),
        sum-flat f (slot_passed W ray v) (upto 0 8),
        sum-upto (λ j. sum_over f (slot_passed W ray v j)) 8,
      )
    where
      past : (x : ℕ) → W.shape.positions ≤ x → count x by_slot ≡ 0
      past x h = omega (arith, slot_counted x, held_ends W.shape Rule laws.placed sound v x there h)
