-- What a slot test finds of a node: its own children and positions, each once; and the nodes reached and positions passed in words of slots.
use mathlib.Core.Bool.{true, false}
use mathlib.Core.Logic.{◌↔◌}
use mathlib.Core.Path.{◌≡◌, sym, ap, ◌∙◌, subst}
use Prim.Native.Nat.{ℕ, ◌+◌, ◌-◌, ◌≤◌, ◌<◌}
use native.Mathlib.Omega.{arith}
use lib.Bits.{bit_xor, xor_lt}
use Rattle.lists.specs.Counts.{count}
use Rattle.lists.proofs.Counts.{Some, none, some, some?}
use Rattle.lists.proofs.Sums.{sum_term}
use Rattle.lists.proofs.Tells.{Tells, told, tells_true, eqb_tells, true_tells, and_tells}
use Rattle.words.proofs.Ranks.{bit_is, rank_lt, rank_inj}
use Rattle.soundness.specs.Range.{in_range}
use Rattle.soundness.specs.Shape.{positions_held}
use Rattle.soundness.specs.Sound.{Sound}
use Rattle.soundness.proofs.Range.{in_range_lem, range_stands}
use Rattle.node.specs.Node.{inner_bit, child_index}
use Rattle.node_meta.proofs.Decode.{slot_back}
use Rattle.walk.specs.Listing.{In, ReachedBy, first, child, ReachedIn, PassedIn}
use Rattle.walk.specs.Lawful.{Lawful, SoundTests, Narrow}
use Rattle.walk.specs.Slots.{WalkRecord, child_number, passed_child, in_passed_slot, passed_position, positions_passed, children_passed, tests_of}
use Rattle.walk.specs.Slots.{PassesChild, PassesPosition, ReachedBySlots, PassedBySlots, SlotLaws}
use Rattle.walk.proofs.Falling.{falling-length, in_falling, falling_in, falling_once, some_tells}
use Rattle.walk.proofs.Listing.{reached_node}

-- what is reached by one way to pass children is reached by another that passes as many
pub reached_map : {A B : ℕ → ℕ → Type 0} (m : ℕ) → ((v c : ℕ) → ReachedBy m A v → A v c → B v c) → (v : ℕ) → ReachedBy m A v → ReachedBy m B v
reached_map m f v (first e h) = first e h
reached_map m f v (child {v = u} r i) = child (reached_map m f u r) (f u v r i)

-- a list that repeats nothing and has only numbers that are counted
pub counted : (n k : ℕ) → n ≤ 1 → (0 < n → 0 < k) → n ≤ k
counted n k h f = go (some? n)
  where
    go : Some n → n ≤ k
    go (none e) = omega arith
    go (some e) = omega (arith, f e)

pub slots_narrow : {RayData Distance : Type 0} (W : WalkRecord RayData Distance) (m : ℕ) → Narrow m (tests_of W)
slots_narrow W m ray n v f h r = falling-length (λ b. W.position_base v + b) (λ b. passed_position W ray v (W.position_base v + b)) 24

-- ---- what the tests of a slot tell

module _ {RayData Distance : Type 0} (W : WalkRecord RayData Distance) where
  pub child_tells : (ray : RayData) (v j : ℕ) → Tells ((inner_bit (W.imask v) j ≡ 1) × (W.passes ray v j ≡ true)) (passed_child W ray v j)
  child_tells ray v j = and_tells (eqb_tells (inner_bit (W.imask v) j) 1) (true_tells (W.passes ray v j))

  -- a slot of node v whose leaf range holds x, and that the ray passes
  abbrev pub PassedSlot : RayData → ℕ → ℕ → Type 0
  PassedSlot ray v x = (j : ℕ) × (j < 8) × ((in_range x (W.shape.start v j) (W.shape.count v j) ≡ 1) × (W.passes ray v j ≡ true))

  pub slot_tells : (ray : RayData) (v x : ℕ) → Tells (PassedSlot ray v x) (in_passed_slot W ray v x)
  slot_tells ray v x =
      some_tells (λ j. (in_range x (W.shape.start v j) (W.shape.count v j) ≡ 1) × (W.passes ray v j ≡ true)) _
      (λ j. and_tells (eqb_tells (in_range x (W.shape.start v j) (W.shape.count v j)) 1) (true_tells (W.passes ray v j))) 8

  pub position_tells : (ray : RayData) (v x : ℕ) → Tells (PassedSlot ray v x × (W.admits ray x ≡ true)) (passed_position W ray v x)
  position_tells ray v x = and_tells (slot_tells ray v x) (true_tells (W.admits ray x))

  -- a position found stands in the leaf range of a slot that the ray passes, and passes itself
  pub stands_passed : (ray : RayData) (v x : ℕ) → v < W.shape.nodes → In x (positions_passed W ray v) → PassesPosition W ray v x
  stands_passed ray v x h i =
      let q = in_falling x (λ b. W.position_base v + b) (λ b. passed_position W ray v (W.position_base v + b)) 24 i in
      let t = told (position_tells ray v (W.position_base v + q.0)) q.2 in
      let r = subst (λ (y : ℕ). in_range y (W.shape.start v t.0.0) (W.shape.count v t.0.0) ≡ 1) (sym q.3) t.0.2.0 in
      let z = range_stands x (W.shape.start v t.0.0) (W.shape.count v t.0.0) (omega arith) in
      record {
        slot = t.0.0;
        holds = record { node = h; slot = t.0.1; from = z.0; before = z.1 };
        passes = t.0.2.1;
        admitted = subst (λ (y : ℕ). W.admits ray y ≡ true) (sym q.3) t.1;
      }

module _ {RayData Distance : Type 0} (W : WalkRecord RayData Distance) (Rule : ℕ → Type 0) (laws : SlotLaws W Rule) where
  -- ---- children

  -- a child is found exactly if it stands at a slot of imask that the ray passes
  pub children_iff : (ray : RayData) (v c : ℕ) → W.forged ray ≡ false
      → In c (children_passed W ray v) ↔ PassesChild W ray v c
  children_iff ray v c f = (to, from)
    where
      to : In c (children_passed W ray v) → PassesChild W ray v c
      to i =
          let q = in_falling c (λ k. child_number W v (bit_xor k (W.octant ray))) (λ k. passed_child W ray v (bit_xor k (W.octant ray))) 8 i in
          let t = told (child_tells W ray v (bit_xor q.0 (W.octant ray))) q.2 in
          record {
            slot = bit_xor q.0 (W.octant ray);
            of_eight_lem = xor_lt 3 q.0 (W.octant ray) q.1 (laws.octant_lt ray f);
            inner = t.0;
            passes = t.1;
            is_child = q.3;
          }

      from : PassesChild W ray v c → In c (children_passed W ray v)
      from q =
          let j = q.slot in
          let o = laws.octant_lt ray f in
          let e : bit_xor (bit_xor j (W.octant ray)) (W.octant ray) ≡ j = slot_back j (W.octant ray) q.of_eight_lem o in
          let t : passed_child W ray v (bit_xor (bit_xor j (W.octant ray)) (W.octant ray)) ≡ true =
          rw e (tells_true (child_tells W ray v j) (q.inner, q.passes)) in
          subst (λ (x : ℕ). In x (children_passed W ray v)) (ap (child_number W v) e ∙ sym q.is_child)
          (falling_in (λ k. child_number W v (bit_xor k (W.octant ray))) (λ k. passed_child W ray v (bit_xor k (W.octant ray))) 8
          (bit_xor j (W.octant ray)) (xor_lt 3 j (W.octant ray) q.of_eight_lem o) t)

  slots_apart : (ray : RayData) (v i j : ℕ) → W.forged ray ≡ false → i < 8 → j < 8 → passed_child W ray v (bit_xor i (W.octant ray)) ≡ true
      → passed_child W ray v (bit_xor j (W.octant ray)) ≡ true
      → child_number W v (bit_xor i (W.octant ray)) ≡ child_number W v (bit_xor j (W.octant ray)) → i ≡ j
  unfolding child_index
  slots_apart ray v i j f h k a b e =
      let o = laws.octant_lt ray f in
      let x = bit_xor i (W.octant ray) in
      let y = bit_xor j (W.octant ray) in
      let p = bit_is x (W.imask v) ∙ (told (child_tells W ray v x) a).0 in
      let q = bit_is y (W.imask v) ∙ (told (child_tells W ray v y) b).0 in
      let z : x ≡ y = rank_inj x y (W.imask v) p q (omega arith) in
      sym (slot_back i (W.octant ray) h o) ∙ ap (λ (u : ℕ). bit_xor u (W.octant ray)) z ∙ slot_back j (W.octant ray) k o

  own_children : (ray : RayData) (v c : ℕ) → W.forged ray ≡ false → v < W.shape.nodes
      → count c (children_passed W ray v) ≤ in_range c (W.shape.base v) (W.shape.children v)
  unfolding child_index
  own_children ray v c f h =
      counted (count c (children_passed W ray v)) (in_range c (W.shape.base v) (W.shape.children v))
      (falling_once c (λ k. child_number W v (bit_xor k (W.octant ray))) (λ k. passed_child W ray v (bit_xor k (W.octant ray))) 8
      (λ i j k l a b e. slots_apart ray v i j f k l a b e))
      (λ i.
      let q = (children_iff ray v c f).0 i in
      let r = rank_lt q.slot 8 (W.imask v) q.of_eight_lem (bit_is q.slot (W.imask v) ∙ q.inner) in
      omega (arith, in_range_lem c (W.shape.base v) (W.shape.children v) (omega (arith, q.is_child)) (omega (arith, q.is_child, laws.ones v h))))

  -- ---- positions

  -- a position is found exactly if it stands in the leaf range of a slot that the ray passes, and passes itself
  pub positions_iff : (ray : RayData) (v x : ℕ) → v < W.shape.nodes → Rule v
      → In x (positions_passed W ray v) ↔ PassesPosition W ray v x
  positions_iff ray v x h rule = (stands_passed W ray v x h, from)
    where
      from : PassesPosition W ray v x → In x (positions_passed W ray v)
      from q =
          let j = q.slot in
          let g = q.holds in
          let a = g.from in
          let b = g.before in
          let u = laws.window v j h rule g.slot (omega arith) in
          let e : W.position_base v + (x - W.position_base v) ≡ x = omega (arith, u.0) in
          let i = in_range_lem x (W.shape.start v j) (W.shape.count v j) a b in
          let t : passed_position W ray v (W.position_base v + (x - W.position_base v)) ≡ true =
          rw e (tells_true (position_tells W ray v x) ((j, g.slot, (i, q.passes)), q.admitted)) in
          subst (λ (y : ℕ). In y (positions_passed W ray v)) e
          (falling_in (λ b. W.position_base v + b) (λ b. passed_position W ray v (W.position_base v + b)) 24 (x - W.position_base v)
          (omega (arith, u.0, u.1)) t)

  own_positions_lem : (ray : RayData) (v x : ℕ) → v < W.shape.nodes → Rule v → count x (positions_passed W ray v) ≤ positions_held W.shape v x
  own_positions_lem ray v x h rule =
      counted (count x (positions_passed W ray v)) (positions_held W.shape v x)
      (falling_once x (λ b. W.position_base v + b) (λ b. passed_position W ray v (W.position_base v + b)) 24 (λ i j k l a b e. omega arith))
      (λ i.
      let q = (positions_iff ray v x h rule).0 i in
      omega (
        arith,
        sum_term (λ j. in_range x (W.shape.start v j) (W.shape.count v j)) 8 q.slot q.holds.slot,
        in_range_lem x (W.shape.start v q.slot) (W.shape.count v q.slot) q.holds.from q.holds.before,
      ))

  -- ---- the tests are those of the shape

  slots_lawful : Lawful W.shape Rule (tests_of W)
  slots_lawful =
      record {
        passes_rule = laws.passes_rule;
        placed = laws.placed;
        own_positions_lem = λ ray v x f h r. own_positions_lem ray v x h r;
        own_children = λ ray v c f h r. own_children ray v c f h;
        told_accepted = laws.told_accepted;
      }

  module _ (sound : Sound W.shape Rule) where
    pub slots_sound : SoundTests W.shape Rule (tests_of W)
    slots_sound = record { lawful = slots_lawful; sound = sound }

    -- ---- reached and passed

    module _ (ray : RayData) (accepted : W.forged ray ≡ false) where
      pub reached_iff : (v : ℕ) → ReachedIn W.shape.nodes (tests_of W) ray v ↔ ReachedBySlots W ray v
      reached_iff v = (
        reached_map W.shape.nodes (λ u c r i. (children_iff ray u c accepted).0 i) v,
        reached_map W.shape.nodes (λ u c r q. (children_iff ray u c accepted).1 q) v,
      )

      pub passed_iff : (p : ℕ) → PassedIn W.shape.nodes (tests_of W) ray p ↔ PassedBySlots W ray p
      passed_iff p = (
        λ q. let h = reached_node slots_sound ray accepted q.0 q.1 in
            (q.0, (reached_iff q.0).0 q.1, (positions_iff ray q.0 p h (sound.rule q.0 h)).0 q.2),
        λ q. let h = q.2.holds.node in (q.0, (reached_iff q.0).1 q.1, (positions_iff ray q.0 p h (sound.rule q.0 h)).1 q.2),
      )

-- ---- a ray that passes no more slots and admits no more positions than another

module _ {RayData Distance : Type 0} (W : WalkRecord RayData Distance) (a b : RayData)
    (fewer : (v j : ℕ) → W.passes a v j ≡ true → W.passes b v j ≡ true) where
  pub fewer_reached : (v : ℕ) → ReachedBySlots W a v → ReachedBySlots W b v
  fewer_reached =
      reached_map W.shape.nodes
      (λ v c r q. record {
        slot = q.slot;
        of_eight_lem = q.of_eight_lem;
        inner = q.inner;
        passes = fewer v q.slot q.passes;
        is_child = q.is_child;
      })

  pub fewer_passed : ((p : ℕ) → W.admits a p ≡ true → W.admits b p ≡ true) → (p : ℕ) → PassedBySlots W a p → PassedBySlots W b p
  fewer_passed admits p q = (
    q.0,
    fewer_reached q.0 q.1,
    record {
      slot = q.2.slot;
      holds = q.2.holds;
      passes = fewer q.0 q.2.slot q.2.passes;
      admitted = admits p q.2.admitted;
    },
  )
