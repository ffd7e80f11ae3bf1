-- A record's nodes slot by slot, and what a slot test makes of them (01, "Walking"; "Words, bytes and bounds").
use Rattle.std.specs.Prelude.{Bool, true, false, ◌&&◌, ◌||◌, cond, List, [], ◌∷◌, ◌++◌, ◌≡◌, ℕ, zero, suc, ◌+◌, ◌<◌, ◌≤◌, eqb}
use Rattle.std.specs.Int.Bits.{bit_xor}
use Rattle.words.specs.Ones.{ones_below}
use Rattle.soundness.specs.Range.{in_range}
use Rattle.soundness.specs.Shape.{Shape, Holds, RangesPlaced}
use Rattle.node.specs.Node.{inner_bit, child_index}
use Rattle.walk.specs.Tests.{Tests}
use Rattle.walk.specs.Listing.{ReachedBy, PassedBy}

-- f of each number below w that passes the test, the highest number first
abbrev pub falling : (ℕ → ℕ) → (ℕ → Bool) → ℕ → List ℕ
falling f b zero = []
falling f b (suc w) = cond (b w) (f w ∷ []) [] ++ falling f b w

-- some number below w passes the test
abbrev pub some_below : (ℕ → Bool) → ℕ → Bool
some_below b zero = false
some_below b (suc w) = b w || some_below b w

-- A record and a ray: `RayData` and `Distance` as in `Tests`.
pub record WalkRecord (RayData Distance : Type 0) : Type 0 where
  pub shape : Shape
  -- bit j is 1 where slot j of the node holds a child
  pub imask : ℕ → ℕ
  -- from where on a node's positions are counted
  pub position_base : ℕ → ℕ
  pub rule : ℕ → ℕ → Bool
  pub octant : RayData → ℕ
  -- `passes ray v j`: the ray passes slot j of node v
  pub passes : RayData → ℕ → ℕ → Bool
  -- a position's own test, which passes over those that fail; all pass where there is none
  pub admits : RayData → ℕ → Bool
  -- a position that is not there: where it is not passed over its report is refused
  pub absent : RayData → ℕ → Bool
  pub told : Distance → RayData → RayData
  pub forged : RayData → Bool

module _ {RayData Distance : Type 0} (W : WalkRecord RayData Distance) where
  -- the number of the child in slot j of node v
  abbrev pub child_number : ℕ → ℕ → ℕ
  child_number v j = child_index (W.shape.base v) (W.imask v) j

  -- slot j of node v holds a child that the ray passes
  abbrev pub passed_child : RayData → ℕ → ℕ → Bool
  passed_child ray v j = eqb (inner_bit (W.imask v) j) 1 && W.passes ray v j

  -- position x stands in the leaf range of a slot of node v that the ray passes
  abbrev pub in_passed_slot : RayData → ℕ → ℕ → Bool
  in_passed_slot ray v x = some_below (λ j. eqb (in_range x (W.shape.start v j) (W.shape.count v j)) 1 && W.passes ray v j) 8

  -- and it passes its own test
  abbrev pub passed_position : RayData → ℕ → ℕ → Bool
  passed_position ray v x = in_passed_slot ray v x && W.admits ray x

  -- the passed positions of a node are 24 at most, the highest first; the octant plays no part
  abbrev pub positions_passed : RayData → ℕ → List ℕ
  positions_passed ray v = falling (λ b. W.position_base v + b) (λ b. passed_position ray v (W.position_base v + b)) 24

  -- the passed children by falling slot XOR octant
  abbrev pub children_passed : RayData → ℕ → List ℕ
  children_passed ray v = falling (λ k. child_number v (bit_xor k (W.octant ray))) (λ k. passed_child ray v (bit_xor k (W.octant ray))) 8

  abbrev pub tests_of : Tests RayData Distance
  tests_of = record { rule = W.rule; positions = positions_passed; children = children_passed; told = W.told; forged = W.forged; absent = W.absent }

  -- ---- in the words of the demand

  -- node c is the child of node v in a slot that the ray passes
  pub record PassesChild (ray : RayData) (v c : ℕ) : Type 0 where
    pub slot : ℕ
    pub of_eight_lem : slot < 8
    pub inner : inner_bit (W.imask v) slot ≡ 1
    pub passes : W.passes ray v slot ≡ true
    pub is_child : c ≡ child_number v slot

  -- position p stands in a slot of node v that the ray passes, and the ray admits it
  pub record PassesPosition (ray : RayData) (v p : ℕ) : Type 0 where
    pub slot : ℕ
    pub holds : Holds W.shape v slot p
    pub passes : W.passes ray v slot ≡ true
    pub admitted : W.admits ray p ≡ true

  -- the nodes that the ray reaches by such slots, and the positions that it passes in them
  abbrev pub ReachedBySlots : RayData → ℕ → Type 0
  ReachedBySlots ray = ReachedBy W.shape.nodes (PassesChild ray)

  abbrev pub PassedBySlots : RayData → ℕ → Type 0
  PassedBySlots ray = PassedBy W.shape.nodes (PassesChild ray) (PassesPosition ray)

  -- ---- what makes the tests those of a record of this shape

  pub record SlotLaws (Rule : ℕ → Type 0) : Type 0 where
    pub passes_rule : (v : ℕ) → v < W.shape.nodes → Rule v → W.rule W.shape.positions v ≡ true
    pub placed : (v : ℕ) → v < W.shape.nodes → Rule v → RangesPlaced W.shape v
    -- a child range has a node for each one of imask
    pub ones : (v : ℕ) → v < W.shape.nodes → W.shape.children v ≡ ones_below 8 (W.imask v)
    -- leaf ranges lie among the 24 positions from the node's base on
    pub window : (v j : ℕ) → v < W.shape.nodes → Rule v → j < 8 → 0 < W.shape.count v j
        → (W.position_base v ≤ W.shape.start v j) × (W.shape.start v j + W.shape.count v j ≤ W.position_base v + 24)
    pub octant_lt : (ray : RayData) → W.forged ray ≡ false → W.octant ray < 8
    pub told_accepted : (x : Distance) (ray : RayData) → W.forged ray ≡ false → W.forged (W.told x ray) ≡ false
