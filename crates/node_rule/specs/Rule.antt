-- The node rule (01, "Words, bytes and bounds"): as a test, `nodeRule`, and as a statement, `Rule`; law `rule-iff` says that they agree.
use Rattle.std.specs.Prelude.{Bool, true, ◌&&◌, ◌||◌, ◌≡◌, ℕ, zero, suc, ◌+◌, ◌/◌, ◌%◌, ◌<◌, ◌≤◌, T, eqb, leb, ltb, get_or}
use Rattle.std.specs.Float.{binary32}
use Rattle.std.specs.Float.Ieee.{of_bits}
use Rattle.float.specs.Compare.{in_bounds}
use Rattle.words.specs.Ones.{ones_below}
use Rattle.node.specs.declared.Node.{Node}
use Rattle.node.specs.Node.{inner_bit, code_count}

-- ---- as a test
-- a coordinate of p, given as bits, is within ±2 ^ 40
unfoldable pub point_ok : ℕ → Bool
point_ok bits = in_bounds (of_bits binary32 bits)

-- an exponent byte is 53 to 161
unfoldable pub exponent_ok : ℕ → Bool
exponent_ok e = leb 53 e && leb e 161

unfoldable pub head_ok : Node → Bool
unfolding point_ok exponent_ok
head_ok v = point_ok v.px && point_ok v.py && point_ok v.pz && exponent_ok v.ex && exponent_ok v.ey && exponent_ok v.ez

-- the children's numbers: past the node's own number i, and below m, the number of nodes
unfoldable pub children_ok : Node → ℕ → ℕ → Bool
children_ok v m i = eqb v.imask 0 || (ltb i v.child_base_idx && leb (v.child_base_idx + ones_below 8 v.imask) m)

-- the three high bits of a leaf code are 001, 011 or 111
unfoldable pub leaf_top : ℕ → Bool
leaf_top top = eqb top 1 || eqb top 3 || eqb top 7

-- a slot with this meta byte and this bit of imask: empty, a child, or a leaf whose positions, counted from base, lie below n
unfoldable pub slot_ok : ℕ → ℕ → ℕ → ℕ → ℕ → Bool
unfolding leaf_top
slot_ok meta bit slot base n =
    (eqb meta 0 && eqb bit 0) || (eqb meta (56 + slot) && eqb bit 1)
    || (leaf_top (meta / 32) && eqb bit 0 && leb (meta % 32 + code_count meta) 24 && leb (base + meta % 32 + code_count meta) n)

-- the first k slots
unfoldable pub slots_ok : ℕ → Node → ℕ → Bool
unfolding slot_ok
slots_ok zero v n = true
slots_ok (suc k) v n = slots_ok k v n && slot_ok (get_or v.child_meta k 0) (inner_bit v.imask k) k v.primitive_base_idx n

-- the rule for node i of m, with n positions
unfoldable pub node_rule : Node → ℕ → ℕ → ℕ → Bool
unfolding head_ok children_ok slots_ok
node_rule v m n i = head_ok v && children_ok v m i && slots_ok 8 v n

-- ---- as a statement
abbrev pub Exponent : ℕ → Type 0
Exponent e = (53 ≤ e) × (e ≤ 161)

pub record Head (v : Node) : Type 0 where
  pub px : T (in_bounds (of_bits binary32 v.px))
  pub py : T (in_bounds (of_bits binary32 v.py))
  pub pz : T (in_bounds (of_bits binary32 v.pz))
  pub ex : Exponent v.ex
  pub ey : Exponent v.ey
  pub ez : Exponent v.ez

pub record Children (v : Node) (m i : ℕ) : Type 0 where
  pub later : 0 < v.imask → i < v.child_base_idx
  pub exist : 0 < v.imask → v.child_base_idx + ones_below 8 v.imask ≤ m

-- the three high bits of a leaf code
pub data LeafTop (top : ℕ) : Type 0 where
  one : top ≡ 1 → LeafTop top
  two : top ≡ 3 → LeafTop top
  three : top ≡ 7 → LeafTop top

pub data SlotRule (meta bit slot base n : ℕ) : Type 0 where
  empty : meta ≡ 0 → bit ≡ 0 → SlotRule meta bit slot base n
  child : meta ≡ 56 + slot → bit ≡ 1 → SlotRule meta bit slot base n
  leaf : LeafTop (meta / 32) → bit ≡ 0 → meta % 32 + code_count meta ≤ 24 → base + meta % 32 + code_count meta ≤ n → SlotRule meta bit slot base n

-- what the rule says of slot k
abbrev pub SlotOf : Node → ℕ → ℕ → Type 0
SlotOf v n k = SlotRule (get_or v.child_meta k 0) (inner_bit v.imask k) k v.primitive_base_idx n

pub record Rule (v : Node) (m n i : ℕ) : Type 0 where
  pub head : Head v
  pub children : Children v m i
  pub slots : (k : ℕ) → k < 8 → SlotOf v n k
