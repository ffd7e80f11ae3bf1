-- The test of eight bytes at once says what the node rule says of the eight slots.
use mathlib.Core.Path.{◌≡◌, sym, subst}
use mathlib.Core.Bool.{Bool}
use Prim.Native.Nat.{ℕ, ◌+◌, ◌-◌, ◌/◌, ◌%◌, ◌<◌, min}
use native.Mathlib.Omega.{arith}
use lib.ListN.{get_or}
use Rattle.words.specs.Fields.{field}
use Rattle.words.specs.Ones.{ones_below}
use Rattle.node.specs.declared.Node.{Node}
use Rattle.node.specs.Node.{inner_bit, code_count, MetaWord}
use Rattle.node_rule.specs.Rule.{LeafTop, one, two, three, SlotRule, empty, child, leaf, SlotOf, slots_ok}
use Rattle.node_rule.specs.Tells.{Tells}
use Rattle.node_rule.specs.Words as W
use Rattle.node_rule.proofs.Answers.{swap, agree}
use Rattle.node_rule.proofs.RuleLaws.{slots_tells}

-- a leaf code holds a position
pub some_ones : (meta : ℕ) → LeafTop (meta / 32) → 0 < code_count meta
unfolding ones_below
some_ones meta (one e) = rw e (omega arith)
some_ones meta (two e) = rw e (omega arith)
some_ones meta (three e) = rw e (omega arith)

module _ (meta bit slot base n room : ℕ) (r : W.RoomOf base n room) where
  slot_to : W.MetaRule meta bit slot room → SlotRule meta bit slot base n
  slot_to (W.outer e (W.empty z)) = empty z e
  slot_to (W.outer e (W.leaf t l)) =
      let p = some_ones meta t in
      let m = r.most in
      let i = r.inside (meta % 32 + code_count meta) (omega arith) l in
      leaf t e (omega arith) (omega arith)
  slot_to (W.inner e f) = child f e

  slot_from_lem : SlotRule meta bit slot base n → W.MetaRule meta bit slot room
  slot_from_lem (empty z e) = W.outer e (W.empty z)
  slot_from_lem (child f e) = W.inner e f
  slot_from_lem (leaf t e l m) =
      let p = some_ones meta t in
      W.outer e (W.leaf t (r.all (meta % 32 + code_count meta) (omega arith) l (omega arith)))

-- the word's bytes are the node's metas, and base is its own
pub slots_word : (v : Node) (w imask base n room : ℕ) (t : Bool) → MetaWord v w → imask ≡ v.imask → base ≡ v.primitive_base_idx
    → W.RoomOf base n room
    → Tells ((k : ℕ) → k < 8 → W.MetaRule (field 8 k w) (inner_bit imask k) k room) t → t ≡ slots_ok 8 v n
slots_word v w imask base n room t m e f r h =
    agree ((k : ℕ) → k < 8 → SlotOf v n k) t (slots_ok 8 v n)
    (swap ((k : ℕ) → k < 8 → W.MetaRule (field 8 k w) (inner_bit imask k) k room) ((k : ℕ) → k < 8 → SlotOf v n k) t
    (λ g k l. slot_to (get_or v.child_meta k 0) (inner_bit v.imask k) k v.primitive_base_idx n room q
    (subst (Same k) (m.bytes k l) (g' k (g k l))))
    (λ g k l. back k (subst (Same k) (sym (m.bytes k l))
    (slot_from_lem (get_or v.child_meta k 0) (inner_bit v.imask k) k v.primitive_base_idx n room q (g k l)))) h)
    (slots_tells 8 v n)
  where
    q : W.RoomOf v.primitive_base_idx n room
    q = subst (λ (x : ℕ). W.RoomOf x n room) f r

    Same : ℕ → ℕ → Type 0
    Same k x = W.MetaRule x (inner_bit v.imask k) k room

    g' : (k : ℕ) → W.MetaRule (field 8 k w) (inner_bit imask k) k room → W.MetaRule (field 8 k w) (inner_bit v.imask k) k room
    g' k x = subst (λ (y : ℕ). W.MetaRule (field 8 k w) (inner_bit y k) k room) e x

    back : (k : ℕ) → W.MetaRule (field 8 k w) (inner_bit v.imask k) k room → W.MetaRule (field 8 k w) (inner_bit imask k) k room
    back k x = subst (λ (y : ℕ). W.MetaRule (field 8 k w) (inner_bit y k) k room) (sym e) x

-- ---- how many positions a node may use
pub room_is : (base n : ℕ) → W.RoomOf base n (min (n - base) 24)
room_is base n = record { most = omega arith; inside = λ y p l. omega arith; all = λ y p l m. omega arith }
