-- What the code reads of a node is what the record's shape says of it; the marks of a node, part by part.
use mathlib.Core.Bool.{Bool, true, false}
use mathlib.Core.List.{List}
use mathlib.Core.Path.{◌≡◌, refl, sym, ◌∙◌}
use Prim.Native.Nat.{ℕ, zero, suc, ◌+◌, ◌%◌, ◌<◌, ◌≤◌}
use native.Mathlib.Numerals.{add-one}
use native.Mathlib.Omega.{arith}
use lib.Dec.{eqb}
use lib.ListN.{length, get_or}
use Rattle.lists.proofs.Tells.{told, clash, eqb_tells}
use Rattle.words.specs.Ones.{ones_below}
use Rattle.soundness.specs.Shape.{RangesPlaced}
use Rattle.node.specs.declared.Node.{Node}
use Rattle.node.specs.Node.{node_at, inner_bit, code_count}
use Rattle.record_shape.specs.Record.{node_count, nodes_at, meta_at, slot_positions, shape_in, shape_at}
use Rattle.record_shape.proofs.Placed.{placed}
use Rattle.validate.specs.Marks.{MarkRoom, Ruled, Filled, Fill, MarksSlot, PositionsMarked, MarksPositions, MarksNode}
use Rattle.validate.proofs.Filling.{was_filled, was_blocked}
use Rattle.validate.proofs.Marking.{positions_none, positions_next, positions_blocked, node_marked, children_blocked, position_word}

-- ---- how many positions a slot has

pub inner_none : (bit meta : ℕ) (b : Bool) → b ≡ eqb bit 0 → b ≡ false → 0 ≡ slot_positions bit meta
unfolding slot_positions
inner_none zero meta b e h = clash (sym h ∙ e)
inner_none (suc bit) meta b e h = refl

pub leaf_code : (bit meta count : ℕ) (b : Bool) → b ≡ eqb bit 0 → b ≡ true → count ≡ code_count meta → count ≡ slot_positions bit meta
unfolding slot_positions
leaf_code zero meta count b e h c = c
leaf_code (suc bit) meta count true e h c = absurd (let z = told (eqb_tells (suc bit) 0) (sym e) in omega arith)
leaf_code (suc bit) meta count false e h c = clash h

-- ---- a slot

-- slot s of node i has k positions, and their words start at a
pub record SlotRead (bytes : List ℕ) (n i s a k : ℕ) : Type 0 where
  pub place : a ≡ (shape_at bytes n).nodes + (shape_at bytes n).start i s
  pub count : k ≡ (shape_at bytes n).count i s

pub slot_read : (bytes : List ℕ) (n i m s : ℕ) (v : Node) (imask base meta start k : ℕ) → m ≡ node_count bytes → v ≡ node_at bytes i
    → imask ≡ v.imask → base ≡ v.primitive_base_idx → meta ≡ meta_at v s → start ≡ base + meta % 32
    → k ≡ slot_positions (inner_bit imask s) meta → SlotRead bytes n i s (m + start) k
unfolding shape_in
slot_read bytes n i m s v imask base meta start k em ev ei eb et es ek = record { place = rw (em, es, eb, et, ev); count = rw (ek, ei, et, ev) }

pub slot_marked : (bytes : List ℕ) (n i s a k : ℕ) (o q : List ℕ) (f : Bool) → SlotRead bytes n i s a k → Fill f o a k 1 q
    → MarksSlot f (shape_at bytes n) i s o q
slot_marked bytes n i s a k o q f t h = rw (← t.place, ← t.count) h

-- ---- a node's leaf ranges, slot by slot

-- the first s slots of node i are marked
pub record Marking (bytes : List ℕ) (n i s : ℕ) (o q : List ℕ) : Type 0 where
  pub long : length q ≡ length o
  pub done : PositionsMarked (shape_at bytes n) i s o q

pub marking_none : (bytes : List ℕ) (n i : ℕ) (o : List ℕ) → Marking bytes n i 0 o o
marking_none bytes n i o = record { long = refl; done = positions_none (shape_at bytes n) i o }

pub marking_done : (bytes : List ℕ) (n i s : ℕ) (o q : List ℕ) → s ≤ 8 → 8 ≤ s → Marking bytes n i s o q
    → MarksPositions true (shape_at bytes n) i o q
unfolding MarksPositions
marking_done bytes n i s o q u l d = let e : s ≡ 8 = omega arith in rw (← e) d.done

module _ (bytes : List ℕ) (n i m long : ℕ) (ready : Ruled bytes n i m long) where
  node-placed : RangesPlaced (shape_at bytes n) i
  node-placed = placed (nodes_at bytes) n i ready.rule

  pub slot_room : (s a k : ℕ) → s < 8 → SlotRead bytes n i s a k → MarkRoom a k long
  unfolding shape_in
  slot_room s a k l t = record {
    inside = λ h.
        let e = t.count in
        let f = t.place in
        let g = ready.sized.words in
        let u = ready.sized.nodes in
        let z = node-placed.inside s l (omega arith) in
        omega arith;
  }

  module _ (s : ℕ) (o q r : List ℕ) (f : Bool) (l : s < 8) (d : Marking bytes n i s o q) (h : MarksSlot f (shape_at bytes n) i s q r) where
    pub marking_next : length r ≡ length q → f ≡ true → Marking bytes n i (s + 1) o r
    marking_next e z = record {
      long = e ∙ d.long;
      done = rw (add-one s) (positions_next (shape_at bytes n) i s o q r d.done (was_filled f q _ _ 1 r h z));
    }

    pub marking_blocked : (z : List ℕ) → f ≡ false → MarksPositions false (shape_at bytes n) i o z
    unfolding MarksPositions
    marking_blocked z e = positions_blocked (shape_at bytes n) i s o q node-placed l d.done (was_blocked f q _ _ 1 r h e)

  -- ---- the whole node

  module _ (v : Node) (base imask k : ℕ) (ev : v ≡ node_at bytes i) (fb : base ≡ v.child_base_idx) (fi : imask ≡ v.imask)
      (fk : k ≡ ones_below 8 imask) where
    eb : base ≡ (node_at bytes i).child_base_idx
    eb = rw (fb, ev)

    ek : k ≡ ones_below 8 (node_at bytes i).imask
    ek = rw (fk, fi, ev)

    pub children_room : MarkRoom base k long
    unfolding shape_in
    children_room = record {
      inside = λ h.
          let b = eb in
          let c = ek in
          let g = ready.sized.words in
          let u = ready.sized.nodes in
          let z = node-placed.exist (omega arith) in
          omega arith;
    }

    module _ (o p q : List ℕ) (f : Bool) (h : Fill f o base k (get_or o i 0 + 1) p) where
      pub children_taken : f ≡ false → MarksNode false (shape_at bytes n) i o q
      unfolding MarksNode shape_in
      children_taken e = children_blocked (shape_at bytes n) i o node-placed (rw (← eb, ← ek) (was_blocked f o base k (get_or o i 0 + 1) p h e))

      pub node_ends : (t : Bool) → f ≡ true → MarksPositions t (shape_at bytes n) i p q → MarksNode t (shape_at bytes n) i o q
      unfolding MarksNode MarksPositions shape_in
      node_ends t e y = go t y (rw (← eb, ← ek, ← add-one (get_or o i 0)) (was_filled f o base k (get_or o i 0 + 1) p h e))
        where
          go : (t : Bool) → MarksPositions t (shape_at bytes n) i p q
              → Filled o (node_at bytes i).child_base_idx (ones_below 8 (node_at bytes i).imask) (suc (get_or o i 0)) p
              → MarksNode t (shape_at bytes n) i o q
          go true y w = node_marked (shape_at bytes n) i o p q (let l = ready.below in let u = ready.sized.nodes in omega arith) w y
          go false y w = position_word (shape_at bytes n) i (suc (get_or o i 0)) o p (omega arith) w y
