-- What a slot's word says, by the tests that the code makes, and one slot worked through.
use mathlib.Core.Path.{◌≡◌, refl, sym, ap, ap₂, subst, ◌∙◌}
use mathlib.Core.Bool.{Bool, true, false, not}
use mathlib.Core.List.{List}
use Prim.Native.Nat.{ℕ, zero, suc, ◌+◌, ◌-◌, ◌*◌, ◌/◌, ◌^◌, ◌≤◌, ◌<◌}
use native.Mathlib.Nat.{pow-succ'}
use lib.Pow.{pow_mono}
use lib.Dec.{T}
use lib.Ieee.{binary32, to_bits, is_nan}
use Rattle.aabb.specs.Aabb.{accepted_box}
use Rattle.ray.proofs.Bounds.{no_nans}
use Rattle.aabb.proofs.Bounds.{accepted}
use Rattle.aabb.specs.declared.Aabb.{Aabb}
use native.Mathlib.Omega.{arith}
use lib.ListN.{get_or}
use borrow.Author.Tests.{eq-eqb, ne_eqb}
use Rattle.lists.specs.Splice.{splice}
use Rattle.bvh2.specs.Tree.{Tree, leaves, positions}
use Rattle.bvh2.specs.Words.{box_at, tree_at}
use Rattle.lists.specs.At.{words_at}
use Rattle.record.specs.Record.{leaf_meta, grid_box}
use Rattle.node.specs.declared.Slot.{Slot}
use Rattle.node.specs.declared.Node.{Node}
use Rattle.emit.specs.declared.Grid.{Grid}
use Rattle.emit.specs.declared.Held.{Held}
use Rattle.emit.specs.Grid.{grid_of}
use Rattle.emit.specs.Leaves.{LeavesReady}
use Rattle.emit.specs.Own.{Cell, none, as_leaf, as_node, cell_by, cell_of, CellReady, SlotReady, Own, OwnState, made, held_in, leaf_words_in}
use Rattle.emit.specs.Own.{with_held, with_child, first_slots, node_built}

pub cell_none : (ws decisions : List ℕ) (depth v : ℕ) → v ≡ 0xffff_ffff → cell_of ws decisions depth v ≡ none
unfolding cell_of
cell_none ws decisions depth v e =
    ap (λ (b : Bool). cell_by b (get_or decisions (v * 7) 0 / 0x4000_0000) (box_at ws v) (tree_at ws depth v)) (eq-eqb v 0xffff_ffff e)

module _ (ws decisions : List ℕ) (depth v : ℕ) (child : v ≡ 0xffff_ffff → ⊥) where
  is_child : (k : ℕ) → get_or decisions (v * 7) 0 / 0x4000_0000 ≡ k → cell_of ws decisions depth v
      ≡ cell_by false k (box_at ws v) (tree_at ws depth v)
  unfolding cell_of
  is_child k e = ap₂ (λ (b : Bool) (x : ℕ). cell_by b x (box_at ws v) (tree_at ws depth v)) (ne_eqb v 0xffff_ffff child) e

  pub cell_leaf : get_or decisions (v * 7) 0 / 0x4000_0000 ≡ 0 → cell_of ws decisions depth v ≡ as_leaf (box_at ws v) (tree_at ws depth v)
  cell_leaf e = is_child 0 e

  pub cell_node : (get_or decisions (v * 7) 0 / 0x4000_0000 ≡ 0 → ⊥) → cell_of ws decisions depth v ≡ as_node (box_at ws v)
  cell_node h = go (get_or decisions (v * 7) 0 / 0x4000_0000) refl
    where
      go : (k : ℕ) → get_or decisions (v * 7) 0 / 0x4000_0000 ≡ k → cell_of ws decisions depth v ≡ as_node (box_at ws v)
      go zero e = absurd (h e)
      go (suc k) e = is_child (suc k) e

  -- what writing a leaf child's words asks
  pub leaf_ready : (n m start at : ℕ) → SlotReady ws decisions n m depth v start at → get_or decisions (v * 7) 0 / 0x4000_0000 ≡ 0
      → LeavesReady ws n m at depth v × CellReady m start at (as_leaf (box_at ws v) (tree_at ws depth v))
  unfolding CellReady
  leaf_ready n m start at r e =
      let k : CellReady m start at (as_leaf (box_at ws v) (tree_at ws depth v)) = rw (cell_leaf e) at r.cell in
      (record { tree = r.tree child; room = k.0 }, k)

-- ---- what the slot of a leaf child holds
pub leaf_held : (b c : Aabb) (start i at next meta : ℕ) (t : Tree ℕ) (x : Slot) (cell : Cell) → cell ≡ as_leaf c t → next ≡ at + leaves t → meta
    ≡ leaf_meta (next - at) (at - start) → x ≡ grid_box b c
    → record { meta = meta; corners = x; bit = 0; inner = 0; at = next } ≡ held_in b start i at cell
unfolding held_in
leaf_held b c start i at next meta t x cell e n m g =
    let d : next - at ≡ leaves t = omega arith in
    rw (e, m, d, n, g)

pub leaf_listed : (indices list after : List ℕ) (at : ℕ) (c : Aabb) (t : Tree ℕ) (cell : Cell) → cell ≡ as_leaf c t → after
    ≡ splice list at (words_at indices (positions t)) → after ≡ leaf_words_in indices at cell list
unfolding leaf_words_in
leaf_listed indices list after at c t cell e w = rw e w

-- ---- the first k slots
module _ (indices : List ℕ) (b : Aabb) (start : ℕ) (cell : ℕ → Cell) (list : List ℕ) where
  one_bounds : (k : ℕ) (c : Cell) (s : OwnState) → s.own.imask < 2 ^ k → s.own.inner ≤ k
      → ((with_child indices b start k c s).own.imask < 2 ^ suc k) × ((with_child indices b start k c s).own.inner ≤ suc k)
  unfolding with_child held_in
  one_bounds k none s h l = let e = pow-succ' 2 k in (omega arith, omega arith)
  one_bounds k (as_leaf d t) s h l = let e = pow-succ' 2 k in (omega arith, omega arith)
  one_bounds k (as_node d) s h l = let e = pow-succ' 2 k in (omega arith, omega arith)

  pub first_bounds : (k : ℕ) → ((first_slots indices b start cell k list).own.imask < 2 ^ k)
      × ((first_slots indices b start cell k list).own.inner ≤ k)
  unfolding first_slots
  first_bounds zero = (omega arith, omega arith)
  first_bounds (suc k) = let h = first_bounds k in one_bounds k (cell k) (first_slots indices b start cell k list) h.0 h.1

  pub first_next : (k : ℕ) (o : Own) (l l₁ : List ℕ) (h : Held) → made o l ≡ first_slots indices b start cell k list → h
      ≡ held_in b start k o.at (cell k) → l₁ ≡ leaf_words_in indices o.at (cell k) l
      → made (with_held k h o) l₁ ≡ first_slots indices b start cell (suc k) list
  unfolding first_slots with_child
  first_next k o l l₁ h e f g =
      ap₂ (λ (x : Held) (y : List ℕ). made (with_held k x o) y) f g ∙ ap (with_child indices b start k (cell k)) e

  -- the mask fits a byte
  pub few_bits : (k : ℕ) (o : Own) → k ≤ 8 → o ≡ (first_slots indices b start cell k list).own → (o.imask < 256) × (o.inner ≤ 8)
  few_bits k o h e =
      let p = first_bounds k in
      let q : 2 ^ k ≤ 2 ^ 8 = pow_mono {i = k} {j = 8} h in
      let x = ap (λ (w : Own). w.imask) e in
      let y = ap (λ (w : Own). w.inner) e in
      (omega arith, omega arith)

-- an accepted box has numbers for its lower corner
pub corner_numbers : (b : Aabb) → accepted_box b ≡ true → T (not (is_nan b.min.x)) × T (not (is_nan b.min.y)) × T (not (is_nan b.min.z))
corner_numbers b e = no_nans b.min (accepted b (subst T (sym e) tt)).low

-- the node that the code puts together
abbrev node_with : Aabb → Grid → (count start : ℕ) → Own → Node
node_with b g count start o = record {
  px = to_bits binary32 b.min.x;
  py = to_bits binary32 b.min.y;
  pz = to_bits binary32 b.min.z;
  ex = g.ex;
  ey = g.ey;
  ez = g.ez;
  imask = o.imask;
  child_base_idx = count;
  primitive_base_idx = start;
  child_meta = o.metas;
  slots = o.boxes;
}

pub built : (ws : List ℕ) (v count start : ℕ) (b : Aabb) (g : Grid) (o s : Own) → b ≡ box_at ws v → g ≡ grid_of (box_at ws v) → o ≡ s
    → node_with b g count start o ≡ node_built ws v count start s
unfolding grid_of
built ws v count start b g o s d e f =
    ap (λ (x : Aabb). node_with x g count start o) d ∙ ap₂ (λ (x : Grid) (y : Own). node_with (box_at ws v) x count start y) e f
