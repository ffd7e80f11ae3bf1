use mathlib.Core.Path.{◌≡◌, refl, ap, ◌∙◌}
use Prim.Native.Nat.{ℕ, suc, ◌+◌, ◌≤◌, ◌<◌}
use native.Mathlib.Numerals.{add-one}
use native.Mathlib.Omega.{arith}
use lib.ListN.{get_or}
use Rattle.bvh2.specs.Words.{box_at}
use Rattle.children.specs.Tabled.{most_edges}
use Rattle.emit.specs.Grid.{grid_of}
use Rattle.emit.specs.Own.{Cell, Own, OwnState, made, with_held, cell_of, first_slots}
use Rattle.emit.proofs.OwnSteps.{first_next, few_bits, corner_numbers, built}
use Rattle.emit.proofs.build_node.Goals as goal
use Rattle.emit.proofs.build_node.Goals.{Start, After-loop-i, After-own_slot-held}

-- the slots so far, in the loop and behind it
abbrev own : After-own_slot-held → Own
own c = record { metas = c.loop-i.metas; boxes = c.loop-i.boxes; imask = c.loop-i.imask; inner = c.loop-i.inner; at = c.loop-i.at }

abbrev own_end : After-loop-i → Own
own_end c = record { metas = c.loop-i.metas; boxes = c.loop-i.boxes; imask = c.loop-i.imask; inner = c.loop-i.inner; at = c.loop-i.at }

abbrev cells : Start → ℕ → Cell
cells s j = cell_of s.args.tree.now.words.now s.args.tree.now.decisions.now most_edges (get_or s.args.slots.now j 0)

abbrev slots_upto : Start → ℕ → OwnState
slots_upto s k = first_slots s.args.indices.now (box_at s.args.tree.now.words.now s.args.v) s.args.start (cells s) k s.args.out.now

-- the slots with one more
next : (c : After-own_slot-held) → let p = goal.at.After-own_slot-held c in
    made (with_held c.loop-i.i c.own_slot-held.result (own c)) c.own_slot-held.new.out ≡ slots_upto p.Start (suc c.loop-i.i)
next c =
    let p = goal.at.After-own_slot-held c in
    let s = c.args in
    first_next s.indices.now (box_at s.tree.now.words.now s.v) s.start (cells p.Start) s.out.now c.loop-i.i
    (own c) c.loop-i.out _ _ c.loop-i.invariant.1
    (c.own_slot-held.ensures.value (box_at s.tree.now.words.now s.v) (c.grid_of-grid.ensures ∙ ap grid_of c.node_box-b.ensures))
    c.own_slot-held.ensures.out_after

few : (s : Start) (k : ℕ) (o : Own) → k ≤ 8 → o ≡ (slots_upto s k).own → (o.imask < 256) × (o.inner ≤ 8)
few s k o = few_bits s.args.indices.now (box_at s.args.tree.now.words.now s.args.v) s.args.start (cells s) s.args.out.now k o

few_next : (c : After-own_slot-held) → (c.loop-i.imask + c.own_slot-held.result.bit < 256) × (c.loop-i.inner + c.own_slot-held.result.inner ≤ 8)
few_next c =
    few (goal.at.After-own_slot-held c).Start (suc c.loop-i.i) _ (omega (arith, c.loop-i-test.true)) (ap (λ (x : OwnState). x.own) (next c))

pub loop-i-init : goal.loop-i-init
unfolding first_slots
loop-i-init c = (refl, refl)

pub overflow_add-imask : goal.overflow_add-imask
overflow_add-imask c = omega (arith, (few_next (goal.at.overflow_add-imask c).After-own_slot-held).0)

pub overflow_add-inner : goal.overflow_add-inner
overflow_add-inner c = omega (arith, (few_next (goal.at.overflow_add-inner c).After-own_slot-held).1)

pub loop-i-preserved : goal.loop-i-preserved
loop-i-preserved c =
    (c.own_slot-held.auto.out ∙ c.loop-i.invariant.0, rw add-one (next (goal.at.loop-i-preserved c).After-own_slot-held))

-- the box is an accepted one
pub float_to_bits-node : goal.float_to_bits-node
float_to_bits-node c = rw c.node_box-b.ensures (corner_numbers (box_at _ _) c.requires.1).0

pub float_to_bits-node-2 : goal.float_to_bits-node-2
float_to_bits-node-2 c = rw c.node_box-b.ensures (corner_numbers (box_at _ _) c.requires.1).1

pub float_to_bits-node-3 : goal.float_to_bits-node-3
float_to_bits-node-3 c = rw c.node_box-b.ensures (corner_numbers (box_at _ _) c.requires.1).2

pub overflow_cast-node : goal.overflow_cast-node
overflow_cast-node c =
    let p = goal.at.overflow_cast-node c in
    omega (arith, (few p.Start c.loop-i.i (own_end p.After-loop-i) c.loop-i.auto.i-end (ap (λ (x : OwnState). x.own) c.loop-i.invariant.1)).0)

pub returns : goal.returns
returns c =
    let p = goal.at.returns c in
    let s = c.args in
    let e : c.loop-i.i ≡ 8 = let h = c.loop-i.auto.i-end in let k = c.loop-i-test.false in omega arith in
    let a = c.loop-i.invariant.1 ∙ ap (slots_upto p.Start) e in
    record {
      node =
          (built s.tree.now.words.now s.v s.count s.start c.node_box-b.result c.grid_of-grid.result
          (own_end p.After-loop-i) _ c.node_box-b.ensures
          (c.grid_of-grid.ensures ∙ ap grid_of c.node_box-b.ensures) (ap (λ (x : OwnState). x.own) a));
      inner = ap (λ (x : OwnState). x.own.inner) a;
      at = ap (λ (x : OwnState). x.own.at) a;
      list = ap (λ (x : OwnState). x.list) a;
    }
