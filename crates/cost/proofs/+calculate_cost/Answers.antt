-- What the definitions say one step down, and back up, is in proofs/Steps.
use mathlib.Core.Path.{refl}
use Prim.Native.Nat.{ℕ, ◌+◌, ◌-◌}
use native.Mathlib.Omega.{arith}
use lib.ListN.{length}
use Rattle.bvh2.specs.Words.{tree_at}
use Rattle.cost.proofs.Steps.{here, Down, down, Done, link_formed, leaf_done, Both, both, up}
use Rattle.cost.proofs.+calculate_cost.Goals as goal
use Rattle.cost.proofs.+calculate_cost.Goals.{In-Children, After-calculate_cost-b}

below : (t : ℕ) (c : In-Children t) → let x = c.args in
    Down x.words.now (length x.decisions.now) (length x.costs.now) x.depth x.v c.in-Children.first
below t c = down c.requires c.in-Children.ensures

-- what each call does
one : (t : ℕ) (c : After-calculate_cost-b t) → let x = c.args in let r = c.calculate_cost-a in
    Done x.limit (tree_at x.words.now (x.depth - 1) c.in-Children.first) r.result x.decisions.now x.costs.now r.new.decisions r.new.costs
one t c = let e = c.calculate_cost-a.ensures in record { counted = e.value; decided = e.decisions_after; priced = e.costs_after }

two : (t : ℕ) (c : After-calculate_cost-b t) → let x = c.args in let r = c.calculate_cost-a in let s = c.calculate_cost-b in
    Done x.limit (tree_at x.words.now (x.depth - 1) (c.in-Children.first + 1)) s.result r.new.decisions r.new.costs s.new.decisions s.new.costs
two t c = let e = c.calculate_cost-b.ensures in record { counted = e.value; decided = e.decisions_after; priced = e.costs_after }

joint : (t : ℕ) (c : After-calculate_cost-b t) → let x = c.args in let f = c.in-Children.first in let s = c.calculate_cost-b in
    Both x.limit f (tree_at x.words.now (x.depth - 1) f) (tree_at x.words.now (x.depth - 1) (f + 1)) (length x.decisions.now) (length x.costs.now)
    c.calculate_cost-a.result s.result s.new.decisions s.new.costs
joint t c = both (down c.requires c.in-Children.ensures) c.args.limit refl refl (one t c) (two t c)

pub node_area-area-requires : goal.node_area-area-requires
node_area-area-requires t c = let h = here c.requires in omega arith

pub node_link-requires : goal.node_link-requires
node_link-requires t c = let h = here c.requires in omega arith

pub leaf_entries-requires : goal.leaf_entries-requires
leaf_entries-requires t c = let h = here c.requires in (h.decisions, h.costs)

pub returns-in-Position : goal.returns-in-Position
returns-in-Position t c =
    let e = c.leaf_entries.ensures in
    let h = leaf_done c.requires c.in-Position.ensures c.args.limit c.node_area-area.ensures e.decisions_after e.costs_after in
    record { value = h.counted; decisions_after = h.decided; costs_after = h.priced }

pub unreachable-requires : goal.unreachable-requires
unreachable-requires t c = link_formed c.requires c.in-Malformed.ensures

pub overflow_sub-depth : goal.overflow_sub-depth
overflow_sub-depth t c = (below t (goal.at.overflow_sub-depth t c).In-Children).deep

pub calculate_cost-a-requires : goal.calculate_cost-a-requires
calculate_cost-a-requires t c =
    let h = below t (goal.at.calculate_cost-a-requires t c).In-Children in
    (omega (arith, h.deep), h.left)

pub overflow_add-first : goal.overflow_add-first
overflow_add-first t c = let h = (below t (goal.at.overflow_add-first t c).In-Children).second in omega arith

pub overflow_sub-depth-in-Children : goal.overflow_sub-depth-in-Children
overflow_sub-depth-in-Children t c = (below t (goal.at.overflow_sub-depth-in-Children t c).In-Children).deep

pub calculate_cost-b-requires : goal.calculate_cost-b-requires
calculate_cost-b-requires t c =
    let h = below t (goal.at.calculate_cost-b-requires t c).In-Children in
    (omega (arith, h.deep), rw (c.calculate_cost-a.auto.decisions, c.calculate_cost-a.auto.costs) h.right)

pub overflow_add-count : goal.overflow_add-count
overflow_add-count t c = let h = (joint t (goal.at.overflow_add-count t c).After-calculate_cost-b).few in omega arith

pub inner_entries-requires : goal.inner_entries-requires
inner_entries-requires t c =
    let p = goal.at.inner_entries-requires t c in
    let h = joint t p.After-calculate_cost-b in
    let f = h.few in
    record { row_room = rw (h.words_length, h.costs_length) (below t p.In-Children).room; count_bound = omega arith }

pub returns-in-Children : goal.returns-in-Children
returns-in-Children t c =
    let p = goal.at.returns-in-Children t c in
    let d = p.After-calculate_cost-b in
    let e = c.inner_entries.ensures in
    let h = up (below t p.In-Children) c.args.limit (one t d) (two t d) (joint t d) c.node_area-area.ensures e.decisions_after e.costs_after in
    record { value = h.counted; decisions_after = h.decided; costs_after = h.priced }
