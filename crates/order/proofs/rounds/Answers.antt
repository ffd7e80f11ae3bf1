use mathlib.Core.Path.{ap}
use Prim.Native.Nat.{◌<◌}
use native.Mathlib.Omega.{arith}
use Rattle.order.specs.Lists.{padded}
use Rattle.order.specs.Assign.{partner}
use Rattle.order.specs.declared.Assignment.{Assignment}
use Rattle.order.proofs.Arrays.{Found, found, found_room, kept_none, kept_next, kept_stuck, kept_all}
use Rattle.order.proofs.rounds.Goals as goal
use Rattle.order.proofs.rounds.Goals.{Else-b-eq8}

-- what the code holds
abbrev held : (c : Else-b-eq8) → Assignment
held c = let l = c.loop-count in record { slot = l.slot; child = l.child; seated = l.seated; count = l.count; rounds = l.rounds }

-- the pair that the round found
pair : (c : Else-b-eq8) → Found c.args.cost c.args.n c.loop-count.count c.best_pair-b.result
pair c =
    let b = c.best_pair-b in
    found c.args.cost c.args.n c.requires c.loop-count.count (held c) b.result c.loop-count.invariant b.ensures c.if-b-eq8.false

-- some child waited for it
room : (c : Else-b-eq8) → c.loop-count.count < c.args.n
room c = found_room c.args.cost c.args.n c.requires c.loop-count.count (held c) c.best_pair-b.result c.loop-count.invariant (pair c)

pub loop-count-init : goal.loop-count-init
unfolding partner padded
loop-count-init c = kept_none c.args.cost c.args.n

pub best_pair-b-requires : goal.best_pair-b-requires
best_pair-b-requires c = c.requires

pub overflow_add-rounds : goal.overflow_add-rounds
overflow_add-rounds c =
    let h = c.loop-count.invariant in
    record { fits = omega (arith, c.requires, h.most, ap (λ (z : Assignment). z.rounds) h.arrays) }

pub offset_bounds-slot-b : goal.offset_bounds-slot-b
offset_bounds-slot-b c = record { fits = omega (arith, c.requires, (pair c).taken.fits.child, (pair c).child) }

pub bounds-slot-b : goal.bounds-slot-b
bounds-slot-b c = omega (arith, c.requires, (pair c).taken.fits.child, (pair c).child)

pub offset_bounds-child-b : goal.offset_bounds-child-b
offset_bounds-child-b c = record { fits = omega (arith, (pair c).taken.fits.slot, (pair c).slot) }

pub bounds-child-b : goal.bounds-child-b
bounds-child-b c = omega (arith, (pair c).taken.fits.slot, (pair c).slot)

pub offset_bounds-seated-count : goal.offset_bounds-seated-count
offset_bounds-seated-count c = record { fits = omega (arith, c.requires, room c) }

pub bounds-seated-count : goal.bounds-seated-count
bounds-seated-count c = omega (arith, c.requires, room c)

pub overflow_add-count : goal.overflow_add-count
overflow_add-count c = record { fits = omega (arith, c.requires, room c) }

pub loop-count-smaller : goal.loop-count-smaller
loop-count-smaller c = omega (arith, room c)

pub loop-count-preserved : goal.loop-count-preserved
loop-count-preserved c =
    kept_next c.args.cost c.args.n c.requires c.loop-count.count (held c) c.best_pair-b.result c.loop-count.invariant (pair c)

pub returns-after-loop-count : goal.returns-after-loop-count
returns-after-loop-count c =
    kept_all c.args.cost c.args.n c.loop-count.count _ c.loop-count.invariant
    (omega (arith, c.loop-count-test.false))

pub returns-then-b-eq8 : goal.returns-then-b-eq8
returns-then-b-eq8 c =
    let a = c.args in
    let l = c.loop-count in
    kept_stuck a.cost a.n c.requires l.count (record { slot = l.slot; child = l.child; seated = l.seated; count = l.count; rounds = l.rounds })
    c.best_pair-b.result l.invariant c.best_pair-b.ensures c.if-b-eq8.true (omega (arith, c.loop-count-test.true))
