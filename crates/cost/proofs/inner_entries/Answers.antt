use Prim.Native.Nat.{◌+◌, ◌*◌}
use native.Mathlib.Omega.{arith}
use lib.Dec.{lit≤}
use lib.Ieee.{of_bits}
use Rattle.cost.specs.Rows.{costs_at, entry_from}
use Rattle.cost.proofs.Entries.{small_split, first_stored, entry_next, filled_none, child_stays, turn_writes, last_writes}
use Rattle.cost.proofs.inner_entries.Goals as goal

pub first_entry-e-requires : goal.first_entry-e-requires
first_entry-e-requires c =
    (c.requires.count_bound, small_split _ _ 6 _ (lit≤ tt) c.best_split-s.ensures)

pub loop-i-init : goal.loop-i-init
unfolding of_bits
loop-i-init c =
    let x = c.args in record {
      entry = first_stored x.area x.count x.limit (costs_at x.costs.now x.first) (costs_at x.costs.now (x.first + 1))
          c.best_split-s.ensures c.first_entry-e.ensures;
      filled = filled_none (entry_from x.costs.now x.first x.area x.count x.limit) (x.v * 7) x.decisions.now x.costs.now;
    }

pub next_entry-e-requires : goal.next_entry-e-requires
next_entry-e-requires c =
    small_split _ _ c.loop-i.i c.loop-i.e.cost (omega arith) c.best_split-s-in-loop-i.ensures

pub loop-i-preserved : goal.loop-i-preserved
loop-i-preserved c =
    let x = c.args in
    let h = c.loop-i.invariant in
    let f = turn_writes h in record {
      entry =
          entry_next x.area x.count x.limit (costs_at x.costs.now x.first) (costs_at x.costs.now (x.first + 1)) _ _
          c.loop-i.i
          (λ j u. child_stays c.requires.row_room _ _ x.costs.now f.costs (omega arith) x.first (omega arith) (omega arith) j (omega arith))
          (λ j u. child_stays c.requires.row_room _ _ x.costs.now f.costs (omega arith) (x.first + 1) (omega arith) (omega arith) j (omega arith))
          h.entry c.best_split-s-in-loop-i.ensures c.next_entry-e.ensures;
      filled = f;
    }

pub returns : goal.returns
returns c =
    let f = last_writes (omega arith) c.loop-i.invariant in
    record { decisions_after = f.words; costs_after = f.costs }
