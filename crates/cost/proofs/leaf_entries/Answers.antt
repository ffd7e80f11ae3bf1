use native.Mathlib.Omega.{arith}
use lib.Ieee.{of_bits, of_int}
use Rattle.cost.proofs.Rows.{row_filled}
use Rattle.cost.proofs.leaf_entries.Goals as goal

pub returns-clause-decisions_after : goal.returns-clause-decisions_after
returns-clause-decisions_after c = row_filled _ _ 7 _ _ _ c.requires.0 (omega arith) (c.fill.ensures.after (λ y e. e))

pub returns-clause-costs_after : goal.returns-clause-costs_after
unfolding of_bits of_int
returns-clause-costs_after c = row_filled _ _ 7 _ _ _ c.requires.1 (omega arith) (c.fill-2.ensures.after (λ y e. e))
