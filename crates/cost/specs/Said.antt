-- A decision word taken apart (01, "Words, bytes and bounds"): its kind, in the terms of the tables.
use Rattle.std.specs.Prelude.{ℕ, zero, suc, ◌/◌}
use Rattle.cost.specs.declared.Kind.{Kind as Told}
use Rattle.cost.specs.declared.Kind.TheVariants as K
use Rattle.cost.specs.Table.{Kind, LEAF, INTERNAL, DISTRIBUTE}

-- what the code's kind says
abbrev pub kind_said : Told → Kind
kind_said K.Leaf = LEAF
kind_said K.Internal = INTERNAL
kind_said K.Distribute = DISTRIBUTE

-- the kind in a word's two high bits; no table has a word of kind 3
abbrev pub kind_in : ℕ → Kind
kind_in w = elim (w / 0x4000_0000) [ zero ↦ LEAF | suc zero ↦ INTERNAL | suc (suc k) ↦ DISTRIBUTE ]
