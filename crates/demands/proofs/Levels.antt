-- Cause 8 by the nodes of the defined record: the deepest level that conversion's definition gives is that of the record's bytes.
use mathlib.Core.Logic.{◌↔◌, inl, inr}
use mathlib.Core.Path.{subst}
use Prim.Native.Nat.{ℕ, ◌<◌}
use native.Mathlib.Omega.{arith}
use Rattle.soundness.specs.Sound.{OneLevel}
use Rattle.record_shape.specs.Record.{node_count, shape_in, shape_at, DeepestLevel}
use Rattle.demands.specs.Call.{Call, leaf_count, defined_record, defined_list, deepest_level, Convertible}
use Rattle.demands.specs.Refusals.{LevelOver}
use Rattle.demands.proofs.Answered.{defined, leaf_count_lem}
use Rattle.demands.proofs.Sound.{Levels, levels}

module _ (c : Call) (h : Convertible c) where
  defined_levels : Levels (defined_record c) (leaf_count c) (deepest_level c)
  defined_levels =
      subst (λ (n : ℕ). Levels (defined_record c) n (deepest_level c)) (leaf_count_lem c h)
      (levels _ c.indices (defined_record c) (defined_list c) (deepest_level c) (defined c h))

  -- every node of the defined record has one level,
  pub defined_one_level : (v : ℕ) → v < node_count (defined_record c) → OneLevel (shape_at (defined_record c) (leaf_count c)) v
  defined_one_level = defined_levels.one

  -- and the deepest of them is the definition's;
  pub defined_deepest : DeepestLevel (defined_record c) (leaf_count c) (deepest_level c)
  defined_deepest = defined_levels.deepest

  -- so one of them is over 31 exactly if that is
  pub over_deepest : LevelOver c ↔ (31 < deepest_level c)
  unfolding shape_in
  over_deepest = (to, from)
    where
      to : LevelOver c → 31 < deepest_level c
      to o = omega (arith, defined_deepest.most o.node o.level o.there o.has, o.over)

      from : 31 < deepest_level c → LevelOver c
      from l = elim defined_deepest.some [
        | inl z ↦ absurd (omega (arith, z.1))
        | inr s ↦ record { node = s.0; level = deepest_level c; there = s.1; has = s.2; over = l }
      ]
