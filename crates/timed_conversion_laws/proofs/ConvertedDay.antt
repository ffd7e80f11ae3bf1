-- A timed conversion of panes that are drawn all day leaves a side table in which every slot that is not empty has the whole day.
use mathlib.Core.Bool.{true}
use mathlib.Core.List.{List}
use mathlib.Core.Path.{◌≡◌, refl, sym, subst, ◌∙◌}
use Prim.Native.Nat.{ℕ, ◌<◌}
use native.Mathlib.Decide.{dec_lt}
use native.Mathlib.Omega.{arith}
use Rattle.span.specs.Span.{span_at, quarter_fits}
use Rattle.node.specs.Node.{node_at}
use Rattle.record_shape.specs.Record.{meta_at}
use Rattle.side_table.specs.SideTable.{side_span}
use Rattle.timed.specs.AllDay.{whole_day, AllDay}
use Rattle.timed.specs.Converted.{timetable_of_tree}
use Rattle.timed.proofs.ConvertedDay.{converted_all_day}
use Rattle.bvh2_tables.specs.Call.{leaf_count}
use Rattle.bvh2_to_cwbvh_timed.specs.TimedConversion.{TimedCall, timed_conversion_of}
use Rattle.timed_conversion_laws.specs.TimedCall.{TimedAnswers, timed_record_at, wide_of_call, timetable_left}
use Rattle.timed_conversion_laws.proofs.SideTable.{span_in_front, bytes_length, rows_left, some_leaf}
use Rattle.timed_conversion_laws.proofs.Left.{wide_writable, wide_branching, wide_named, record_of_tree, table_of_tree}

module _ (c : TimedCall) (m d : ℕ) (answers : TimedAnswers c m d) (day : (k : ℕ) → k < c.panes → span_at c.spans k ≡ whole_day) where
  -- Where every pane in the list of spans has 0 and 95, so has every slot that is not empty in the side table left beside the record, with a row for
  -- each node; so that a timed query over them that is not refused is the untimed one.
  pub converted_day : (quarter : ℕ) → quarter_fits quarter ≡ true → AllDay (timed_record_at c m) (timetable_left c m quarter)
  converted_day quarter fits = go (dec_lt 0 (leaf_count c.untimed))
    where
      go : Dec (0 < leaf_count c.untimed) → AllDay (timed_record_at c m) (timetable_left c m quarter)
      go (yes some) =
          let t = wide_of_call c in
          let h = timetable_of_tree t c.untimed.indices c.panes c.spans quarter in
          subst (AllDay (timed_record_at c m)) (sym (table_of_tree c m d answers some quarter))
          (subst (λ (b : List ℕ). AllDay b h) (sym (record_of_tree c m d answers some))
          (converted_all_day t (wide_writable c m d answers some) (wide_branching c m d answers some) c.untimed.indices c.panes c.spans quarter
          (wide_named c m d answers some) day fits))
      go (no none) = record {
        rows = rows_left c m d answers;
        slots = λ v k h l f. absurd (none (some_leaf c m d answers (omega (arith, bytes_length c m d answers))));
        panes = day;
        quarter = fits;
      }

  -- In the slice that was lent: each slot of the record whose meta byte is not 0 has 0 and 95.
  pub converted_slots : (v k : ℕ) → v < m → k < 8 → ¬ (meta_at (node_at (timed_record_at c m) v) k ≡ 0)
      → side_span (timed_conversion_of c).side v k ≡ whole_day
  unfolding quarter_fits
  converted_slots v k h l f =
      sym (span_in_front (timed_conversion_of c).side m v k h l) ∙ (converted_day 0 refl).slots v k (omega (arith, bytes_length c m d answers)) l f
