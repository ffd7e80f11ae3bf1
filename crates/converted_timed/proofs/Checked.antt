-- What a call of the timed conversion leaves is checked: a sound record with its index list, its own side table and spans that fit, at each quarter
-- hour of a day; and the side table loses nothing that is drawn. A tree without leaves leaves an empty record.
use mathlib.Core.Bool.{true}
use mathlib.Core.List.{List}
use mathlib.Core.Path.{◌≡◌, sym, ap, subst, ◌∙◌}
use Prim.Native.Nat.{ℕ, ◌*◌, ◌<◌}
use native.Mathlib.Decide.{dec_lt}
use native.Mathlib.Omega.{arith}
use lib.ListN.{length, take, get_or}
use Rattle.lists.specs.Below.{all_below}
use Rattle.lists.proofs.Perms.{perm_length}
use Rattle.lists.proofs.Tells.{both_pass}
use Rattle.span.specs.Span.{quarter_fits, spans_fit}
use Rattle.record_shape.specs.Record.{node_count, shape_in}
use Rattle.timed.specs.Below.{Below, stands, further, Covers}
use Rattle.timed.specs.Converted.{timetable_of_tree}
use Rattle.timed.proofs.Filtered.{tree_covers}
use Rattle.bvh2_tables.specs.Call.{Call, leaf_count}
use Rattle.bvh2_to_cwbvh.specs.Conversion.{Outcome}
use Rattle.bvh2_to_cwbvh_timed.specs.TimedConversion.{TimedCall, panes_fit}
use Rattle.bvh2_to_cwbvh_timed.proofs.Written.{pane_named}
use Rattle.demands.specs.Walks.{CheckedRecord}
use Rattle.demands.proofs.Panes.{rearranged, list_good}
use Rattle.demands.proofs.Words.{words_rearranged}
use Rattle.timed_conversion_laws.specs.TimedCall.{TimedAnswers, timed_record_at, timed_list_at, wide_of_call, timetable_left}
use Rattle.timed_conversion_laws.proofs.Left.{wide_writable, record_of_tree, table_of_tree}
use Rattle.timed_conversion_laws.proofs.Refusals.{panes_pass}
use Rattle.timed_conversion_laws.proofs.SideTable.{no_refusal, as_untimed, untimed_answers, list_as_untimed, bytes_length, rows_left, some_leaf}
use Rattle.timed_demands.specs.Walks.{CheckedAt}
use Rattle.timed_demands.proofs.Listed.{checked_beside}

-- a slot that something lies below is one of a node that there is
node_there : (bytes : List ℕ) (n : ℕ) {v j p : ℕ} → Below bytes n v j p → v < node_count bytes
unfolding shape_in
node_there bytes n (stands q) = q.node
node_there bytes n (further l q b) = l

module _ (c : TimedCall) (m d : ℕ) (answers : TimedAnswers c m d) where
  abbrev call : Call
  call = c.untimed

  -- ---- the record

  -- It is sound for as many positions as the list has words,
  pub record_good : CheckedRecord (timed_record_at c m) (length (timed_list_at c)) d
  record_good =
      subst (λ (o : Outcome). CheckedRecord (take (80 * m) o.bytes) (length (take (leaf_count call) o.list)) d) (sym (as_untimed c m d answers))
      (list_good call m d (untimed_answers c m d answers))

  -- which are the leaves,
  pub as_many : length (timed_list_at c) ≡ leaf_count call
  as_many =
      let u = untimed_answers c m d answers in
      ap (λ (l : List ℕ). length l) (list_as_untimed c m d answers)
      ∙ perm_length _ call.indices (rearranged call m d u)

  -- ---- the lists

  panes_good : panes_fit c.panes c.spans call.indices ≡ true
  panes_good = panes_pass c (no_refusal c m d answers 14)

  -- each pane has a span of a day,
  pub spans_good : spans_fit c.panes c.spans ≡ true
  unfolding panes_fit
  spans_good = (both_pass (spans_fit c.panes c.spans) (all_below _ (leaf_count call)) panes_good).0

  -- and each index word names a pane.
  pub panes_named : (p : ℕ) → p < length (timed_list_at c) → get_or (timed_list_at c) p 0 < c.panes
  panes_named =
      subst (λ (l : List ℕ). (p : ℕ) → p < length l → get_or l p 0 < c.panes) (sym (list_as_untimed c m d answers))
      (words_rearranged (λ k. k < c.panes) _ call.indices (rearranged call m d (untimed_answers c m d answers))
      (pane_named c.panes c.spans call.indices panes_good))

  -- ---- at a quarter hour

  module _ (quarter : ℕ) where
    -- What is left is checked, at each quarter hour of a day.
    pub converted_checked : quarter_fits quarter ≡ true → CheckedAt (timed_record_at c m) (timetable_left c m quarter)
    converted_checked = checked_beside record_good (rows_left c m d answers) spans_good panes_named quarter

    -- The spans of slots lose nothing that is drawn.
    pub converted_covers : Covers (timed_record_at c m) (timetable_left c m quarter)
    converted_covers = go (dec_lt 0 (leaf_count call))
      where
        go : Dec (0 < leaf_count call) → Covers (timed_record_at c m) (timetable_left c m quarter)
        go (yes some) =
            let t = wide_of_call c in
            subst (Covers (timed_record_at c m)) (sym (table_of_tree c m d answers some quarter))
            (subst (λ (b : List ℕ). Covers b (timetable_of_tree t call.indices c.panes c.spans quarter)) (sym (record_of_tree c m d answers some))
            (tree_covers t (wide_writable c m d answers some) call.indices c.panes c.spans quarter))
        go (no none) = λ v j p b drawn.
            absurd (none (some_leaf c m d answers (omega (arith, bytes_length c m d answers, node_there (timed_record_at c m) _ b))))
