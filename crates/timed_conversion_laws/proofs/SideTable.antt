-- What a timed conversion that is not refused leaves: all that the untimed one leaves, and in front of the slice lent the side table, each of whose
-- spans is the narrowest over the panes below its slot.
use mathlib.Core.List.{List}
use mathlib.Core.Path.{◌≡◌, sym, ap, subst, ◌∙◌}
use Prim.Native.Nat.{ℕ, ◌+◌, ◌*◌, ◌<◌}
use native.Mathlib.Decide.{dec_lt}
use native.Mathlib.Omega.{arith}
use lib.ListN.{length, take, drop}
use lib.Seq.{get_or-take}
use Rattle.lists.specs.Splice.{splice}
use Rattle.lists.proofs.Splice.{splice_taken, splice_rest}
use Rattle.wide_layout.specs.Shape.{layout_entry}
use Rattle.record_shape.specs.Record.{node_count}
use Rattle.side_table.specs.SideTable.{panes_under, side_bytes, side_span}
use Rattle.side_table.specs.Narrowest.{Narrowest}
use Rattle.side_table.proofs.Table.{side_narrowest}
use Rattle.bvh2_tables.specs.Call.{Call, leaf_count}
use Rattle.bvh2_to_cwbvh.specs.Conversion.{Outcome, conversion_of}
use Rattle.bvh2_to_cwbvh.proofs.Answers.{Converts, answered}
use Rattle.bvh2_to_cwbvh.proofs.Sizes.{bytes-length}
use Rattle.bvh2_to_cwbvh_timed.specs.TimedConversion.{TimedCall, defined_side, timed_conversion_of}
use Rattle.bvh2_to_cwbvh_timed.proofs.Sizes.{table_length}
use Rattle.bvh2_to_cwbvh_timed.proofs.Written as W
use Rattle.bvh2_to_cwbvh_timed.proofs.Answers.{timed_no_cause, side_laid}
use Rattle.demands.specs.Call.{Answers, record_at, list_at}
use Rattle.demands.proofs.Answered.{record_is}
use Rattle.timed_conversion_laws.specs.TimedCall.{TimedAnswers, timed_record_at, timed_list_at, side_at, wide_of_call}
use Rattle.timed_conversion_laws.specs.TimedRefusals.{TimedRefusal}
use Rattle.timed_conversion_laws.proofs.Refusals.{timed_answered_none, timed_conversion}

-- the spans of the first m nodes are read from the part of a table that is theirs
pub span_in_front : (side : List ℕ) (m v i : ℕ) → v < m → i < 8 → side_span (take (16 * m) side) v i ≡ side_span side v i
span_in_front side m v i h l =
    let first = get_or-take (16 * m) side (2 * (8 * v + i)) 0 (omega arith) in
    let last = get_or-take (16 * m) side (2 * (8 * v + i) + 1) 0 (omega arith) in
    λ k. record { first = first k; last = last k }

module _ (c : TimedCall) (m d : ℕ) (answers : TimedAnswers c m d) where
  abbrev call : Call
  call = c.untimed

  -- no cause of refusal holds
  pub no_refusal : (j : ℕ) → TimedRefusal c j → ⊥
  no_refusal = timed_answered_none c m d answers

  -- ---- beside the untimed conversion
  -- The untimed conversion of the same call leaves the same, but for the side table,
  pub as_untimed : (timed_conversion_of c).untimed ≡ conversion_of call
  as_untimed = timed_conversion c (no_refusal 4) (no_refusal 14)

  -- so it is answered alike, and its record and its index list are these.
  pub untimed_answers : Answers call m d
  untimed_answers = ap (λ (o : Outcome). o.answer) (sym as_untimed) ∙ answers

  pub record_as_untimed : timed_record_at c m ≡ record_at call m
  record_as_untimed = ap (λ (o : Outcome). take (80 * m) o.bytes) as_untimed

  pub list_as_untimed : timed_list_at c ≡ list_at call
  list_as_untimed = ap (λ (o : Outcome). take (leaf_count call) o.list) as_untimed

  converts : Converts call m d
  converts = answered call m d untimed_answers

  -- the record has m nodes
  pub bytes_length : length (timed_record_at c m) ≡ 80 * m
  bytes_length =
      ap (λ (b : List ℕ). length b) (record_as_untimed ∙ record_is call m d untimed_answers)
      ∙ bytes-length call.words call.limit call.ordered (leaf_count call) ∙ ap (λ (k : ℕ). 80 * k) (sym converts.nodes)

  -- ---- the side table
  pub table_size : length (defined_side c) ≡ 16 * m
  table_size = omega (arith, converts.nodes, table_length c.spans call.indices call.words (leaf_count call) call.limit call.ordered)

  laid : (timed_conversion_of c).side ≡ splice c.side 0 (defined_side c)
  laid = side_laid c (timed_no_cause c m d answers)

  -- The side table of the call's tree stands in front of the slice that was lent, 16 bytes to each node,
  pub side_in_front : side_at c m ≡ defined_side c
  side_in_front = ap (take (16 * m)) laid ∙ splice_taken c.side (defined_side c) (16 * m) table_size

  -- so that there is a row for each node of the record,
  pub rows_left : length (side_at c m) ≡ 16 * node_count (timed_record_at c m)
  rows_left = omega (arith, bytes_length, ap (λ (s : List ℕ). length s) side_in_front, table_size)

  -- and the bytes behind it are as they were.
  pub side_behind : drop (16 * m) (timed_conversion_of c).side ≡ drop (16 * m) c.side
  side_behind = ap (drop (16 * m)) laid ∙ splice_rest c.side (defined_side c) (16 * m) table_size

  -- where there is a node there is a leaf
  pub some_leaf : 0 < m → 0 < leaf_count call
  some_leaf h = go (dec_lt 0 (leaf_count call))
    where
      go : Dec (0 < leaf_count call) → 0 < leaf_count call
      go (yes l) = l
      go (no l) = absurd (omega (arith, table_size, ap (λ (s : List ℕ). length s) (W.side_empty c (omega arith))))

  module _ (v i : ℕ) (h : v < m) (l : i < 8) where
    some : 0 < leaf_count call
    some = some_leaf (omega arith)

    span_is : side_span (timed_conversion_of c).side v i ≡ side_span (side_bytes c.spans call.indices (wide_of_call c)) v i
    span_is =
        sym (span_in_front (timed_conversion_of c).side m v i h l)
        ∙ ap (λ (s : List ℕ). side_span s v i) (side_in_front ∙ W.side_is c some)

    -- In the slice that was lent, the span at bytes 16v + 2i and 16v + 2i + 1 is the narrowest over the panes below slot i of node v: it begins no
    -- later and ends no earlier than any of theirs, one of theirs begins where it does, one ends where it does, and over no panes it is 0 and 0.
    pub converted_narrowest : Narrowest c.spans (panes_under call.indices (layout_entry (wide_of_call c) v).slots i)
        (side_span (timed_conversion_of c).side v i)
    converted_narrowest =
        subst (Narrowest c.spans (panes_under call.indices (layout_entry (wide_of_call c) v).slots i)) (sym span_is)
        (side_narrowest c.spans call.indices (wide_of_call c) v i (omega (arith, W.nodes_are c m d untimed_answers some)) l)
