-- What a timed conversion of a tree with leaves hands to walks: the record of the tree's wide tree, with the timetable that is its own.
use mathlib.Core.Path.{◌≡◌, ap, ◌∙◌}
use Prim.Native.Nat.{ℕ, ◌<◌}
use native.Mathlib.Decide.{dec_lt}
use native.Mathlib.Omega.{arith}
use lib.ListN.{get_or}
use Rattle.lists.specs.At.{words_at}
use Rattle.lists.proofs.Perms.{counts_perm, perm_upto}
use Rattle.bvh2.specs.Words.{tree_of}
use Rattle.bvh2.specs.Decoded.{Decoded}
use Rattle.wide_layout.specs.Sizes.{slots_positions, Branching}
use Rattle.wide_layout.specs.Layout.{index_list}
use Rattle.wide_layout.proofs.Index.{slots_rearranged}
use Rattle.wide_tree.specs.WideTree.{wide_of}
use Rattle.wide_tree.specs.Ordered.{placing}
use Rattle.wide_tree.proofs.WideTree.{branching}
use Rattle.wide_tree.proofs.Ordered.{places, fine, index_upto}
use Rattle.record.specs.Record.{record_bytes}
use Rattle.record_laws.specs.Writable.{Writable}
use Rattle.walk.specs.Listing.{In}
use Rattle.timed.specs.Converted.{timetable_of_tree}
use Rattle.bvh2_tables.specs.Call.{Call, leaf_count}
use Rattle.bvh2_to_cwbvh.specs.Conversion.{index_list_of}
use Rattle.bvh2_to_cwbvh_timed.specs.TimedConversion.{TimedCall}
use Rattle.bvh2_to_cwbvh_timed.proofs.Written as W
use Rattle.demands.specs.Call.{Answers}
use Rattle.demands.proofs.Answered.{wide, record_is, list_is}
use Rattle.timed_conversion_laws.specs.TimedCall.{TimedAnswers, timed_record_at, timed_list_at, wide_of_call, timetable_left}
use Rattle.timed_conversion_laws.proofs.Refusals.{panes_pass}
use Rattle.timed_conversion_laws.proofs.SideTable.{no_refusal, untimed_answers, record_as_untimed, list_as_untimed, side_in_front}

module _ (c : TimedCall) (m d : ℕ) (answers : TimedAnswers c m d) (some : 0 < leaf_count c.untimed) where
  abbrev call : Call
  call = c.untimed

  alike : Answers call m d
  alike = untimed_answers c m d answers

  tree : Decoded call.words (leaf_count call)
  tree = W.tree c m d alike some

  -- ---- the wide tree
  pub wide_writable : Writable (wide_of_call c)
  wide_writable = wide call.words call.limit call.ordered (leaf_count call) tree (W.converts c m d alike).none.small

  pub wide_branching : Branching (wide_of_call c).slots
  unfolding wide_of
  wide_branching = branching (placing call.ordered) call.limit (places call.ordered) (tree_of call.words) (fine call.words (leaf_count call) tree)

  -- each of its positions is a leaf's, so the index word there names a pane
  pub wide_named : (p : ℕ) → In p (slots_positions (wide_of_call c).slots) → get_or call.indices p 0 < c.panes
  wide_named p i = go (dec_lt p (leaf_count call))
    where
      go : Dec (p < leaf_count call) → get_or call.indices p 0 < c.panes
      go (yes l) = W.pane_named c.panes c.spans call.indices (panes_pass c (no_refusal c m d answers 14)) p l
      go (no l) =
          let each = (perm_upto (index_list (wide_of_call c)) (leaf_count call)).0
          (index_upto call.ordered call.limit call.words (leaf_count call) tree) in
          let same = (counts_perm (index_list (wide_of_call c)) (slots_positions (wide_of_call c).slots)).0
          (slots_rearranged (wide_of_call c).slots) in
          absurd (omega (arith, each.1 p (omega arith), same p, i))

  -- ---- what is left
  pub record_of_tree : timed_record_at c m ≡ record_bytes (wide_of_call c)
  record_of_tree = record_as_untimed c m d answers ∙ record_is call m d alike ∙ (W.of_tree c m d alike some).bytes

  list_of_tree : timed_list_at c ≡ words_at call.indices (index_list (wide_of_call c))
  unfolding index_list_of
  list_of_tree = list_as_untimed c m d answers ∙ list_is call m d alike ∙ ap (words_at call.indices) (W.of_tree c m d alike some).list

  pub table_of_tree : (quarter : ℕ) → timetable_left c m quarter ≡ timetable_of_tree (wide_of_call c) call.indices c.panes c.spans quarter
  table_of_tree quarter =
      let side = side_in_front c m d answers ∙ W.side_is c some in
      λ i. record { side = side i; indices = list_of_tree i; panes = c.panes; spans = c.spans; quarter = quarter }
