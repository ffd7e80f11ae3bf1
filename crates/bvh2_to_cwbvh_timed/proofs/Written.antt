-- What a conversion that is not refused leaves for the side table: its record and its index list are those of a wide tree, each of whose index words
-- names a pane with a span.
use mathlib.Core.Bool.{true}
use mathlib.Core.List.{List, [], ◌∷◌, ◌++◌}
use mathlib.Core.Path.{◌≡◌, refl, ap, ◌∙◌}
use Prim.Native.Nat.{ℕ, zero, suc, ◌+◌, ◌-◌, ◌*◌, ◌≤◌, ◌<◌, max}
use native.Mathlib.Decide.{dec_lt}
use native.Mathlib.Omega.{arith}
use borrow.Author.Tests.{eqb-true, ltb-true}
use lib.Dec.{eqb, ltb}
use lib.ListN.{length, get_or, take, drop, take-append-drop}
use Rattle.std.proofs.Math.Seq.{drop-cons}
use Rattle.std.proofs.lemmas.List.{get_or-map}
use Rattle.lists.specs.At.{words_at}
use Rattle.lists.specs.Below.{all_below}
use Rattle.lists.specs.Counts.{count}
use Rattle.lists.specs.Splice.{splice}
use Rattle.lists.proofs.Counts.{same_self, count-append}
use Rattle.lists.proofs.Perms.{perm_upto}
use Rattle.lists.proofs.Tells.{both_pass, all_at}
use Rattle.span.specs.Span.{span_at, span_fits, spans_fit}
use Rattle.bvh2.specs.Words.{tree_of}
use Rattle.bvh2.specs.Decoded.{Decoded}
use Rattle.bvh2.proofs.Decoded.{accepted_decoded}
use Rattle.wide_layout.specs.Wide.{Wide}
use Rattle.wide_layout.specs.Layout.{nodes, index_list, index_count}
use Rattle.wide_layout.proofs.Sizes.{index_length}
use Rattle.wide_tree.specs.WideTree.{wide_of}
use Rattle.wide_tree.specs.Ordered.{placing, wide_tree_of}
use Rattle.wide_tree.proofs.WideTree.{small_leaves, branching}
use Rattle.wide_tree.proofs.Ordered.{places, fine, index_upto, index_count_lem, node-count}
use Rattle.side_table.specs.SideTable.{side_bytes}
use Rattle.side_table.specs.Laid.{Laid}
use Rattle.side_table.proofs.Front.{laid_in_front, written}
use Rattle.bvh2_tables.specs.Call.{Call, leaf_count}
use Rattle.bvh2_to_cwbvh.specs.Conversion.{index_list_of, conversion_cause, converted, conversion_of}
use Rattle.bvh2_to_cwbvh.proofs.Endings.{cause_none, There, there}
use Rattle.bvh2_to_cwbvh.proofs.Answers.{Converts, answered, convertible_none}
use Rattle.bvh2_to_cwbvh_timed.specs.TimedConversion.{TimedCall, side_size, side_of, defined_side, panes_fit}
use Rattle.bvh2_to_cwbvh_timed.proofs.Sizes.{side_some}

-- ---- the panes

-- the word at a place of a list stands in it
stands_in : (l : List ℕ) (i : ℕ) → i < length l → 0 < count (get_or l i 0) l
unfolding count
stands_in l i h =
    let x = get_or l i 0 in
    omega (
      arith,
      same_self x,
      count-append x (take i l) (x ∷ drop (suc i) l),
      ap (λ (r : List ℕ). count x (take i l ++ r)) (drop-cons l i 0 h),
      ap (count x) (take-append-drop i l),
    )

-- where the panes fit, each index word names one, and each pane has a span
pub pane_named : (panes : ℕ) (spans indices : List ℕ) → panes_fit panes spans indices ≡ true → (p : ℕ) → p < length indices
    → get_or indices p 0 < panes
unfolding panes_fit
pane_named panes spans indices e p h =
    let named = (both_pass (spans_fit panes spans) (all_below (λ i. ltb (get_or indices i 0) panes) (length indices)) e).1 in
    ltb-true (get_or indices p 0) panes (all_at (λ i. ltb (get_or indices i 0) panes) (length indices) named p h)

pub spans_length : (panes : ℕ) (spans indices : List ℕ) → panes_fit panes spans indices ≡ true → length spans ≡ 2 * panes
unfolding panes_fit spans_fit
spans_length panes spans indices e =
    let fit = (both_pass (spans_fit panes spans) (all_below (λ i. ltb (get_or indices i 0) panes) (length indices)) e).0 in
    eqb-true (length spans) (2 * panes) (both_pass (eqb (length spans) (2 * panes)) (all_below (λ k. span_fits (span_at spans k)) panes) fit).0

-- ---- the side table by the number of leaves

side_none : (spans indices ws : List ℕ) (n limit : ℕ) (ordered : _) → n ≡ 0 → side_of spans indices ws n limit ordered ≡ []
unfolding side_of
side_none spans indices ws zero limit ordered e = refl
side_none spans indices ws (suc n) limit ordered e = absurd (omega arith)

side_there : (spans indices ws : List ℕ) (n limit : ℕ) (ordered : _) → 0 < n
    → side_of spans indices ws n limit ordered ≡ side_bytes spans indices (wide_tree_of ws ordered limit)
unfolding side_of
side_there spans indices ws zero limit ordered h = absurd (omega arith)
side_there spans indices ws (suc n) limit ordered h = refl

module _ (c : TimedCall) where
  abbrev u : Call
  u = c.untimed

  abbrev n : ℕ
  n = leaf_count u

  abbrev pub wide : Wide
  wide = wide_tree_of u.words u.ordered u.limit

  pub side_empty : n ≡ 0 → defined_side c ≡ []
  side_empty = side_none c.spans u.indices u.words n u.limit u.ordered

  pub side_is : 0 < n → defined_side c ≡ side_bytes c.spans u.indices wide
  side_is = side_there c.spans u.indices u.words n u.limit u.ordered

  -- ---- the untimed conversion is not refused
  module _ (m d : ℕ) (answers : (conversion_of u).answer ≡ converted m d) where
    pub converts : Converts u m d
    converts = answered u m d answers

    pub no_cause : conversion_cause u ≡ 0
    no_cause = cause_none u (convertible_none u converts.none) converts.low

    module _ (some : 0 < n) where
      pub tree : Decoded u.words n
      tree = (accepted_decoded u.words n some).0 converts.none.accepted

      pub of_tree : There u.words n u.limit u.ordered
      of_tree = there u.words n u.limit u.ordered some

      pub nodes_are : m ≡ nodes wide
      nodes_are = converts.nodes ∙ of_tree.nodes

      pub nodes_few : m ≤ max 1 (n - 1)
      nodes_few = omega (arith, nodes_are, node-count u.ordered u.limit u.words n tree converts.none.small)

      pub side_fits : side_size n ≤ length c.side → 16 * m ≤ length c.side
      side_fits h = let few = nodes_few in omega (arith, side_some n some)

      -- each position of the index list is a leaf's
      position_low : (i : ℕ) → i < index_count wide → get_or (index_list wide) i 0 < n
      position_low i h = go (dec_lt (get_or (index_list wide) i 0) n)
        where
          go : Dec (get_or (index_list wide) i 0 < n) → get_or (index_list wide) i 0 < n
          go (yes l) = l
          go (no l) =
              let each = (perm_upto (index_list wide) n).0 (index_upto u.ordered u.limit u.words n tree) in
              let none = each.1 (get_or (index_list wide) i 0) (omega arith) in
              absurd (omega (arith, none, stands_in (index_list wide) i (omega (arith, index_length wide))))

      module _ (fits : panes_fit c.panes c.spans u.indices ≡ true) where
        pub span_there : (i : ℕ) → i < index_count wide → 2 * get_or (written wide u.indices) i 0 + 1 < length c.spans
        span_there i h =
            let p = get_or (index_list wide) i 0 in
            let word : get_or (written wide u.indices) i 0 ≡ get_or u.indices p 0 =
            get_or-map (λ (q : ℕ). get_or u.indices q 0) (index_list wide) i 0 0 (omega (arith, index_length wide)) in
            omega (arith, word, pane_named c.panes c.spans u.indices fits p (position_low i h), spans_length c.panes c.spans u.indices fits)

        -- its record and its index list are as the side table is written from
        unfoldable pub laid : (bytes list : List ℕ) → bytes ≡ (conversion_of u).bytes → list ≡ (conversion_of u).list → Laid bytes list c.spans m
        unfolding wide_of index_list_of
        laid bytes list e f =
            laid_in_front wide u.indices bytes list c.spans u.bytes u.list m
            (small_leaves (placing u.ordered) u.limit converts.none.small (tree_of u.words))
            (branching (placing u.ordered) u.limit (places u.ordered) (tree_of u.words) (fine u.words n tree))
            (let few = nodes_few in omega (arith, nodes_are, tree.few))
            (omega (arith, index_count_lem u.ordered u.limit u.words n tree, tree.few))
            nodes_are (e ∙ converts.record_is ∙ ap (splice u.bytes 0) of_tree.bytes)
            (f ∙ converts.list_is ∙ ap (λ (ps : List ℕ). splice u.list 0 (words_at u.indices ps)) of_tree.list) span_there
