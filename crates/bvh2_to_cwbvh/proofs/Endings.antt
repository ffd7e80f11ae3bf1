-- The four ways in which a conversion ends, and the outcome of each.
use mathlib.Core.Path.{◌≡◌, refl, sym, ap, ap₂, subst, ◌∙◌}
use mathlib.Core.Bool.{Bool}
use mathlib.Core.List.{List, [], ◌∷◌}
use Prim.Native.Nat.{ℕ, zero, suc, ◌^◌, ◌≤◌, ◌<◌}
use native.Mathlib.Omega.{arith}
use lib.Dec.{leb}
use lib.ListN.{length}
use lib.Ieee.{Float}
use borrow.Author.Tests.{le-leb, lt-leb}
use Rattle.float.specs.Compare.{plus_zero}
use Rattle.lists.specs.At.{words_at}
use Rattle.lists.specs.Splice.{splice}
use Rattle.lists.proofs.Splice.{splice_none}
use Rattle.causes.specs.Causes.{Condition, ◌unless◌, first_cause}
use Rattle.causes.proofs.Causes.{first_here, passed_none, append_first, append_later}
use Rattle.bvh2.specs.Tree.{Tree}
use Rattle.bvh2.specs.Words.{tree_of}
use Rattle.bvh2.specs.Decoded.{Decoded}
use Rattle.bvh2.proofs.Decoded.{accepted_decoded}
use Rattle.cost.specs.Table.{word_of, cost_of}
use Rattle.cost.specs.Rows.{RowsHold}
use Rattle.children.specs.declared.branch.Branch.{Branch}
use Rattle.children.specs.Branches.{subtree_of}
use Rattle.children.specs.Tabled.{most_edges, subtree_at, Tabled}
use Rattle.children.proofs.Deeper.{tree_most}
use Rattle.wide_layout.specs.Layout as W
use Rattle.wide_tree.specs.Ordered.{wide_tree, wide_tree_of}
use Rattle.record.specs.Record.{record_bytes}
use Rattle.emit_tree.specs.declared.Next.{Next}
use Rattle.emit_tree.specs.Emission.{EmitTree, Emitted}
use Rattle.emit_tree.proofs.WholeTree.{emit_most}
use Rattle.bvh2_tables.specs.Call.{Call, leaf_count, lengths_of}
use Rattle.bvh2_tables.specs.Tables.{table_size, prepare_conditions, cleared, work_after}
use Rattle.bvh2_tables.proofs.Causes.{prepare_passed}
use Rattle.bvh2_tables.proofs.Prepared.{prepared, work_length}
use Rattle.bvh2_tables.proofs.Refilled.{work_refilled}
use Rattle.bvh2_to_cwbvh.specs.Conversion.{record_of, nodes_of, level_of, output_positions, index_list_of, deepest_level, Convertible}
use Rattle.bvh2_to_cwbvh.specs.Conversion.{conversion_conditions, conversion_cause, ConversionAnswer, converted, refused, answer_for, output_after}
use Rattle.bvh2_to_cwbvh.specs.Conversion.{Outcome, outcome_for, conversion_of}
use Rattle.bvh2_to_cwbvh.proofs.Ready.{IsRoot, root_read, subtree, holds, room, tabled, whole}

-- ---- the first cause, from the causes up to 7
module _ (c : Call) where
  abbrev pub early : List Condition
  early = prepare_conditions c.words (leaf_count c) c.limit (lengths_of c)

  -- behind those
  abbrev pub last : List Condition
  last = 8 unless leb (deepest_level c) 31 ∷ []

  pub cause_early : (k : ℕ) → k ≡ first_cause early → (k ≡ 0 → ⊥) → conversion_cause c ≡ k
  unfolding conversion_conditions
  cause_early k e h = append_first early last (λ z. h (e ∙ z)) ∙ sym e

  module _ (none : first_cause early ≡ 0) where
    late : conversion_cause c ≡ first_cause last
    unfolding conversion_conditions
    late = append_later early last (prepare_passed c.words (leaf_count c) c.limit (lengths_of c) none)

    pub cause_none : deepest_level c ≤ 31 → conversion_cause c ≡ 0
    cause_none h = late ∙ passed_none last (le-leb (deepest_level c) 31 h, tt)

    pub cause_eight : 31 < deepest_level c → conversion_cause c ≡ 8
    cause_eight h = late ∙ first_here [] (lt-leb (deepest_level c) 31 h)

-- ---- what is written with and without leaves
record Nothing (ws : List ℕ) (n limit : ℕ) (ordered : Bool) : Type 0 where
  nodes : nodes_of ws n limit ordered ≡ 0
  level : level_of ws n limit ordered ≡ 0
  bytes : record_of ws n limit ordered ≡ []
  list : output_positions ws n limit ordered ≡ []

nothing : (ws : List ℕ) (n limit : ℕ) (ordered : Bool) → n ≡ 0 → Nothing ws n limit ordered
unfolding nodes_of level_of record_of output_positions
nothing ws zero limit ordered z = record { nodes = refl; level = refl; bytes = refl; list = refl }
nothing ws (suc n) limit ordered z = absurd (omega arith)

pub record There (ws : List ℕ) (n limit : ℕ) (ordered : Bool) : Type 0 where
  pub nodes : nodes_of ws n limit ordered ≡ W.nodes (wide_tree_of ws ordered limit)
  pub level : level_of ws n limit ordered ≡ W.level (wide_tree_of ws ordered limit)
  pub bytes : record_of ws n limit ordered ≡ record_bytes (wide_tree_of ws ordered limit)
  pub list : output_positions ws n limit ordered ≡ W.index_list (wide_tree_of ws ordered limit)

pub there : (ws : List ℕ) (n limit : ℕ) (ordered : Bool) → 0 < n → There ws n limit ordered
unfolding nodes_of level_of record_of output_positions
there ws zero limit ordered h = absurd (omega arith)
there ws (suc n) limit ordered h = record { nodes = refl; level = refl; bytes = refl; list = refl }

-- ---- the outcome for a cause
abbrev pub ended : ConversionAnswer → List ℕ → List Float → List ℕ → List ℕ → Outcome
ended a ds cs bytes list = record { answer = a; decisions = ds; costs = cs; bytes = bytes; list = list }

ends : (c : Call) (k : ℕ) (o : Outcome) → conversion_cause c ≡ k → o ≡ outcome_for c k → o ≡ conversion_of c
unfolding conversion_of
ends c k o e f = f ∙ ap (outcome_for c) (sym e)

refused_ends : (c : Call) (k : ℕ) (ds₁ : List ℕ) (cs₁ : List Float) → conversion_cause c ≡ k → (k ≡ 0 → ⊥)
    → ds₁ ≡ work_after 0 (word_of c.limit) c.words (leaf_count c) k c.decisions
    → cs₁ ≡ work_after plus_zero (cost_of c.limit) c.words (leaf_count c) k c.costs
    → ended (refused k) ds₁ cs₁ c.bytes c.list ≡ conversion_of c
unfolding outcome_for answer_for output_after
refused_ends c zero ds₁ cs₁ e h f g = absurd (h refl)
refused_ends c (suc k) ds₁ cs₁ e h f g =
    ends c (suc k) (ended (refused (suc k)) ds₁ cs₁ c.bytes c.list) e (λ i. ended (refused (suc k)) (f i) (g i) c.bytes c.list)

-- what the tables' pass ends with: the first of causes 1 to 7, and the working slices for it
pub record Prepares (c : Call) (k : ℕ) (ds₁ : List ℕ) (cs₁ : List Float) : Type 0 where
  pub cause : k ≡ first_cause (early c)
  pub decisions : ds₁ ≡ work_after 0 (word_of c.limit) c.words (leaf_count c) k c.decisions
  pub costs : cs₁ ≡ work_after plus_zero (cost_of c.limit) c.words (leaf_count c) k c.costs

-- causes 1 to 7
pub early_ends : {c : Call} {k : ℕ} {ds₁ : List ℕ} {cs₁ : List Float} → Prepares c k ds₁ cs₁ → (k ≡ 0 → ⊥)
    → ended (refused k) ds₁ cs₁ c.bytes c.list ≡ conversion_of c
early_ends {c} {k} {ds₁} {cs₁} p h = refused_ends c k ds₁ cs₁ (cause_early c k p.cause h) h p.decisions p.costs

-- none of them
module _ {c : Call} {ds₁ : List ℕ} {cs₁ : List Float} (p : Prepares c 0 ds₁ cs₁) where
  none : first_cause (early c) ≡ 0
  none = sym p.cause

  parts : Convertible c
  parts = prepared c.words (leaf_count c) c.limit (lengths_of c) none

  -- no leaf
  pub empty_ends : leaf_count c ≡ 0 → ended (converted 0 0) ds₁ cs₁ c.bytes c.list ≡ conversion_of c
  unfolding outcome_for answer_for output_after index_list_of
  empty_ends n =
      let e = nothing c.words (leaf_count c) c.limit c.ordered n in
      let a : converted 0 0 ≡ answer_for c 0 = sym (ap₂ converted e.nodes e.level) in
      let b = sym (splice_none c.bytes 0) ∙ ap (splice c.bytes 0) (sym e.bytes) in
      let l = sym (splice_none c.list 0) ∙ ap (λ (ps : List ℕ). splice c.list 0 (words_at c.indices ps)) (sym e.list) in
      ends c 0 (ended (converted 0 0) ds₁ cs₁ c.bytes c.list) (cause_none c none (omega (arith, e.level)))
      (λ i. ended (a i) (p.decisions i) (p.costs i) (b i) (l i))

  module _ (some : 0 < leaf_count c) where
    tree : Decoded c.words (leaf_count c)
    tree = (accepted_decoded c.words (leaf_count c) some).0 parts.accepted

    pub few_leaves : leaf_count c ≤ 65536
    few_leaves = tree.few

    -- the level pass and the emission have what they ask
    pub level_ready : Tabled c.words ds₁ 127 0
    level_ready = tabled c ds₁ some parts p.decisions

    pub emit_ready : (b : Branch) → IsRoot b c.words ds₁ → EmitTree b (leaf_count c) 127 c.ordered (length c.bytes) (length c.list)
    emit_ready = whole c ds₁ some parts p.decisions

    -- and what the level pass finds is the whole tree's
    pub level_found : {m : ℕ} → ((limit : ℕ) (ordered : Bool) → RowsHold (word_of limit) 0 ds₁ (subtree_at c.words 0)
        → m ≡ W.level (wide_tree ordered limit (subtree_at c.words 0)))
        → (limit : ℕ) (ordered : Bool) → RowsHold (word_of limit) 0 ds₁ (tree_of c.words) → m ≡ W.level (wide_tree_of c.words ordered limit)
    level_found {m} = subst (λ (t : Tree ℕ). (limit : ℕ) (ordered : Bool) → RowsHold (word_of limit) 0 ds₁ t
        → m ≡ W.level (wide_tree ordered limit t)) (tree_most (subtree c ds₁ some parts p.decisions))

    -- the tables have room to be cleared again
    pub words_room : table_size (leaf_count c) ≤ length ds₁
    words_room = room c ds₁ some parts p.decisions

    pub costs_room : table_size (leaf_count c) ≤ length cs₁
    costs_room =
        let r = parts.costs in
        omega (arith, work_length plus_zero (cost_of c.limit) c.words (leaf_count c) c.costs cs₁ some tree p.costs r, r)

    module _ (deepest : ℕ) (finds : (limit : ℕ) (ordered : Bool) → RowsHold (word_of limit) 0 ds₁ (tree_of c.words)
        → deepest ≡ W.level (wide_tree_of c.words ordered limit)) where
      found : deepest ≡ deepest_level c
      found =
          finds c.limit c.ordered (holds c ds₁ some parts p.decisions)
          ∙ sym (there c.words (leaf_count c) c.limit c.ordered some).level

      -- a level over 31: the tables are cleared again
      pub deep_ends : (ds₂ : List ℕ) (cs₂ : List Float) → 31 < deepest → ds₂ ≡ cleared 0 (table_size (leaf_count c)) ds₁
          → cs₂ ≡ cleared plus_zero (table_size (leaf_count c)) cs₁ → ended (refused 8) ds₂ cs₂ c.bytes c.list ≡ conversion_of c
      deep_ends ds₂ cs₂ h f g =
          refused_ends c 8 ds₂ cs₂ (cause_eight c none (omega (arith, found, h))) (λ q. omega (arith, q))
          (work_refilled 0 (word_of c.limit) c.words (leaf_count c) c.decisions ds₁ ds₂ some tree p.decisions f)
          (work_refilled plus_zero (cost_of c.limit) c.words (leaf_count c) c.costs cs₁ cs₂ some tree p.costs g)

      -- what the emission ends with
      abbrev pub Emits : Branch → List ℕ → List ℕ → Next → Type 0
      Emits b bytes₁ list₁ x =
          (h : EmitTree b (leaf_count c) most_edges c.ordered (length c.bytes) (length c.list))
          → Emitted c.indices (wide_tree c.ordered h.at.limit (subtree_of b)) c.bytes c.list bytes₁ list₁ x

      emits : (b : Branch) → IsRoot b c.words ds₁ → (bytes₁ list₁ : List ℕ) (x : Next) → Emits b bytes₁ list₁ x
          → Emitted c.indices (wide_tree_of c.words c.ordered c.limit) c.bytes c.list bytes₁ list₁ x
      unfolding whole emit_most
      emits b r bytes₁ list₁ x emitted =
          rw (root_read c ds₁ some parts p.decisions r) at (emitted (emit_most (whole c ds₁ some parts p.decisions b r)))

      -- converted
      pub written_ends : deepest ≤ 31 → (b : Branch) → IsRoot b c.words ds₁ → (bytes₁ list₁ : List ℕ) (x : Next) → Emits b bytes₁ list₁ x
          → ended (converted x.nodes deepest) ds₁ cs₁ bytes₁ list₁ ≡ conversion_of c
      unfolding outcome_for answer_for output_after index_list_of
      written_ends h b r bytes₁ list₁ x emitted =
          let r = emits b r bytes₁ list₁ x emitted in
          let t = there c.words (leaf_count c) c.limit c.ordered some in
          let a : converted x.nodes deepest ≡ answer_for c 0 = ap₂ converted (r.nodes_are ∙ sym t.nodes) found in
          let b = r.bytes_are ∙ ap (splice c.bytes 0) (sym t.bytes) in
          let l = r.list_is ∙ ap (λ (ps : List ℕ). splice c.list 0 (words_at c.indices ps)) (sym t.list) in
          ends c 0 (ended (converted x.nodes deepest) ds₁ cs₁ bytes₁ list₁) (cause_none c none (omega (arith, found, h)))
          (λ i. ended (a i) (p.decisions i) (p.costs i) (b i) (l i))

      -- the node count fits a word
      pub nodes_fit : (b : Branch) → IsRoot b c.words ds₁ → (bytes₁ list₁ : List ℕ) (x : Next) → Emits b bytes₁ list₁ x → x.nodes < 2 ^ 32
      nodes_fit b r bytes₁ list₁ x emitted = let h = emit_most (emit_ready b r) in rw (emitted h).nodes_are h.few
