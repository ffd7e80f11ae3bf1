-- The third demand, conversion's half: no position is charged twice, and none is skipped. And the second: every convertible tree is answered with
-- the defined bytes, and a converted record is sound by the record check. All of the public call, its record as bytes and its index list as words.
use mathlib.Core.List.Perm
use mathlib.Core.List.{List, [], Perm}
use mathlib.Core.Logic.{◌↔◌}
use mathlib.Core.Path.{◌≡◌, subst, sym}
use Prim.Native.Nat.{ℕ, ◌+◌, ◌<◌, ◌≤◌}
use native.Mathlib.Decide.{dec_lt}
use native.Mathlib.Omega.{arith}
use lib.ListN.{get_or}
use Rattle.lists.specs.Counts.{count}
use Rattle.lists.proofs.Perms.{counts_perm}
use Rattle.soundness.specs.Shape.{Shape, ChildOf, Holds}
use Rattle.soundness.specs.Sound.{OneParent, OneHolder}
use Rattle.lists.specs.At.{words_at}
use Rattle.wide_layout.proofs.Index.{indices_rearranged}
use Rattle.node.specs.Node.{node_at}
use Rattle.record_shape.specs.Record.{node_count, nodes_at, shape_in, shape_at, SoundRecord, DeepestLevel}
use Rattle.record_shape.specs.Check.{sound, check_of}
use Rattle.record_shape.proofs.Tree.{node_parent, first_parent, position_holder, holds_below}
use Rattle.bvh2_to_cwbvh.specs.Conversion.{refused, conversion_of}
use Rattle.bvh2_to_cwbvh.proofs.Answers as A
use Rattle.demands.specs.Call.{Call, Answers, leaf_count, record_at, list_at, leaf_positions}
use Rattle.demands.specs.Call.{defined_record, defined_nodes, defined_list, deepest_level, Convertible}
use Rattle.demands.specs.Refusals.{LevelOver}
use Rattle.demands.specs.Children.{child_count, leaf_children}
use Rattle.demands.specs.Walks.{CheckedRecord}
use Rattle.demands.proofs.Words.{all_words_lem}
use Rattle.demands.proofs.Writes.{Writes, nothing, written}
use Rattle.demands.proofs.Answered.{record_is, list_is, writes, level_low, leaf_count_lem, leaf_each}
use Rattle.demands.proofs.Levels.{over_deepest}
use Rattle.demands.proofs.Sound.{good, good_check}
use Rattle.demands.proofs.Children.{at_most_eight, children_are}

-- ---- the conversion answers
-- An accepted tree with a limit to 3 and long enough slices is converted if no level is over 31,
pub converts : (c : Call) → Convertible c → deepest_level c ≤ 31 → Answers c (defined_nodes c) (deepest_level c)
converts = A.answers

-- and refused 8 exactly if one is:
pub refuses_deep : (c : Call) → Convertible c → (conversion_of c).answer ≡ refused 8 ↔ 31 < deepest_level c
refuses_deep = A.refused_eight

-- that is, exactly if some node of the defined record has a level over 31, each level being the parent's plus 1,
pub refuses_level_over : (c : Call) → Convertible c → (conversion_of c).answer ≡ refused 8 ↔ LevelOver c
refuses_level_over c h = let r = refuses_deep c h in let o = over_deepest c h in (λ e. o.1 (r.0 e), λ l. r.1 (o.0 l))

-- and converted if none has.
pub converts_within_levels : (c : Call) → Convertible c → (LevelOver c → ⊥)
    → Answers c (defined_nodes c) (deepest_level c)
converts_within_levels c h none = go (dec_lt 31 (deepest_level c))
  where
    go : Dec (31 < deepest_level c) → Answers c (defined_nodes c) (deepest_level c)
    go (yes l) = absurd (none ((over_deepest c h).1 l))
    go (no l) = converts c h (omega arith)

module _ (c : Call) (m d : ℕ) (answers : Answers c m d) where
  -- the shape of the record that the call left
  abbrev shape : Shape
  shape = shape_at (record_at c m) (leaf_count c)

  -- A call that is answered was convertible, and its record and its index list are the defined ones.
  pub was_convertible : Convertible c
  was_convertible = (A.answered c m d answers).none

  pub writes_defined : (record_at c m ≡ defined_record c) × (list_at c ≡ defined_list c)
  writes_defined = (record_is c m d answers, list_is c m d answers)

  pub good_record : CheckedRecord (record_at c m) (leaf_count c) d
  good_record =
      subst (λ (n : ℕ). CheckedRecord (record_at c m) n d) (leaf_count_lem c was_convertible)
      (good _ c.indices (record_at c m) (list_at c) d (level_low c m d answers) (writes c m d answers))

  -- ---- positions
  -- Output positions are the numbers below the count of leaves. The leaf ranges take each of them exactly once,
  pub leaf_ranges_take_each_once : (x : ℕ) → x < leaf_count c → OneHolder shape x
  leaf_ranges_take_each_once = position_holder (nodes_at (record_at c m)) (leaf_count c) good_record.sound

  -- and no other.
  pub leaf_ranges_take_no_other : (i s x : ℕ) → Holds shape i s x → x < leaf_count c
  leaf_ranges_take_no_other = holds_below (nodes_at (record_at c m)) (leaf_count c) good_record.sound

  -- ---- the index list
  -- The index list is the tree leaves' indices rearranged,
  pub index_list_rearranges : Perm (list_at c) (words_at c.indices (leaf_positions c.words (leaf_count c)))
  index_list_rearranges = go (leaf_positions c.words (leaf_count c)) (record_at c m) (list_at c) (writes c m d answers)
    where
      go : (leaves bytes list : List ℕ) → Writes leaves c.indices bytes list d → Perm list (words_at c.indices leaves)
      go leaves bytes list (nothing l b x e) =
          subst (λ (y : List ℕ). Perm y (words_at c.indices leaves)) (sym x)
          (subst (λ (y : List ℕ). Perm [] (words_at c.indices y)) (sym l) (Perm.refl []))
      go leaves bytes list (written t h p b x e) =
          subst (λ (y : List ℕ). Perm y (words_at c.indices leaves)) (sym x)
          (Perm.trans (indices_rearranged t (λ q. get_or c.indices q 0)) (Perm.map (λ q. get_or c.indices q 0) p))

  -- each as often.
  pub index_list_as_often : (x : ℕ) → count x (list_at c) ≡ count x (words_at c.indices (leaf_positions c.words (leaf_count c)))
  index_list_as_often = (counts_perm (list_at c) (words_at c.indices (leaf_positions c.words (leaf_count c)))).0 index_list_rearranges

  -- Each index word's position is held by exactly one leaf, so these are all index words.
  pub index_list_rearranges_words : Perm (list_at c) c.indices
  index_list_rearranges_words =
      subst (λ (y : List ℕ). Perm (list_at c) y) (all_words_lem c.indices)
      (Perm.trans index_list_rearranges (Perm.map (λ q. get_or c.indices q 0) (leaf_each c was_convertible)))

  -- ---- parents and children
  -- Every node but the first has exactly one parent,
  pub one_parent : (v : ℕ) → 0 < v → v < node_count (record_at c m) → OneParent shape v
  one_parent = node_parent (nodes_at (record_at c m)) (leaf_count c) good_record.sound

  -- and the first has none.
  pub first_has_no_parent : (p : ℕ) → ChildOf shape p 0 → ⊥
  first_has_no_parent = first_parent (nodes_at (record_at c m)) (leaf_count c) good_record.sound

  -- No node has over eight children.
  pub eight-children : (v : ℕ) → v < node_count (record_at c m) → child_count (node_at (record_at c m) v) ≤ 8
  eight-children v l = at_most_eight (node_at (record_at c m) v)

  -- Its children are the nodes of its child range and the slots with a leaf range.
  pub children_nodes_and_leaves : (v : ℕ) → v < node_count (record_at c m)
      → child_count (node_at (record_at c m) v) ≡ shape.children v + leaf_children shape v
  unfolding shape_in
  children_nodes_and_leaves v l = children_are (nodes_at (record_at c m)) (leaf_count c) v (good_record.sound.rule v l)

  -- ---- soundness
  -- The record is sound with conversion's deepest level,
  pub converted_sound : SoundRecord (record_at c m) (leaf_count c) × DeepestLevel (record_at c m) (leaf_count c) d
  converted_sound = (good_record.sound, good_record.deepest)

  -- and so says the record check, given a working word for each node and each position.
  pub converted_checks : (words : ℕ) → node_count (record_at c m) + leaf_count c ≤ words → check_of (record_at c m) (leaf_count c) words ≡ sound d
  converted_checks words = good_check (record_at c m) (leaf_count c) d words good_record
