-- A leaf limit of 0 acts as 1 (01, "Corners of each file", bvh2_to_cwbvh.rs), in all that a conversion answers and leaves.
use mathlib.Core.Bool.{Bool}
use mathlib.Core.List.{List, [], ◌∷◌, ◌++◌}
use mathlib.Core.Path.{◌≡◌, refl, ap, ap₂, ◌∙◌, fun_ext}
use Prim.Native.Nat.{ℕ, zero, suc}
use lib.Dec.{leb}
use lib.ListN.{length}
use Rattle.float.specs.Compare.{plus_zero}
use Rattle.causes.specs.Causes.{◌unless◌, first_cause}
use Rattle.bvh2.specs.Tree.{Tree, leaf, inner, box_of}
use Rattle.bvh2.specs.Words.{tree_of}
use Rattle.cost.specs.Table.{Decision, word, word_of, cost_of}
use Rattle.cost.proofs.Splits.{limit_zero}
use Rattle.lists.specs.At.{words_at}
use Rattle.wide_tree.specs.WideTree.{Placing, Child, filled_slots, wide_children, wide_of}
use Rattle.wide_tree.specs.Ordered.{placing, wide_tree_of}
use Rattle.bvh2_tables.specs.Call.{Call, leaf_count, lengths_of}
use Rattle.bvh2_tables.specs.Tables.{prepare_conditions, work_after}
use Rattle.bvh2_to_cwbvh.specs.Conversion.{record_of, nodes_of, level_of, output_positions, index_list_of}
use Rattle.bvh2_to_cwbvh.specs.Conversion.{conversion_conditions, conversion_cause, converted, answer_for, output_after, outcome_for, conversion_of}
use Rattle.demands.specs.Call.{with_limit}

-- ---- the tables, and the wide tree
words_zero : word_of {A = ℕ} 0 ≡ word_of 1
words_zero = fun_ext (λ t. fun_ext (λ i. ap word (limit_zero t i)))

costs_zero : cost_of {A = ℕ} 0 ≡ cost_of 1
costs_zero = fun_ext (λ t. fun_ext (λ i. ap (λ (d : Decision). d.cost) (limit_zero t i)))

children-zero : {A : Type 0} (place : Placing) (t : Tree A) (i : ℕ) → wide_children place 0 t i ≡ wide_children place 1 t i
unfolding wide_children
children-zero place (leaf v box p) i = refl
children-zero place (inner v box a b) i = simp (limit_zero, children-zero place a, children-zero place b)

wide_zero : (ws : List ℕ) (ordered : Bool) → wide_tree_of ws ordered 0 ≡ wide_tree_of ws ordered 1
unfolding wide_of
wide_zero ws ordered =
    let box = box_of (tree_of ws) in
    ap (λ (cs : List Child). record { box = box; slots = filled_slots (placing ordered) box cs }) (children-zero (placing ordered) (tree_of ws) 0)

-- ---- what an accepted tree becomes
record Same (ws : List ℕ) (n : ℕ) (ordered : Bool) : Type 0 where
  bytes : record_of ws n 0 ordered ≡ record_of ws n 1 ordered
  nodes : nodes_of ws n 0 ordered ≡ nodes_of ws n 1 ordered
  level : level_of ws n 0 ordered ≡ level_of ws n 1 ordered
  positions : output_positions ws n 0 ordered ≡ output_positions ws n 1 ordered

same : (ws : List ℕ) (n : ℕ) (ordered : Bool) → Same ws n ordered
unfolding record_of nodes_of level_of output_positions
same ws zero ordered = record { bytes = refl; nodes = refl; level = refl; positions = refl }
same ws (suc n) ordered = let e = wide_zero ws ordered in record { bytes = rw e; nodes = rw e; level = rw e; positions = rw e }

list_zero : (ws indices : List ℕ) (ordered : Bool) → index_list_of ws indices 0 ordered ≡ index_list_of ws indices 1 ordered
unfolding index_list_of
list_zero ws indices ordered = ap (words_at indices) (same ws (length indices) ordered).positions

-- ---- the cause and the answer
cause_zero : (c : Call) → conversion_cause (with_limit 0 c) ≡ conversion_cause (with_limit 1 c)
unfolding conversion_conditions prepare_conditions
cause_zero c =
    ap (λ (x : ℕ). first_cause (prepare_conditions c.words (leaf_count c) 1 (lengths_of c) ++ 8 unless leb x 31 ∷ []))
    (same c.words (leaf_count c) c.ordered).level

answer_zero : (c : Call) (k : ℕ) → answer_for (with_limit 0 c) k ≡ answer_for (with_limit 1 c) k
unfolding answer_for
answer_zero c zero =
    let e = same c.words (leaf_count c) c.ordered in ap₂ (λ (m d : ℕ). converted m d) e.nodes e.level
answer_zero c (suc k) = refl

-- ---- the whole outcome: the answer and the four lent slices
outcome_zero : (c : Call) (k : ℕ) → outcome_for (with_limit 0 c) k ≡ outcome_for (with_limit 1 c) k
unfolding outcome_for
outcome_zero c k =
    let n = leaf_count c in
    let e = same c.words n c.ordered in
    λ i. record {
      answer = answer_zero c k i;
      decisions = work_after 0 (words_zero i) c.words n k c.decisions;
      costs = work_after plus_zero (costs_zero i) c.words n k c.costs;
      bytes = output_after k (e.bytes i) c.bytes;
      list = output_after k (list_zero c.words c.indices c.ordered i) c.list;
    }

pub limit_zero_as_one : (c : Call) → conversion_of (with_limit 0 c) ≡ conversion_of (with_limit 1 c)
unfolding conversion_of
limit_zero_as_one c = outcome_zero c (conversion_cause (with_limit 0 c)) ∙ ap (outcome_for (with_limit 1 c)) (cause_zero c)
