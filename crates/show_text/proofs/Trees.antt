-- The conversion of a tree with room to spare: its cause of refusal does not depend on the lent slices, and what it writes has the sizes of the tree.
use mathlib.Core.Path.{◌≡◌, sym, ap, ◌∙◌}
use mathlib.Core.Bool.{Bool}
use mathlib.Core.List.{List, [], ◌∷◌, ◌++◌}
use Prim.Native.Nat.{ℕ, zero, suc, ◌+◌, ◌*◌, ◌≤◌, ◌<◌}
use native.Mathlib.Omega.{arith}
use lib.Dec.{leb}
use lib.Ieee.{Float}
use lib.ListN.{length}
use Rattle.lists.specs.Splice.{splice}
use Rattle.causes.specs.Causes.{◌unless◌, first_cause}
use Rattle.bvh2.specs.Causes.{Accepted}
use Rattle.bvh2.specs.FirstCause.{size_conditions, structure_conditions}
use Rattle.bvh2.proofs.Decoded.{accepted_decoded}
use Rattle.wide_tree.proofs.Ordered.{node-count}
use Rattle.bvh2_tables.specs.Call.{Call, leaf_count, Lengths, lengths_of}
use Rattle.bvh2_tables.specs.Tables.{table_size, record_size, prepare_conditions}
use Rattle.bvh2_tables.proofs.Room.{room_enough}
use Rattle.bvh2_to_cwbvh.specs.Conversion.{nodes_of, level_of, defined_record, defined_nodes, defined_list, Convertible}
use Rattle.bvh2_to_cwbvh.specs.Conversion.{conversion_conditions, conversion_cause, Outcome, conversion_of}
use Rattle.std.specs.Prelude.{Result, Ok, Err}
use Rattle.causes.specs.declared.Refusal.{Refusal}
use Rattle.causes.specs.Refusal.{cause_number}
use Rattle.bvh2_to_cwbvh.specs.declared.Converted.{Converted}
use Rattle.bvh2_to_cwbvh.specs.Answer.{conversion_answer, outcome_of}
use Rattle.bvh2_to_cwbvh.proofs.Endings.{cause_none}
use Rattle.bvh2_to_cwbvh.proofs.Answers as A
use Rattle.bvh2_to_cwbvh.proofs.Sizes.{bytes-length, list_length}
use Rattle.show_text.specs.ShowText.{most_leaves, needed, roomy_cause}
use Rattle.show_text.specs.Room.{TextRoom}

-- ---- the cause

module _ (ws : List ℕ) (n limit : ℕ) (ordered : Bool) where
  -- longer slices change nothing
  roomy : (l : Lengths) → table_size n ≤ l.decisions → table_size n ≤ l.costs → record_size n ≤ l.bytes → n ≤ l.list
      → first_cause (conversion_conditions ws n limit ordered l) ≡ roomy_cause ws n limit ordered
  unfolding conversion_conditions prepare_conditions
  roomy l h g k m =
      ap by (room_enough n l h g k m ∙ sym (room_enough n (needed n) (omega arith) (omega arith) (omega arith) (omega arith)))
    where
      by : Bool → ℕ
      by q =
          first_cause
          (size_conditions (length ws) n ++ 3 unless leb limit 3 ∷ 4 unless q ∷ structure_conditions ws n
          ++ 8 unless leb (level_of ws n limit ordered) 31 ∷ [])

-- the record bytes of up to 256 leaves
size_most : (n : ℕ) → n ≤ most_leaves → record_size n ≤ 80 * 255
unfolding record_size
size_most zero h = omega arith
size_most (suc k) h = omega arith

-- ---- the sizes of what is written

-- a record of m nodes, and a list of n index words
pub record Sizes (c : Call) : Type 0 where
  pub nodes_most : defined_nodes c ≤ 255
  pub bytes-length : length (defined_record c) ≡ 80 * defined_nodes c
  pub list_length : length (defined_list c) ≡ leaf_count c

few_nodes : (ws : List ℕ) (n limit : ℕ) (ordered : Bool) → n ≤ most_leaves → Accepted ws n → limit ≤ 3 → nodes_of ws n limit ordered ≤ 255
unfolding nodes_of
few_nodes ws zero limit ordered few h small = omega arith
few_nodes ws (suc k) limit ordered few h small =
    omega (arith, node-count ordered limit ws (suc k) ((accepted_decoded ws (suc k) (omega arith)).0 h) small)

sizes : (c : Call) → leaf_count c ≤ most_leaves → Convertible c → Sizes c
sizes c few h = record {
  nodes_most = few_nodes c.words (leaf_count c) c.limit c.ordered few h.accepted h.small;
  bytes-length = bytes-length c.words c.limit c.ordered (leaf_count c);
  list_length = list_length c.words c.limit c.ordered c.indices h.accepted;
}

-- ---- the outcome

module _ (c : Call) (out : ℕ) (few : leaf_count c ≤ most_leaves)
    (room : TextRoom (length c.decisions) (length c.costs) (length c.bytes) (length c.list) out) where
  -- the cause is that of slices as long as they have to be
  cause_roomy : conversion_cause c ≡ roomy_cause c.words (leaf_count c) c.limit c.ordered
  cause_roomy =
      roomy c.words (leaf_count c) c.limit c.ordered (lengths_of c)
      (omega arith)
      (omega arith)
      (omega (arith, size_most (leaf_count c) few))
      (omega arith)

  -- a conversion that is not refused
  pub record Converts (m : ℕ) (bytes₁ list₁ : List ℕ) : Type 0 where
    pub none : roomy_cause c.words (leaf_count c) c.limit c.ordered ≡ 0
    pub nodes_are : m ≡ defined_nodes c
    pub bytes_are : bytes₁ ≡ splice c.bytes 0 (defined_record c)
    pub list_is : list₁ ≡ splice c.list 0 (defined_list c)
    pub sizes_are : Sizes c

  module _ (v : Result Converted Refusal) (ds₁ : List ℕ) (cs₁ : List Float) (bytes₁ list₁ : List ℕ)
      (e : outcome_of v ds₁ cs₁ bytes₁ list₁ ≡ conversion_of c) where
    answer_is : conversion_answer v ≡ (conversion_of c).answer
    answer_is = ap (λ (o : Outcome). o.answer) e

    pub converts : (d : Converted) → v ≡ Ok d → Converts d.nodes bytes₁ list₁
    unfolding conversion_answer
    converts d q =
        let r = A.answered c d.nodes d.level (sym answer_is ∙ ap conversion_answer q) in
        record {
          none = sym cause_roomy ∙ cause_none c (A.convertible_none c r.none) r.low;
          nodes_are = r.nodes;
          bytes_are = ap (λ (o : Outcome). o.bytes) e ∙ r.record_is;
          list_is = ap (λ (o : Outcome). o.list) e ∙ r.list_is;
          sizes_are = sizes c few r.none;
        }

    -- the number of a refusal is that of the cause
    pub refuses : (f : Refusal) → v ≡ Err f → (roomy_cause c.words (leaf_count c) c.limit c.ordered ≡ cause_number f) × (0 < cause_number f)
    unfolding conversion_answer
    refuses f q = let h = (A.refused_cause c (cause_number f)).0 (sym answer_is ∙ ap conversion_answer q) in (sym cause_roomy ∙ h.0, h.1)

  -- what the printing of a record asks
  pub print_ready : (m : ℕ) (bytes₁ list₁ : List ℕ) → Converts m bytes₁ list₁ → length bytes₁ ≡ length c.bytes → length list₁ ≡ length c.list
      → ((80 * m ≤ length bytes₁) × (m ≤ 65535) × (leaf_count c ≤ length list₁)) × (167 * m + 11 * leaf_count c + 8 ≤ out)
  print_ready m bytes₁ list₁ h b l = omega (arith, h.nodes_are, h.sizes_are.nodes_most)
