-- What is printed from the lent slices is the tree's text, whatever stands behind the record and the list.
use mathlib.Core.Path.{◌≡◌, refl, sym, ap, ap₂, ◌∙◌}
use mathlib.Core.List.{List, ◌++◌}
use Prim.Native.Nat.{ℕ, zero, suc, ◌+◌, ◌*◌, ◌≤◌, ◌<◌}
use native.Mathlib.Omega.{arith}
use lib.Ieee.{Float}
use lib.ListN.{length, take, drop, length-take, length-drop}
use lib.Seq.{take-append-le, drop-append-le}
use Rattle.lists.specs.Splice.{splice}
use Rattle.lists.proofs.Splice.{splice_taken}
use Rattle.show.specs.Show.{node_line, node_lines, indices_line, record_text, refusal_text}
use Rattle.bvh2_tables.specs.Call.{Call, leaf_count}
use Rattle.bvh2_to_cwbvh.specs.Conversion.{defined_record, defined_nodes, defined_list, conversion_of}
use Rattle.std.specs.Prelude.{Result, Err}
use Rattle.causes.specs.declared.Refusal.{Refusal}
use Rattle.causes.specs.Refusal.{cause_number}
use Rattle.bvh2_to_cwbvh.specs.declared.Converted.{Converted}
use Rattle.bvh2_to_cwbvh.specs.Answer.{outcome_of}
use Rattle.show_text.specs.ShowText.{most_leaves, cause_text, tree_text}
use Rattle.show_text.specs.Room.{TextRoom}
use Rattle.show_text.proofs.Trees.{Converts, refuses}

-- ---- what follows the nodes is not printed
node_front : (a rest : List ℕ) (i : ℕ) → 80 * i + 80 ≤ length a → take 80 (drop (80 * i) (a ++ rest)) ≡ take 80 (drop (80 * i) a)
node_front a rest i h =
    ap (take 80) (drop-append-le (80 * i) a rest (omega arith))
    ∙ take-append-le 80 (drop (80 * i) a) rest (omega (arith, length-drop (80 * i) a))

lines_front : (a rest : List ℕ) (k i : ℕ) → 80 * (i + k) ≤ length a → node_lines (a ++ rest) i k ≡ node_lines a i k
unfolding node_lines
lines_front a rest zero i h = refl
lines_front a rest (suc k) i h =
    ap₂ (λ (x y : List ℕ). node_line i x ++ y) (node_front a rest i (omega arith)) (lines_front a rest k (suc i) (omega arith))

lines_written : (s a : List ℕ) (m : ℕ) → length a ≡ 80 * m → node_lines (splice s 0 a) 0 m ≡ node_lines a 0 m
unfolding splice
lines_written s a m e = lines_front a (drop (0 + length a) s) m 0 (omega arith)

record_written : (s a t l : List ℕ) (m n : ℕ) → length a ≡ 80 * m → length l ≡ n → record_text (splice s 0 a) m (take n (splice t 0 l))
    ≡ record_text a m l
unfolding record_text
record_written s a t l m n e f = ap₂ (λ (x y : List ℕ). x ++ indices_line y) (lines_written s a m e) (splice_taken t l n f)

-- what was written is the text, and r is its length
abbrev pub Wrote : List ℕ → List ℕ → ℕ → List ℕ → Type 0
Wrote s text r t = (r ≡ length text) × (t ≡ splice s 0 text)

pub wrote_fits : (s text : List ℕ) (r : ℕ) (t : List ℕ) → Wrote s text r t → r ≤ length t
wrote_fits s text r t h =
    let e : take (length text) t ≡ text = ap (take (length text)) h.1 ∙ splice_taken s text (length text) refl in
    omega (arith, h.0, ap length e, length-take (length text) t)

module _ (c : Call) (out : ℕ) (few : leaf_count c ≤ most_leaves)
    (room : TextRoom (length c.decisions) (length c.costs) (length c.bytes) (length c.list) out) where
  -- the record and the list, as they are printed
  pub record_shown : (m : ℕ) (bytes₁ list₁ : List ℕ) → Converts c out few room m bytes₁ list₁
      → record_text bytes₁ m (take (leaf_count c) list₁) ≡ tree_text c.words c.indices c.limit c.ordered
  unfolding tree_text cause_text
  record_shown m bytes₁ list₁ h =
      let b = defined_record c in
      let l = defined_list c in
      let w = record_written c.bytes b c.list l (defined_nodes c) (leaf_count c) h.sizes_are.bytes-length h.sizes_are.list_length in
      ap₂ (λ (x y : List ℕ). record_text x m (take (leaf_count c) y)) h.bytes_are h.list_is
      ∙ ap (λ (k : ℕ). record_text (splice c.bytes 0 b) k (take (leaf_count c) (splice c.list 0 l))) h.nodes_are
      ∙ w ∙ ap (cause_text c.words c.indices c.limit c.ordered) (sym h.none)

  -- the number of the cause
  pub refusal_shown : (v : Result Converted Refusal) (ds₁ : List ℕ) (cs₁ : List Float) (bytes₁ list₁ : List ℕ)
      → outcome_of v ds₁ cs₁ bytes₁ list₁ ≡ conversion_of c → (f : Refusal) → v ≡ Err f
      → refusal_text (cause_number f) ≡ tree_text c.words c.indices c.limit c.ordered
  unfolding tree_text cause_text
  refusal_shown v ds₁ cs₁ bytes₁ list₁ e f q =
      let h = refuses c out few room v ds₁ cs₁ bytes₁ list₁ e f q in
      number (cause_number f) h.1 ∙ ap (cause_text c.words c.indices c.limit c.ordered) (sym h.0)
    where
      number : (k : ℕ) → 0 < k → refusal_text k ≡ cause_text c.words c.indices c.limit c.ordered k
      number zero h = absurd (omega arith)
      number (suc k) h = refl
