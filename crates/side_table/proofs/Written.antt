-- Writing the table: a node's spans slot by slot, and the nodes from the last to the first.
use mathlib.Core.List.{List, [], ◌∷◌, ◌++◌, append_assoc}
use mathlib.Core.Path.{◌≡◌, refl, sym, ap, ◌∙◌}
use Prim.Native.Nat.{ℕ, ◌+◌, ◌*◌, ◌≤◌, ◌<◌}
use native.Mathlib.Decide.{dec_lt}
use native.Mathlib.Nat.{zero-add}
use native.Mathlib.Numerals.{add-one}
use native.Mathlib.Omega.{arith}
use lib.ListN.{length, get_or, set, take, length-append, length-set}
use Rattle.std.proofs.lemmas.List.{take_all}
use lib.Seq.{ext_get_or}
use Rattle.lists.proofs.Counts.{Same, equal, apart, same?}
use Rattle.lists.specs.Splice.{splice}
use Rattle.lists.proofs.Splice.{length-splice, splice_in, splice_after, set-splice, written_next, splice_taken}
use Rattle.span.specs.declared.Span.{Span}
use Rattle.wide_layout.specs.Wide.{Wide}
use Rattle.wide_layout.specs.Layout.{nodes}
use Rattle.wide_layout.specs.Shape.{layout_entry}
use Rattle.record.specs.Record.{joined_below}
use Rattle.record.proofs.Joined.{joined_length, place}
use Rattle.side_table.specs.SideTable.{span_bytes, node_spans, side_bytes}
use Rattle.side_table.specs.Laid.{StandFrom}
use Rattle.side_table.proofs.Table.{node_length, side_length, side_stands}

-- ---- a node

module _ (f : ℕ → Span) (s : List ℕ) (size : length s ≡ 16) where
  abbrev front : ℕ → List ℕ
  front k = joined_below k (λ i. span_bytes (f i))

  front_length : (k : ℕ) → length (front k) ≡ 2 * k
  front_length = joined_length 2 (λ i. span_bytes (f i)) (λ i. refl)

  -- one span more behind the first k
  pub span_written : (k : ℕ) → k < 8 → (b : List ℕ) (x : Span) → b ≡ splice s 0 (front k) → x ≡ f k
      → set (set b (2 * k) x.first) (2 * k + 1) x.last ≡ splice s 0 (front (k + 1))
  unfolding joined_below
  span_written k l b x e q =
      let b₁ = set b (2 * k) x.first in
      let first = x.first ∷ [] in
      let last = x.last ∷ [] in
      let long : length b ≡ 16 = ap length e ∙ length-splice s 0 (front k) (omega (arith, front_length k)) ∙ size in
      let long₁ : length b₁ ≡ 16 = length-set b (2 * k) x.first ∙ long in
      let w₁ : b₁ ≡ splice s 0 (front k ++ first) =
      written_next s 0 (2 * k) 1 (front k) first b b₁ (front_length k) refl (omega arith) e
      (set-splice b (2 * k) x.first (omega arith) ∙ ap (λ (i : ℕ). splice b i first) (sym (zero-add (2 * k)))) in
      written_next s 0 (2 * k + 1) 1 (front k ++ first) last b₁ (set b₁ (2 * k + 1) x.last)
      (length-append (front k) first ∙ ap (λ (i : ℕ). i + 1) (front_length k)) refl (omega arith) w₁
      (set-splice b₁ (2 * k + 1) x.last (omega arith) ∙ ap (λ (i : ℕ). splice b₁ i last) (sym (zero-add (2 * k + 1))))
      ∙ ap (splice s 0) (append_assoc (front k) first last ∙ ap (λ (y : Span). front k ++ span_bytes y) q ∙ ap front (sym (add-one k)))

  -- all eight
  pub spans_written : (b : List ℕ) → b ≡ splice s 0 (front 8) → b ≡ front 8
  spans_written b e =
      let long : length b ≤ 16 = omega (arith, ap length e, length-splice s 0 (front 8) (omega (arith, front_length 8))) in
      sym (take_all 16 b long) ∙ ap (take 16) e ∙ splice_taken s (front 8) 16 (front_length 8)

-- ---- the table

-- Of the table of a wide tree, written over an old list, the nodes from v on stand, and what lies behind the table is as it was.
pub record Filled (spans indices : List ℕ) (t : Wide) (old side : List ℕ) (v : ℕ) : Type 0 where
  pub stand : StandFrom spans indices t side v
  pub rest : (i : ℕ) → 16 * nodes t ≤ i → get_or side i 0 ≡ get_or old i 0

module _ (spans indices : List ℕ) (t : Wide) (old : List ℕ) where
  pub fill_begun : Filled spans indices t old old (nodes t)
  fill_begun = record { stand = λ u h l. absurd (omega arith); rest = λ i h. refl }

module _ (spans indices : List ℕ) (t : Wide) (old : List ℕ) (room : 16 * nodes t ≤ length old) where
  -- node v before those behind it
  module _ (v : ℕ) (there : v < nodes t) (side : List ℕ) (long : length side ≡ length old) where
    pub fill_next : (b : List ℕ) → b ≡ node_spans spans indices (layout_entry t v) → Filled spans indices t old side (v + 1)
        → Filled spans indices t old (splice side (16 * v) b) v
    fill_next b e f =
        let size : length b ≡ 16 = ap length e ∙ node_length spans indices (layout_entry t v) in
        let fits : 16 * v + length b ≤ length side = omega arith in record {
          stand = λ u h l j k. pick u h l j k (same? u v) size fits;
          rest = λ i h. splice_after side (16 * v) b fits i 0 (omega arith) ∙ f.rest i h;
        }
      where
        pick : (u : ℕ) → v ≤ u → u < nodes t → (j : ℕ) → j < 16 → Same u v → length b ≡ 16 → 16 * v + length b ≤ length side
            → get_or (splice side (16 * v) b) (16 * u + j) 0 ≡ get_or (node_spans spans indices (layout_entry t u)) j 0
        pick u h l j k (equal d n) size fits =
            ap (λ (x : ℕ). get_or (splice side (16 * v) b) (16 * x + j) 0) d ∙ splice_in side (16 * v) b fits j 0 (omega arith)
            ∙ ap (λ (x : List ℕ). get_or x j 0) e ∙ ap (λ (x : ℕ). get_or (node_spans spans indices (layout_entry t x)) j 0) (sym d)
        pick u h l j k (apart d n) size fits =
            let q : ¬ (u ≡ v) = d in
            splice_after side (16 * v) b fits (16 * u + j) 0 (omega arith) ∙ f.stand u (omega arith) l j k

  -- all nodes
  abbrev table : List ℕ
  table = side_bytes spans indices t

  table_fits : 0 + length table ≤ length old
  table_fits = omega (arith, side_length spans indices t)

  byte_is : (side : List ℕ) → Filled spans indices t old side 0 → (i : ℕ) → Dec (i < 16 * nodes t)
      → get_or side i 0 ≡ get_or (splice old 0 table) i 0
  byte_is side f i (yes h) =
      let p = place 16 (nodes t) i h in
      let e = p.place_is in
      ap (λ (x : ℕ). get_or side x 0) (sym e) ∙ f.stand p.block (omega arith) p.below p.offset p.within
      ∙ sym (side_stands spans indices t p.block p.below p.offset p.within)
      ∙ sym (splice_in old 0 table table_fits (16 * p.block + p.offset) 0 (omega (arith, side_length spans indices t)))
      ∙ ap (λ (x : ℕ). get_or (splice old 0 table) x 0) (zero-add (16 * p.block + p.offset) ∙ e)
  byte_is side f i (no h) = f.rest i (omega arith) ∙ sym (splice_after old 0 table table_fits i 0 (omega (arith, side_length spans indices t)))

  pub fill_ended : (side : List ℕ) → length side ≡ length old → Filled spans indices t old side 0 → side ≡ splice old 0 (side_bytes spans indices t)
  fill_ended side long f =
      ext_get_or 0 side (splice old 0 table) (long ∙ sym (length-splice old 0 table table_fits))
      (λ i l. byte_is side f i (dec_lt i (16 * nodes t)))
