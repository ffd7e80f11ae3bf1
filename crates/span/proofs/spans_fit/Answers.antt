use mathlib.Core.Bool.{Bool, ◌&&◌}
use mathlib.Core.List.{List, []}
use mathlib.Core.Path.{◌≡◌, refl, sym, ap, ap₂, ◌∙◌}
use Prim.Native.Nat.{ℕ, zero, suc, ◌+◌, ◌*◌, ◌/◌, ◌≤◌, ◌<◌}
use native.Mathlib.Nat.{add-zero}
use native.Mathlib.Numerals.{add-one}
use native.Mathlib.Omega.{arith}
use borrow.Author.Tests.{eq-eqb, ne_eqb}
use lib.ListN.{length, take, drop, get_or, length-drop}
use lib.Seq.{length-take-le, get_or-take, get_or-drop}
use Rattle.std.proofs.lemmas.List.{get_or_past}
use Rattle.std.proofs.lemmas.Nat.{le_bytes_2}
use Rattle.std.specs.Int.{from_le_bytes, to_le_bytes, w16}
use Rattle.std.specs.Simd.{first_chunks}
use Rattle.lists.specs.Below.{all_below}
use Rattle.node.proofs.Chunks.{part_at}
use Rattle.span.specs.declared.Span.{Span}
use Rattle.span.specs.Span.{span_at, span_fits, spans_fit}
use Rattle.span.proofs.spans_fit.Goals as goal
use Rattle.span.proofs.spans_fit.Goals.{then-spans-ne0-via-then-spans-ne0, then-spans-ne0-via-else-spans-ne0+then-spans-panes}

-- the two bytes of piece k are those of span k
piece_byte : (spans : List ℕ) (n k j : ℕ) → k < n → j < 2 → get_or (get_or (first_chunks 2 n spans) k []) j 0 ≡ get_or spans (2 * k + j) 0
piece_byte spans n k j h l =
    ap (λ (p : List ℕ). get_or p j 0) (part_at 2 n k spans [] h)
    ∙ get_or-take 2 (drop (2 * k) spans) j 0 l ∙ get_or-drop (2 * k) spans j 0

-- two bytes of a list, read as one number, are written as they were
small_of_two : (l : List ℕ) → length (take 2 l) ≡ 2 → ((i : ℕ) → get_or l i 0 < 256) → (i : ℕ) → get_or (take 2 l) i 0 < 256
small_of_two l n h zero = rw (get_or-take 2 l 0 0 (omega arith)) (h 0)
small_of_two l n h (suc zero) = rw (get_or-take 2 l 1 0 (omega arith)) (h 1)
small_of_two l n h (suc (suc i)) = rw (get_or_past (take 2 l) (suc (suc i)) 0 (omega (arith, n))) (omega arith)

piece_back : (spans : List ℕ) (n k v : ℕ) → k < n → 2 * n ≤ length spans → ((i : ℕ) → get_or spans i 0 < 256)
    → v ≡ from_le_bytes w16 (get_or (first_chunks 2 n spans) k []) → to_le_bytes w16 v ≡ get_or (first_chunks 2 n spans) k []
piece_back spans n k v h l small e =
    let rest = drop (2 * k) spans in
    let piece = part_at 2 n k spans [] h in
    let two : length (take 2 rest) ≡ 2 = length-take-le 2 rest (omega (arith, length-drop (2 * k) spans)) in
    let bytes : (i : ℕ) → get_or rest i 0 < 256 = λ i. rw (get_or-drop (2 * k) spans i 0) (small (2 * k + i)) in
    le_bytes_2 (take 2 rest) v two (small_of_two rest two bytes) (e ∙ ap (from_le_bytes w16) piece) ∙ sym piece

pub returns-then-spans-ne0 : goal.returns-then-spans-ne0
unfolding spans_fit
returns-then-spans-ne0 c =
    let n = length c.args.spans.now in
    let p = c.args.panes in
    elim c.then-spans-ne0.branch [
      | then-spans-ne0-via-then-spans-ne0 w ↦ rw (ne_eqb n (2 * p) (λ e. let d = w.if-spans-ne0.true in omega arith))
      | then-spans-ne0-via-else-spans-ne0+then-spans-panes w ↦ rw (ne_eqb n (2 * p) (λ e. let d = w.if-spans-panes.true in omega arith))
    ]

pub loop-pair-init : goal.loop-pair-init
unfolding all_below
loop-pair-init c = refl

pub loop-pair-preserved : goal.loop-pair-preserved
unfolding all_below
loop-pair-preserved c =
    let s = c.args.spans.now in
    let k = c.loop-pair.pair-index in
    let n = length s / 2 in
    let fits : ℕ → Bool = λ k. span_fits (span_at s k) in
    let front : c.as_chunks.result.0.now ≡ first_chunks 2 n s = c.as_chunks.ensures.front in
    let there : k < n = omega (arith, c.loop-pair-test.true, c.as_chunks.ensures.front_len) in
    let read = c.from_le_bytes.ensures ∙ ap (λ (p : List (List ℕ)). from_le_bytes w16 (get_or p k [])) front in
    let back = c.to_le_bytes.ensures
    ∙ piece_back s n k c.from_le_bytes.result there (omega (arith, c.as_chunks.ensures.front_len)) (λ i. (c.type_inv.spans i).fits) read in
    let byte : (j : ℕ) → j < 2 → get_or c.to_le_bytes.result j 0 ≡ get_or s (2 * k + j) 0 =
    λ j l. ap (λ (p : List ℕ). get_or p j 0) back ∙ piece_byte s n k j there l in
    let first = byte 0 (omega arith) ∙ ap (λ (i : ℕ). get_or s i 0) (add-zero (2 * k)) in
    let span : ◌≡◌ {A = Span} _ (span_at s k) = λ i. record { first = first i; last = byte 1 (omega arith) i } in
    ap₂ (λ (a b : Bool). a && b) c.loop-pair.invariant (c.fits-fit.ensures ∙ ap span_fits span)
    ∙ ap (all_below fits) (sym (add-one k))

pub returns : goal.returns
unfolding spans_fit
returns c =
    let n = length c.args.spans.now in
    let p = c.args.panes in
    let whole : n ≡ 2 * p = omega (arith, c.if-spans-ne0.false, c.if-spans-panes.false) in
    let fits : ℕ → Bool = λ k. span_fits (span_at c.args.spans.now k) in
    let e : c.loop-pair.pair-index ≡ p =
    omega (arith, c.loop-pair.auto.pair-index-end, c.loop-pair-test.false, c.as_chunks.ensures.front_len, c.if-spans-panes.false) in
    c.loop-pair.invariant ∙ ap (all_below fits) e ∙ rw (eq-eqb n (2 * p) whole)
