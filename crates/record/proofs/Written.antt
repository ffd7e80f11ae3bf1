-- Writing a block for every node of a layout at its number, in whatever order, leaves the blocks by number in front of what was there.
use mathlib.Core.Path.{◌≡◌, refl, sym, ap, ◌∙◌, subst}
use mathlib.Core.Logic.{inl, inr}
use mathlib.Core.List.{List, [], ◌∷◌}
use Prim.Native.Nat.{ℕ, ◌+◌, ◌*◌, ◌≤◌, ◌<◌}
use native.Mathlib.Decide.{dec_lt}
use native.Mathlib.Nat.{zero-add, mul-suc, mul-le-mul_left}
use native.Mathlib.Omega.{arith}
use lib.ListN.{length, get_or}
use lib.Seq.{ext_get_or}
use Rattle.lists.specs.Splice.{splice}
use Rattle.lists.proofs.Splice.{length-splice, splice_in, splice_before, splice_after}
use Rattle.lists.specs.Counts.{count}
use Rattle.lists.proofs.Counts.{same_self}
use Rattle.soundness.proofs.Range.{range_most}
use Rattle.wide_layout.specs.Wide.{Wide}
use Rattle.wide_layout.specs.Layout.{Entry, layout, numbers, EachEntry, nodes, index_count}
use Rattle.wide_layout.specs.Conversion.{write_all}
use Rattle.wide_layout.specs.Shape.{layout_entry, EntryInside}
use Rattle.wide_layout.proofs.Each.{each_map, none_numbered, node_has, node-number}
use Rattle.wide_layout.proofs.Numbers.{numbers_once}
use Rattle.wide_layout.proofs.Placed.{inside}
use Rattle.record.specs.Record.{joined_below}
use Rattle.record.proofs.Joined.{joined_length, joined_at, Beside, beside_other, place}

-- a node's block at its number, where blocks have so many elements
abbrev pub put : ℕ → (Entry → List ℕ) → Entry → List ℕ → List ℕ
put width block e s = splice s (width * e.number) (block e)

module _ (width : ℕ) (block : Entry → List ℕ) (size : (e : Entry) → length (block e) ≡ width) where
  abbrev writes : List ℕ → List Entry → List ℕ
  writes = write_all (put width block)

  -- the node has room in L elements
  abbrev Fits : ℕ → Entry → Type 0
  Fits L e = width * e.number + width ≤ L

  put_length : (e : Entry) (s : List ℕ) (L : ℕ) → length s ≡ L → Fits L e → length (put width block e s) ≡ L
  put_length e s L h f = length-splice s (width * e.number) (block e) (omega (arith, size e)) ∙ h

  all-length : (r : List Entry) (s : List ℕ) (L : ℕ) → length s ≡ L → EachEntry (Fits L) r → length (writes s r) ≡ L
  all-length [] s L h f = h
  all-length (e ∷ r) s L h f = all-length r (put width block e s) L (put_length e s L h f.0) f.1

  -- elements beside a node's block stay
  outside : (e : Entry) (s : List ℕ) (i : ℕ) → Fits (length s) e → Beside width i e.number → get_or (put width block e s) i 0 ≡ get_or s i 0
  outside e s i f (inl h) = splice_before s (width * e.number) (block e) (omega (arith, size e)) i 0 h
  outside e s i f (inr h) = splice_after s (width * e.number) (block e) (omega (arith, size e)) i 0 (omega (arith, size e))

  keep : (r : List Entry) (s : List ℕ) (L : ℕ) → length s ≡ L → EachEntry (Fits L) r → (i : ℕ) → EachEntry (λ e. Beside width i e.number) r
      → get_or (writes s r) i 0 ≡ get_or s i 0
  keep [] s L h f i n = refl
  keep (e ∷ r) s L h f i n =
      keep r (put width block e s) L (put_length e s L h f.0) f.1 i n.1 ∙ outside e s i (subst (λ (x : ℕ). Fits x e) (sym h) f.0) n.0

  -- each node's block stands at its number, where no number is taken twice
  abbrev Stands : List ℕ → Entry → Type 0
  Stands s e = (j : ℕ) → j < width → get_or s (width * e.number + j) 0 ≡ get_or (block e) j 0

  found : (r : List Entry) (s : List ℕ) (L : ℕ) → length s ≡ L → EachEntry (Fits L) r → ((x : ℕ) → count x (numbers r) ≤ 1)
      → EachEntry (Stands (writes s r)) r
  unfolding count
  found [] s L h f o = tt
  found (e ∷ r) s L h f o = (
    (λ j l.
        keep r (put width block e s) L (put_length e s L h f.0) f.1 (width * e.number + j)
        (each_map (λ x. ¬ (x.number ≡ e.number)) (λ x. Beside width (width * e.number + j) x.number) r
        (λ x n. beside_other width x.number e.number j l n)
        (none_numbered r e.number (omega (arith, o e.number, same_self e.number))))
        ∙ splice_in s (width * e.number) (block e) (omega (arith, size e, f.0)) j 0 (omega (arith, size e))),
    found r (put width block e s) L (put_length e s L h f.0) f.1 (λ x. omega (arith, o x)),
  )

  module _ (t : Wide) (s : List ℕ) (room : width * nodes t ≤ length s) where
    pieces : ℕ → List ℕ
    pieces i = block (layout_entry t i)

    whole : List ℕ
    whole = joined_below (nodes t) pieces

    after : List ℕ
    after = writes s (layout t)

    -- a number below the count has its block in front of the end
    in_front : (v : ℕ) → v < nodes t → width * v + width ≤ width * nodes t
    in_front v h = omega (arith, mul-le-mul_left width h, mul-suc width v)

    fits : EachEntry (Fits (length s)) (layout t)
    fits = each_map (EntryInside (nodes t) (index_count t)) (Fits (length s)) (layout t) (λ e p. omega (arith, in_front e.number p.number))
        (inside t)

    once : (x : ℕ) → count x (numbers (layout t)) ≤ 1
    once x = omega (arith, numbers_once t x, range_most x 0 (nodes t))

    whole_length : length whole ≡ width * nodes t
    unfolding whole pieces
    whole_length = joined_length width pieces (λ i. size (layout_entry t i)) (nodes t)

    in_blocks : (v j : ℕ) → v < nodes t → j < width → get_or after (width * v + j) 0 ≡ get_or (splice s 0 whole) (width * v + j) 0
    unfolding whole pieces after
    in_blocks v j h l =
        subst (λ (n : ℕ). get_or after (width * n + j) 0 ≡ get_or (block (layout_entry t v)) j 0) (node-number t v h)
        (node_has (Stands after) t (found (layout t) s (length s) refl fits once) v h j l)
        ∙ sym (ap (λ (x : ℕ). get_or (splice s 0 whole) x 0) (sym (zero-add (width * v + j)))
        ∙ splice_in s 0 whole (omega (arith, whole_length)) (width * v + j) 0 (omega (arith, whole_length, in_front v h))
        ∙ joined_at width pieces (λ i. size (layout_entry t i)) (nodes t) v j 0 h l)

    past : (i : ℕ) → width * nodes t ≤ i → get_or after i 0 ≡ get_or (splice s 0 whole) i 0
    unfolding after
    past i h =
        keep (layout t) s (length s) refl fits i
        (each_map (EntryInside (nodes t) (index_count t)) (λ e. Beside width i e.number) (layout t)
        (λ e p. inr (omega (arith, in_front e.number p.number))) (inside t))
        ∙ sym (splice_after s 0 whole (omega (arith, whole_length)) i 0 (omega (arith, whole_length)))

    pub written : write_all (put width block) s (layout t) ≡ splice s 0 (joined_below (nodes t) (λ i. block (layout_entry t i)))
    unfolding whole pieces after
    written =
        ext_get_or 0 after (splice s 0 whole)
        (all-length (layout t) s (length s) refl fits ∙ sym (length-splice s 0 whole (omega (arith, whole_length))))
        (λ i l. at i (dec_lt i (width * nodes t)))
      where
        at : (i : ℕ) → Dec (i < width * nodes t) → get_or after i 0 ≡ get_or (splice s 0 whole) i 0
        at i (yes h) =
            let p = place width (nodes t) i h in
            subst (λ (k : ℕ). get_or after k 0 ≡ get_or (splice s 0 whole) k 0) p.place_is (in_blocks p.block p.offset p.below p.within)
        at i (no h) = past i (omega arith)
