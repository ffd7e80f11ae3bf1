-- Laws of the side table: how long it is, that its spans are read back, and that each is the narrowest over the panes below its slot.
use mathlib.Core.Bool.{true}
use mathlib.Core.List.{List, [], ◌∷◌}
use mathlib.Core.Path.{◌≡◌, refl, sym, ap, ◌∙◌, subst}
use Prim.Native.Nat.{ℕ, ◌+◌, ◌*◌, ◌<◌}
use native.Mathlib.Nat.{add-zero}
use native.Mathlib.Omega.{arith}
use lib.ListN.{length, get_or}
use Rattle.lists.specs.At.{words_at}
use Rattle.lists.specs.Counts.{count}
use Rattle.span.specs.declared.Span.{Span}
use Rattle.span.specs.Span.{holds, span_at}
use Rattle.span.specs.Hull.{hull}
use Rattle.span.proofs.Hulls.{hull_none, hull_wide, hull_narrow, hull_holds, hull_all_day}
use Rattle.wide_layout.specs.Wide.{Wide}
use Rattle.wide_layout.specs.Content.{Content, none, content_at}
use Rattle.wide_layout.specs.Layout.{Entry, nodes}
use Rattle.wide_layout.specs.Shape.{layout_entry}
use Rattle.record.proofs.Joined.{joined_length, joined_at}
use Rattle.side_table.specs.SideTable.{positions_under, panes_under, slot_span, span_bytes, node_spans, side_bytes, side_span}
use Rattle.side_table.specs.Laid.{StandsAt}
use Rattle.side_table.specs.Narrowest.{Narrowest}

module _ (spans indices : List ℕ) where
  pub node_length : (e : Entry) → length (node_spans spans indices e) ≡ 16
  unfolding node_spans
  node_length e = joined_length 2 (λ i. span_bytes (slot_span spans indices e.slots i)) (λ i. refl) 8

  pub side_length : (t : Wide) → length (side_bytes spans indices t) ≡ 16 * nodes t
  unfolding side_bytes
  side_length t = joined_length 16 (λ v. node_spans spans indices (layout_entry t v)) (λ v. node_length (layout_entry t v)) (nodes t)

  -- ---- read back

  pub span_read : (side : List ℕ) (v : ℕ) (e : Entry) → StandsAt spans indices side v e → (i : ℕ) → i < 8
      → side_span side v i ≡ slot_span spans indices e.slots i
  unfolding node_spans
  span_read side v e h i l =
      let first = ap (λ (x : ℕ). get_or side x 0) (sym (add-zero (2 * (8 * v + i)))) ∙ byte 0 (omega arith) in
      λ k. record { first = first k; last = byte 1 (omega arith) k }
    where
      f : ℕ → List ℕ
      f i = span_bytes (slot_span spans indices e.slots i)

      byte : (j : ℕ) → j < 2 → get_or side (2 * (8 * v + i) + j) 0 ≡ get_or (f i) j 0
      byte j m =
          ap (λ (x : ℕ). get_or side x 0) (let g : 2 * (8 * v + i) + j ≡ 16 * v + (2 * i + j) = omega arith in g)
          ∙ h (2 * i + j) (omega arith) ∙ joined_at 2 f (λ i. refl) 8 i j 0 l m

  pub side_stands : (t : Wide) (v : ℕ) → v < nodes t → StandsAt spans indices (side_bytes spans indices t) v (layout_entry t v)
  unfolding side_bytes
  side_stands t v h j l =
      joined_at 16 (λ v. node_spans spans indices (layout_entry t v)) (λ v. node_length (layout_entry t v)) (nodes t) v j 0 h l

  pub side_span_lem : (t : Wide) (v i : ℕ) → v < nodes t → i < 8
      → side_span (side_bytes spans indices t) v i ≡ slot_span spans indices (layout_entry t v).slots i
  side_span_lem t v i h l = span_read (side_bytes spans indices t) v (layout_entry t v) (side_stands t v h) i l

  -- ---- the narrowest

  hull_narrowest : (ks : List ℕ) → Narrowest spans ks (hull spans ks)
  hull_narrowest ks = record {
    wide = hull_wide spans ks;
    first = λ h. (hull_narrow spans ks h).0;
    last = λ h. (hull_narrow spans ks h).1;
    none = none ks;
  }
    where
      none : (ks : List ℕ) → length ks ≡ 0 → ((hull spans ks).first ≡ 0) × ((hull spans ks).last ≡ 0)
      none [] e = (ap (λ (s : Span). s.first) (hull_none spans), ap (λ (s : Span). s.last) (hull_none spans))
      none (k ∷ ks) e = absurd (omega arith)

  -- in a table each span is the narrowest over the panes below its slot
  pub side_narrowest : (t : Wide) (v i : ℕ) → v < nodes t → i < 8
      → Narrowest spans (panes_under indices (layout_entry t v).slots i) (side_span (side_bytes spans indices t) v i)
  unfolding slot_span
  side_narrowest t v i h l =
      subst (Narrowest spans (panes_under indices (layout_entry t v).slots i)) (sym (side_span_lem t v i h l))
      (hull_narrowest (panes_under indices (layout_entry t v).slots i))

  -- a slot with nothing in it has 0 and 0
  pub empty_slot : (t : Wide) (v i : ℕ) → v < nodes t → i < 8 → content_at (layout_entry t v).slots i ≡ none
      → side_span (side_bytes spans indices t) v i ≡ record { first = 0; last = 0 }
  unfolding slot_span panes_under positions_under
  empty_slot t v i h l e =
      side_span_lem t v i h l ∙ ap (λ (c : Content). hull spans (words_at indices (positions_under c))) e ∙ hull_none spans

  -- a slot's span holds what the span of a pane below it holds
  pub side_holds : (t : Wide) (v i : ℕ) → v < nodes t → i < 8 → (k q : ℕ) → 0 < count k (panes_under indices (layout_entry t v).slots i)
      → holds (span_at spans k) q ≡ true → holds (side_span (side_bytes spans indices t) v i) q ≡ true
  unfolding slot_span
  side_holds t v i h l k q c e =
      ap (λ (s : Span). holds s q) (side_span_lem t v i h l) ∙ hull_holds spans (panes_under indices (layout_entry t v).slots i) k q c e

  -- and where all these span the whole day, so does it
  pub side_all_day : (t : Wide) (v i : ℕ) → v < nodes t → i < 8 → 0 < length (panes_under indices (layout_entry t v).slots i)
      → ((k : ℕ) → 0 < count k (panes_under indices (layout_entry t v).slots i) → span_at spans k ≡ record { first = 0; last = 95 })
      → side_span (side_bytes spans indices t) v i ≡ record { first = 0; last = 95 }
  unfolding slot_span
  side_all_day t v i h l some day =
      side_span_lem t v i h l ∙ hull_all_day spans (panes_under indices (layout_entry t v).slots i) some day
