-- The totals of a report, ray after ray: what the slices hold after so many rays, and that nothing overflows.
use mathlib.Core.Bool.{true}
use mathlib.Core.List.{List, [], ◌∷◌, ◌++◌}
use mathlib.Core.Path.{◌≡◌, refl, sym, ap, ap₂, ◌∙◌}
use Prim.Native.Nat.{ℕ, suc, ◌+◌, ◌*◌, ◌≤◌, ◌<◌}
use native.Mathlib.Decide.{dec_lt}
use native.Mathlib.Nat.{mul-le-mul}
use native.Mathlib.Omega.{arith}
use lib.Ieee.{Float}
use lib.ListN.{length, get_or, set, drop, replicate, length-map, length-replicate, get_or-replicate}
use lib.Seq.{ext_get_or, drop_at}
use Rattle.lists.specs.Counts.{count, upto}
use Rattle.lists.specs.Splice.{splice}
use Rattle.lists.specs.Sums.{sum}
use Rattle.lists.specs.Values.{values}
use Rattle.lists.proofs.Counts.{same_most}
use Rattle.lists.proofs.Sums.{sum_most}
use Rattle.lists.proofs.Splice.{written_next, set-splice}
use Rattle.lists.proofs.Values.{values_length, values_at, values_next, front_length, front_at, behind_front}
use Rattle.packed.specs.Packed.{ray_in, ray_count}
use Rattle.gate.specs.Gates.{Gates}
use Rattle.record_shape.specs.Record.{node_count}
use Rattle.query.specs.Met.{panes_met}
use Rattle.loss_walk.specs.Losses.{losses_fit, all_there, ray_total, times_met, pane_total, Report, totalled}
use Rattle.loss_walk.specs.Gated.{gated_met, gated_tests, gated_totals}
use Rattle.loss_walk.specs.Charged.{charged, Spare, Totalling}
use Rattle.loss_walk.proofs.Charged.{fit_most, charged-length, charged_at}
use Rattle.loss_walk.proofs.Adding.{met_few}
use Rattle.loss_walk.proofs.There.{there_none}

-- ---- counts

count_most : (x : ℕ) (l : List ℕ) → count x l ≤ length l
unfolding count
count_most x [] = omega arith
count_most x (y ∷ l) = omega (arith, same_most x y, count_most x l)

one_more : (f : ℕ → ℕ) (i : ℕ) → sum f (i + 1) ≡ sum f i + f i
unfolding sum
one_more f i = let e : i + 1 ≡ suc i = omega arith in ap (sum f) e

-- ---- lists with their front replaced

-- by another of the same length
front_again : (s a b : List ℕ) → length a ≡ length b → splice (a ++ drop (length a) s) 0 b ≡ splice s 0 b
unfolding splice
front_again s a b e =
    let k : 0 + length b ≡ length a = omega (arith, e) in
    ap (λ (l : List ℕ). b ++ l)
    (ap (λ (j : ℕ). drop j (a ++ drop (length a) s)) k ∙ drop_at a (drop (length a) s) (length a) refl ∙ ap (λ (j : ℕ). drop j s) (sym k))

module _ (gates : ℕ → Gates) (bytes indices : List ℕ) (panes : ℕ) (losses : List ℕ) (rays : List Float) where
  abbrev met : ℕ → List ℕ
  met = gated_met gates bytes indices rays

  abbrev TotalsAt : (i tests : ℕ) → (rayBefore paneBefore ray_totals pane_totals : List ℕ) → Type 0
  TotalsAt = Totalling gates bytes indices panes losses rays

  -- ---- no ray yet

  none_yet : values (pane_total indices losses met 0) panes ≡ replicate panes 0
  unfolding sum
  none_yet =
      ext_get_or 0 _ _ (values_length (pane_total indices losses met 0) panes ∙ sym (length-replicate panes 0))
      (λ k h. let l : k < panes = omega (arith, h, values_length (pane_total indices losses met 0) panes) in
      values_at (pane_total indices losses met 0) panes k 0 l ∙ omega (arith, get_or-replicate {A = ℕ} panes k 0 0 l))

  pub totals_begin : (rayBefore paneBefore cleared : List ℕ) → cleared ≡ replicate panes 0 → panes ≤ length paneBefore
      → TotalsAt 0 0 rayBefore (cleared ++ drop panes paneBefore) rayBefore (cleared ++ drop panes paneBefore)
  unfolding sum splice upto
  totals_begin rayBefore paneBefore cleared e h =
      let z : length cleared ≡ panes = ap length e ∙ length-replicate panes 0 in
      let v : 0 + length (values (pane_total indices losses met 0) panes) ≡ panes =
      omega (arith, values_length (pane_total indices losses met 0) panes) in
      record {
        tested = refl;
        of_rays = refl;
        of_panes = ap₂ (λ (a b : List ℕ). a ++ b) (e ∙ sym none_yet)
            (sym (ap (λ (k : ℕ). drop k (cleared ++ drop panes paneBefore)) v
            ∙ drop_at cleared (drop panes paneBefore) panes z));
      }

  -- ---- one ray more

  module _ {i tests : ℕ} {rayBefore paneBefore ray_totals pane_totals : List ℕ} (T : TotalsAt i tests rayBefore paneBefore ray_totals pane_totals)
      (pane_room : panes ≤ length paneBefore) where
    -- the words of pane totals, after so many rays
    abbrev words : ℕ → List ℕ
    words j = values (pane_total indices losses met j) panes

    word_in : (j k : ℕ) → k < panes → get_or (splice paneBefore 0 (words j)) k 0 ≡ pane_total indices losses met j k
    word_in j k = front_at paneBefore (pane_total indices losses met j) panes pane_room k 0

    word_past : (j k : ℕ) → panes ≤ k → get_or (splice paneBefore 0 (words j)) k 0 ≡ get_or paneBefore k 0
    word_past j k = behind_front paneBefore (pane_total indices losses met j) panes pane_room k 0

    words_length : (j : ℕ) → length (splice paneBefore 0 (words j)) ≡ length paneBefore
    words_length j = front_length paneBefore (pane_total indices losses met j) panes pane_room

    -- as many words as there were
    pub ray_words : i ≤ length rayBefore → length ray_totals ≡ length rayBefore
    ray_words h = ap length T.of_rays ∙ front_length rayBefore (ray_total indices losses met) i h

    -- the loss of each pane met is added
    next_panes : all_there panes (panes_met indices (met i)) ≡ true
        → charged losses (splice paneBefore 0 (words i)) (panes_met indices (met i)) ≡ splice paneBefore 0 (words (i + 1))
    next_panes there =
        ext_get_or 0 _ _
        (charged-length losses (splice paneBefore 0 (words i)) (panes_met indices (met i)) ∙ words_length i
        ∙ sym (words_length (i + 1)))
        (λ k h. charged_at losses (splice paneBefore 0 (words i)) (panes_met indices (met i)) k
        (omega (arith, h, charged-length losses (splice paneBefore 0 (words i)) (panes_met indices (met i)))) ∙ by k (dec_lt k panes))
      where
        by : (k : ℕ) → Dec (k < panes)
            → get_or (splice paneBefore 0 (words i)) k 0 + count k (panes_met indices (met i)) * get_or losses k 0
            ≡ get_or (splice paneBefore 0 (words (i + 1))) k 0
        by k (yes l) =
            let m = one_more (λ j. count k (panes_met indices (met j))) i in
            omega (arith, word_in i k l, word_in (i + 1) k l, ap (λ (x : ℕ). x * get_or losses k 0) m)
        by k (no l) =
            let z = there_none panes (panes_met indices (met i)) there k (omega arith) in
            omega (arith, word_past i k (omega arith), word_past (i + 1) k (omega arith), ap (λ (x : ℕ). x * get_or losses k 0) z)

    pub totals_next : i < length rayBefore → all_there panes (panes_met indices (met i)) ≡ true → (rayTotals₁ paneTotals₁ : List ℕ) (made : ℕ)
        → made ≡ gated_tests gates bytes indices rays i → rayTotals₁ ≡ set ray_totals i (ray_total indices losses met i)
        → paneTotals₁ ≡ charged losses pane_totals (panes_met indices (met i))
        → TotalsAt (i + 1) (tests + made) rayBefore paneBefore rayTotals₁ paneTotals₁
    totals_next h there rayTotals₁ paneTotals₁ made t e f =
        let here : i ≡ 0 + i = omega arith in
        record {
          tested = omega (arith, T.tested, t, one_more (gated_tests gates bytes indices rays) i);
          of_rays =
              written_next rayBefore 0 i 1 (values (ray_total indices losses met) i) (ray_total indices losses met i ∷ []) ray_totals rayTotals₁
              (values_length (ray_total indices losses met) i) refl (omega arith) T.of_rays
              (e ∙ set-splice ray_totals i (ray_total indices losses met i) (omega (arith, h, ray_words (omega arith)))
              ∙ ap (λ (j : ℕ). splice ray_totals j (ray_total indices losses met i ∷ [])) here)
              ∙ ap (splice rayBefore 0) (sym (values_next (ray_total indices losses met) i));
          of_panes = f ∙ ap (λ (l : List ℕ). charged losses l (panes_met indices (met i))) T.of_panes ∙ next_panes there;
        }

    -- ---- bounds

    -- no pane is met more often than positions are
    times_few : node_count bytes ≤ 65535 → (k : ℕ) → times_met indices met i k ≤ i * 1638376
    times_few few k =
        sum_most (λ j. count k (panes_met indices (met j))) 1638376
        (λ j. omega (
          arith,
          count_most k (panes_met indices (met j)),
          length-map (met j) (λ p. get_or indices p 0),
          met_few (gates j) bytes indices panes losses (ray_in rays j),
          few,
        )) i

    pub totals_spare : losses_fit panes losses ≡ true → node_count bytes ≤ 65535 → i < 65536 → Spare panes pane_totals
    totals_spare fit few h k l =
        let t = ap (λ (w : List ℕ). get_or w k 0) T.of_panes ∙ word_in i k l in
        omega (arith, t, mul-le-mul (times_few few k) (fit_most panes losses fit k), h)

  -- ---- all rays

  pub totals_end : (tests : ℕ) (rayBefore paneBefore cleared ray_totals pane_totals : List ℕ) → length cleared ≡ panes → (i : ℕ) → i ≡ ray_count rays
      → TotalsAt i tests rayBefore (cleared ++ drop panes paneBefore) ray_totals pane_totals
      → record { answer = totalled tests; ray_totals = ray_totals; pane_totals = pane_totals }
      ≡ gated_totals gates bytes indices panes losses rays rayBefore paneBefore
  unfolding gated_totals
  totals_end tests rayBefore paneBefore cleared ray_totals pane_totals z i e T =
      let v = values (pane_total indices losses met i) panes in
      let f : pane_totals ≡ splice paneBefore 0 v =
      T.of_panes ∙ ap (λ (j : ℕ). splice (cleared ++ drop j paneBefore) 0 v) (sym z)
      ∙ front_again paneBefore cleared v (z ∙ sym (values_length (pane_total indices losses met i) panes)) in
      ap (λ (t : ℕ). written t ray_totals pane_totals) T.tested
      ∙ ap₂ (written (sum (gated_tests gates bytes indices rays) i)) T.of_rays f ∙ ap after e
    where
      written : ℕ → List ℕ → List ℕ → Report
      written t r p = record { answer = totalled t; ray_totals = r; pane_totals = p }

      after : ℕ → Report
      after j =
          written (sum (gated_tests gates bytes indices rays) j) (splice rayBefore 0 (values (ray_total indices losses met) j))
          (splice paneBefore 0 (values (pane_total indices losses met j) panes))
