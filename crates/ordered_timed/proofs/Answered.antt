-- A timed call whose panes do not fit has a cause, and one that is answered leaves index words that name panes.
use mathlib.Core.List.{List}
use mathlib.Core.Logic.{inl, inr}
use mathlib.Core.Path.{◌≡◌, refl, ap}
use Prim.Native.Nat.{ℕ, zero, suc, ◌<◌}
use native.Mathlib.Decide.{dec_lt}
use native.Mathlib.Omega.{arith}
use lib.ListN.{get_or}
use Rattle.lists.specs.At.{words_at}
use Rattle.wide_tree.proofs.Ordered.{index_count_lem}
use Rattle.bvh2_tables.specs.Call.{Lengths}
use Rattle.bvh2_tables.specs.Tables.{prepare_cause}
use Rattle.bvh2_to_cwbvh.specs.Conversion.{index_list_of}
use Rattle.bvh2_to_cwbvh_timed.specs.TimedConversion.{TimedCall}
use Rattle.bvh2_to_cwbvh_timed.proofs.Refused.{refused_with, panes_first, panes_later}
use Rattle.bvh2_to_cwbvh_timed.proofs.Written.{tree, of_tree, span_there, spans_length}
use Rattle.demands.specs.Call.{Call, leaf_count, defined_list}
use Rattle.timed_conversion_laws.specs.TimedCall.{TimedAnswers}
use Rattle.timed_conversion_laws.proofs.Refusals.{panes_pass}
use Rattle.timed_conversion_laws.proofs.SideTable.{no_refusal, untimed_answers}

-- where the panes do not fit there is a cause
pub refused_some : (ws : List ℕ) (n limit : ℕ) (l : Lengths) → refused_with ws n limit l ≡ 0 → ⊥
refused_some ws n limit l e = go (prepare_cause ws n limit l) refl
  where
    seven : (k : ℕ) → prepare_cause ws n limit l ≡ suc k → Dec (suc k < 7) → Dec (7 < suc k) → ⊥
    seven k z (yes a) b = omega (arith, e, z, panes_later ws n limit l (λ y. omega (arith, y, z)) (λ y. omega (arith, y, z)))
    seven k z (no a) (yes b) = omega (arith, e, z, panes_later ws n limit l (λ y. omega (arith, y, z)) (λ y. omega (arith, y, z)))
    seven k z (no a) (no b) = omega (arith, e, panes_first ws n limit l 7 (omega (arith, z)) (inr refl))

    go : (k : ℕ) → prepare_cause ws n limit l ≡ k → ⊥
    go zero z = omega (arith, e, panes_first ws n limit l 0 z (inl refl))
    go (suc k) z = seven k z (dec_lt (suc k) 7) (dec_lt 7 (suc k))

module _ (c : TimedCall) (m d : ℕ) (answers : TimedAnswers c m d) where
  abbrev u : Call
  u = c.untimed

  pub named : (p : ℕ) → p < leaf_count u → get_or (defined_list u) p 0 < c.panes
  unfolding index_list_of
  named p l =
      let some : 0 < leaf_count u = omega (arith, l) in
      let fits = panes_pass c (no_refusal c m d answers 14) in
      let word : get_or (defined_list u) p 0 ≡ get_or (words_at u.indices _) p 0 =
      ap (λ (ps : List ℕ). get_or (words_at u.indices ps) p 0) (of_tree c m d (untimed_answers c m d answers) some).list in
      omega (
        arith,
        word,
        span_there c m d (untimed_answers c m d answers) some fits p
            (omega (arith, l, index_count_lem u.ordered u.limit u.words (leaf_count u) (tree c m d (untimed_answers c m d answers) some))),
        spans_length c.panes c.spans u.indices fits,
      )
