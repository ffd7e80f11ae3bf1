-- The causes of a refused loss or report, and the tests that tell of them: one that fails shows its cause, and one fails where its cause holds.
use mathlib.Core.Bool.{Bool, true, false, ◌&&◌}
use mathlib.Core.List.{List}
use mathlib.Core.Logic.{◌⊎◌, inl, inr}
use mathlib.Core.Path.{◌≡◌, refl, sym, ap, ◌∙◌}
use Prim.Native.Nat.{ℕ, ◌%◌, ◌<◌}
use native.Mathlib.Decide.{dec_lt}
use native.Mathlib.Omega.{arith}
use lib.Dec.{eqb, leb}
use lib.ListN.{length, get_or}
use borrow.Author.Tests.{leb-false, eqb-true}
use Rattle.lists.specs.Below.{all_below}
use Rattle.lists.proofs.Tells.{denied, told, tells_false, eqb_tells, where_fails}
use Rattle.causes.specs.Causes.{place_of}
use Rattle.causes.specs.Sizes.{record_conditions, sizes_fit}
use Rattle.causes.proofs.First.{Shows, Fails}
use Rattle.causes.proofs.Sizes.{sizes_tell, sizes_pass}
use Rattle.record_shape.specs.Record.{node_count}
use Rattle.walk.specs.Queries.{Ended}
use Rattle.walk.proofs.Lists.{all_in}
use Rattle.query.specs.Met.{walk_met_by, panes_met}
use Rattle.query.specs.Result.{Result}
use Rattle.query.proofs.Entry.{Entered}
use Rattle.query.proofs.Entry as E
use Rattle.ray.specs.declared.Ray.{Ray}
use Rattle.gate.specs.Gates.{Gates}
use Rattle.any_hit_walk.specs.AnyHit.{AnyHitAnswer, listed, lacking, fitted, walk_of, gated_any_hit}
use Rattle.any_hit_walk.specs.AnyHit as A
use Rattle.any_hit_walk.proofs.Found.{any_hit_walked, any_hit_fitted}
use Rattle.any_hit_walk.proofs.Answers.{fits, lacks}
use Rattle.loss_walk.specs.Losses.{LossAnswer, is_summed, losses_fit, all_there}
use Rattle.loss_walk.specs.Entry.{own_cause}
use Rattle.loss_walk.proofs.Causes.{own_none}
use Rattle.loss_walk.proofs.Charged.{fit_length, fit_most}
use Rattle.loss_walk.proofs.Faults.{Faultless, summed_faultless, fault_kinds, refused_ten}
use Rattle.loss_walk.proofs.There.{there_tells, missing}
use Rattle.demands.specs.LossRefusals.{SizeRefusal, part_of_node, positions_over, nodes_over, LossesRefusal, not-each, loss_over}
use Rattle.demands.specs.LossRefusals.{WalkRefusedBy, any_hit_refused, no_pane}
use Rattle.demands.proofs.GatedLoss.{entry, by_walk, met}

-- ---- sizes

module _ (bytes indices : List ℕ) where
  pub sizes_show : Shows (SizeRefusal bytes indices) (record_conditions (length bytes) (length indices))
  unfolding record_conditions
  sizes_show = (λ e. part_of_node (denied (eqb_tells (length bytes % 80) 0) e), λ _. (λ e. over e (dec_lt 65536 (length indices)), λ _. tt))
    where
      over : sizes_fit (node_count bytes) (length indices) ≡ false → Dec (65536 < length indices) → SizeRefusal bytes indices 2
      over e (yes h) = positions_over h
      over e (no h) = nodes_over (few (dec_lt 65535 (node_count bytes)))
        where
          few : Dec (65535 < node_count bytes) → 65535 < node_count bytes
          few (yes g) = g
          few (no g) = absurd (denied (sizes_tell (node_count bytes) (length indices)) e (omega arith, omega arith))

  pub sizes_fail : (k : ℕ) → SizeRefusal bytes indices k → Fails k (record_conditions (length bytes) (length indices))
  unfolding record_conditions place_of
  sizes_fail k (part_of_node h) = inl (tells_false (eqb_tells (length bytes % 80) 0) h, tt)
  sizes_fail k (positions_over h) = inr (inl (tells_false (sizes_tell (node_count bytes) (length indices)) (λ p. omega (arith, h, p.0)), tt))
  sizes_fail k (nodes_over h) = inr (inl (tells_false (sizes_tell (node_count bytes) (length indices)) (λ p. omega (arith, h, p.1)), tt))

-- ---- losses

module _ (panes : ℕ) (losses : List ℕ) where
  pub losses_show : losses_fit panes losses ≡ false → LossesRefusal panes losses
  unfolding losses_fit
  losses_show e = go (eqb (length losses) panes) refl e
    where
      go : (b : Bool) → eqb (length losses) panes ≡ b → b && all_below (λ k. leb (get_or losses k 0) 1000000) panes ≡ false
          → LossesRefusal panes losses
      go false h q = not-each (denied (eqb_tells (length losses) panes) h)
      go true h q =
          let u = where_fails (λ k. leb (get_or losses k 0) 1000000) panes q in
          loss_over u.0 (omega (arith, u.1, eqb-true (length losses) panes h)) (leb-false (get_or losses u.0 0) 1000000 u.2)

  pub losses_fail : LossesRefusal panes losses → losses_fit panes losses ≡ false
  losses_fail q = go (losses_fit panes losses) refl q
    where
      go : (b : Bool) → losses_fit panes losses ≡ b → LossesRefusal panes losses → losses_fit panes losses ≡ false
      go false e q = e
      go true e (not-each h) = absurd (h (fit_length panes losses e))
      go true e (loss_over k l h) = absurd (omega (arith, h, fit_most panes losses e k))

-- ---- a walk beside any gates, where nothing refuses its ray on entry

-- positions listed, or too many for the list, are no refusal of the walk
fitted_lists : (count tests room k : ℕ) → (fitted count tests room).answer ≡ A.refused k → ⊥
fitted_lists count tests room k e = go (dec_lt room count)
  where
    go : Dec (room < count) → ⊥
    go (yes h) =
        let a : lacking 11 count ≡ A.refused k = ap (λ (r : Result AnyHitAnswer). r.answer) (lacks count tests room h) ∙ e in
        let z : ◌≡◌ {A = ℕ} 0 1 = cc in
        omega arith
    go (no h) =
        let a : listed count ≡ A.refused k = ap (λ (r : Result AnyHitAnswer). r.answer) (fits count tests room (omega arith)) ∙ e in
        let z : ◌≡◌ {A = ℕ} 0 1 = cc in
        omega arith

module _ (g : Gates) (between : ℕ) (bytes indices : List ℕ) (panes : ℕ) (losses : List ℕ) (r : Ray)
    (free : entry g between bytes indices panes losses r ≡ 0) where
  enters : Entered true (length bytes) (length indices) (own_cause panes losses between) r
  enters = E.entered true (length bytes) (length indices) (own_cause panes losses between) r free

  none : between ≡ 0
  none = (own_none panes losses between enters.none).1

  pub fit : sizes_fit (node_count bytes) (length indices) ≡ true
  fit = sizes_pass (length bytes) (length indices) enters.sizes

  -- what any-hit beside the same gates answers with so much room
  abbrev pub asked : ℕ → Result AnyHitAnswer
  asked = gated_any_hit g bytes (length indices) between r

  abbrev pub Refused : Type 0
  Refused = WalkRefusedBy indices panes asked (met g between bytes indices panes losses r)

  abbrev gives : Result LossAnswer
  gives = by_walk g between bytes indices panes losses r

  pub walk_shows : is_summed gives.answer ≡ false → Refused
  unfolding walk_of
  walk_shows e = go (fault_kinds g bytes indices panes losses r e)
    where
      go : (all_there panes (panes_met indices (met g between bytes indices panes losses r)) ≡ false)
          ⊎ (Ended (walk_met_by g bytes (length indices) r).ended → ⊥) → Refused
      go (inl h) = let u = missing panes indices (met g between bytes indices panes losses r) h in no_pane u.0 u.1 u.2
      go (inr h) =
          any_hit_refused 0
          (ap (λ (a : Result AnyHitAnswer). a.answer)
          (any_hit_walked g bytes (length indices) between r enters.sizes none enters.accepted 0
          ∙ refused_ten g bytes indices panes losses r fit A.refused (λ noted tests. fitted (length noted) tests 0) h))

  pub walk_fails : Refused → is_summed gives.answer ≡ false
  walk_fails q = go (is_summed gives.answer) refl q
    where
      go : (b : Bool) → is_summed gives.answer ≡ b → Refused → is_summed gives.answer ≡ false
      go false e q = e
      go true e q = absurd (no (summed_faultless g bytes indices panes losses r e) q)
        where
          no : Faultless g bytes indices panes losses r → Refused → ⊥
          no f (any_hit_refused room h) =
              let a = any_hit_fitted g bytes (length indices) between r enters.sizes none enters.accepted f.ends room in
              fitted_lists _ _ room 10 (sym (ap (λ (x : Result AnyHitAnswer). x.answer) a) ∙ h)
          no f (no_pane p i h) =
              let named = told (there_tells panes indices (met g between bytes indices panes losses r)) f.there in
              omega (arith, h, all_in (λ j. get_or indices j 0 < panes) (met g between bytes indices panes losses r) named p i)
