-- A ray's walk without a fault gives the sum over the positions met; and every fault has number 10.
use mathlib.Core.Bool.{Bool, true, false}
use mathlib.Core.List.{List, []}
use mathlib.Core.Logic.{◌⊎◌, inl, inr}
use mathlib.Core.Path.{◌≡◌, refl, sym, ap, ◌∙◌}
use Prim.Native.Nat.{ℕ}
use native.Mathlib.Omega.{arith}
use lib.ListN.{length}
use Rattle.lists.specs.Sums.{sum_over}
use Rattle.lists.proofs.Tells.{clash}
use Rattle.causes.specs.Sizes.{sizes_fit}
use Rattle.ray.specs.declared.Ray.{Ray}
use Rattle.gate.specs.Gates.{Gates}
use Rattle.record_shape.specs.Record.{node_count}
use Rattle.walk.specs.Step as S
use Rattle.walk.specs.Queries.{append, steps_for, Ended}
use Rattle.walk.specs.WordStep.{fresh_words}
use Rattle.walk.specs.WordQueries.{OutcomeWords}
use Rattle.walk.proofs.Cases.{cond_elim}
use Rattle.walk_record.specs.WalkRay.{WalkRay, walk_ray, rays_of}
use Rattle.walk_record.specs.Record.{node_words_at}
use Rattle.walk_record.specs.Walk.{any_hit_at, query_at}
use Rattle.query.specs.Met.{walk_met_by, panes_met}
use Rattle.query.specs.Result.{Result, unanswered, walked, entered}
use Rattle.query.proofs.Entry.{found_at_end}
use Rattle.query.proofs.Gathers.{query_ten}
use Rattle.loss_walk.specs.Losses.{LossAnswer, summed, refused, loss_at, all_there, is_summed}
use Rattle.loss_walk.specs.Gated.{gated_loss}
use Rattle.loss_walk.proofs.Adding.{given, ended}

-- a refusal is no sum
pub sums_apart : {A : Type 0} {k loss : ℕ} → refused k ≡ summed loss → A
sums_apart e = let z : ◌≡◌ {A = ℕ} 0 1 = cc in absurd (omega arith)

pub is_summed_lem : (a : LossAnswer) → is_summed a ≡ true → (loss : ℕ) × (a ≡ summed loss)
unfolding is_summed
is_summed_lem (summed loss) e = (loss, refl)
is_summed_lem (refused k) e = clash e

module _ (g : Gates) (bytes indices : List ℕ) (panes : ℕ) (losses : List ℕ) (r : Ray) where
  abbrev outcome : OutcomeWords WalkRay (List ℕ)
  outcome = walk_met_by g bytes (length indices) r

  -- all positions met have their panes
  abbrev all_named : Bool
  all_named = all_there panes (panes_met indices outcome.accumulator)

  -- what the walk gives, and what it would, ended like this
  abbrev gives : Result LossAnswer
  gives = gated_loss g bytes indices panes losses r

  abbrev given_by : Bool → S.Answer → Result LossAnswer
  given_by b a = given g bytes indices panes losses r b (ended g bytes indices panes losses r outcome.walker outcome.accumulator a)

  -- the sum over the positions met, after the tests made
  abbrev pub whole : Result LossAnswer
  whole = record { answer = summed (sum_over (loss_at indices losses) outcome.accumulator); tests = outcome.walker.tests }

  -- no fault: each position met has a pane, and the walk is not refused
  pub record Faultless : Type 0 where
    pub there : all_named ≡ true
    pub ends : Ended outcome.ended

  -- such a walk gives the sum,
  pub faultless_sums : Faultless → gives ≡ whole
  unfolding gated_loss entered
  faultless_sums f =
      ap (λ (b : Bool). given_by b outcome.ended) f.there
      ∙ found_at_end refused (λ met tests. record { answer = summed (sum_over (loss_at indices losses) met); tests = tests }) 0 outcome
      outcome.ended refl f.ends

  -- and a sum comes from such a walk
  pub sums_faultless : (loss : ℕ) → gives.answer ≡ summed loss → Faultless
  unfolding gated_loss walked
  sums_faultless loss e = let f = go all_named outcome.ended e in record { there = f.0; ends = f.1 }
    where
      go : (b : Bool) (a : S.Answer) → (given_by b a).answer ≡ summed loss → (b ≡ true) × Ended a
      go true (S.tested v) e = sums_apart e
      go true (S.position p) e = (refl, tt)
      go true S.done e = (refl, tt)
      go true (S.refused k) e = sums_apart e
      go false a e = sums_apart e

  pub summed_faultless : is_summed gives.answer ≡ true → Faultless
  summed_faultless h = let s = is_summed_lem gives.answer h in sums_faultless s.0 s.1

  -- a fault: some pane is not there, or the walk is refused,
  pub fault_kinds : is_summed gives.answer ≡ false → (all_named ≡ false) ⊎ (Ended outcome.ended → ⊥)
  unfolding gated_loss walked is_summed
  fault_kinds = go all_named outcome.ended
    where
      go : (b : Bool) (a : S.Answer) → is_summed (given_by b a).answer ≡ false → (b ≡ false) ⊎ (Ended a → ⊥)
      go true (S.tested v) h = inr (λ x. x)
      go true (S.position p) h = clash (sym h)
      go true S.done h = clash (sym h)
      go true (S.refused k) h = inr (λ x. x)
      go false a h = inl refl

  module _ (fit : sizes_fit (node_count bytes) (length indices) ≡ true) where
    walk_ten : (k : ℕ) → outcome.ended ≡ S.refused k → k ≡ 10
    unfolding any_hit_at query_at
    walk_ten =
        query_ten (node_count bytes) (node_words_at bytes (rays_of g)) (length indices) append fit (steps_for (node_count bytes))
        (fresh_words (walk_ray r)) []

    -- which has number 10, whatever is made of the walk,
    pub refused_ten : {A : Type 0} (refuse : ℕ → A) (found : List ℕ → ℕ → Result A) → (Ended outcome.ended → ⊥)
        → walked refuse found outcome outcome.ended ≡ unanswered (refuse 10)
    unfolding walked
    refused_ten {A} refuse found = go outcome.ended refl
      where
        go : (a : S.Answer) → outcome.ended ≡ a → (Ended a → ⊥) → walked refuse found outcome a ≡ unanswered (refuse 10)
        go (S.tested v) e h = refl
        go (S.position p) e h = absurd (h tt)
        go S.done e h = absurd (h tt)
        go (S.refused k) e h = ap (λ (j : ℕ). unanswered (refuse j)) (walk_ten k e)

    -- and either is refused with that
    pub fault_ten : is_summed gives.answer ≡ false → gives ≡ unanswered (refused 10)
    unfolding gated_loss
    fault_ten h = go (fault_kinds h)
      where
        go : (all_named ≡ false) ⊎ (Ended outcome.ended → ⊥) → gives ≡ unanswered (refused 10)
        go (inl e) = ap (λ (b : Bool). given_by b outcome.ended) e
        go (inr e) =
            cond_elim (λ (x : Result LossAnswer). x ≡ unanswered (refused 10)) all_named _ _
            (λ _. refused_ten refused (λ met tests. record { answer = summed (sum_over (loss_at indices losses) met); tests = tests }) e) (λ _. refl)
