-- A loss beside any gates (02, [3] and [7]), on any bytes, by its entry and its walk: when the call gives a sum; that this is the sum over any-hit's
-- list beside the same gates, in walk order, in rising order, and by panes.
use mathlib.Core.Bool.{true}
use mathlib.Core.List.{List}
use mathlib.Core.Path.{◌≡◌, refl, sym, ap, ◌∙◌}
use Prim.Native.Nat.{ℕ, zero, suc, ◌+◌, ◌*◌, ◌≤◌}
use native.Mathlib.Omega.{arith}
use lib.ListN.{length, get_or, take}
use Rattle.lists.specs.Counts.{count}
use Rattle.lists.specs.Sums.{sum, sum_over}
use Rattle.lists.proofs.Rising.{rising_perm, rising_rises, sum-rising}
use Rattle.lists.proofs.Sums.{over_most}
use Rattle.causes.proofs.Sizes.{Fit}
use Rattle.ray.specs.declared.Ray.{Ray}
use Rattle.ray.specs.Ray.{accepted_ray}
use Rattle.gate.specs.Gates.{Gates}
use Rattle.record_shape.specs.Record.{node_count}
use Rattle.query.specs.Entry.{entry_cause}
use Rattle.query.specs.Met.{positions_met_by, tests_made_by, panes_met}
use Rattle.query.specs.Result.{Result, entered}
use Rattle.query.proofs.Entry.{Entered, entry_none}
use Rattle.query.proofs.Entry as E
use Rattle.any_hit_walk.specs.AnyHit.{listed, gated_any_hit, gated_list}
use Rattle.any_hit_walk.proofs.Found.{answers_listed, list_found}
use Rattle.loss_walk.specs.Losses.{LossAnswer, summed, refused, losses_fit, loss_at}
use Rattle.loss_walk.specs.Entry.{own_cause}
use Rattle.loss_walk.specs.Gated.{gated_loss, gated_loss_of}
use Rattle.loss_walk.proofs.Adding.{met_few}
use Rattle.loss_walk.proofs.Causes.{own_between, own_none}
use Rattle.loss_walk.proofs.Charged.{fit_most}
use Rattle.loss_walk.proofs.Faults.{sums_apart, Faultless, faultless_sums, sums_faultless}
use Rattle.loss_walk.proofs.There.{by_panes}
use Rattle.demands.specs.Sums.{SumsListed, SumsRising}

module _ (g : Gates) (between : ℕ) (bytes indices : List ℕ) (panes : ℕ) (losses : List ℕ) (r : Ray) where
  -- what refuses the call on entry, what its walk gives, and what the call gives
  abbrev pub entry : ℕ
  entry = entry_cause true (length bytes) (length indices) (own_cause panes losses between) r

  abbrev pub by_walk : Result LossAnswer
  by_walk = gated_loss g bytes indices panes losses r

  abbrev pub called : Result LossAnswer
  called = gated_loss_of g between bytes indices panes losses r

  -- where nothing refuses it on entry it gives what its walk gives
  pub called_walked : entry ≡ 0 → called ≡ by_walk
  unfolding entered
  called_walked e = ap (λ (k : ℕ). entered refused k by_walk) e

  -- nothing does
  pub entry_free : Fit (length bytes) (length indices) → losses_fit panes losses ≡ true → between ≡ 0 → accepted_ray r ≡ true → entry ≡ 0
  entry_free sizes fit none accepted =
      entry_none true (length bytes) (length indices) (own_cause panes losses between) r refl sizes
      (own_between panes losses between fit ∙ none) accepted

  -- the positions met, and the losses of all of them
  abbrev pub met : List ℕ
  met = positions_met_by g bytes (length indices) r

  abbrev pub over_met : ℕ
  over_met = sum_over (loss_at indices losses) met

  pub over_most_lem : losses_fit panes losses ≡ true → over_met ≤ length met * 1000000
  over_most_lem fit = over_most (loss_at indices losses) 1000000 (λ p. fit_most panes losses fit (get_or indices p 0)) met

  -- which it gives if its walk has no fault
  pub faultless_called : entry ≡ 0 → Faultless g bytes indices panes losses r → called.answer ≡ summed over_met
  faultless_called e f = ap (λ (x : Result LossAnswer). x.answer) (called_walked e ∙ faultless_sums g bytes indices panes losses r f)

  -- what any-hit beside the same gates leaves in front of a list with room for them
  abbrev pub left : List ℕ → List ℕ
  left before = take (length met) (gated_list g bytes (length indices) between r before)

  -- what holds of a call that gives a sum
  pub record Summing (loss : ℕ) : Type 0 where
    pub enters : Entered true (length bytes) (length indices) (own_cause panes losses between) r
    pub faultless : Faultless g bytes indices panes losses r
    pub sum : loss ≡ over_met
    pub tests : called.tests ≡ tests_made_by g bytes (length indices) r

  pub summing : (loss : ℕ) → called.answer ≡ summed loss → Summing loss
  unfolding entered
  summing loss e = go entry refl e
    where
      go : (k : ℕ) → entry ≡ k → (entered refused k by_walk).answer ≡ summed loss → Summing loss
      go (suc k) z q = sums_apart q
      go zero z q =
          let f = sums_faultless g bytes indices panes losses r loss q in
          let w = faultless_sums g bytes indices panes losses r f in
          let s : summed loss ≡ summed over_met = sym q ∙ ap (λ (x : Result LossAnswer). x.answer) w in
          record {
            enters = E.entered true (length bytes) (length indices) (own_cause panes losses between) r z;
            faultless = f;
            sum = cc;
            tests = ap (λ (x : Result LossAnswer). x.tests) (called_walked z ∙ w);
          }

  module _ (loss : ℕ) (sums : called.answer ≡ summed loss) where
    S : Summing loss
    S = summing loss sums

    own : (losses_fit panes losses ≡ true) × (between ≡ 0)
    own = own_none panes losses between S.enters.none

    -- A loss is at most 25 losses of 1,000,000 to each node, and one.
    pub summed_most : loss ≤ (25 * node_count bytes + 1) * 1000000
    summed_most = omega (arith, S.sum, over_most_lem own.0, met_few g bytes indices panes losses r)

    module _ (before : List ℕ) (room : length met ≤ length before) where
      left_met : left before ≡ met
      left_met = list_found g bytes (length indices) between r S.enters.sizes own.1 S.enters.accepted S.faultless.ends before room

      pub summed_listed : SumsListed met (loss_at indices losses) loss called.tests
          (gated_any_hit g bytes (length indices) between r (length before)) (left before)
      summed_listed = record {
        any_hit =
            answers_listed g bytes (length indices) between r S.enters.sizes own.1 S.enters.accepted S.faultless.ends before room
            ∙ ap (λ (t : ℕ). record { answer = listed (length met); tests = t }) (sym S.tests);
        list = left_met;
        sums = S.sum ∙ ap (sum_over (loss_at indices losses)) (sym left_met);
      }

      pub summed_rising : SumsRising (loss_at indices losses) loss (left before)
      summed_rising = record {
        rearranged = rising_perm (left before);
        rises = rising_rises (left before);
        sums = summed_listed.sums ∙ sym (sum-rising (loss_at indices losses) (left before));
      }

      pub summed_panes : loss ≡ sum (λ k. count k (panes_met indices (left before)) * get_or losses k 0) panes
      summed_panes =
          S.sum ∙ by_panes panes indices losses met S.faultless.there
          ∙ ap (λ (l : List ℕ). sum (λ k. count k (panes_met indices l) * get_or losses k 0) panes) (sym left_met)
