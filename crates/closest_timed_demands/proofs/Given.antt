-- What a query gives is a refusal, or what its walk found; and where closest answers a hit, or miss is blocked, a pane was met at a distance that
-- counts.
use mathlib.Core.List.{List}
use mathlib.Core.Bool.{true}
use mathlib.Core.Path.{◌≡◌, refl, sym, ap, subst, ◌∙◌}
use Prim.Native.Nat.{ℕ, zero, suc}
use native.Mathlib.Omega.{arith}
use lib.Ieee.{Float}
use Rattle.ray.specs.declared.Ray.{Ray}
use Rattle.ray.specs.Ray.{counts}
use Rattle.ray.proofs.Counts.{counts_below, counts_from}
use Rattle.walk.specs.Step as S
use Rattle.walk.specs.Listing.{In}
use Rattle.walk.specs.Queries.{Found, none, hit, fault, distance}
use Rattle.walk.specs.WordQueries.{OutcomeWords}
use Rattle.walk.proofs.Hits.{Came, stayed, hits, faults}
use Rattle.walk_record.specs.WalkRay.{WalkRay, walk_ray}
use Rattle.query.specs.Result.{Result, unanswered, walked, entered}
use Rattle.pane_walk.specs.Panes.{pane_of, nearer}
use Rattle.pane_walk.specs.Panes.{hit_at, refused_closest, closest_found, blocked, refused_miss, miss_found}
use Rattle.demands.specs.Panes.{HitCounts}
use Rattle.demands.proofs.NearLimit.{hits_apart, blocks_apart}

module _ {A N : Type 0} (refuse : ℕ → A) (found : N → ℕ → Result A) (o : OutcomeWords WalkRay N) where
  -- a refusal, or what is found by what was noted
  pub data Gives (r : Result A) : Type 0 where
    refuses : (k : ℕ) → r ≡ unanswered (refuse k) → Gives r
    finds : r ≡ found o.accumulator o.walker.tests → Gives r

  by_end : (b : S.Answer) → Gives (walked refuse found o b)
  unfolding walked
  by_end (S.tested v) = refuses 10 refl
  by_end (S.position p) = finds refl
  by_end S.done = finds refl
  by_end (S.refused k) = refuses k refl

  pub gives : (cause : ℕ) → Gives (entered refuse cause (walked refuse found o o.ended))
  unfolding entered
  gives zero = by_end o.ended
  gives (suc k) = refuses (suc k) refl

  -- an answer that is no refusal was found,
  pub given_answer : (r : Result A) → Gives r → (a : A) → ((k : ℕ) → refuse k ≡ a → ⊥) → r.answer ≡ a
      → (found o.accumulator o.walker.tests).answer ≡ a
  given_answer r (refuses k e) a apart q = absurd (apart k (sym (ap (λ (x : Result A). x.answer) e) ∙ q))
  given_answer r (finds e) a apart q = sym (ap (λ (x : Result A). x.answer) e) ∙ q

  -- and its tests are the walk's, if those of any found answer are
  pub given_tests : (r : Result A) → Gives r
      → ((y : N) (k : ℕ) → ((j : ℕ) → (found y k).answer ≡ refuse j → ⊥) → (found y k).tests ≡ k)
      → ((k : ℕ) → r.answer ≡ refuse k → ⊥) → r.tests ≡ o.walker.tests
  given_tests r (refuses k e) made unrefused = absurd (unrefused k (ap (λ (x : Result A). x.answer) e))
  given_tests r (finds e) made unrefused =
      ap (λ (x : Result A). x.tests) e
      ∙ made o.accumulator o.walker.tests (λ j q. unrefused j (ap (λ (x : Result A). x.answer) e ∙ q))

-- ---- closest and miss

-- no refusal is a hit, and none is a block
pub hit_refused : (p : ℕ) (t : Float) (k : ℕ) → refused_closest k ≡ hit_at p t → ⊥
hit_refused p t k e = let z : ◌≡◌ {A = ℕ} 0 1 = cc in omega arith

pub block_refused : (k : ℕ) → refused_miss k ≡ blocked → ⊥
block_refused k e = let z : ◌≡◌ {A = ℕ} 0 1 = cc in omega arith

-- what is found is answered with the tests given
pub closest_made : (y : Found Float) (k : ℕ) → ((j : ℕ) → (closest_found y k).answer ≡ refused_closest j → ⊥) → (closest_found y k).tests ≡ k
unfolding closest_found
closest_made none k unrefused = refl
closest_made (hit p t) k unrefused = refl
closest_made (fault j) k unrefused = absurd (unrefused j refl)

pub miss_made : (y : Found Float) (k : ℕ) → ((j : ℕ) → (miss_found y k).answer ≡ refused_miss j → ⊥) → (miss_found y k).tests ≡ k
unfolding miss_found
miss_made none k unrefused = refl
miss_made (hit p t) k unrefused = refl
miss_made (fault j) k unrefused = absurd (unrefused j refl)

module _ (indices : List ℕ) (panes : List Float) (ray : Ray) (reports : List ℕ) where
  -- what came of positions
  abbrev CameTo : Found Float → Type 0
  CameTo y = Came (pane_of indices panes) nearer (walk_ray ray) none y reports

  -- a position whose pane is at a distance that counts
  counted_at : (p : ℕ) (t : Float) → In p reports → pane_of indices panes p (walk_ray ray) ≡ distance t → counts ray t ≡ true
      → HitCounts indices panes ray reports p t
  unfolding pane_of
  counted_at p t i s h = record { reported = i; met = s; not_before_start = counts_from ray t h; below_reach = counts_below ray t h }

  -- closest's hit is such a position,
  pub hit_counted : (y : Found Float) (k p : ℕ) (t : Float) → CameTo y → (closest_found y k).answer ≡ hit_at p t
      → HitCounts indices panes ray reports p t
  unfolding closest_found
  hit_counted y k p t came e = go came
    where
      was : (z : Found Float) → y ≡ z → (closest_found z k).answer ≡ hit_at p t
      was z f = ap (λ (x : Found Float). (closest_found x k).answer) (sym f) ∙ e

      go : CameTo y → HitCounts indices panes ray reports p t
      go (stayed f) = hits_apart p t (was none f)
      go (hits q u f i s h) =
          let same = was (hit q u) f in
          let a : q ≡ p = cc in
          let b : u ≡ t = cc in
          subst (λ (x : ℕ). HitCounts indices panes ray reports x t) a
          (subst (HitCounts indices panes ray reports q) b (counted_at q u i s h))
      go (faults j f) = absurd (hit_refused p t j (was (fault j) f))

  -- and where miss is blocked there is one
  pub block_counted : (y : Found Float) (k : ℕ) → CameTo y → (miss_found y k).answer ≡ blocked
      → (p : ℕ) × (t : Float) × HitCounts indices panes ray reports p t
  unfolding miss_found
  block_counted y k came e = go came
    where
      was : (z : Found Float) → y ≡ z → (miss_found z k).answer ≡ blocked
      was z f = ap (λ (x : Found Float). (miss_found x k).answer) (sym f) ∙ e

      go : CameTo y → (p : ℕ) × (t : Float) × HitCounts indices panes ray reports p t
      go (stayed f) = blocks_apart (was none f)
      go (hits q u f i s h) = (q, u, counted_at q u i s h)
      go (faults j f) = absurd (block_refused j (was (fault j) f))
