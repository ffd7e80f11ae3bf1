-- How closest and miss react to a position by its pane, and what closest answers by what it has noted.
use mathlib.Core.Bool.{Bool, true, cond}
use mathlib.Core.List.{List, []}
use mathlib.Core.Path.{◌≡◌, refl, ap, ◌∙◌}
use Prim.Native.Nat.{ℕ}
use lib.Ieee.{Float}
use Rattle.causes.specs.Refusal.{cause_number}
use Rattle.ray.specs.Ray.{counts}
use Rattle.walk.specs.Queries.{Pane, distance, faulty, Found, none, hit, fault, closest, miss, lower, lower_at, block_at}
use Rattle.walk_record.specs.WalkRay.{WalkRay}
use Rattle.query.specs.Result.{Result}
use Rattle.pane_walk.specs.declared.ClosestHit.{ClosestHit}
use Rattle.pane_walk.specs.declared.ClosestHit.TheVariants.{Hit, NoHit, Refused}
use Rattle.pane_walk.specs.Panes.{pane_of, nearer}
use Rattle.pane_walk.specs.Panes.{ClosestAnswer, closest_found, closest_answer}

-- what closest has noted, by the answer that its loop holds, which is no refusal
abbrev pub found_by : ClosestHit → Found Float
found_by (Hit p t) = hit p t
found_by NoHit = none
found_by (Refused f) = fault (cause_number f)

abbrev pub Held : ClosestHit → Type 0
Held (Hit p t) = Unit {0}
Held NoHit = Unit {0}
Held (Refused f) = ⊥

pub closest_held : (answer : ClosestHit) (tests : ℕ) → Held answer
    → ◌≡◌ {A = Result ClosestAnswer} (record { answer = closest_answer answer; tests = tests }) (closest_found (found_by answer) tests)
unfolding closest_answer closest_found
closest_held (Hit p t) tests h = refl
closest_held NoHit tests h = refl
closest_held (Refused f) tests h = absurd h

-- ---- how they react to a position, by its pane

module _ (indices : List ℕ) (panes : List Float) (p : ℕ) (b : WalkRay) (x : Found Float) where
  pub closest_at : (t : Float) → pane_of indices panes p b ≡ distance t → (c : Bool) → counts b.ray t ≡ c
      → closest (pane_of indices panes) nearer p b x ≡ lower (pane_of indices panes) nearer c p t x
  closest_at t q c h =
      ap (λ (y : Pane Float). lower_at (pane_of indices panes) nearer y p b x) q ∙ ap (λ (d : Bool). lower (pane_of indices panes) nearer d p t x) h

  pub closest_faulty : (k : ℕ) → pane_of indices panes p b ≡ faulty k
      → closest (pane_of indices panes) nearer p b x ≡ record { accumulator = fault k; tells = []; stop = true }
  closest_faulty k q = ap (λ (y : Pane Float). lower_at (pane_of indices panes) nearer y p b x) q

  pub miss_at : (t : Float) → pane_of indices panes p b ≡ distance t → (c : Bool) → counts b.ray t ≡ c
      → miss (pane_of indices panes) nearer p b x ≡ record { accumulator = cond c (hit p t) x; tells = []; stop = c }
  miss_at t q c h =
      ap (λ (y : Pane Float). block_at (pane_of indices panes) nearer y p b x) q
      ∙ ap (λ (d : Bool). record { accumulator = cond d (hit p t) x; tells = []; stop = d }) h

  pub miss_faulty : (k : ℕ) → pane_of indices panes p b ≡ faulty k
      → miss (pane_of indices panes) nearer p b x ≡ record { accumulator = fault k; tells = []; stop = true }
  miss_faulty k q = ap (λ (y : Pane Float). block_at (pane_of indices panes) nearer y p b x) q
