-- On a record of whole nodes the calls are those of the machine of words.
use mathlib.Core.Path.{◌≡◌, refl, ap, ◌∙◌}
use mathlib.Core.Bool.{Bool, true, false}
use mathlib.Core.List.{List, [], ◌∷◌}
use Prim.Native.Nat.{ℕ, ◌%◌}
use lib.ListN.{length}
use lib.Ieee.{Float}
use borrow.Author.Tests.{eq-eqb}
use Rattle.ray.specs.declared.Ray.{Ray}
use Rattle.ray.specs.Ray.{accepted_ray}
use Rattle.walk.specs.Step as S
use Rattle.walk.specs.Calls.{Op, step, tell}
use Rattle.walk.specs.WordStep.{WalkerWords, SteppedWords, fresh_words, run_words, stay_words}
use Rattle.walk_record.specs.WalkRay.{WalkRay, walk_ray, by_boxes}
use Rattle.walk_record.specs.Walk.{step_at, run_at}
use Rattle.traverse.specs.Walker.{started, step_bytes}
use Rattle.traverse.specs.Calls.{run_each, run_bytes}
use Rattle.traverse.proofs.Begun.{starts_fresh}

module _ (bytes : List ℕ) (whole : length bytes % 80 ≡ 0) where
  pub step_whole : (n : ℕ) (w : WalkerWords WalkRay) → step_bytes bytes n w ≡ step_at bytes by_boxes n w
  unfolding step_bytes
  step_whole n w = ap by (eq-eqb (length bytes % 80) 0 whole)
    where
      by : Bool → SteppedWords WalkRay
      by a = elim a [ false ↦ stay_words w (S.refused 1) | true ↦ step_at bytes by_boxes n w ]

  pub run_whole : (l : List (Op Float)) (w : WalkerWords WalkRay) → run_bytes bytes l w ≡ run_at bytes by_boxes l w
  unfolding run_bytes run_each run_at run_words step_at
  run_whole [] w = refl
  run_whole (step n ∷ l) w =
      let e = step_whole n w in
      let r = run_whole l (step_bytes bytes n w).walker ∙ ap (λ (x : SteppedWords WalkRay). run_at bytes by_boxes l x.walker) e in
      λ i. record { walker = (r i).walker; answers = (e i).answer ∷ (r i).answers }
  run_whole (tell t ∷ l) w = run_whole l _

  -- from the walker that `Walker::new` begins with, for an accepted ray
  pub run_started : (r : Ray) → accepted_ray r ≡ true → (l : List (Op Float))
      → run_bytes bytes l (started r).walker ≡ run_at bytes by_boxes l (fresh_words (walk_ray r))
  run_started r h l = ap (run_bytes bytes l) (starts_fresh r h) ∙ run_whole l (fresh_words (walk_ray r))
