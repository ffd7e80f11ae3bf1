-- Done stays done, over whole lists of calls: once a step has said done, every later step is done or refused, whatever the walker is told between,
-- and whatever record and count of positions each of those steps brings. It holds from any walker on, a forged one too.
use mathlib.Core.Bool.{Bool, true, false, cond}
use mathlib.Core.List.{List, [], ◌∷◌}
use mathlib.Core.Path.{◌≡◌, subst}
use Prim.Native.Nat.{ℕ, ◌%◌}
use native.Mathlib.Omega.{arith}
use lib.Dec.{eqb}
use lib.ListN.{length}
use Rattle.record_shape.specs.Record.{node_count, nodes_at}
use Rattle.walk.specs.Step.{Answer, done, refused}
use Rattle.causes.specs.Sizes.{sizes_fit}
use Rattle.walk.specs.Calls.{All}
use Rattle.walk.specs.WordStep.{WalkerWords, SteppedWords, stay_words, forged_words}
use Rattle.walk.proofs.WordKept.{Finished, Leaves, tell_finished}
use Rattle.walk_record.specs.WalkRay.{WalkRay, by_boxes}
use Rattle.walk_record.specs.Record.{node_words_at}
use Rattle.walk_record.specs.Walk.{step_in}
use Rattle.walk_record.proofs.Steps.{step_leaves, step_finished}
use Rattle.traverse.specs.Walker.{step_bytes, told_walker}
use Rattle.traverse.specs.Calls.{RecordOp, step_on, tells, run_each}
use Rattle.demands.specs.Walks.{DoneOrRefused, DoneStays}

-- a walker with nothing left stays one, and its step is done or refused
record Rests (r : SteppedWords WalkRay) : Type 0 where
  pub finished : Finished r.walker
  pub quiet : DoneOrRefused r.answer

module _ (bytes : List ℕ) (n : ℕ) (w : WalkerWords WalkRay) where
  -- a step, by the test of the record's length
  abbrev by : Bool → SteppedWords WalkRay
  by a = elim a [ false ↦ stay_words w (refused 1) | true ↦ step_in (nodes_at bytes) by_boxes n w ]

  step_rests : Finished w → Rests (step_bytes bytes n w)
  unfolding step_bytes
  step_rests f = go (eqb (length bytes % 80) 0)
    where
      two : (a b : Bool) → Rests (cond a (cond b (stay_words w (refused 10)) (stay_words w done)) (stay_words w (refused 2)))
      two true true = record { finished = f; quiet = tt }
      two true false = record { finished = f; quiet = tt }
      two false b = record { finished = f; quiet = tt }

      go : (a : Bool) → Rests (by a)
      go false = record { finished = f; quiet = tt }
      go true =
          rw (step_finished (nodes_at bytes) by_boxes n w f)
          (two (sizes_fit (node_count bytes) n) (forged_words (node_count bytes) (node_words_at bytes by_boxes) w))

  -- a step that says done leaves nothing to do
  done_finished : (step_bytes bytes n w).answer ≡ done → Finished (step_bytes bytes n w).walker
  unfolding step_bytes
  done_finished = go (eqb (length bytes % 80) 0)
    where
      go : (a : Bool) → (by a).answer ≡ done → Finished (by a).walker
      go false e = absurd (let z : ◌≡◌ {A = ℕ} 0 1 = cc in omega arith)
      go true e =
          (subst (λ (x : Answer). Leaves (node_count bytes) (node_words_at bytes by_boxes) n w x (by true).walker) e
          (step_leaves (nodes_at bytes) by_boxes n w)).0

rest_done : (l : List RecordOp) (w : WalkerWords WalkRay) → Finished w → All DoneOrRefused (run_each l w).answers
unfolding run_each
rest_done [] w f = tt
rest_done (step_on bytes n ∷ l) w f = let r = step_rests bytes n w f in (r.quiet, rest_done l (step_bytes bytes n w).walker r.finished)
rest_done (tells t ∷ l) w f = rest_done l (told_walker t w) (tell_finished (node_words_at [] by_boxes) t w f)

pub done_stays_done : (l : List RecordOp) (w : WalkerWords WalkRay) → DoneStays (run_each l w).answers
unfolding run_each
done_stays_done [] w = tt
done_stays_done (step_on bytes n ∷ l) w =
    (λ e. rest_done l (step_bytes bytes n w).walker (done_finished bytes n w e), done_stays_done l (step_bytes bytes n w).walker)
done_stays_done (tells t ∷ l) w = done_stays_done l (told_walker t w)
