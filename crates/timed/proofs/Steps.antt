-- Steps, tellings and queries at a quarter hour over every sound record, whatever is called and told: no position twice, and none that boxes and
-- spans do not let through; few groups wait; and the walk refuses none.
use mathlib.Core.Bool.{true, false}
use mathlib.Core.List.{List, Nodup}
use mathlib.Core.Path.{◌≡◌, refl}
use Prim.Native.Nat.{ℕ, ◌≤◌}
use lib.Ieee.{Float}
use lib.ListN.{length}
use Rattle.lists.proofs.Tells.{both_pass}
use Rattle.ray.specs.declared.Ray.{Ray}
use Rattle.node.specs.Node.{node_at}
use Rattle.node_slot.specs.Mask.{passes_slot}
use Rattle.record_shape.specs.Record.{nodes_at, DeepestLevel}
use Rattle.walk.specs.Calls.{All, Op, reported, Answered, StepsWith}
use Rattle.walk.specs.Queries.{Reaction, Ended}
use Rattle.walk.proofs.Lists.{all_map}
use Rattle.walk_record.specs.Record.{slot_test}
use Rattle.walk_record.specs.WalkRay.{WalkRay, walk_ray, forged_ray, told_walk_ray}
use Rattle.walk_record.specs.Walk.{run_at, query_at}
use Rattle.walk_record.proofs.Reach.{told_passes_fewer}
use Rattle.walk_record.proofs.Demands as W
use Rattle.timed.specs.Hours.{Timetable, slot_open}
use Rattle.timed.specs.Walk.{rays_at, timed_run, timed_query}
use Rattle.timed.specs.Reached.{SoundAt, PassedAt}
use Rattle.timed.proofs.Listed.{timed_walk, passed_at}

-- telling makes a ray pass no more slots
told_fewer : (bytes : List ℕ) (h : Timetable) (x : Float) (b : WalkRay) (v j : ℕ)
    → slot_test (nodes_at bytes) (rays_at h) (told_walk_ray x b) v j ≡ true → slot_test (nodes_at bytes) (rays_at h) b v j ≡ true
told_fewer bytes h x b v j e =
    let q = both_pass (slot_open h v j) (passes_slot (node_at bytes v) (told_walk_ray x b).ray j) e in
    rw (q.0, told_passes_fewer (nodes_at bytes) x b v j q.1) refl

module _ {bytes : List ℕ} {h : Timetable} (good : SoundAt bytes h) (ray : Ray) (accepted : forged_ray (walk_ray ray) ≡ false) where
  -- For every list of steps and tellings from a walker just begun, refused steps included: no position is reported twice,
  pub timed_report_once : (l : List (Op Float)) → Nodup (reported (timed_run bytes h l ray).answers)
  unfolding run_at
  timed_report_once = W.calls_report_once (timed_walk good accepted)

  -- only positions that boxes and spans let through for the ray as begun are reported,
  pub timed_pass : (l : List (Op Float)) → All (PassedAt bytes h ray) (reported (timed_run bytes h l ray).answers)
  unfolding run_at
  timed_pass l =
      all_map (λ p. (passed_at good accepted p).0) (reported (timed_run bytes h l ray).answers)
      (W.calls_pass (timed_walk good accepted) (told_fewer bytes h) l)

  -- the waiting groups of the walker then held do not outnumber the deepest level,
  pub timed_wait_few : (d : ℕ) → DeepestLevel bytes (length h.indices) d → (l : List (Op Float)) → (timed_run bytes h l ray).walker.depth ≤ d
  unfolding run_at
  timed_wait_few = W.calls_wait_few (timed_walk good accepted)

  -- and where each step brings as many positions as there are index words none is refused.
  pub timed_answered : (l : List (Op Float)) → All (StepsWith (length h.indices)) l → All Answered (timed_run bytes h l ray).answers
  unfolding run_at
  timed_answered = W.calls_answered (timed_walk good accepted)

  -- The walk refuses no query.
  pub timed_query_answered : {a : Type 0} (react : ℕ → WalkRay → a → Reaction Float a) (x : a) → Ended (timed_query bytes h react x ray).ended
  unfolding query_at
  timed_query_answered = W.query_answered (timed_walk good accepted)
