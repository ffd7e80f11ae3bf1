-- Internal: a walk that gathers positions and may be gone on with: what holds between two of its nodes, and where it ends.
use Rattle.std.specs.Prelude.{Bool, true, false, Result, Ok, Err, List, ◌≡◌, ℕ, ◌+◌, ◌*◌, ◌≤◌, ◌<◌, length, take}
use Rattle.lists.specs.Splice.{splice}
use Rattle.causes.specs.declared.Refusal.{Refusal}
use Rattle.causes.specs.Refusal.{cause_number}
use Rattle.ray.specs.declared.Ray.{Ray}
use Rattle.record_shape.specs.Record.{node_count}
use Rattle.walk.specs.Step as S
use Rattle.walk.specs.Queries.{append}
use Rattle.walk.specs.WordStep.{WalkerWords}
use Rattle.walk.specs.WordQueries.{OutcomeWords}
use Rattle.walk.proofs.WordEnds.{steps_left_words}
use Rattle.gate.specs.Gates.{Gates}
use Rattle.walk_record.specs.WalkRay.{WalkRay, walk_ray, rays_of}
use Rattle.walk_record.specs.Record.{node_words_at}
use Rattle.walk_record.specs.Walk.{any_hit_at}
use Rattle.advance.specs.declared.Answer.{Answer}
use Rattle.advance.specs.declared.Answer.TheVariants as A
use Rattle.advance.specs.Turn.{walker_of}
use Rattle.query.specs.Ending.{ending}
use Rattle.query.proofs.Leads.{Leads}
use Rattle.any_hit_walk.specs.AnyHit.{fitted, list_for}
use Rattle.any_hit_walk.specs.declared.Gathered.{Gathered}

-- positions in front of what was there, as many as there is room for
abbrev pub met_in : List ℕ → List ℕ → List ℕ
met_in before noted = splice before 0 (take (length before) noted)

-- a list after so many positions were to come into it
abbrev pub list_fitted : (count tests : ℕ) → (noted before : List ℕ) → List ℕ
list_fitted count tests noted before = list_for (fitted count tests (length before)).answer noted before

-- whether a walk is done after a search for positions with this answer, or why it is refused
unfoldable pub done_by : Answer → Result Bool Refusal
done_by (A.Tested v) = Ok false
done_by (A.Position p) = Ok false
done_by A.Done = Ok true
done_by (A.Refused f) = Err f

module _ (g : Gates) (bytes : List ℕ) (n : ℕ) (ray : Ray) where
  -- how the whole query ends
  abbrev pub any_hit_outcome : OutcomeWords WalkRay (List ℕ)
  any_hit_outcome = any_hit_at bytes (rays_of g) n (walk_ray ray)

  -- so many positions are noted and written, and what is left of the query, run from here, is the whole query's outcome
  pub record Walking (w : WalkerWords WalkRay) (count : ℕ) (before found : List ℕ) : Type 0 where
    pub accumulator : List ℕ
    pub leads : Leads (node_count bytes) (node_words_at bytes (rays_of g)) n append (ending any_hit_outcome) w accumulator
    pub counted : count ≡ length accumulator
    pub few : count + steps_left_words (node_count bytes) w ≤ 25 * node_count bytes
    pub met : found ≡ met_in before accumulator

  -- the query ends without a fault, after so many positions and tests
  pub record Counted (count tests : ℕ) : Type 0 where
    pub ended : any_hit_outcome.ended ≡ S.done
    pub all : count ≡ length any_hit_outcome.accumulator
    pub tested : tests ≡ any_hit_outcome.walker.tests

  -- where gathering ends: with the query, or with over `most` noted and no position in hand
  abbrev pub Stands : (done : Bool) → (most : ℕ) → WalkerWords WalkRay → (count : ℕ) → (before found : List ℕ) → Type 0
  Stands true most w count before found = Counted count w.tests × (found ≡ met_in before any_hit_outcome.accumulator)
  Stands false most w count before found = (most < count) × (w.positions.bits ≡ 0) × Walking w count before found

  -- a node has at most 24 positions; what refuses gathering refuses the query
  abbrev pub Gathers : (octant most : ℕ) → (before : List ℕ) → Result Gathered Refusal → (stack found : List ℕ) → Type 0
  Gathers octant most before (Ok g) stack found =
      (g.count ≤ most + 24) × Stands g.done most (walker_of ray octant g.walk stack) g.count before found
  Gathers octant most before (Err f) stack found = any_hit_outcome.ended ≡ S.refused (cause_number f)
