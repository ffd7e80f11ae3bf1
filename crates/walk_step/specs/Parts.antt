-- Internal: the parts of a step (01, "Walking"; "Causes of refusal").
use Rattle.std.specs.Prelude.{Bool, not, ◌&&◌, ◌||◌, cond, ℕ, eqb, leb, ltb}
use Rattle.ray.specs.declared.Ray.{Ray}
use Rattle.faststack.specs.Stack.{capacity}
use Rattle.gate.specs.Gates.{Gates}
use Rattle.walk.specs.Step as S
use Rattle.walk.specs.Words as W
use Rattle.walk.specs.WordStep.{WalkerWords, SteppedWords, stay_words, report_words, leaving}
use Rattle.walk_record.specs.WalkRay.{WalkRay, forged_ray}

-- the walker is forged on a record of m nodes
abbrev pub is_forged : Ray → (octant depth tests m : ℕ) → Bool
is_forged r octant depth tests m = forged_ray (record { ray = r; octant = octant }) || ltb capacity depth || ltb m tests

-- there are no nodes, only the first is in hand, and nothing waits
abbrev pub is_over : ℕ → W.Group → W.Group → (depth octant : ℕ) → Bool
is_over m positions current depth octant =
    leb m 0 && (eqb positions.bits 0 && W.has_child current && eqb (W.first_child octant current) 0 && not (W.has_child (W.rest_of current)) && eqb
    depth 0)

-- a position that a gate passes over
abbrev pub passes_over : Gates → ℕ → Bool
passes_over g p = not (g.absent p || g.admits p)

-- the first position in hand is absent, past the n, or reported
abbrev pub due_report : Gates → ℕ → WalkerWords WalkRay → SteppedWords WalkRay
due_report g n w = cond (g.absent (W.first_position w.positions)) (stay_words w (S.refused 10)) (report_words n w)

-- what a turn leaves of walker w
abbrev pub left_by : WalkerWords WalkRay → SteppedWords WalkRay → SteppedWords WalkRay
left_by w r = record { walker = leaving w r.answer r.walker; answer = r.answer }
