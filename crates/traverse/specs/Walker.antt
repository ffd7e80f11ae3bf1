-- The walker as the machine of words has it, and its calls on a record as bytes (01, "Walking"; "Causes of refusal").
use Rattle.std.specs.Prelude.{true, false, List, [], ℕ, ◌%◌, eqb, length, replicate, Float}
use Rattle.std.specs.Prelude.{Result, Ok, Err}
use Rattle.float.specs.Compare.{plus_zero}
use Rattle.causes.specs.declared.Refusal.{Refusal}
use Rattle.causes.specs.Refusal.{cause_number}
use Rattle.ray.specs.declared.Ray.{Ray}
use Rattle.ray.specs.declared.Vec3.{Vec3}
use Rattle.ray.specs.Ray.{accepted_ray}
use Rattle.faststack.specs.Stack.{capacity}
use Rattle.walk.specs.Step as S
use Rattle.walk.specs.WordStep.{WalkerWords, SteppedWords, no_group, fresh_words, stay_words, tell_words}
use Rattle.walk_record.specs.WalkRay.{WalkRay, walk_ray, by_boxes}
use Rattle.walk_record.specs.Record.{node_words_at}
use Rattle.walk_record.specs.Walk.{step_at}
use Rattle.advance.specs.Turn.{step_answer, walker_of}
use Rattle.traverse.specs.declared.Walker.{Walker}
use Rattle.traverse.specs.declared.Stepped.{Stepped}

-- ---- the structs in the requirements' terms

abbrev pub walker_words : Walker → WalkerWords WalkRay
walker_words w = walker_of w.ray w.octant w.walk w.stack

-- the walker after a step with the step's answer: a node tested, a position reported, done, or refused with the number of a cause
abbrev pub stepped_of : Stepped → SteppedWords WalkRay
stepped_of s = record { walker = walker_words s.walker; answer = step_answer s.answer }

-- a walker begun, with the number of the cause that refuses it, 0 for none
pub record Begun : Type 0 where
  pub walker : WalkerWords WalkRay
  pub refused : ℕ

-- ---- a walker just begun

-- all zero: its inverse is not its direction's, so it is forged
abbrev pub no_ray : Ray
no_ray = let zeros : Vec3 = record { x = plus_zero; y = plus_zero; z = plus_zero } in
    record { origin = zeros; direction = zeros; inverse = zeros; tmin = plus_zero; tmax = plus_zero }

abbrev pub no_walker : WalkerWords WalkRay
no_walker = record {
  ray = record { ray = no_ray; octant = 0 };
  tests = 0;
  positions = no_group;
  current = no_group;
  depth = 0;
  stack = replicate
      capacity 0;
}

-- fresh on an accepted ray; else refused 9, with a walker that can't be walked
unfoldable pub started : Ray → Begun
started r = elim (accepted_ray r) [
  | true ↦ record { walker = fresh_words (walk_ray r); refused = 0 }
  | false ↦
      record { walker = no_walker; refused = 9 }
]

-- how beginning ends: with a walker, or with an error, which brings none
abbrev pub started_of : Result Walker Refusal → Begun
started_of (Ok w) = record { walker = walker_words w; refused = 0 }
started_of (Err refusal) = record { walker = no_walker; refused = cause_number refusal }

-- ---- telling

-- a distance that counts becomes the reach; nothing else changes, and nothing is refused
abbrev pub told_walker : Float → WalkerWords WalkRay → WalkerWords WalkRay
told_walker t w = tell_words (node_words_at [] by_boxes) t w

-- ---- a step

-- a record of another length is refused 1, and the walker stays
unfoldable pub step_bytes : List ℕ → ℕ → WalkerWords WalkRay → SteppedWords WalkRay
unfolding step_at
step_bytes bytes n w = elim (eqb (length bytes % 80) 0) [ false ↦ stay_words w (S.refused 1) | true ↦ step_at bytes by_boxes n w ]
