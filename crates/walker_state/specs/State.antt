-- The walker that words of 64 bits hold (01, "Walking"): 18 words, and 32 of the stack. Any words hold one.
use Rattle.std.specs.Prelude.{Bool, true, false, List, ◌≡◌, ℕ, ◌+◌, ◌%◌, ◌^◌, get_or, Float}
use Rattle.std.specs.Float.{binary32}
use Rattle.std.specs.Float.Ieee.{of_bits}
use Rattle.ray.specs.declared.Vec3.{Vec3}
use Rattle.ray.specs.declared.Ray.{Ray}
use Rattle.advance.specs.declared.Group.{Group}
use Rattle.advance.specs.declared.Walk.{Walk}
use Rattle.advance.specs.Turn.{walker_of}
use Rattle.walk.specs.Step as S
use Rattle.walk.specs.WordStep.{WalkerWords}
use Rattle.walk_record.specs.WalkRay.{WalkRay}

-- ---- what the words hold

-- the lower half of word k; the upper half is not read
abbrev pub half_in : List ℕ → ℕ → ℕ
half_in s k = get_or s k 0 % 2 ^ 32

abbrev pub float_in : List ℕ → ℕ → Float
float_in s k = of_bits binary32 (half_in s k)

abbrev pub vec_held : List ℕ → ℕ → Vec3
vec_held s k = record { x = float_in s k; y = float_in s (k + 1); z = float_in s (k + 2) }

abbrev pub ray_held : List ℕ → Ray
ray_held s = record { origin = vec_held s 0; direction = vec_held s 3; inverse = vec_held s 6; tmin = float_in s 9; tmax = float_in s 10 }

abbrev pub group_in : List ℕ → ℕ → Group
group_in s k = record { base = half_in s k; bits = half_in s (k + 1) }

abbrev pub walk_in : List ℕ → Walk
walk_in s = record { tests = half_in s 12; positions = group_in s 13; current = group_in s 15; depth = half_in s 17 }

-- a ray in words 0 to 10, its octant, and the walk; the stack as it is
abbrev pub walker_in : (head stack : List ℕ) → WalkerWords WalkRay
walker_in head stack = walker_of (ray_held head) (half_in head 11) (walk_in head) stack

-- the lower halves of three words are the patterns of a vector
pub record Patterns (x y z : ℕ) (v : Vec3) : Type 0 where
  pub is_x : of_bits binary32 (x % 2 ^ 32) ≡ v.x
  pub is_y : of_bits binary32 (y % 2 ^ 32) ≡ v.y
  pub is_z : of_bits binary32 (z % 2 ^ 32) ≡ v.z

-- ---- what a call leaves

abbrev pub is_refused : S.Answer → Bool
is_refused (S.tested v) = false
is_refused (S.position p) = false
is_refused S.done = false
is_refused (S.refused k) = true

-- the words of a walker's state
pub record HeldWords : Type 0 where
  pub head : List ℕ
  pub stack : List ℕ

abbrev pub held : (head stack : List ℕ) → HeldWords
held head stack = record { head = head; stack = stack }

-- a refused call leaves the words as they were, and any other words that hold the walker
unfoldable pub Leaves : Bool → (before after : HeldWords) → WalkerWords WalkRay → Type 0
Leaves true before after w = after ≡ before
Leaves false before after w = walker_in after.head after.stack ≡ w
