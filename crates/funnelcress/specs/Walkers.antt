-- A walker as C and Rust call it (01, "Walking"; "Causes of refusal"): its ray is a list of eight floats, and answers are numbers.
use Rattle.std.specs.Prelude.{List, ℕ, zero, suc, ◌+◌, Float}
use Rattle.walk.specs.Step.{Answer, tested, position, done, refused}
use Rattle.traverse.specs.Walker.{started}
use Rattle.packed.specs.Packed.{ray_in}
use Rattle.funnelcress.specs.Queries.{of_eight}

-- what refuses a ray: a list that is not eight floats is 1, before anything else
unfoldable pub begin_cause : List Float → ℕ
begin_cause ray = of_eight ray 1 (started (ray_in ray 0)).refused

-- kind 0 is begun, kind 2 refused
unfoldable pub begun_number : ℕ → ℕ
begun_number zero = 0
begun_number (suc k) = 0x2_0000_0000 + suc k

-- kind 0 has tested a node, kind 1 reports a position, kind 2 is refused, kind 3 done
unfoldable pub step_number : Answer → ℕ
step_number (tested v) = v
step_number (position p) = 0x1_0000_0000 + p
step_number (refused k) = 0x2_0000_0000 + k
step_number done = 0x3_0000_0000
