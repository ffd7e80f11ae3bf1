-- What a walk asks of a record and a ray (01, "Walking"). The theory of walks holds for any answers, so that another slot test, a test of each
-- position, or more that a ray carries, come in here.
use Rattle.std.specs.Prelude.{Bool, List, ℕ}

-- `RayData` is what the tests read of a walker, its ray with the current reach; `Distance` is what a caller tells.
pub record Tests (RayData Distance : Type 0) : Type 0 where
  -- `rule n v`: node v meets the node rule of a record of n positions
  pub rule : ℕ → ℕ → Bool
  -- the positions of a node that the ray passes, highest first; none that is passed over is among them
  pub positions : RayData → ℕ → List ℕ
  -- the children of a node that the ray passes, by falling slot XOR octant
  pub children : RayData → ℕ → List ℕ
  -- the ray after a distance was told
  pub told : Distance → RayData → RayData
  -- a ray that no walker just begun holds
  pub forged : RayData → Bool
  -- a position that is not there: its report is refused
  pub absent : RayData → ℕ → Bool
