-- Internal: what holds of the tests of a record of a given shape, where its nodes meet the rule: the record's bytes and the slot test give it.
use Rattle.std.specs.Prelude.{true, false, ◌≡◌, ℕ, ◌≤◌, ◌<◌, length}
use Rattle.lists.specs.Counts.{count}
use Rattle.soundness.specs.Range.{in_range}
use Rattle.soundness.specs.Shape.{Shape, positions_held, RangesPlaced}
use Rattle.soundness.specs.Sound.{Sound}
use Rattle.walk.specs.Tests.{Tests}

pub record Lawful {RayData Distance : Type 0} (S : Shape) (Rule : ℕ → Type 0) (T : Tests RayData Distance) : Type 0 where
  -- the rule as a statement and as a test, for the record's own count of positions
  pub passes_rule : (v : ℕ) → v < S.nodes → Rule v → T.rule S.positions v ≡ true
  -- the rule says where a node's ranges lie
  pub placed : (v : ℕ) → v < S.nodes → Rule v → RangesPlaced S v
  -- a ray passes none but the node's own positions and children, each once
  pub own_positions_lem : (ray : RayData) (v x : ℕ) → T.forged ray ≡ false → v < S.nodes → Rule v → count x (T.positions ray v) ≤ positions_held S v x
  pub own_children : (ray : RayData) (v c : ℕ) → T.forged ray ≡ false → v < S.nodes → Rule v
      → count c (T.children ray v) ≤ in_range c (S.base v) (S.children v)
  -- telling makes no ray a forged one
  pub told_accepted : (x : Distance) (ray : RayData) → T.forged ray ≡ false → T.forged (T.told x ray) ≡ false

-- a sound record and lawful tests of it
pub record SoundTests {RayData Distance : Type 0} (S : Shape) (Rule : ℕ → Type 0) (T : Tests RayData Distance) : Type 0 where
  pub lawful : Lawful S Rule T
  pub sound : Sound S Rule

-- a node that meets the rule has at most 24 positions
abbrev pub Narrow : {RayData Distance : Type 0} → ℕ → Tests RayData Distance → Type 0
Narrow {RayData} m T = (ray : RayData) (n v : ℕ) → T.forged ray ≡ false → v < m → T.rule n v ≡ true → length (T.positions ray v) ≤ 24

-- nothing refuses walks over a sound record: its sizes fit, none of its positions is absent, and nodes are narrow
pub record Unrefused {RayData Distance : Type 0} (S : Shape) (T : Tests RayData Distance) : Type 0 where
  pub positions : S.positions ≤ 65536
  pub nodes : S.nodes ≤ 65535
  pub present : (ray : RayData) (p : ℕ) → p < S.positions → T.absent ray p ≡ false
  pub narrow : Narrow S.nodes T
