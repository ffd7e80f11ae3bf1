-- Why a call of `loss` or of `report` is refused (02, [3]): each constructor is one way for the cause of that number to hold.
use Rattle.std.specs.Prelude.{false, List, ◌≡◌, ℕ, ◌%◌, ◌≤◌, ◌<◌, length, get_or}
use Rattle.causes.specs.Causes.{First}
use Rattle.ray.specs.Ray.{accepted_ray}
use Rattle.packed.specs.Packed.{ray_in}
use Rattle.record_shape.specs.Record.{node_count}
use Rattle.walk.specs.Listing.{In}
use Rattle.query.specs.Result.{Result}
use Rattle.any_hit.specs.AnyHit.{AnyHitAnswer, refused, any_hit_of}
use Rattle.demands.specs.Loss.{LossCall, met, ReportCall, rays_given, single}

-- of a record and its index list
pub data SizeRefusal (bytes indices : List ℕ) : ℕ → Type 0 where
  -- 1
  part_of_node : ¬ (length bytes % 80 ≡ 0) → SizeRefusal bytes indices 1
  -- 2
  positions_over : 65536 < length indices → SizeRefusal bytes indices 2
  nodes_over : 65535 < node_count bytes → SizeRefusal bytes indices 2

-- of a list of losses, so many panes given: cause 12
pub data LossesRefusal (panes : ℕ) (losses : List ℕ) : Type 0 where
  not-each : ¬ (length losses ≡ panes) → LossesRefusal panes losses
  loss_over : (k : ℕ) → k < length losses → 1000000 < get_or losses k 0 → LossesRefusal panes losses

-- of a ray's walk, by what any-hit answers for the ray with so much room and by the positions met: cause 10
pub data WalkRefusedBy (indices : List ℕ) (panes : ℕ) (any_hit : (room : ℕ) → Result AnyHitAnswer) (met : List ℕ) : Type 0 where
  -- any-hit of the ray is refused with it
  any_hit_refused : (room : ℕ) → (any_hit room).answer ≡ refused 10 → WalkRefusedBy indices panes any_hit met
  -- a position met has an index word that names no pane
  no_pane : (p : ℕ) → In p met → panes ≤ get_or indices p 0 → WalkRefusedBy indices panes any_hit met

abbrev pub WalkRefusal : LossCall → Type 0
WalkRefusal c = WalkRefusedBy c.indices c.panes (any_hit_of c.bytes (length c.indices) c.ray) (met c)

-- of a call of `loss`
pub data LossRefusal (c : LossCall) : ℕ → Type 0 where
  -- 1, 2
  sizes_refused : {k : ℕ} → SizeRefusal c.bytes c.indices k → LossRefusal c k
  -- 12
  losses_refused : LossesRefusal c.panes c.losses → LossRefusal c 12
  -- 9
  ray_refused : accepted_ray c.ray ≡ false → LossRefusal c 9
  -- 10
  walk_refused : WalkRefusal c → LossRefusal c 10

-- of a call of `report`
pub data ReportRefusal (c : ReportCall) : ℕ → Type 0 where
  -- 1
  part_of_ray : ¬ (length c.rays % 8 ≡ 0) → ReportRefusal c 1
  -- 1, 2
  sizes_refused : {k : ℕ} → SizeRefusal c.bytes c.indices k → ReportRefusal c k
  -- 2
  rays_over : 65536 < rays_given c → ReportRefusal c 2
  -- 4
  ray_totals_short : length c.ray_totals < rays_given c → ReportRefusal c 4
  pane_totals_short : length c.pane_totals < c.panes → ReportRefusal c 4
  -- 12
  losses_refused : LossesRefusal c.panes c.losses → ReportRefusal c 12
  -- 9
  ray_refused : (i : ℕ) → i < rays_given c → accepted_ray (ray_in c.rays i) ≡ false → ReportRefusal c 9
  -- 10
  walk_refused : (i : ℕ) → i < rays_given c → WalkRefusal (single c i) → ReportRefusal c 10

-- the first cause that holds, in the order in which they are looked at
abbrev pub FirstLossRefusal : LossCall → ℕ → Type 0
FirstLossRefusal c k = First (LossRefusal c) k

abbrev pub FirstReportRefusal : ReportCall → ℕ → Type 0
FirstReportRefusal c k = First (ReportRefusal c) k
