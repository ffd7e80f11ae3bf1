-- The third demand, the walk's half, of the record that a converted call left, for every accepted ray: whatever is called and told, no position is
-- reported twice, and none that the ray does not pass; and any-hit lists exactly the positions that the ray passes, once each, after as many tests as
-- nodes are reached. Record `Walks` says it in full.
use Prim.Native.Nat.{ℕ}
use Rattle.ray.specs.declared.Ray.{Ray}
use Rattle.demands.specs.Call.{Call, Answers, leaf_count, record_at}
use Rattle.demands.specs.Walks.{AcceptedRay, Walks}
use Rattle.demands.proofs.Demands.{good_record}
use Rattle.demands.proofs.SoundWalks.{sound_walks}

pub converted_walks : (c : Call) (m d : ℕ) → Answers c m d → (ray : Ray) → AcceptedRay ray → Walks (record_at c m) ray (leaf_count c) d
converted_walks c m d answers ray accepted = sound_walks (good_record c m d answers) accepted
