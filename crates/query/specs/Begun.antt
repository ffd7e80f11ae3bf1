-- Internal: where the walk of a query begins.
use Rattle.std.specs.Prelude.{Option, Some, None, List, ◌≡◌, ℕ, length}
use Rattle.ray.specs.declared.Ray.{Ray}
use Rattle.query.specs.declared.Query.{Query}

-- a walk of this ray over the record of these bytes, with so many positions; none where there are no bytes
abbrev pub Begun : List ℕ → ℕ → Ray → Option Query → Type 0
Begun bytes n r (Some q) = (q.bvh.bytes.now ≡ bytes) × (q.bvh.positions ≡ n) × (q.aim.ray ≡ r)
Begun bytes n r None = length bytes ≡ 0
