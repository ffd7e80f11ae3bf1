-- Boxes (01, "Corners of each file", aabb.rs; "Causes of refusal", 6). Each operation is rounded once, in the order in which the Rust writes it.
use Rattle.std.specs.Prelude.{Bool, false, ◌&&◌, cond, ◌≡◌, T, negsuc, Float}
use Rattle.std.specs.Float.{inf, fin, binary32}
use Rattle.std.specs.Float.Ieee.{add, sub, mul, le}
use Rattle.float.specs.Compare.{min_of, max_of, plus_zero, unsigned_zero, is_minus_zero}
use Rattle.ray.specs.declared.Vec3.{Vec3}
use Rattle.ray.specs.declared.Ray.{Ray}
use Rattle.ray.specs.Ray.{bounded_vec}
use Rattle.aabb.specs.declared.Aabb.{Aabb}

-- one function on each component of two vectors
abbrev pub each : (Float → Float → Float) → Vec3 → Vec3 → Vec3
each f a b = record { x = f a.x b.x; y = f a.y b.y; z = f a.z b.z }

-- the extents of a box
abbrev pub diagonal : Aabb → Vec3
diagonal b = each (sub binary32) b.max b.min

-- (x + y) * z + x * y of the extents
unfoldable pub half_area : Aabb → Float
half_area b =
    let d = diagonal b in
    add binary32 (mul binary32 (add binary32 d.x d.y) d.z) (mul binary32 d.x d.y)

-- (max + min) * 0.5 on each axis
unfoldable pub center_of : Aabb → Vec3
center_of b = each (λ hi lo. mul binary32 (add binary32 hi lo) (fin false 1 (negsuc 0))) b.max b.min

-- the least box that holds both; an end that is zero is +0
unfoldable pub union_of : Aabb → Aabb → Aabb
union_of a b = record {
  min = each (λ p q. unsigned_zero (min_of p q)) a.min b.min;
  max = each (λ p q. unsigned_zero (max_of p q)) a.max b.max;
}

-- the ray's distances to the two planes of an axis
abbrev pub plane_distance : Float → Float → Float → Float
plane_distance plane origin inverse = mul binary32 (sub binary32 plane origin) inverse

-- where the ray enters and leaves the slab between the planes of an axis
unfoldable pub slab_near : Float → Float → Float → Float → Float
slab_near lo hi origin inverse = min_of (plane_distance lo origin inverse) (plane_distance hi origin inverse)

unfoldable pub slab_far : Float → Float → Float → Float → Float
slab_far lo hi origin inverse = max_of (plane_distance lo origin inverse) (plane_distance hi origin inverse)

-- the largest near distance of the three slabs, and the least far one
unfoldable pub box_near : Aabb → Ray → Float
box_near b r =
    max_of
    (max_of (slab_near b.min.x b.max.x r.origin.x r.inverse.x) (slab_near b.min.y b.max.y r.origin.y r.inverse.y))
    (slab_near b.min.z b.max.z r.origin.z r.inverse.z)

unfoldable pub box_far : Aabb → Ray → Float
box_far b r =
    min_of
    (min_of (slab_far b.min.x b.max.x r.origin.x r.inverse.x) (slab_far b.min.y b.max.y r.origin.y r.inverse.y))
    (slab_far b.min.z b.max.z r.origin.z r.inverse.z)

-- the distance at which the ray enters the box, negative where its origin lies inside, a zero as +0; +infinity where it misses
unfoldable pub entry_distance : Aabb → Ray → Float
entry_distance b r = cond (le (box_near b r) (box_far b r) && le plus_zero (box_far b r)) (unsigned_zero (box_near b r)) (inf false)

-- min at most max on each axis
unfoldable pub in_order : Aabb → Bool
in_order b = le b.min.x b.max.x && le b.min.y b.max.y && le b.min.z b.max.z

-- no cause 6: corners finite, within ±2 ^ 40, and in order
unfoldable pub accepted_box : Aabb → Bool
accepted_box b = bounded_vec b.min && bounded_vec b.max && in_order b

-- no component of one vector is over the other's
abbrev pub NotOver : Vec3 → Vec3 → Type 0
NotOver p q = T (le p.x q.x) × T (le p.y q.y) × T (le p.z q.z)

-- one box holds another: it begins nowhere later and ends nowhere earlier (02, [4])
abbrev pub HoldsBox : Aabb → Aabb → Type 0
HoldsBox a b = NotOver a.min b.min × NotOver b.max a.max

-- no component is -0 (02, [4])
abbrev pub NoMinusZero : Vec3 → Type 0
NoMinusZero v = (is_minus_zero v.x ≡ false) × (is_minus_zero v.y ≡ false) × (is_minus_zero v.z ≡ false)
