-- Which slot each child of a node takes (01, "Corners of each file", bvh2_to_cwbvh.rs, Ordering), the children's boxes given in gathered order.
use Rattle.std.specs.Prelude.{Bool, true, false, cond, List, [], ◌∷◌, ◌++◌, map, ℕ, zero, suc, ◌/◌, ◌%◌, eqb, pos, length, get_or, replicate, Float}
use Rattle.std.specs.Float.{fin, binary32}
use Rattle.std.specs.Float.Ieee.{add, sub, mul}
use Rattle.ray.specs.declared.Vec3.{Vec3}
use Rattle.aabb.specs.declared.Aabb.{Aabb}
use Rattle.aabb.specs.Aabb.{each, center_of}
use Rattle.order.specs.Lists.{eight_of, padded}
use Rattle.order.specs.Assign.{Pair, cost_in, greatest_finite, child_of, assignment, rounds_of}
use Rattle.order.specs.declared.Seating.{Seating}

-- −1 for a bit that is set, else 1
unfoldable pub sign_of : ℕ → Float
sign_of bit = cond (eqb bit 0) (fin false 1 (pos 0)) (fin true 1 (pos 0))

-- direction s: −1 on x, y and z where s has the bits 4, 2 and 1
unfoldable pub direction_of : ℕ → Vec3
direction_of s = record { x = sign_of (s / 4 % 2); y = sign_of (s / 2 % 2); z = sign_of (s % 2) }

-- (x part + y part) + z part
unfoldable pub dot_of : Vec3 → Vec3 → Float
dot_of a b = add binary32 (add binary32 (mul binary32 a.x b.x) (mul binary32 a.y b.y)) (mul binary32 a.z b.z)

-- what a child costs in slot s: how far its centre lies from p, its parent's centre, along direction s
unfoldable pub direction_cost : Vec3 → Aabb → ℕ → Float
direction_cost p child s = dot_of (direction_of s) (each (sub binary32) (center_of child) p)

-- a row of eight costs for each child of a node
unfoldable pub cost_table : Aabb → List Aabb → List (List Float)
cost_table parent boxes = let p = center_of parent in map (λ b. eight_of (direction_cost p b)) boxes

-- child i in slot i
unfoldable pub gathered_order : ℕ → List Pair
gathered_order zero = []
gathered_order (suc n) = gathered_order n ++ (record { child = n; slot = n } ∷ [])

-- the slots of up to eight children: by cost with ordering on, else in gathered order
unfoldable pub slots_of : Bool → Aabb → List Aabb → List Pair
slots_of true parent boxes = assignment (cost_in (cost_table parent boxes)) (length boxes)
slots_of false parent boxes = gathered_order (length boxes)

-- the children by slots, `none` in a slot without one
unfoldable pub placed : {A : Type 0} → A → List Pair → List A → List A
placed none ps children = eight_of (λ s. get_or children (child_of ps s) none)

-- the children in the order seated, `none` behind them
unfoldable pub seated_of : {A : Type 0} → A → List Pair → List A → List A
seated_of none ps children = padded none (map (λ p. get_or children p.child none) ps)

-- the number that stands where no child is
abbrev pub no_child : ℕ
no_child = 0xffff_ffff

-- what `seat_children` gives for up to eight children: without ordering no search is made
abbrev pub seating_of : Bool → Aabb → List Aabb → List ℕ → Seating
seating_of ordered parent boxes children =
    let ps = slots_of ordered parent boxes in
    record {
      slots = placed no_child ps children;
      seated = seated_of no_child ps children;
      count = length ps;
      rounds = cond ordered (rounds_of (length boxes) ps) 0;
    }

-- the row of a child that is not there
abbrev pub no_row : List Float
no_row = replicate 8 greatest_finite
