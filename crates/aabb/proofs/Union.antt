-- The union of two accepted boxes is accepted, holds both, and has no -0 among its ends.
use mathlib.Core.Bool.{Bool, true, false, not, ◌&&◌, cond}
use mathlib.Core.Path.{◌≡◌, refl, sym, subst, ◌∙◌}
use lib.Dec.{T}
use lib.Ieee.{Float, binary32, fits, is_nan, lt, le}
use lib.Ieee.Bits.{is_true}
use Rattle.lists.proofs.Tells.{both_pass}
use Rattle.float.specs.Compare.{min_of, max_of, unsigned_zero, in_bounds}
use Rattle.float.proofs.Order.{le_of_lt, le_of_not_lt, le_self, le_transitive}
use Rattle.float.proofs.Unsigned.{unsigned_plain, unsigned_bounds, unsigned_below, unsigned_above, unsigned_fits}
use Rattle.ray.specs.declared.Vec3.{Vec3}
use Rattle.ray.specs.Ray.{bounded_vec}
use Rattle.ray.proofs.Bounds.{bounded, no_nans}
use Rattle.aabb.specs.declared.Aabb.{Aabb}
use Rattle.aabb.specs.Aabb.{each, union_of, in_order, accepted_box, NotOver, HoldsBox, NoMinusZero}
use Rattle.aabb.proofs.Bounds.{accepted}

-- ---- one end: one of the two, and at most or at least both
min_cases : (P : Float → Type 0) (a b : Float) → (lt a b ≡ true → P a) → (lt a b ≡ false → P b) → P (min_of a b)
unfolding min_of
min_cases P a b f g = go (lt a b) refl
  where
    go : (c : Bool) → lt a b ≡ c → P (cond c a b)
    go true e = f e
    go false e = g e

max_cases : (P : Float → Type 0) (a b : Float) → (lt b a ≡ true → P a) → (lt b a ≡ false → P b) → P (max_of a b)
unfolding max_of
max_cases P a b f g = go (lt b a) refl
  where
    go : (c : Bool) → lt b a ≡ c → P (cond c a b)
    go true e = f e
    go false e = g e

-- numbers
module _ (a b : Float) (p : T (not (is_nan a))) (q : T (not (is_nan b))) where
  min_first : T (le (min_of a b) a)
  min_first = min_cases (λ x. T (le x a)) a b (λ e. le_self a p) (λ e. le_of_not_lt a b p q e)

  min_second : T (le (min_of a b) b)
  min_second = min_cases (λ x. T (le x b)) a b (λ e. le_of_lt a b e) (λ e. le_self b q)

  max_first : T (le a (max_of a b))
  max_first = max_cases (λ x. T (le a x)) a b (λ e. le_self a p) (λ e. le_of_not_lt b a q p e)

  max_second : T (le b (max_of a b))
  max_second = max_cases (λ x. T (le b x)) a b (λ e. le_of_lt b a e) (λ e. le_self b q)

  min-number : T (not (is_nan (min_of a b)))
  min-number = min_cases (λ x. T (not (is_nan x))) a b (λ e. p) (λ e. q)

  max-number : T (not (is_nan (max_of a b)))
  max-number = max_cases (λ x. T (not (is_nan x))) a b (λ e. p) (λ e. q)

  -- the lower end of a union is at most both, the upper one at least both
  lower_first : T (le (unsigned_zero (min_of a b)) a)
  lower_first = le_transitive _ _ _ (unsigned_below (min_of a b) min-number) min_first

  lower_second : T (le (unsigned_zero (min_of a b)) b)
  lower_second = le_transitive _ _ _ (unsigned_below (min_of a b) min-number) min_second

  upper_first : T (le a (unsigned_zero (max_of a b)))
  upper_first = le_transitive _ _ _ max_first (unsigned_above (max_of a b) max-number)

  upper_second : T (le b (unsigned_zero (max_of a b)))
  upper_second = le_transitive _ _ _ max_second (unsigned_above (max_of a b) max-number)

-- within the bounds, and values of the format
lower_bounded : (a b : Float) → in_bounds a ≡ true → in_bounds b ≡ true → in_bounds (unsigned_zero (min_of a b)) ≡ true
lower_bounded a b p q = unsigned_bounds (min_of a b) ∙ min_cases (λ x. in_bounds x ≡ true) a b (λ e. p) (λ e. q)

upper_bounded : (a b : Float) → in_bounds a ≡ true → in_bounds b ≡ true → in_bounds (unsigned_zero (max_of a b)) ≡ true
upper_bounded a b p q = unsigned_bounds (max_of a b) ∙ max_cases (λ x. in_bounds x ≡ true) a b (λ e. p) (λ e. q)

pub lower_fits : (a b : Float) → T (fits binary32 a) → T (fits binary32 b) → T (fits binary32 (unsigned_zero (min_of a b)))
unfolding fits
lower_fits a b p q = unsigned_fits binary32 (min_of a b) tt (min_cases (λ x. T (fits binary32 x)) a b (λ e. p) (λ e. q))

pub upper_fits : (a b : Float) → T (fits binary32 a) → T (fits binary32 b) → T (fits binary32 (unsigned_zero (max_of a b)))
unfolding fits
upper_fits a b p q = unsigned_fits binary32 (max_of a b) tt (max_cases (λ x. T (fits binary32 x)) a b (λ e. p) (λ e. q))

-- ---- corners
-- the components of a bounded vector
components : (v : Vec3) → bounded_vec v ≡ true → (in_bounds v.x ≡ true) × (in_bounds v.y ≡ true) × (in_bounds v.z ≡ true)
unfolding bounded_vec
components v e =
    let xy = both_pass (in_bounds v.x && in_bounds v.y) (in_bounds v.z) e in
    let x = both_pass (in_bounds v.x) (in_bounds v.y) xy.0 in
    (x.0, x.1, xy.1)

-- the lower and the upper corner of a union
abbrev lowers : Vec3 → Vec3 → Vec3
lowers u v = each (λ p q. unsigned_zero (min_of p q)) u v

abbrev uppers : Vec3 → Vec3 → Vec3
uppers u v = each (λ p q. unsigned_zero (max_of p q)) u v

module _ (u v : Vec3) (h : bounded_vec u ≡ true) (k : bounded_vec v ≡ true) where
  numbers : (T (not (is_nan u.x)) × T (not (is_nan u.y)) × T (not (is_nan u.z)))
      × (T (not (is_nan v.x)) × T (not (is_nan v.y)) × T (not (is_nan v.z)))
  numbers = (no_nans u (bounded u (subst T (sym h) tt)), no_nans v (bounded v (subst T (sym k) tt)))

  -- both are bounded,
  lowers_bounded : bounded_vec (lowers u v) ≡ true
  unfolding bounded_vec
  lowers_bounded =
      let p = components u h in
      let q = components v k in
      rw (
        lower_bounded u.x v.x p.0 q.0,
        lower_bounded u.y v.y p.1 q.1,
        lower_bounded u.z v.z p.2 q.2,
      )

  uppers_bounded : bounded_vec (uppers u v) ≡ true
  unfolding bounded_vec
  uppers_bounded =
      let p = components u h in
      let q = components v k in
      rw (
        upper_bounded u.x v.x p.0 q.0,
        upper_bounded u.y v.y p.1 q.1,
        upper_bounded u.z v.z p.2 q.2,
      )

  -- the lower one is over neither, and neither over the upper one
  lowers_not_over : NotOver (lowers u v) u × NotOver (lowers u v) v
  lowers_not_over =
      let p = numbers.0 in
      let q = numbers.1 in (
        (lower_first _ _ p.0 q.0, lower_first _ _ p.1 q.1, lower_first _ _ p.2 q.2),
        (lower_second _ _ p.0 q.0, lower_second _ _ p.1 q.1, lower_second _ _ p.2 q.2),
      )

  not_over_uppers : NotOver u (uppers u v) × NotOver v (uppers u v)
  not_over_uppers =
      let p = numbers.0 in
      let q = numbers.1 in (
        (upper_first _ _ p.0 q.0, upper_first _ _ p.1 q.1, upper_first _ _ p.2 q.2),
        (upper_second _ _ p.0 q.0, upper_second _ _ p.1 q.1, upper_second _ _ p.2 q.2),
      )

-- ---- whole boxes
pub corners_bounded : (b : Aabb) → accepted_box b ≡ true → (bounded_vec b.min ≡ true) × (bounded_vec b.max ≡ true)
unfolding accepted_box
corners_bounded b e = both_pass (bounded_vec b.min) (bounded_vec b.max) (both_pass (bounded_vec b.min && bounded_vec b.max) (in_order b) e).0

module _ (a b : Aabb) (h : accepted_box a ≡ true) (k : accepted_box b ≡ true) where
  low : NotOver (lowers a.min b.min) a.min × NotOver (lowers a.min b.min) b.min
  low = lowers_not_over a.min b.min (corners_bounded a h).0 (corners_bounded b k).0

  high : NotOver a.max (uppers a.max b.max) × NotOver b.max (uppers a.max b.max)
  high = not_over_uppers a.max b.max (corners_bounded a h).1 (corners_bounded b k).1

  pub union_first : HoldsBox (union_of a b) a
  unfolding union_of
  union_first = (low.0, high.0)

  pub union_second : HoldsBox (union_of a b) b
  unfolding union_of
  union_second = (low.1, high.1)

  -- its ends are in order: the lower at most the first's lower, that at most the first's upper, that at most the upper
  through : (p q u v : Float) → T (le p q) → T (le q u) → T (le u v) → le p v ≡ true
  through p q u v x y z = is_true _ (le_transitive p u v (le_transitive p q u x y) z)

  pub union_accepted : accepted_box (union_of a b) ≡ true
  unfolding accepted_box union_of in_order
  union_accepted =
      let o = accepted a (subst T (sym h) tt) in
      let l = low.0 in
      let g = high.0 in
      rw (
        lowers_bounded a.min b.min (corners_bounded a h).0 (corners_bounded b k).0,
        uppers_bounded a.max b.max (corners_bounded a h).1 (corners_bounded b k).1,
        through _ a.min.x a.max.x _ l.0 o.x g.0,
        through _ a.min.y a.max.y _ l.1 o.y g.1,
        through _ a.min.z a.max.z _ l.2 o.z g.2,
      )

-- no end is -0, whatever the boxes
pub union_plain : (a b : Aabb) → NoMinusZero (union_of a b).min × NoMinusZero (union_of a b).max
unfolding union_of
union_plain a b = (
  (unsigned_plain (min_of a.min.x b.min.x), unsigned_plain (min_of a.min.y b.min.y), unsigned_plain (min_of a.min.z b.min.z)),
  (unsigned_plain (max_of a.max.x b.max.x), unsigned_plain (max_of a.max.y b.max.y), unsigned_plain (max_of a.max.z b.max.z)),
)
