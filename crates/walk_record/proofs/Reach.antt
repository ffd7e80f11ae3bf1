-- What a ray reaches and passes in a record, a ray with a higher reach or an earlier start reaches and passes too: for any bytes and any floats. So
-- whatever is told, the ray then held reaches no node and passes no position that it did not before.
use mathlib.Core.Bool.{Bool, true, false, cond}
use mathlib.Core.List.{List}
use mathlib.Core.Logic.{◌↔◌}
use mathlib.Core.Path.{◌≡◌, refl, sym, ◌∙◌}
use Prim.Native.Nat.{ℕ}
use lib.ListN.{get_or}
use lib.Ieee.{Float, lt}
use Rattle.float.specs.Compare.{plus_zero}
use Rattle.float.proofs.Order.{le_of_lt}
use Rattle.ray.specs.declared.Ray.{Ray}
use Rattle.ray.specs.Ray.{starting_at, reaching, counts}
use Rattle.ray.proofs.Counts.{counts_below}
use Rattle.node.specs.Node.{no_slot}
use Rattle.node_slot.specs.Slot.{least_limit}
use Rattle.node_slot.specs.Mask.{passes_slot}
use Rattle.record_shape.specs.Record.{Nodes, nodes_at}
use Rattle.node_hits.proofs.Limit.{passes_early}
use Rattle.node_hits.proofs.Reach.{Narrower, lower_reach, passes_fewer}
use Rattle.walk.proofs.Slots.{fewer_reached, fewer_passed}
use Rattle.walk_record.specs.Record.{slots_at}
use Rattle.walk_record.specs.WalkRay.{WalkRay, walk_ray, told_walk_ray, by_boxes}
use Rattle.walk_record.specs.Walk.{Reached, Passed}

passed_slot : (N : Nodes) (r s : Ray) → Narrower r s → (v j : ℕ) → passes_slot (N.node v) r j ≡ true → passes_slot (N.node v) s j ≡ true
passed_slot N r s narrower v j = passes_fewer (N.node v) (get_or (N.node v).slots j no_slot) r s narrower

module _ (bytes : List ℕ) (n : ℕ) (r s : Ray) (narrower : Narrower r s) where
  pub narrower_reaches_fewer : (v : ℕ) → Reached bytes n r v → Reached bytes n s v
  narrower_reaches_fewer = fewer_reached (slots_at bytes by_boxes n) (walk_ray r) (walk_ray s) (passed_slot (nodes_at bytes) r s narrower)

  pub narrower_meets_fewer : (p : ℕ) → Passed bytes n r p → Passed bytes n s p
  narrower_meets_fewer = fewer_passed (slots_at bytes by_boxes n) (walk_ray r) (walk_ray s) (passed_slot (nodes_at bytes) r s narrower) (λ p e. e)

-- ---- starts up to 0.0001

-- such a ray reaches and passes what the ray with start 0 does
module _ (bytes : List ℕ) (n : ℕ) (r : Ray) (early : lt least_limit r.tmin ≡ false) where
  abbrev from_zero : Ray
  from_zero = starting_at plus_zero r

  same_slot : (v j : ℕ) → passes_slot ((nodes_at bytes).node v) r j ≡ passes_slot ((nodes_at bytes).node v) from_zero j
  same_slot v j = passes_early r early ((nodes_at bytes).node v) (get_or ((nodes_at bytes).node v).slots j no_slot)

  pub early_reaches_same : (v : ℕ) → Reached bytes n r v ↔ Reached bytes n from_zero v
  early_reaches_same v = (
    fewer_reached (slots_at bytes by_boxes n) (walk_ray r) (walk_ray from_zero) (λ u j e. sym (same_slot u j) ∙ e) v,
    fewer_reached (slots_at bytes by_boxes n) (walk_ray from_zero) (walk_ray r) (λ u j e. same_slot u j ∙ e) v,
  )

  pub early_meets_same : (p : ℕ) → Passed bytes n r p ↔ Passed bytes n from_zero p
  early_meets_same p = (
    fewer_passed (slots_at bytes by_boxes n) (walk_ray r) (walk_ray from_zero) (λ u j e. sym (same_slot u j) ∙ e) (λ q e. e) p,
    fewer_passed (slots_at bytes by_boxes n) (walk_ray from_zero) (walk_ray r) (λ u j e. same_slot u j ∙ e) (λ q e. e) p,
  )

-- ---- telling

-- a distance that counts lowers the reach
told_lower : (t : Float) (r : Ray) → counts r t ≡ true → Narrower (reaching t r) r
told_lower t r h = lower_reach r t (le_of_lt t r.tmax (counts_below r t h))

-- so that what a wider ray keeps held before the telling
told_held : (P : Ray → Type 0) → ((r s : Ray) → Narrower r s → P r → P s) → (t : Float) (b : WalkRay) → P (told_walk_ray t b).ray → P b.ray
told_held P keeps t b = go (counts b.ray t) refl
  where
    go : (c : Bool) → counts b.ray t ≡ c → P (cond c (reaching t b.ray) b.ray) → P b.ray
    go true e = keeps (reaching t b.ray) b.ray (told_lower t b.ray e)
    go false e = λ q. q

pub told_passes_fewer : (N : Nodes) (t : Float) (b : WalkRay) (v j : ℕ) → passes_slot (N.node v) (told_walk_ray t b).ray j ≡ true
    → passes_slot (N.node v) b.ray j ≡ true
told_passes_fewer N t b v j = told_held (λ r. passes_slot (N.node v) r j ≡ true) (λ r s l. passed_slot N r s l v j) t b

module _ (bytes : List ℕ) (n : ℕ) (t : Float) (b : WalkRay) where
  pub told_reaches_fewer : (v : ℕ) → Reached bytes n (told_walk_ray t b).ray v → Reached bytes n b.ray v
  told_reaches_fewer v = told_held (λ r. Reached bytes n r v) (λ r s l. narrower_reaches_fewer bytes n r s l v) t b

  pub told_meets_fewer : (p : ℕ) → Passed bytes n (told_walk_ray t b).ray p → Passed bytes n b.ray p
  told_meets_fewer p = told_held (λ r. Passed bytes n r p) (λ r s l. narrower_meets_fewer bytes n r s l p) t b
