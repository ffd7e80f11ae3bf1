-- The slots of a node's children.
use mathlib.Core.Path.{◌≡◌, sym, ap, ◌∙◌, subst}
use mathlib.Core.Bool.{Bool, true, false}
use mathlib.Core.List.{List, [], map}
use Prim.Native.Nat.{ℕ, ◌-◌, ◌≤◌, ◌<◌}
use lib.Dec.{T}
use lib.ListN.{length, get_or, replicate, get_or-append, length-map}
use lib.Ieee.{Float, nan, lt}
use Rattle.aabb.specs.declared.Aabb.{Aabb}
use Rattle.aabb.specs.Aabb.{center_of, accepted_box}
use Rattle.aabb.proofs.Bounds.{accepted}
use Rattle.order.specs.Lists.{eight_of, padded}
use Rattle.order.specs.Assign.{cost_in, greatest_finite, assigned, assignment}
use Rattle.order.specs.Order.{direction_cost, cost_table, no_row, slots_of}
use Rattle.order.proofs.Arrays.{eight_at}
use Rattle.order.proofs.Bounds.{cost_within, within_below}
use Rattle.order.proofs.Greedy.{matched_after, all-assigned, assigned-same}
use Rattle.order.proofs.InOrder.{in_order_matched, in_order_one_to_one}
use Rattle.order.proofs.Lists.{All, all_map, all_at, all_mapped}
use Rattle.order.proofs.Partners.{Matched, OneToOne}

-- rows past the children's make no difference
pub padded-same : (rows : List (List Float)) (k : ℕ) → assigned (cost_in (padded no_row rows)) (length rows) k
    ≡ assigned (cost_in rows) (length rows) k
unfolding padded
padded-same rows k =
    assigned-same (cost_in (padded no_row rows)) (cost_in rows) (length rows)
    (λ c s l m. ap (λ (row : List Float). get_or row s nan) (get_or-append rows (replicate (8 - length rows) no_row) [] c l)) k

pub table-length : (parent : Aabb) (boxes : List Aabb) → length (cost_table parent boxes) ≡ length boxes
unfolding cost_table
table-length parent boxes = length-map boxes (λ b. eight_of (direction_cost (center_of parent) b))

pub ordered_slots : (parent : Aabb) (boxes : List Aabb) (n : ℕ) → length boxes ≡ n
    → assignment (cost_in (padded no_row (cost_table parent boxes))) n ≡ slots_of true parent boxes
unfolding slots_of
ordered_slots parent boxes n e =
    let f : n ≡ length (cost_table parent boxes) = sym (table-length parent boxes ∙ e) in
    ap (λ (m : ℕ). assigned (cost_in (padded no_row (cost_table parent boxes))) m m) f
    ∙ padded-same (cost_table parent boxes) (length (cost_table parent boxes))
    ∙ ap (λ (m : ℕ). assigned (cost_in (cost_table parent boxes)) m m) (table-length parent boxes)

-- ---- accepted boxes: every child has a slot of its own
abbrev pub AcceptedAll : List Aabb → Type 0
AcceptedAll boxes = All (λ b. T (accepted_box b)) boxes

module _ (parent : Aabb) (p : T (accepted_box parent)) where
  row_below : (b : Aabb) → T (accepted_box b) → (s : ℕ) → s < 8 → lt (get_or (eight_of (direction_cost (center_of parent) b)) s nan) greatest_finite
      ≡ true
  row_below b q s l =
      subst (λ (x : Float). lt x greatest_finite ≡ true) (sym (eight_at (direction_cost (center_of parent) b) nan s l))
      (within_below (direction_cost (center_of parent) b s) (cost_within parent b (accepted parent p) (accepted b q) s))

  pub table_below : (boxes : List Aabb) → AcceptedAll boxes → (c s : ℕ) → c < length boxes → s < 8
      → lt (cost_in (cost_table parent boxes) (record { child = c; slot = s })) greatest_finite ≡ true
  unfolding cost_table
  table_below boxes h c s l m =
      all_at (λ row. (s : ℕ) → s < 8 → lt (get_or row s nan) greatest_finite ≡ true)
      (map (λ b. eight_of (direction_cost (center_of parent) b)) boxes) c []
      (subst (λ (n : ℕ). c < n) (sym (length-map boxes (λ b. eight_of (direction_cost (center_of parent) b)))) l)
      (all_mapped (λ row. (s : ℕ) → s < 8 → lt (get_or row s nan) greatest_finite ≡ true) (λ b. eight_of (direction_cost (center_of parent) b)) boxes
      (all_map (λ b. T (accepted_box b))
      (λ b. (s : ℕ) → s < 8 → lt (get_or (eight_of (direction_cost (center_of parent) b)) s nan) greatest_finite ≡ true)
      boxes row_below h))
      s m

-- with ordering and without, each of up to eight accepted children has a slot of its own
pub slots_one_to_one : (ordered : Bool) (parent : Aabb) (boxes : List Aabb) → length boxes ≤ 8 → T (accepted_box parent) → AcceptedAll boxes
    → OneToOne (length boxes) (slots_of ordered parent boxes)
unfolding slots_of
slots_one_to_one true parent boxes few p h = all-assigned (cost_in (cost_table parent boxes)) (length boxes) few (table_below parent p boxes h)
slots_one_to_one false parent boxes few p h = in_order_one_to_one (length boxes) few

-- for any boxes: the pairs match children and slots
pub slots_matched : (ordered : Bool) (parent : Aabb) (boxes : List Aabb) → length boxes ≤ 8 → Matched (length boxes) (slots_of ordered parent boxes)
unfolding slots_of
slots_matched true parent boxes few = matched_after (cost_in (cost_table parent boxes)) (length boxes) few (length boxes)
slots_matched false parent boxes few = in_order_matched (length boxes) few
