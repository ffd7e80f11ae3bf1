-- The timed conversion (02, [7]): what it answers, and what the five lent slices hold then. n is the number of index words.
use Rattle.std.specs.Prelude.{Bool, ◌&&◌, cond, List, [], ◌∷◌, ℕ, zero, suc, ◌*◌, max, leb, ltb, length, get_or}
use Rattle.lists.specs.Below.{all_below}
use Rattle.causes.specs.Causes.{Condition, ◌unless◌, first_cause, place_of}
use Rattle.span.specs.Span.{spans_fit}
use Rattle.wide_tree.specs.Ordered.{wide_tree_of}
use Rattle.side_table.specs.SideTable.{side_bytes}
use Rattle.bvh2_tables.specs.Call.{Call, leaf_count, lengths_of}
use Rattle.bvh2_to_cwbvh.specs.Conversion.{conversion_conditions, Outcome, outcome_for, output_after}

-- what it is given: a call of the untimed conversion; how many panes there are, and their spans; and the slice lent for the side table
pub record TimedCall : Type 0 where
  pub untimed : Call
  pub panes : ℕ
  pub spans : List ℕ
  pub side : List ℕ

-- ---- the side table

-- how many bytes of it n leaves need: 16 × max(1, n − 1), and none for n = 0
unfoldable pub side_size : ℕ → ℕ
side_size zero = 0
side_size (suc k) = 16 * max 1 k

-- that of an accepted tree's record; without leaves there is none
unfoldable pub side_of : (spans indices : List ℕ) → List ℕ → (n limit : ℕ) → Bool → List ℕ
unfolding side_bytes
side_of spans indices ws zero limit ordered = []
side_of spans indices ws (suc n) limit ordered = side_bytes spans indices (wide_tree_of ws ordered limit)

-- the same of a call's tree, written or not
abbrev pub defined_side : TimedCall → List ℕ
defined_side c = let u = c.untimed in side_of c.spans u.indices u.words (leaf_count u) u.limit u.ordered

-- ---- the causes

-- cause 14 does not hold: each pane has a span of a day, and each index word names a pane
unfoldable pub panes_fit : (panes : ℕ) → (spans indices : List ℕ) → Bool
unfolding spans_fit all_below
panes_fit panes spans indices = spans_fit panes spans && all_below (λ i. ltb (get_or indices i 0) panes) (length indices)

-- the condition `j unless b` put into a list, before the first whose cause is not looked at before j
unfoldable pub put_in_order : (j : ℕ) → Bool → List Condition → List Condition
unfolding place_of
put_in_order j b [] = j unless b ∷ []
put_in_order j b (k unless a ∷ l) = cond (leb (place_of j) (place_of k)) (j unless b ∷ k unless a ∷ l) (k unless a ∷ put_in_order j b l)

-- those of the untimed conversion, with the room for the side table as a further cause 4, and with cause 14
unfoldable pub timed_conversion_conditions : TimedCall → List Condition
unfolding put_in_order side_size panes_fit conversion_conditions
timed_conversion_conditions c =
    let u = c.untimed in
    let n = leaf_count u in
    let room = leb (side_size n) (length c.side) in
    let panes = panes_fit c.panes c.spans u.indices in
    put_in_order 4 room (put_in_order 14 panes (conversion_conditions u.words n u.limit u.ordered (lengths_of u)))

-- the first that holds; 0 where there is none
abbrev pub timed_conversion_cause : TimedCall → ℕ
timed_conversion_cause c = first_cause (timed_conversion_conditions c)

-- ---- the outcome

-- what the untimed conversion answers and leaves, and the side table's slice at the end
pub record TimedOutcome : Type 0 where
  pub untimed : Outcome
  pub side : List ℕ

-- the outcome for a cause
unfoldable pub timed_outcome_for : TimedCall → ℕ → TimedOutcome
unfolding outcome_for output_after side_of
timed_outcome_for c cause = record { untimed = outcome_for c.untimed cause; side = output_after cause (defined_side c) c.side }

unfoldable pub timed_conversion_of : TimedCall → TimedOutcome
unfolding timed_conversion_conditions first_cause timed_outcome_for
timed_conversion_of c = timed_outcome_for c (timed_conversion_cause c)
