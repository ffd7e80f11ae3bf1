-- The first cause of a timed call, by what the code looks at in turn: 1 to 3 and the room for the side table; whether the panes fit; and what the
-- untimed conversion finds.
use mathlib.Core.Bool.{Bool, true, false}
use mathlib.Core.List.{List, [], ◌∷◌, ◌++◌}
use mathlib.Core.Path.{◌≡◌, refl, sym, ap, ◌∙◌}
use Prim.Native.Nat.{ℕ, zero, suc}
use lib.Dec.{leb}
use lib.ListN.{length}
use Rattle.causes.specs.Causes.{Condition, ◌unless◌, first_cause, order, place_in, place_of}
use Rattle.causes.proofs.Causes.{append_first}
use Rattle.bvh2.specs.FirstCause.{size_conditions, structure_conditions}
use Rattle.bvh2_tables.specs.Call.{Call, leaf_count, lengths_of, Lengths}
use Rattle.bvh2_tables.specs.Tables.{slices_fit, prepare_conditions}
use Rattle.bvh2_to_cwbvh.specs.Conversion.{level_of, conversion_conditions, conversion_cause}
use Rattle.bvh2_to_cwbvh_timed.specs.TimedConversion.{TimedCall, side_size, panes_fit, put_in_order, timed_conversion_conditions}
use Rattle.bvh2_to_cwbvh_timed.specs.TimedConversion.{timed_conversion_cause}
use Rattle.bvh2_to_cwbvh_timed.proofs.InOrder.{put_passed}
use Rattle.bvh2_to_cwbvh_timed.proofs.Entry.{entry}
use Rattle.bvh2_to_cwbvh_timed.proofs.Refused.{refused_with}

-- 14 has its place among causes 1 to 7
put_early : (b : Bool) (ws : List ℕ) (n limit : ℕ) (l : Lengths) (m : Bool)
    → put_in_order 14 b (prepare_conditions ws n limit l ++ 8 unless m ∷ []) ≡ put_in_order 14 b (prepare_conditions ws n limit l) ++ 8 unless m ∷ []
unfolding prepare_conditions size_conditions structure_conditions put_in_order place_of order place_in
put_early b ws zero limit l m = refl
put_early b ws (suc n) limit l m = refl

module _ (c : TimedCall) where
  abbrev pub call : Call
  call = c.untimed

  abbrev pub panes : Bool
  panes = panes_fit c.panes c.spans call.indices

  abbrev pub room : Bool
  room = leb (side_size (leaf_count call)) (length c.side)

  abbrev conditions : List Condition
  conditions = conversion_conditions call.words (leaf_count call) call.limit call.ordered (lengths_of call)

  abbrev entered : List Condition
  entered = entry call.words (leaf_count call) call.limit (length c.side)

  abbrev later : List Condition
  later =
      let low = leb (level_of call.words (leaf_count call) call.limit call.ordered) 31 in
      4 unless slices_fit (leaf_count call) (lengths_of call) ∷ put_in_order 14 panes (structure_conditions call.words (leaf_count call)
      ++ 8 unless low ∷ [])

  parts : timed_conversion_conditions c ≡ entered ++ later
  unfolding timed_conversion_conditions conversion_conditions prepare_conditions size_conditions put_in_order place_of order place_in
  parts = refl

  -- 1 to 3, and 4 for the side table
  pub cause_entered : (k : ℕ) → k ≡ first_cause entered → (k ≡ 0 → ⊥) → timed_conversion_cause c ≡ k
  cause_entered k e h = ap first_cause parts ∙ append_first entered later (λ z. h (e ∙ z)) ∙ sym e

  -- the others
  module _ (fits : room ≡ true) where
    behind : (b : Bool) → panes ≡ b → timed_conversion_cause c ≡ first_cause (put_in_order 14 b conditions)
    unfolding timed_conversion_conditions
    behind b e =
        ap (λ (x : Bool). first_cause (put_in_order 4 x (put_in_order 14 panes conditions))) fits
        ∙ put_passed 4 (put_in_order 14 panes conditions) ∙ ap (λ (x : Bool). first_cause (put_in_order 14 x conditions)) e

    pub cause_panes : panes ≡ false → (k : ℕ) → k ≡ refused_with call.words (leaf_count call) call.limit (lengths_of call) → (k ≡ 0 → ⊥)
        → timed_conversion_cause c ≡ k
    unfolding conversion_conditions
    cause_panes e k f h =
        let early = prepare_conditions call.words (leaf_count call) call.limit (lengths_of call) in
        let low = leb (level_of call.words (leaf_count call) call.limit call.ordered) 31 in
        behind false e
        ∙ ap first_cause (put_early false call.words (leaf_count call) call.limit (lengths_of call) low)
        ∙ append_first (put_in_order 14 false early) (8 unless low ∷ []) (λ z. h (f ∙ z)) ∙ sym f

    pub cause_untimed : panes ≡ true → timed_conversion_cause c ≡ conversion_cause call
    cause_untimed e = behind true e ∙ put_passed 14 conditions
