-- Where cause 14 holds: the cause that refuses, by what the untimed conversion finds up to its tables, and the working slices then.
use mathlib.Core.Bool.{Bool, true, false, ◌||◌}
use mathlib.Core.List.{List}
use mathlib.Core.Logic.{◌⊎◌, inl, inr}
use mathlib.Core.Path.{◌≡◌, sym, subst, ◌∙◌}
use Prim.Native.Nat.{ℕ, zero, suc, ◌≤◌, ◌<◌}
use native.Mathlib.Omega.{arith}
use lib.Dec.{T, eqb, ltb, ltb→lt}
use Rattle.lists.proofs.Tells.{Tells, passes, fails, eqb_tells}
use Rattle.causes.specs.Causes.{first_cause, order, place_in, place_of}
use Rattle.causes.proofs.Causes.{all_numbers, first_among}
use Rattle.bvh2.specs.Tree.{Tree}
use Rattle.bvh2.specs.Decoded.{Decoded}
use Rattle.bvh2.specs.FirstCause.{size_conditions, structure_conditions}
use Rattle.bvh2.proofs.Decoded.{accepted_decoded}
use Rattle.bvh2.proofs.First.{accepted_sized}
use Rattle.bvh2_tables.specs.Call.{Lengths}
use Rattle.bvh2_tables.specs.Tables.{table_size, prepare_conditions, prepare_cause, cleared, work_after}
use Rattle.bvh2_tables.proofs.Causes.{prepare_sorted, work_cleared}
use Rattle.bvh2_tables.proofs.Prepared.{prepared}
use Rattle.bvh2_tables.proofs.Refilled.{work_refilled}
use Rattle.bvh2_to_cwbvh_timed.specs.TimedConversion.{put_in_order}
use Rattle.bvh2_to_cwbvh_timed.proofs.InOrder.{put_here, put_behind}

-- ---- the cause

-- of causes 1 to 7 all but 7 are looked at before 14
abbrev earlier : ℕ → Bool
earlier k = eqb k 7 || ltb (place_of k) (place_of 14)

all_earlier : (ws : List ℕ) (n limit : ℕ) (l : Lengths) → T (all_numbers earlier (prepare_conditions ws n limit l))
unfolding prepare_conditions size_conditions structure_conditions all_numbers place_of order place_in
all_earlier ws zero limit l = tt
all_earlier ws (suc n) limit l = tt

before : (k : ℕ) → (k ≡ 7 → ⊥) → T (earlier k) → place_of k < place_of 14
before k h t = go (eqb k 7) (eqb_tells k 7) t
  where
    go : (b : Bool) → Tells (k ≡ 7) b → T (b || ltb (place_of k) (place_of 14)) → place_of k < place_of 14
    go true (passes p) t = absurd (h p)
    go false (fails n) t = ltb→lt (place_of k) (place_of 14) t

module _ (ws : List ℕ) (n limit : ℕ) (l : Lengths) where
  abbrev pub refused_with : ℕ
  refused_with = first_cause (put_in_order 14 false (prepare_conditions ws n limit l))

  -- no cause, or 7
  pub panes_first : (k : ℕ) → prepare_cause ws n limit l ≡ k → (k ≡ 0) ⊎ (k ≡ 7) → refused_with ≡ 14
  unfolding place_of order place_in
  panes_first k e h = put_here 14 (prepare_conditions ws n limit l) (subst (λ (x : ℕ). place_of 14 ≤ place_of x) (sym e) (go h))
    where
      go : (k ≡ 0) ⊎ (k ≡ 7) → place_of 14 ≤ place_of k
      go (inl f) = subst (λ (x : ℕ). place_of 14 ≤ place_of x) (sym f) (omega arith)
      go (inr f) = subst (λ (x : ℕ). place_of 14 ≤ place_of x) (sym f) (omega arith)

  -- another
  pub panes_later : (prepare_cause ws n limit l ≡ 0 → ⊥) → (prepare_cause ws n limit l ≡ 7 → ⊥) → refused_with ≡ prepare_cause ws n limit l
  unfolding place_of order place_in
  panes_later h f =
      put_behind 14 0 (prepare_conditions ws n limit l) (prepare_sorted ws n limit l) (omega arith)
      (go (first_among earlier (prepare_conditions ws n limit l) (all_earlier ws n limit l)))
    where
      go : (prepare_cause ws n limit l ≡ 0) ⊎ T (earlier (prepare_cause ws n limit l)) → place_of (prepare_cause ws n limit l) < place_of 14
      go (inl e) = absurd (h e)
      go (inr t) = before (prepare_cause ws n limit l) f t

  -- what is known where there is none
  pub record Filled : Type 0 where
    pub few : n ≤ 65536
    pub words : table_size n ≤ l.decisions
    pub costs : table_size n ≤ l.costs
    pub tree : 0 < n → Decoded ws n

  pub filled : prepare_cause ws n limit l ≡ 0 → Filled
  filled e =
      let p = prepared ws n limit l e in
      record {
        few = (accepted_sized ws n p.accepted).few;
        words = p.words;
        costs = p.costs;
        tree = λ h. (accepted_decoded ws n h).0 p.accepted;
      }

-- ---- the working slices

module _ {A : Type 0} (z : A) (g : Tree ℕ → ℕ → A) (ws : List ℕ) where
  -- as a cause from 5 on leaves them
  pub cleared_alike : (n j k : ℕ) (s : List A) → 5 ≤ j → 5 ≤ k → work_after z g ws n j s ≡ work_after z g ws n k s
  cleared_alike n j k s p q = work_cleared z g ws n j s p ∙ sym (work_cleared z g ws n k s q)

  -- filled, and cleared again
  pub filled_cleared : (n k : ℕ) (s t u : List A) → 5 ≤ k → (0 < n → Decoded ws n) → t ≡ work_after z g ws n 0 s → u ≡ cleared z (table_size n) t
      → u ≡ work_after z g ws n k s
  unfolding work_after
  filled_cleared zero k s t u p d e f = f ∙ e
  filled_cleared (suc n) k s t u p d e f =
      work_refilled z g ws (suc n) s t u (omega arith) (d (omega arith)) e f ∙ cleared_alike (suc n) 8 k s (omega arith) p
