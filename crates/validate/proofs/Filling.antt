-- Filling words and testing that none is zero, one word at a time.
use mathlib.Core.Bool.{Bool, true, false, not, ◌&&◌, ◌||◌}
use mathlib.Core.List.{List}
use mathlib.Core.Path.{◌≡◌, refl, sym, ap, ◌∙◌, subst}
use Prim.Native.Nat.{ℕ, zero, suc, ◌+◌, ◌<◌, ◌≤◌}
use native.Mathlib.Decide.{dec_le, dec_lt}
use native.Mathlib.Omega.{arith}
use lib.Dec.{eqb, ltb, eqb-suc-zero}
use lib.ListN.{length, get_or, take, drop, length-drop, replicate, length-replicate, get_or-replicate, get_or-eq_default}
use lib.Seq.{get_or-drop, take-suc}
use Rattle.std.specs.List.{list_any}
use Rattle.std.proofs.lemmas.List.Folds.{list_any-append}
use Rattle.lists.specs.Below.{all_below}
use Rattle.lists.proofs.Tells.{Tells, clash, tells_true, ltb_tells, below_tells}
use Rattle.soundness.specs.Range.{in_range}
use Rattle.soundness.proofs.Range.{in_range_lem, before_range, after_range}
use Rattle.validate.specs.Marks.{seen, Filled, Blocked, Fill, all_marked}

-- ---- filling

-- the first j of k words from a on are filled
pub record Filling (o : List ℕ) (a k v : ℕ) (q : List ℕ) (j : ℕ) : Type 0 where
  pub long : length q ≡ length o
  pub done : Filled o a j v q

pub filling_none : (o : List ℕ) (a k v : ℕ) → Filling o a k v o 0
filling_none o a k v = record {
  long = refl;
  done = record { free = λ x h l. absurd (omega arith); inside = λ x h l. absurd (omega arith); before = λ x h. refl; after = λ x h. refl };
}

module _ (o : List ℕ) (a k v : ℕ) (q : List ℕ) (j : ℕ) (f : Filling o a k v q j) where
  pub filling_blocked : (r : List ℕ) → j < k → (get_or q (a + j) 0 ≡ 0 → ⊥) → Fill false o a k v r
  unfolding Fill
  filling_blocked r l z =
      let e = f.done.after (a + j) (omega arith) in
      let t : 1 ≤ get_or q (a + j) 0 = omega (arith, z) in
      record { place = a + j; from = omega arith; before = omega arith; taken = omega arith }

  pub filling_done : j ≤ k → k ≤ j → Fill true o a k v q
  unfolding Fill
  filling_done u l = let e : j ≡ k = omega arith in subst (λ (x : ℕ). Filled o a x v q) e f.done

-- a range that is filled is marked once more
pub filled_adds : (o : List ℕ) (a k v : ℕ) (q : List ℕ) → 0 < v → Filled o a k v q → (x : ℕ) → seen q x ≡ seen o x + in_range x a k
filled_adds o a k v q p f x = go (dec_le a x) (dec_lt x (a + k))
  where
    go : Dec (a ≤ x) → Dec (x < a + k) → seen q x ≡ seen o x + in_range x a k
    go (yes h) (yes l) = let i = f.free x h l in let j = f.inside x h l in let e = in_range_lem x a k h l in omega arith
    go (yes h) (no l) = let i = f.after x (omega arith) in let e = after_range x a k (omega arith) in rw (i, e) (omega arith)
    go (no h) d = let i = f.before x (omega arith) in let e = before_range x a k (omega arith) in rw (i, e) (omega arith)

-- what the answer says
pub was_filled : (f : Bool) (o : List ℕ) (a k v : ℕ) (q : List ℕ) → Fill f o a k v q → f ≡ true → Filled o a k v q
unfolding Fill
was_filled true o a k v q h e = h
was_filled false o a k v q h e = clash e

pub was_blocked : (f : Bool) (o : List ℕ) (a k v : ℕ) (q : List ℕ) → Fill f o a k v q → f ≡ false → Blocked o a k
unfolding Fill
was_blocked true o a k v q h e = clash (sym e)
was_blocked false o a k v q h e = h

-- ---- no word of a range is zero

pub marked_is : (o : List ℕ) (m n : ℕ) → m + n ≤ length o → not (list_any (λ y. eqb y 0) (take n (drop m o))) ≡ all_marked o m n
unfolding all_marked all_below
marked_is o m zero h = refl
marked_is o m (suc n) h =
    rw (take-suc (drop m o) n 0 (rw length-drop (omega arith)), list_any-append, get_or-drop m o n 0)
    (one (list_any (λ y. eqb y 0) (take n (drop m o))) (get_or o (m + n) 0)
    ∙ ap (λ (b : Bool). b && ltb 0 (get_or o (m + n) 0)) (marked_is o m n (omega arith)))
  where
    one : (b : Bool) (x : ℕ) → not (b || (eqb x 0 || false)) ≡ (not b && ltb 0 x)
    one true x = refl
    one false zero = refl
    one false (suc x) = rw (eqb-suc-zero x) (sym (tells_true (ltb_tells 0 (suc x)) (omega arith)))

pub marked_tells : (o : List ℕ) (m n : ℕ) → Tells ((x : ℕ) → x < n → 0 < get_or o (m + x) 0) (all_marked o m n)
unfolding all_marked
marked_tells o m n = below_tells (λ x. 0 < get_or o (m + x) 0) (λ x. ltb 0 (get_or o (m + x) 0)) (λ x. ltb_tells 0 (get_or o (m + x) 0)) n

pub zero_at : (long k : ℕ) → ◌≡◌ {A = ℕ} (get_or (replicate long 0) k 0) 0
zero_at long k = go (dec_lt k long)
  where
    go : Dec (k < long) → ◌≡◌ {A = ℕ} (get_or (replicate long 0) k 0) 0
    go (yes h) = get_or-replicate long k 0 0 h
    go (no h) = get_or-eq_default (replicate long 0) 0 (let e = length-replicate {A = ℕ} long 0 in omega arith)
