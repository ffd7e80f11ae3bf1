-- The first cause where a condition is put into a list in the order of causes.
use mathlib.Core.Bool.{Bool, true, false, ◌&&◌}
use mathlib.Core.List.{List, [], ◌∷◌}
use mathlib.Core.Logic.{inl, inr}
use mathlib.Core.Path.{◌≡◌, refl}
use Prim.Native.Nat.{ℕ, ◌≤◌, ◌<◌}
use native.Mathlib.Omega.{arith}
use borrow.Author.Tests.{leb-true, leb-false}
use lib.Dec.{T, leb, ltb, leb→le, ltb→lt}
use lib.Ieee.Fits.{and_l, and_r}
use lib.ListN.{length}
use Rattle.std.specs.Prelude.{cond}
use Rattle.causes.specs.Causes.{Condition, ◌unless◌, first_cause, order, place_in, place_of}
use Rattle.causes.proofs.Causes.{sorted}
use Rattle.causes.proofs.First.{Shows, Fails}
use Rattle.bvh2_to_cwbvh_timed.specs.TimedConversion.{put_in_order}

-- where the list's first cause is not looked at earlier
by_head : (j : ℕ) → Bool → (k : ℕ) → Bool → List Condition → Bool → List Condition
by_head j b k a l o = cond o (j unless b ∷ k unless a ∷ l) (k unless a ∷ put_in_order j b l)

-- it passes: the cause is the list's
pub put_passed : (j : ℕ) (l : List Condition) → first_cause (put_in_order j true l) ≡ first_cause l
unfolding put_in_order first_cause by_head
put_passed j [] = refl
put_passed j (k unless a ∷ l) = go (leb (place_of j) (place_of k)) a (put_passed j l)
  where
    go : (o a : Bool) → first_cause (put_in_order j true l) ≡ first_cause l → first_cause (by_head j true k a l o) ≡ first_cause (k unless a ∷ l)
    go true a r = refl
    go false true r = r
    go false false r = refl

-- It fails, and no cause of the list is looked at before its own: that is the cause. The place of 0 is behind all.
pub put_here : (j : ℕ) (l : List Condition) → place_of j ≤ place_of (first_cause l) → first_cause (put_in_order j false l) ≡ j
unfolding put_in_order first_cause by_head
put_here j [] h = refl
put_here j (k unless a ∷ l) h = go (leb (place_of j) (place_of k)) refl a h (put_here j l)
  where
    go : (o : Bool) → leb (place_of j) (place_of k) ≡ o → (a : Bool) → place_of j ≤ place_of (first_cause (k unless a ∷ l))
        → (place_of j ≤ place_of (first_cause l) → first_cause (put_in_order j false l) ≡ j) → first_cause (by_head j false k a l o) ≡ j
    go true e a h r = refl
    go false e true h r = r h
    go false e false h r = absurd (omega (arith, leb-false (place_of j) (place_of k) e))

-- the places of a list in order
record Sorted (p k : ℕ) (l : List Condition) : Type 0 where
  least : p ≤ place_of k
  there : place_of k < length order
  behind : T (sorted (place_of k) l)

in_order : (p k : ℕ) (a : Bool) (l : List Condition) → T (sorted p (k unless a ∷ l)) → Sorted p k l
unfolding sorted
in_order p k a l s =
    let x = leb p (place_of k) in
    let y = ltb (place_of k) (length order) in
    let front = and_l (x && y) (sorted (place_of k) l) s in
    record {
      least = leb→le p (place_of k) (and_l x y front);
      there = ltb→lt (place_of k) (length order) (and_r x y front);
      behind = and_r (x && y) (sorted (place_of k) l) s;
    }

-- none of its causes is looked at before place p
first_after : (p : ℕ) (l : List Condition) → T (sorted p l) → p ≤ length order → p ≤ place_of (first_cause l)
unfolding first_cause place_of order place_in
first_after p [] s h = h
first_after p (k unless a ∷ l) s h =
    let o = in_order p k a l s in go a o (first_after (place_of k) l o.behind (let t = o.there in omega arith))
  where
    go : (a : Bool) → Sorted p k l → place_of k ≤ place_of (first_cause l) → p ≤ place_of (first_cause (k unless a ∷ l))
    go true o r = omega (arith, o.least)
    go false o r = o.least

-- It fails, and the list's cause is looked at before: that is the cause.
pub put_behind : (j p : ℕ) (l : List Condition) → T (sorted p l) → place_of j < length order → place_of (first_cause l) < place_of j
    → first_cause (put_in_order j false l) ≡ first_cause l
unfolding put_in_order first_cause by_head place_of order place_in
put_behind j p [] s i h = absurd (omega arith)
put_behind j p (k unless a ∷ l) s i h =
    let o = in_order p k a l s in
    go (leb (place_of j) (place_of k)) refl a h (put_behind j (place_of k) l o.behind i)
    (first_after (place_of k) l o.behind (let t = o.there in omega arith))
  where
    go : (o : Bool) → leb (place_of j) (place_of k) ≡ o → (a : Bool) → place_of (first_cause (k unless a ∷ l)) < place_of j
        → (place_of (first_cause l) < place_of j → first_cause (put_in_order j false l) ≡ first_cause l) → place_of k ≤ place_of (first_cause l)
        → first_cause (by_head j false k a l o) ≡ first_cause (k unless a ∷ l)
    go true e true h r m = absurd (omega (arith, leb-true (place_of j) (place_of k) e))
    go true e false h r m = absurd (omega (arith, leb-true (place_of j) (place_of k) e))
    go false e true h r m = r h
    go false e false h r m = refl

-- ---- where the conditions tell of causes

-- it shows its cause, and the others theirs
pub shows_put : (P : ℕ → Type 0) (j : ℕ) (b : Bool) (l : List Condition) → (b ≡ false → P j) → Shows P l → Shows P (put_in_order j b l)
unfolding put_in_order by_head
shows_put P j b [] h s = (h, λ e. tt)
shows_put P j b (k unless a ∷ l) h s = go (leb (place_of j) (place_of k)) s (λ e. shows_put P j b l h (s.1 e))
  where
    go : (o : Bool) → Shows P (k unless a ∷ l) → (a ≡ true → Shows P (put_in_order j b l)) → Shows P (by_head j b k a l o)
    go true s r = (h, λ e. s)
    go false s r = (s.0, r)

-- where it fails, and where another does
pub fails_put : (i j : ℕ) (b : Bool) (l : List Condition) → b ≡ false → T (leb (place_of j) (place_of i)) → Fails i (put_in_order j b l)
unfolding put_in_order by_head
fails_put i j b [] e t = inl (e, t)
fails_put i j b (k unless a ∷ l) e t = go (leb (place_of j) (place_of k)) (fails_put i j b l e t)
  where
    go : (o : Bool) → Fails i (put_in_order j b l) → Fails i (by_head j b k a l o)
    go true r = inl (e, t)
    go false r = inr r

pub fails_beside : (i j : ℕ) (b : Bool) (l : List Condition) → Fails i l → Fails i (put_in_order j b l)
unfolding put_in_order by_head
fails_beside i j b [] f = absurd f
fails_beside i j b (k unless a ∷ l) f = go (leb (place_of j) (place_of k)) f (fails_beside i j b l)
  where
    go : (o : Bool) → Fails i (k unless a ∷ l) → (Fails i l → Fails i (put_in_order j b l)) → Fails i (by_head j b k a l o)
    go true f r = inr f
    go false (inl f) r = inl f
    go false (inr f) r = inr (r f)
