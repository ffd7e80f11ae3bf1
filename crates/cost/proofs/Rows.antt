-- Values written in a row.
use mathlib.Core.Path.{◌≡◌, refl, sym, ◌∙◌}
use mathlib.Core.List.{List}
use Prim.Native.Nat.{ℕ, zero, suc, ◌+◌, ◌-◌, ◌≤◌, ◌<◌}
use mathlib.Core.Logic.{inl, inr}
use native.Mathlib.Nat.{eq-or-lt_of_le}
use native.Mathlib.Omega.{arith}
use native.Mathlib.Numerals.{add-one}
use borrow.Rule.Slice.PartMut.{put_mid, same_len_mid}
use lib.Seq.{length-take-le}
use Rattle.lists.proofs.Counts.{Some, none, some, some?}
use lib.ListN.{length, get_or, set, take, drop, replicate, length-set, length-replicate, length-drop}
use Rattle.std.proofs.Common.{rules}
use Rattle.std.proofs.lemmas.List.{same_lists, places}
use lib.Seq.{get_or-set_same, get_or-set_other}
use Rattle.cost.specs.Rows.{row}

module _ {A : Type 0} where
  pub length-row : (f : ℕ → A) (b n : ℕ) (s : List A) → length (row f b n s) ≡ length s
  unfolding row
  length-row f b zero s = refl
  length-row f b (suc n) s = length-set (row f b n s) (b + n) (f n) ∙ length-row f b n s

  -- a row as a loop writes it
  pub row_none : (f : ℕ → A) (b : ℕ) (s : List A) → s ≡ row f b 0 s
  unfolding row
  row_none f b s = refl

  pub row_step : (f : ℕ → A) (b n : ℕ) (s : List A) {t : List A} {x : A} → t ≡ row f b n s → x ≡ f n → set t (b + n) x ≡ row f b (n + 1) s
  unfolding row
  row_step f b n s e g = rw (add-one n, e, g)

  -- places outside the row stay
  pub row_before : (f : ℕ → A) (b n : ℕ) (s : List A) (x : ℕ) (d : A) → x < b → get_or (row f b n s) x d ≡ get_or s x d
  unfolding row
  row_before f b zero s x d h = refl
  row_before f b (suc n) s x d h = get_or-set_other (row f b n s) (b + n) x (f n) d (omega arith) ∙ row_before f b n s x d h

  pub row_after : (f : ℕ → A) (b n : ℕ) (s : List A) (x : ℕ) (d : A) → b + n ≤ x → get_or (row f b n s) x d ≡ get_or s x d
  unfolding row
  row_after f b zero s x d h = refl
  row_after f b (suc n) s x d h = get_or-set_other (row f b n s) (b + n) x (f n) d (omega arith) ∙ row_after f b n s x d (omega arith)

  -- place k of the row holds f k
  pub row_at : (f : ℕ → A) (b n : ℕ) (s : List A) (k : ℕ) (d : A) → k < n → b + n ≤ length s → get_or (row f b n s) (b + k) d ≡ f k
  unfolding row
  row_at f b zero s k d h u = absurd (omega arith)
  row_at f b (suc n) s k d h u = elim (eq-or-lt_of_le (last k n h)) [ inl e ↦ here e | inr g ↦ below g (row_at f b n s k d g (omega arith)) ]
    where
      last : (k n : ℕ) → k < suc n → k ≤ n
      last k n h = omega arith

      here : k ≡ n → get_or (set (row f b n s) (b + n) (f n)) (b + k) d ≡ f k
      here e = rw e (get_or-set_same (row f b n s) (b + n) (f n) d (rw (length-row f b n s) (omega arith)))

      below : k < n → get_or (row f b n s) (b + k) d ≡ f k → get_or (set (row f b n s) (b + n) (f n)) (b + k) d ≡ f k
      below g e = get_or-set_other (row f b n s) (b + n) (b + k) (f n) d (omega arith) ∙ e

  pub row_cong : (f g : ℕ → A) (b n : ℕ) (s : List A) → ((k : ℕ) → k < n → f k ≡ g k) → row f b n s ≡ row g b n s
  unfolding row
  row_cong f g b zero s h = refl
  row_cong f g b (suc n) s h = rw (row_cong f g b n s (λ k u. h k (omega arith)), h n (omega arith))

  -- one value written over all of a row, place by place
  mid_long : (x : A) (b n : ℕ) (s : List A) → b + n ≤ length s → length (put_mid b n s (replicate n x)) ≡ length s
  mid_long x b n s h =
      same_len_mid b n s (replicate n x)
      (length-replicate n x ∙ sym (length-take-le n (drop b s) (omega (arith, length-drop b s))))

  mid_before : (x : A) (b n : ℕ) (s : List A) → b + n ≤ length s → (k : ℕ) (d : A) → k < b
      → get_or (put_mid b n s (replicate n x)) k d ≡ get_or s k d
  mid_before x b n s h k d l = search (rules, places)

  mid_within : (x : A) (b n : ℕ) (s : List A) → b + n ≤ length s → (k : ℕ) (d : A) → k < n
      → get_or (put_mid b n s (replicate n x)) (b + k) d ≡ x
  mid_within x b n s h k d l = search (rules, places)

  mid_after : (x : A) (b n : ℕ) (s : List A) → b + n ≤ length s → (k : ℕ) (d : A) → b + n ≤ k
      → get_or (put_mid b n s (replicate n x)) k d ≡ get_or s k d
  mid_after x b n s h k d l = search (rules, places)

  mid_row : (x : A) (b n : ℕ) (s : List A) → b + n ≤ length s → put_mid b n s (replicate n x) ≡ row (λ k. x) b n s
  mid_row x b n s h = same_lists _ _ (mid_long x b n s h ∙ sym (length-row (λ k. x) b n s)) (λ k d l. each k d (some? (b - k)) (some? (b + n - k)))
    where
      each : (k : ℕ) (d : A) → Some (b - k) → Some (b + n - k) → get_or (put_mid b n s (replicate n x)) k d ≡ get_or (row (λ k. x) b n s) k d
      each k d (some i) g = mid_before x b n s h k d (omega arith) ∙ sym (row_before (λ k. x) b n s k d (omega arith))
      each k d (none i) (some j) =
          let e : b + (k - b) ≡ k = omega arith in
          rw (← e) (mid_within x b n s h (k - b) d (omega arith) ∙ sym (row_at (λ k. x) b n s (k - b) d (omega arith) h))
      each k d (none i) (none j) = mid_after x b n s h k d (omega arith) ∙ sym (row_after (λ k. x) b n s k d (omega arith))

  -- as `fill` writes it
  pub row_filled : (x : A) (b n m : ℕ) (s ys : List A) → b + n ≤ length s → m ≡ n → ys ≡ replicate (length (take m (drop b s))) x
      → put_mid b m s ys ≡ row (λ k. x) b n s
  row_filled x b n m s ys h q e = rw (e, q, length-take-le n (drop b s) (omega (arith, length-drop b s))) (mid_row x b n s h)
