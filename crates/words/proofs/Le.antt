-- The laws of a number's fields as a sum, and of a number that lies in a list of bytes.
use mathlib.Core.Path.{◌≡◌, refl, sym, ap, ap₂, ◌∙◌, subst}
use mathlib.Core.Logic.{◌⊎◌, inl, inr}
use mathlib.Core.List.{List, [], ◌∷◌, ◌++◌, append_assoc}
use Prim.Native.Nat.{ℕ, zero, suc, ◌+◌, ◌*◌, ◌/◌, ◌%◌, ◌^◌, ◌≤◌, ◌<◌}
use native.Mathlib.Nat.{mod-eq_of_lt, mod-one, zero-mul, suc-mul, add_comm, mul_assoc, mul-add-mod_self_right, add-mul-div_right}
use native.Mathlib.Nat.{eq-or-lt_of_le, le_of_suc-le-suc, not-suc-le-zero}
use native.Mathlib.Numerals.{unary_clauses}
use native.Mathlib.Omega.{arith}
use lib.Arith.{digits_lt}
use lib.Pow.{pow_pos, pow-add, high, mod-pow-add, shr-shr}
use lib.ListN.{length, get_or, set, take, drop, length-set, take-append-drop}
use lib.Seq.{drop-cons, drop-set-lt, take-suc-set}
use Rattle.std.specs.Int.{byte_worth, sum_through, to_le_bytes, w32}
use Rattle.std.proofs.lemmas.List.{get_or-take, get_or-drop}
use Rattle.words.specs.Fields.{field}
use Rattle.words.specs.Le.{sum_of, le_at, store_le}
use Rattle.words.specs.Loaded.{Loaded}
use Rattle.words.proofs.Fields.{field_is}

-- ---- sums
pub sum_congr : (k n : ℕ) (f g : ℕ → ℕ) → ((i : ℕ) → i < n → f i ≡ g i) → sum_of k n f ≡ sum_of k n g
unfolding sum_of
sum_congr k zero f g h = refl
sum_congr k (suc n) f g h =
    ap₂ (λ (x y : ℕ). x + y * 2 ^ (n * k)) (sum_congr k n f g (λ i l. h i (omega arith))) (h n (omega arith))

pub sum_lt : (k n : ℕ) (f : ℕ → ℕ) → ((i : ℕ) → i < n → f i < 2 ^ k) → sum_of k n f < 2 ^ (n * k)
unfolding sum_of
sum_lt k zero f h = subst (λ (x : ℕ). zero < 2 ^ x) (sym (zero-mul k)) (omega arith)
sum_lt k (suc n) f h =
    let e : 2 ^ (suc n * k) ≡ 2 ^ k * 2 ^ (n * k) = ap (λ (x : ℕ). 2 ^ x) (suc-mul n k ∙ add_comm (n * k) k) ∙ pow-add 2 k (n * k) in
    let l : f n * 2 ^ (n * k) + sum_of k n f < 2 ^ k * 2 ^ (n * k) = digits_lt (h n (omega arith)) (sum_lt k n f (λ i l. h i (omega arith))) in
    omega arith

-- the fields of a number are what it sums up to
pub sum_fields : (k n v : ℕ) → sum_of k n (λ i. field k i v) ≡ v % 2 ^ (n * k)
unfolding sum_of
sum_fields k zero v = sym (ap (λ (x : ℕ). v % 2 ^ x) (zero-mul k) ∙ mod-one v)
sum_fields k (suc n) v =
    ap₂ (λ (x y : ℕ). x + y * 2 ^ (n * k)) (sum_fields k n v) (field_is k n v)
    ∙ add_comm (v % 2 ^ (n * k)) (v / 2 ^ (n * k) % 2 ^ k * 2 ^ (n * k))
    ∙ sym (mod-pow-add v k (n * k)) ∙ ap (λ (x : ℕ). v % 2 ^ x) (add_comm k (n * k) ∙ sym (suc-mul n k))

pub sum_whole : (k n v : ℕ) → v < 2 ^ (n * k) → sum_of k n (λ i. field k i v) ≡ v
sum_whole k n v h = sum_fields k n v ∙ mod-eq_of_lt h

-- a field below the n-th does not see what stands from there on
shift_out : (hi n k lo : ℕ) → hi * 2 ^ (suc n * k) + lo ≡ (hi * 2 ^ (n * k)) * 2 ^ k + lo
shift_out hi n k lo = ap (λ (x : ℕ). x + lo) (ap (λ (x : ℕ). hi * x) (ap (λ (x : ℕ). 2 ^ x) (suc-mul n k) ∙ pow-add 2 (n * k) k) ∙ sym
    (mul_assoc hi (2 ^ (n * k)) (2 ^ k)))

pub field_low : (k n i hi lo : ℕ) → i < n → field k i (hi * 2 ^ (n * k) + lo) ≡ field k i lo
unfolding field
field_low k zero i hi lo h = absurd (not-suc-le-zero h)
field_low k (suc n) zero hi lo h = ap (λ (x : ℕ). x % 2 ^ k) (shift_out hi n k lo) ∙ mul-add-mod_self_right (hi * 2 ^ (n * k)) (2 ^ k) lo
field_low k (suc n) (suc i) hi lo h =
    ap (field k i)
    (ap (λ (x : ℕ). x / 2 ^ k) (shift_out hi n k lo ∙ add_comm (hi * 2 ^ (n * k) * 2 ^ k) lo) ∙ add-mul-div_right lo (hi * 2 ^ (n * k)) (pow_pos k)
    ∙ add_comm (lo / 2 ^ k) (hi * 2 ^ (n * k)))
    ∙ field_low k n i hi (lo / 2 ^ k) (le_of_suc-le-suc h)

pub field_top : (k n hi lo : ℕ) → lo < 2 ^ (n * k) → field k n (hi * 2 ^ (n * k) + lo) ≡ hi % 2 ^ k
field_top k n hi lo h = field_is k n (hi * 2 ^ (n * k) + lo) ∙ ap (λ (x : ℕ). x % 2 ^ k) (high hi (n * k) h)

-- the fields of a sum of fields
pub field-sum : (k n : ℕ) (f : ℕ → ℕ) → ((i : ℕ) → i < n → f i < 2 ^ k) → (i : ℕ) → i < n → field k i (sum_of k n f) ≡ f i
unfolding sum_of
field-sum k zero f h i l = absurd (not-suc-le-zero l)
field-sum k (suc n) f h i l =
    ap (field k i) (add_comm (sum_of k n f) (f n * 2 ^ (n * k)))
    ∙ pick (field-sum k n f (λ j m. h j (omega arith)) i) (eq-or-lt_of_le (le_of_suc-le-suc l))
  where
    pick : (i < n → field k i (sum_of k n f) ≡ f i) → (i ≡ n) ⊎ (i < n) → field k i (f n * 2 ^ (n * k) + sum_of k n f) ≡ f i
    pick rest (inl e) =
        ap (λ (x : ℕ). field k x (f n * 2 ^ (n * k) + sum_of k n f)) e ∙ field_top k n (f n) (sum_of k n f) (sum_lt k n f (λ j m. h j (omega arith)))
        ∙ mod-eq_of_lt (h n (omega arith)) ∙ ap f (sym e)
    pick rest (inr m) = field_low k n i (f n) (sum_of k n f) m ∙ rest m

-- ---- a number in a list of bytes
pub le-lt : (n : ℕ) (s : List ℕ) (at : ℕ) → ((i : ℕ) → i < n → get_or s (at + i) 0 < 256) → le_at n s at < 2 ^ (n * 8)
unfolding le_at
le-lt n s at h = sum_lt 8 n (λ i. get_or s (at + i) 0) h

pub le_byte : (n : ℕ) (s : List ℕ) (at : ℕ) → ((i : ℕ) → i < n → get_or s (at + i) 0 < 256) → (i : ℕ) → i < n → field 8 i (le_at n s at)
    ≡ get_or s (at + i) 0
unfolding le_at
le_byte n s at h = field-sum 8 n (λ i. get_or s (at + i) 0) h

-- the sum that `from_le_bytes` takes over n bytes
pow_256 : (k : ℕ) → 256 ^ k ≡ 2 ^ (k * 8)
pow_256 zero = refl
pow_256 (suc k) = simp unary_clauses (rw (suc-mul k 8, pow-add 2 (k * 8) 8, pow_256 k))

worth_sum : (f : ℕ → ℕ) (k : ℕ) → sum_through (λ i. byte_worth i (f i)) k ≡ sum_of 8 (suc k) f
unfolding sum_of
worth_sum f zero = omega arith
worth_sum f (suc k) = ap₂ (λ (x y : ℕ). x + f (suc k) * y) (worth_sum f k) (pow_256 (suc k))

-- so the number of n bytes at a place is that sum, and each byte is a field of it
pub loaded : (k : ℕ) (s bytes : List ℕ) (at r : ℕ) → bytes ≡ take (suc k) (drop at s) → ((i : ℕ) → get_or s i 0 < 256)
    → r ≡ sum_through (λ i. byte_worth i (get_or bytes i 0)) k → Loaded (suc k) s at r
unfolding le_at
loaded k s bytes at r b small e =
    let here : (i : ℕ) → i < suc k → get_or bytes i 0 ≡ get_or s (at + i) 0 = λ i l. rw (b, get_or-take, get_or-drop) in
    let sum : r ≡ le_at (suc k) s at = e ∙ worth_sum (λ i. get_or bytes i 0) k ∙ sum_congr 8 (suc k) _ _ here in
    record { value = sum; bytes = λ i l. ap (field 8 i) sum ∙ le_byte (suc k) s at (λ j m. small (at + j)) i l }

-- ---- bytes written over those at a place, one after the other
abbrev pub sets : List ℕ → ℕ → ℕ → List ℕ → List ℕ
sets s at k [] = s
sets s at k (b ∷ bs) = sets (set s (at + k) b) at (suc k) bs

pub sets_is : (s : List ℕ) (at k : ℕ) (bs : List ℕ) → at + k + length bs ≤ length s
    → take (at + k) s ++ (bs ++ drop (length bs) (drop (at + k) s)) ≡ sets s at k bs
sets_is s at k [] h = take-append-drop (at + k) s
sets_is s at k (b ∷ bs) h =
    let i : ℕ = at + k in
    let next : at + suc k ≡ suc i = omega arith in
    let there : i < length s = omega arith in
    let front : take (at + suc k) (set s i b) ≡ take i s ++ (b ∷ []) = rw next (take-suc-set s i b there) in
    let back : drop (at + suc k) (set s i b) ≡ drop (suc i) s = rw next (drop-set-lt (suc i) s i b (omega arith)) in
    let rest = rw (front, back) at (sets_is (set s i b) at (suc k) bs (simp length-set (omega arith))) in
    rw (drop-cons s i 0 there) (sym (append_assoc (take i s) (b ∷ []) (bs ++ drop (length bs) (drop (suc i) s))) ∙ rest)

-- the four bytes of a word
pub stored : (s : List ℕ) (at v : ℕ) → sets s at 0 (to_le_bytes w32 v) ≡ store_le 4 s at v
unfolding store_le field
stored s at v =
    let second : v / 0x100 / 0x100 ≡ v / 0x1_0000 = shr-shr v 8 8 in
    let third : v / 0x1_0000 / 0x100 ≡ v / 0x100_0000 = shr-shr v 16 8 in
    simp (second, third)
