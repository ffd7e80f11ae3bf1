-- Laws of the lists that pass a test.
use mathlib.Core.Path.{◌≡◌, refl, ap, ap₂}
use mathlib.Core.Bool.{Bool, true, false, ◌||◌}
use mathlib.Core.List.{List, [], ◌∷◌, ◌++◌, map, cons≢nil}
use Prim.Native.Nat.{ℕ, zero, suc, ◌<◌}
use native.Mathlib.Nat.{not-suc-le-zero, le_of_suc-le-suc}
use native.Mathlib.Omega.{arith}
use lib.ListN.{take, get_or, length}
use Rattle.order.specs.Lists.{cons_if, keep, some}

-- P holds of each element
abbrev pub All : {A : Type 0} → (A → Type 0) → List A → Type 0
All P [] = Unit {0}
All P (x ∷ xs) = P x × All P xs

pub all_append : {A : Type 0} (P : A → Type 0) (xs ys : List A) → All P xs → All P ys → All P (xs ++ ys)
all_append P [] ys h k = k
all_append P (x ∷ xs) ys h k = (h.0, all_append P xs ys h.1 k)

pub all_left : {A : Type 0} (P : A → Type 0) (xs ys : List A) → All P (xs ++ ys) → All P xs
all_left P [] ys h = tt
all_left P (x ∷ xs) ys h = (h.0, all_left P xs ys h.1)

pub all_right : {A : Type 0} (P : A → Type 0) (xs ys : List A) → All P (xs ++ ys) → All P ys
all_right P [] ys h = h
all_right P (x ∷ xs) ys h = all_right P xs ys h.1

pub all_map : {A : Type 0} (P Q : A → Type 0) (xs : List A) → ((x : A) → P x → Q x) → All P xs → All Q xs
all_map P Q [] f h = tt
all_map P Q (x ∷ xs) f h = (f x h.0, all_map P Q xs f h.1)

pub all_both : {A : Type 0} (P Q : A → Type 0) (xs : List A) → All P xs → All Q xs → All (λ x. P x × Q x) xs
all_both P Q [] h k = tt
all_both P Q (x ∷ xs) h k = ((h.0, k.0), all_both P Q xs h.1 k.1)

pub all_keep : {A : Type 0} (P : A → Type 0) (f : A → Bool) (xs : List A) → ((x : A) → f x ≡ true → P x) → All P (keep f xs)
unfolding keep
all_keep P f [] h = tt
all_keep P f (x ∷ xs) h = go (f x) refl (all_keep P f xs h)
  where
    go : (t : Bool) → f x ≡ t → All P (keep f xs) → All P (cons_if t x (keep f xs))
    go true e r = (h x e, r)
    go false e r = r

-- what holds of all holds of those kept, and of the first
pub all_kept : {A : Type 0} (P : A → Type 0) (f : A → Bool) (xs : List A) → All P xs → All P (keep f xs)
unfolding keep
all_kept P f [] h = tt
all_kept P f (x ∷ xs) h = go (f x) (all_kept P f xs h.1)
  where
    go : (t : Bool) → All P (keep f xs) → All P (cons_if t x (keep f xs))
    go true r = (h.0, r)
    go false r = r

pub all_take : {A : Type 0} (P : A → Type 0) (xs : List A) → All P xs → All P (take 1 xs)
all_take P [] h = tt
all_take P (x ∷ xs) h = (h.0, tt)

pub keep_append : {A : Type 0} (f : A → Bool) (xs ys : List A) → keep f (xs ++ ys) ≡ keep f xs ++ keep f ys
unfolding keep
keep_append f [] ys = refl
keep_append f (x ∷ xs) ys = go (f x) (keep_append f xs ys)
  where
    go : (t : Bool) → keep f (xs ++ ys) ≡ keep f xs ++ keep f ys → cons_if t x (keep f (xs ++ ys)) ≡ cons_if t x (keep f xs) ++ keep f ys
    go true e = ap (λ (l : List _). x ∷ l) e
    go false e = e

-- tests that agree keep the same
pub keep_same : {A : Type 0} (f g : A → Bool) (xs : List A) → All (λ x. f x ≡ g x) xs → keep f xs ≡ keep g xs
unfolding keep
keep_same f g [] h = refl
keep_same f g (x ∷ xs) h = ap₂ (λ (t : Bool) (l : List _). cons_if t x l) h.0 (keep_same f g xs h.1)

pub keep_none : {A : Type 0} (f : A → Bool) (xs : List A) → All (λ x. f x ≡ false) xs → keep f xs ≡ []
unfolding keep
keep_none f [] h = refl
keep_none f (x ∷ xs) h = rw h.0 (keep_none f xs h.1)

pub none_kept : {A : Type 0} (f : A → Bool) (xs : List A) → keep f xs ≡ [] → All (λ x. f x ≡ false) xs
unfolding keep
none_kept f [] e = tt
none_kept f (x ∷ xs) e = go (f x) refl e (none_kept f xs)
  where
    go : (t : Bool) → f x ≡ t → cons_if t x (keep f xs) ≡ [] → (keep f xs ≡ [] → All (λ y. f y ≡ false) xs) → (f x ≡ false)
        × All (λ y. f y ≡ false) xs
    go true d g r = absurd (cons≢nil g)
    go false d g r = (d, r g)

-- the first that passes, all before it failing
pub keep_first : {A : Type 0} (f : A → Bool) (xs : List A) (y : A) (ys : List A) → All (λ x. f x ≡ false) xs → f y ≡ true
    → take 1 (keep f (xs ++ (y ∷ ys))) ≡ y ∷ []
unfolding keep
keep_first f [] y ys h e = rw e
keep_first f (x ∷ xs) y ys h e = rw h.0 (keep_first f xs y ys h.1 e)

pub some_same : {A : Type 0} (f g : A → Bool) (xs : List A) → All (λ x. f x ≡ g x) xs → some f xs ≡ some g xs
unfolding some
some_same f g [] h = refl
some_same f g (x ∷ xs) h = ap₂ (λ (a b : Bool). a || b) h.0 (some_same f g xs h.1)

pub some_none : {A : Type 0} (f : A → Bool) (xs : List A) → All (λ x. f x ≡ false) xs → some f xs ≡ false
unfolding some
some_none f [] h = refl
some_none f (x ∷ xs) h = rw h.0 (some_none f xs h.1)

pub some_one : {A : Type 0} (f : A → Bool) (xs : List A) (y : A) (ys : List A) → f y ≡ true → some f (xs ++ (y ∷ ys)) ≡ true
unfolding some
some_one f [] y ys e = rw e
some_one f (x ∷ xs) y ys e = either (f x) (some f (xs ++ (y ∷ ys))) (some_one f xs y ys e)
  where
    either : (a b : Bool) → b ≡ true → (a || b) ≡ true
    either true b h = refl
    either false b h = h

-- ---- by index
pub all_at : {A : Type 0} (P : A → Type 0) (xs : List A) (i : ℕ) (d : A) → i < length xs → All P xs → P (get_or xs i d)
all_at P [] i d l h = absurd (not-suc-le-zero l)
all_at P (x ∷ xs) zero d l h = h.0
all_at P (x ∷ xs) (suc i) d l h = all_at P xs i d (le_of_suc-le-suc l) h.1

pub all_by_index : {A : Type 0} (P : A → Type 0) (xs : List A) (d : A) → ((i : ℕ) → i < length xs → P (get_or xs i d)) → All P xs
all_by_index P [] d h = tt
all_by_index P (x ∷ xs) d h = (h 0 (omega arith), all_by_index P xs d (λ i l. h (suc i) (omega arith)))

pub all_mapped : {A B : Type 0} (P : B → Type 0) (f : A → B) (xs : List A) → All (λ x. P (f x)) xs → All P (map f xs)
all_mapped P f [] h = tt
all_mapped P f (x ∷ xs) h = (h.0, all_mapped P f xs h.1)

-- functions that agree on the elements
pub map_same : {A B : Type 0} (f g : A → B) (xs : List A) → All (λ x. f x ≡ g x) xs → map f xs ≡ map g xs
map_same f g [] h = refl
map_same f g (x ∷ xs) h = ap₂ (λ (y : _) (l : List _). y ∷ l) h.0 (map_same f g xs h.1)
