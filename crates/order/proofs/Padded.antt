-- Arrays of eight that are filled from the front.
use mathlib.Core.Path.{◌≡◌, refl, sym, ap, ap₂, ◌∙◌}
use mathlib.Core.List.{List, [], ◌∷◌, ◌++◌, map, append_assoc, map-append}
use mathlib.Core.Logic.{◌⊎◌, inl, inr}
use Prim.Native.Nat.{ℕ, zero, suc, ◌+◌, ◌-◌, min, ◌≤◌, ◌<◌}
use native.Mathlib.Numerals.{add-one}
use native.Mathlib.Omega.{arith}
use lib.ListN.{length, take, get_or, set, replicate, length-append, length-map}
use lib.Seq.{take-suc, take_all, length-take-le, set-append_seam}
use Rattle.words.proofs.Upto.{lt_or_ge}
use Rattle.order.specs.Lists.{padded}

module _ {A : Type 0} (d : A) where
  pub padded_next : (xs : List A) (k : ℕ) (v : A) → length xs ≡ k → k < 8 → set (padded d xs) k v ≡ padded d (xs ++ (v ∷ []))
  unfolding padded
  padded_next xs k v e h =
      let m : 8 - length xs ≡ suc (8 - length (xs ++ (v ∷ []))) = omega (arith, length-append xs (v ∷ [])) in
      ap₂ (λ (j n : ℕ). set (xs ++ replicate n d) j v) (sym e) m
      ∙ set-append_seam xs d (replicate (8 - length (xs ++ (v ∷ []))) d) v
      ∙ sym (append_assoc xs (v ∷ []) (replicate (8 - length (xs ++ (v ∷ []))) d))

-- one element more of a list that goes over by f
pub map_next : {A B : Type 0} (f : A → B) (d : B) (none : A) (xs : List A) (k : ℕ) (ys : List B) (v : B) → length xs ≡ 8 → k < 8
    → ys ≡ padded d (map f (take k xs)) → v ≡ f (get_or xs k none) → set ys k v ≡ padded d (map f (take (k + 1) xs))
map_next f d none xs k ys v len h e g =
    ap₂ (λ (l : List _) (x : _). set l k x) e g
    ∙ padded_next d (map f (take k xs)) k (f (get_or xs k none)) (length-map (take k xs) f ∙ length-take-le k xs (omega arith)) h
    ∙ ap (padded d) (sym (map-append f (take k xs) (get_or xs k none ∷ [])) ∙ ap (map f)
    (sym (take-suc xs k none (omega arith)) ∙ ap (λ (j : ℕ). take j xs) (sym (add-one k))))

-- what fills it up is what stands for nothing behind its end
pub padded_at : {A : Type 0} (d : A) (xs : List A) (i : ℕ) → get_or (padded d xs) i d ≡ get_or xs i d
unfolding padded
padded_at d xs i = filled xs (8 - length xs) i
  where
    filled : (xs : List _) (m i : ℕ) → get_or (xs ++ replicate m d) i d ≡ get_or xs i d
    filled [] zero i = refl
    filled [] (suc m) zero = refl
    filled [] (suc m) (suc i) = filled [] m i
    filled (x ∷ xs) m zero = refl
    filled (x ∷ xs) m (suc i) = filled xs m i

-- the values of a list that is filled up
pub map_padded : {A B : Type 0} (f : A → B) (d : A) (xs : List A) → map f (padded d xs) ≡ padded (f d) (map f xs)
unfolding padded
map_padded f d xs =
    map-append f xs (replicate (8 - length xs) d)
    ∙ ap (λ (l : List _). map f xs ++ l) (filled (8 - length xs) ∙ ap (λ (n : ℕ). replicate (8 - n) (f d)) (sym (length-map xs f)))
  where
    filled : (n : ℕ) → map f (replicate n d) ≡ replicate n (f d)
    filled zero = refl
    filled (suc n) = ap (λ (l : List _). f d ∷ l) (filled n)

-- a count past the whole takes the whole
pub take-eight : {A : Type 0} (k : ℕ) (xs : List A) → length xs ≡ 8 → take (min k 8) xs ≡ take k xs
take-eight k xs e = go (lt_or_ge k 8)
  where
    go : (k < 8) ⊎ (8 ≤ k) → take (min k 8) xs ≡ take k xs
    go (inl h) = let m : min k 8 ≡ k = omega arith in ap (λ (j : ℕ). take j xs) m
    go (inr h) =
        let m : min k 8 ≡ 8 = omega arith in
        ap (λ (j : ℕ). take j xs) m ∙ take_all 8 xs (omega arith) ∙ sym (take_all k xs (omega arith))
