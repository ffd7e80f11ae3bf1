-- Laws of the narrowest span: it holds the spans that it is over and no end of it could be nearer; of lists joined it is that of both parts,
-- and it does not depend on the sequence.
use mathlib.Core.Bool.{true}
use mathlib.Core.List.{List, [], ◌∷◌, ◌++◌, Perm}
use mathlib.Core.Path.{◌≡◌, refl, sym, ap, ◌∙◌}
use Prim.Native.Nat.{ℕ, ◌≤◌, ◌<◌, min, max}
use native.Mathlib.Decide.{dec_le}
use native.Mathlib.Omega.{arith}
use lib.ListN.{length}
use Rattle.lists.specs.Counts.{count}
use Rattle.lists.proofs.Counts.{Same, equal, apart, same?, same_self}
use Rattle.lists.proofs.Perms.{counts_perm, perm_length}
use Rattle.lists.proofs.Tells.{Tells, told, tells_true, and_tells, leb_tells}
use Rattle.span.specs.declared.Span.{Span}
use Rattle.span.specs.Span.{holds, first_at, last_at, span_at}
use Rattle.span.specs.Hull.{least_of, greatest_of, hull, joined}

-- ---- the least value and the greatest

module _ (f : ℕ → ℕ) where
  least_next : (x : ℕ) (l : List ℕ) → 0 < length l → least_of f (x ∷ l) ≡ min (f x) (least_of f l)
  unfolding least_of
  least_next x [] h = absurd (omega arith)
  least_next x (y ∷ l) h = refl

  pub least_append : (a b : List ℕ) → 0 < length a → 0 < length b → least_of f (a ++ b) ≡ min (least_of f a) (least_of f b)
  unfolding least_of
  least_append [] b h k = absurd (omega arith)
  least_append (x ∷ []) b h k = least_next x b k
  least_append (x ∷ y ∷ a) b h k = omega (arith, least_append (y ∷ a) b (omega arith) k)

  pub greatest_append : (a b : List ℕ) → greatest_of f (a ++ b) ≡ max (greatest_of f a) (greatest_of f b)
  unfolding greatest_of
  greatest_append [] b = omega arith
  greatest_append (x ∷ a) b = omega (arith, greatest_append a b)

  -- every member's value is between them
  pub least_most : (l : List ℕ) (k : ℕ) → 0 < count k l → least_of f l ≤ f k
  unfolding least_of count
  least_most [] k h = absurd (omega arith)
  least_most (x ∷ []) k h = go (same? k x)
    where
      go : Same k x → f x ≤ f k
      go (equal e n) = rw e (omega arith)
      go (apart e n) = absurd (omega arith)
  least_most (x ∷ y ∷ l) k h = go (same? k x) (least_most (y ∷ l) k)
    where
      go : Same k x → (0 < count k (y ∷ l) → least_of f (y ∷ l) ≤ f k) → min (f x) (least_of f (y ∷ l)) ≤ f k
      go (equal e n) r = rw e (omega arith)
      go (apart e n) r = omega (arith, r (omega arith))

  pub most_greatest : (l : List ℕ) (k : ℕ) → 0 < count k l → f k ≤ greatest_of f l
  unfolding greatest_of count
  most_greatest [] k h = absurd (omega arith)
  most_greatest (x ∷ l) k h = go (same? k x) (most_greatest l k)
    where
      go : Same k x → (0 < count k l → f k ≤ greatest_of f l) → f k ≤ max (f x) (greatest_of f l)
      go (equal e n) r = rw e (omega arith)
      go (apart e n) r = omega (arith, r (omega arith))

  -- some member has the value
  abbrev pub Taken : List ℕ → ℕ → Type 0
  Taken l v = (k : ℕ) × (0 < count k l) × (f k ≡ v)

  taken_first : (x : ℕ) (l : List ℕ) (v : ℕ) → f x ≡ v → Taken (x ∷ l) v
  unfolding count
  taken_first x l v e = (x, omega (arith, same_self x), e)

  taken_later : (x : ℕ) (l : List ℕ) (v : ℕ) → Taken l v → Taken (x ∷ l) v
  unfolding count
  taken_later x l v t = (t.0, omega (arith, t.1), t.2)

  pub least_taken : (l : List ℕ) → 0 < length l → Taken l (least_of f l)
  unfolding least_of
  least_taken [] h = absurd (omega arith)
  least_taken (x ∷ []) h = taken_first x [] (f x) refl
  least_taken (x ∷ y ∷ l) h = go (dec_le (f x) (least_of f (y ∷ l))) (least_taken (y ∷ l) (omega arith))
    where
      go : Dec (f x ≤ least_of f (y ∷ l)) → Taken (y ∷ l) (least_of f (y ∷ l)) → Taken (x ∷ y ∷ l) (min (f x) (least_of f (y ∷ l)))
      go (yes q) t = taken_first x (y ∷ l) (min (f x) (least_of f (y ∷ l))) (omega arith)
      go (no q) t = taken_later x (y ∷ l) (min (f x) (least_of f (y ∷ l))) (t.0, t.1, omega (arith, t.2))

  pub greatest_taken : (l : List ℕ) → 0 < length l → Taken l (greatest_of f l)
  unfolding greatest_of
  greatest_taken [] h = absurd (omega arith)
  greatest_taken (x ∷ []) h = taken_first x [] (max (f x) 0) (omega arith)
  greatest_taken (x ∷ y ∷ l) h = go (dec_le (greatest_of f (y ∷ l)) (f x)) (greatest_taken (y ∷ l) (omega arith))
    where
      go : Dec (greatest_of f (y ∷ l) ≤ f x) → Taken (y ∷ l) (greatest_of f (y ∷ l)) → Taken (x ∷ y ∷ l) (max (f x) (greatest_of f (y ∷ l)))
      go (yes q) t = taken_first x (y ∷ l) (max (f x) (greatest_of f (y ∷ l))) (omega arith)
      go (no q) t = taken_later x (y ∷ l) (max (f x) (greatest_of f (y ∷ l))) (t.0, t.1, omega (arith, t.2))

  -- one value throughout
  least_one : (v : ℕ) (l : List ℕ) → ((k : ℕ) → 0 < count k l → f k ≡ v) → 0 < length l → least_of f l ≡ v
  least_one v l h s = let t = least_taken l s in sym t.2 ∙ h t.0 t.1

  greatest_one : (v : ℕ) (l : List ℕ) → ((k : ℕ) → 0 < count k l → f k ≡ v) → 0 < length l → greatest_of f l ≡ v
  greatest_one v l h s = let t = greatest_taken l s in sym t.2 ∙ h t.0 t.1

-- ---- the narrowest span

pub holds_tells : (s : Span) (q : ℕ) → Tells ((s.first ≤ q) × (q ≤ s.last)) (holds s q)
unfolding holds
holds_tells s q = and_tells (leb_tells s.first q) (leb_tells q s.last)

module _ (spans : List ℕ) where
  -- of no pane
  pub hull_none : hull spans [] ≡ record { first = 0; last = 0 }
  unfolding hull least_of greatest_of
  hull_none = refl

  -- of one
  pub hull_one : (k : ℕ) → hull spans (k ∷ []) ≡ span_at spans k
  unfolding hull least_of greatest_of
  hull_one k = let e : max (last_at spans k) 0 ≡ last_at spans k = omega arith in λ i. record { first = first_at spans k; last = e i }

  -- of two lists one behind the other
  pub hull_append : (a b : List ℕ) → 0 < length a → 0 < length b → hull spans (a ++ b) ≡ joined (hull spans a) (hull spans b)
  unfolding hull joined
  hull_append a b h k =
      λ i. record { first = least_append (first_at spans) a b h k i; last = greatest_append (last_at spans) a b i }

  -- each span lies within it
  pub hull_wide : (ks : List ℕ) (k : ℕ) → 0 < count k ks
      → ((hull spans ks).first ≤ (span_at spans k).first) × ((span_at spans k).last ≤ (hull spans ks).last)
  unfolding hull
  hull_wide ks k h = (least_most (first_at spans) ks k h, most_greatest (last_at spans) ks k h)

  -- and some span has its first, some its last
  pub hull_narrow : (ks : List ℕ) → 0 < length ks
      → ((k : ℕ) × (0 < count k ks) × ((span_at spans k).first ≡ (hull spans ks).first))
      × ((k : ℕ) × (0 < count k ks) × ((span_at spans k).last ≡ (hull spans ks).last))
  unfolding hull
  hull_narrow ks h = (least_taken (first_at spans) ks h, greatest_taken (last_at spans) ks h)

  -- it holds what one of them holds
  pub hull_holds : (ks : List ℕ) (k q : ℕ) → 0 < count k ks → holds (span_at spans k) q ≡ true → holds (hull spans ks) q ≡ true
  hull_holds ks k q h e =
      let s = told (holds_tells (span_at spans k) q) e in
      let w = hull_wide ks k h in
      tells_true (holds_tells (hull spans ks) q) (omega arith, omega arith)

  -- of spans over the whole day: the whole day
  pub hull_all_day : (ks : List ℕ) → 0 < length ks → ((k : ℕ) → 0 < count k ks → span_at spans k ≡ record { first = 0; last = 95 })
      → hull spans ks ≡ record { first = 0; last = 95 }
  unfolding hull
  hull_all_day ks h day =
      let first = least_one (first_at spans) 0 ks (λ k l. ap (λ (s : Span). s.first) (day k l)) h in
      let last = greatest_one (last_at spans) 95 ks (λ k l. ap (λ (s : Span). s.last) (day k l)) h in
      λ i. record { first = first i; last = last i }

  -- over more panes it is no narrower
  hull_wider : (a b : List ℕ) → ((k : ℕ) → 0 < count k b → 0 < count k a) → 0 < length b
      → ((hull spans a).first ≤ (hull spans b).first) × ((hull spans b).last ≤ (hull spans a).last)
  hull_wider a b h some =
      let n = hull_narrow b some in
      let f = hull_wide a n.0.0 (h n.0.0 n.0.1) in
      let l = hull_wide a n.1.0 (h n.1.0 n.1.1) in
      (omega (arith, f.0, n.0.2), omega (arith, l.1, n.1.2))

  -- of a list rearranged it is the same
  pub hull_rearranged : (a b : List ℕ) → Perm a b → hull spans a ≡ hull spans b
  hull_rearranged [] [] p = refl
  hull_rearranged [] (k ∷ b) p = absurd (omega (arith, perm_length [] (k ∷ b) p))
  hull_rearranged (j ∷ a) [] p = absurd (omega (arith, perm_length (j ∷ a) [] p))
  hull_rearranged (j ∷ a) (k ∷ b) p =
      let c = (counts_perm (j ∷ a) (k ∷ b)).0 p in
      let x = hull_wider (j ∷ a) (k ∷ b) (λ q m. omega (arith, m, c q)) (omega arith) in
      let y = hull_wider (k ∷ b) (j ∷ a) (λ q m. omega (arith, m, c q)) (omega arith) in
      let first : (hull spans (j ∷ a)).first ≡ (hull spans (k ∷ b)).first = omega (arith, x.0, y.0) in
      let last : (hull spans (j ∷ a)).last ≡ (hull spans (k ∷ b)).last = omega (arith, x.1, y.1) in
      λ i. record { first = first i; last = last i }
