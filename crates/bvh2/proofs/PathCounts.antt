-- A label counts as often as paths lead to it.
use mathlib.Core.Path.{◌≡◌, refl}
use mathlib.Core.List.{List, [], ◌∷◌}
use Prim.Native.Nat.{ℕ, ◌≤◌}
use native.Mathlib.Omega.{arith}
use Rattle.lists.specs.Counts.{same}
use Rattle.lists.proofs.Counts.{same_self, same-one, same_most, Some, none, some, some?}
use Rattle.bvh2.specs.Tree.{Tree, leaf, inner}
use Rattle.bvh2.specs.Causes.{Turn, left, right}
use Rattle.bvh2.proofs.Counts.{label_count}
use Rattle.bvh2.proofs.Paths.{At}

-- a path makes the count at least 1
pub at_counts : (t : Tree ℕ) (q : List Turn) (x : ℕ) → At t q x → 1 ≤ label_count x t
unfolding At label_count
at_counts (leaf v b p) [] x h = let i = same_self x in rw h (omega arith)
at_counts (leaf v b p) (t ∷ q) x h = absurd h
at_counts (inner v b l r) [] x h = let i = same_self x in rw h (omega arith)
at_counts (inner v b l r) (left ∷ q) x h = let i = at_counts l q x h in omega arith
at_counts (inner v b l r) (right ∷ q) x h = let i = at_counts r q x h in omega arith

-- a count of at least 1 has a path
pub some_path : (t : Tree ℕ) (x : ℕ) → 1 ≤ label_count x t → (q : List Turn) × At t q x
unfolding At label_count
some_path (leaf v b p) x h = ([], same-one x v h)
some_path (inner v b l r) x h = pick (some? (same x v)) (some? (label_count x l)) (some_path l x) (some_path r x)
  where
    pick : Some (same x v) → Some (label_count x l) → (1 ≤ label_count x l → (q : List Turn) × At l q x)
        → (1 ≤ label_count x r → (q : List Turn) × At r q x) → (q : List Turn) × At (inner v b l r) q x
    pick (some i) s f g = ([], same-one x v i)
    pick (none i) (some j) f g = let u = f j in (left ∷ u.0, u.1)
    pick (none i) (none j) f g = let u = g (omega arith) in (right ∷ u.0, u.1)

-- a count of at most 1 has no second
pub one_path : (t : Tree ℕ) (x : ℕ) → label_count x t ≤ 1 → (q s : List Turn) → At t q x → At t s x → q ≡ s
unfolding At label_count
one_path (leaf v b p) x k [] [] h g = refl
one_path (leaf v b p) x k [] (t ∷ s) h g = absurd g
one_path (leaf v b p) x k (t ∷ q) [] h g = absurd h
one_path (leaf v b p) x k (t ∷ q) (u ∷ s) h g = absurd h
one_path (inner v b l r) x k [] [] h g = refl
one_path (inner v b l r) x k [] (left ∷ s) h g = let i = same_self x in let e : same x v
    ≡ 1 = rw h i in let j = at_counts l s x g in absurd (omega arith)
one_path (inner v b l r) x k [] (right ∷ s) h g = let i = same_self x in let e : same x v
    ≡ 1 = rw h i in let j = at_counts r s x g in absurd (omega arith)
one_path (inner v b l r) x k (left ∷ q) [] h g = let i = same_self x in let e : same x v
    ≡ 1 = rw g i in let j = at_counts l q x h in absurd (omega arith)
one_path (inner v b l r) x k (right ∷ q) [] h g = let i = same_self x in let e : same x v
    ≡ 1 = rw g i in let j = at_counts r q x h in absurd (omega arith)
one_path (inner v b l r) x k (left ∷ q) (left ∷ s) h g = rw (one_path l x (omega arith) q s h g)
one_path (inner v b l r) x k (left ∷ q) (right ∷ s) h g = let i = at_counts l q x h in let j = at_counts r s x g in absurd (omega arith)
one_path (inner v b l r) x k (right ∷ q) (left ∷ s) h g = let i = at_counts r q x h in let j = at_counts l s x g in absurd (omega arith)
one_path (inner v b l r) x k (right ∷ q) (right ∷ s) h g = rw (one_path r x (omega arith) q s h g)

-- two different things with a property
pub record Two {A : Type 0} (P : A → Type 0) : Type 0 where
  pub first : A
  pub second : A
  pub has : P first
  pub also : P second
  pub differ : first ≡ second → ⊥

tail_of : (x y : Turn) (q r : List Turn) → x ∷ q ≡ y ∷ r → q ≡ r
tail_of x y q r e = cc

nil_cons : (x : Turn) (q : List Turn) → [] ≡ x ∷ q → ⊥
nil_cons x q e = let z : ◌≡◌ {A = ℕ} 0 1 = cc in omega arith

left_right : (q r : List Turn) → left ∷ q ≡ right ∷ r → ⊥
left_right q r e = let z : ◌≡◌ {A = ℕ} 0 1 = cc in omega arith

-- a count of at least 2 has two paths
pub two_paths : (t : Tree ℕ) (x : ℕ) → 2 ≤ label_count x t → Two (λ q. At t q x)
unfolding At label_count
two_paths (leaf v b p) x h = let i = same_most x v in absurd (omega arith)
two_paths (inner v b l r) x h = pick (some? (same x v)) (some? (label_count x l)) (some? (label_count x r)) (two_paths l x) (two_paths r x)
  where
    pick : Some (same x v) → Some (label_count x l) → Some (label_count x r) → (2 ≤ label_count x l → Two (λ q. At l q x))
        → (2 ≤ label_count x r → Two (λ q. At r q x)) → Two (λ q. At (inner v b l r) q x)
    pick (some i) (some j) k f g =
        let u = some_path l x j in
        record { first = []; second = left ∷ u.0; has = same-one x v i; also = u.1; differ = λ e. nil_cons left u.0 e }
    pick (some i) (none j) (some k) f g =
        let u = some_path r x k in
        record { first = []; second = right ∷ u.0; has = same-one x v i; also = u.1; differ = λ e. nil_cons right u.0 e }
    pick (some i) (none j) (none k) f g = let z = same_most x v in absurd (omega arith)
    pick (none i) (some j) (some k) f g =
        let u = some_path l x j in
        let w = some_path r x k in
        record { first = left ∷ u.0; second = right ∷ w.0; has = u.1; also = w.1; differ = λ e. left_right u.0 w.0 e }
    pick (none i) (some j) (none k) f g =
        let u = f (omega arith) in
        record {
          first = left ∷ u.first;
          second = left ∷ u.second;
          has = u.has;
          also = u.also;
          differ = λ e. u.differ
              (tail_of left left u.first u.second e);
        }
    pick (none i) (none j) k f g =
        let u = g (omega arith) in
        record {
          first = right ∷ u.first;
          second = right ∷ u.second;
          has = u.has;
          also = u.also;
          differ = λ e. u.differ
              (tail_of right right u.first u.second e);
        }
