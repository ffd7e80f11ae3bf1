-- Which leaf holds a position, and how often the position stands in the tree.
use mathlib.Core.Path.{◌≡◌, refl, sym, ◌∙◌}
use mathlib.Core.Logic.{◌⊎◌, inl, inr}
use mathlib.Core.List.{List, [], ◌∷◌}
use Prim.Native.Nat.{ℕ, zero, suc, ◌+◌, ◌<◌, ◌≤◌}
use native.Mathlib.Omega.{arith}
use Rattle.lists.proofs.Counts.{same_self, same-one, same_most, Some, none, some, some?}
use Rattle.bvh2.specs.Tree.{Tree, leaf, inner}
use Rattle.bvh2.specs.Words.{Link, children, position, malformed, link_at, read_link, tree_at}
use Rattle.bvh2.specs.Causes.{Turn, left, right}
use Rattle.bvh2.specs.Decoded.{AllRead, LabelsWithin}
use Rattle.bvh2.proofs.Reading.{same_position, children_position, position_malformed}
use Rattle.bvh2.proofs.Counts.{label_count, position_count}
use Rattle.bvh2.proofs.Paths.{At}
use Rattle.bvh2.proofs.PathCounts.{Two}

-- the tree has a leaf labelled x that holds position y
unfoldable pub Keeps : Tree ℕ → ℕ → ℕ → Type 0
Keeps (leaf v b p) x y = (v ≡ x) × (p ≡ y)
Keeps (inner v b l r) x y = Keeps l x y ⊎ Keeps r x y

-- it stands so in the words
pub keeps_link : (ws : List ℕ) (t : Tree ℕ) → AllRead ws t → (x y : ℕ) → Keeps t x y → link_at ws x ≡ position y
unfolding AllRead Keeps
keeps_link ws (leaf v b p) w x y h = rw (h.0, h.1) at w
keeps_link ws (inner v b l r) w x y (inl h) = keeps_link ws l w.0 x y h
keeps_link ws (inner v b l r) w x y (inr h) = keeps_link ws r w.1 x y h

-- a leaf of the words to which a path of the tree leads is one of the tree
at_keeps_read : (ws : List ℕ) (d u : ℕ) (l : Link) → link_at ws u ≡ l → AllRead ws (read_link ws d u l) → (q : List Turn) (x y : ℕ)
    → At (read_link ws d u l) q x → link_at ws x ≡ position y → Keeps (read_link ws d u l) x y
unfolding read_link AllRead At Keeps
at_keeps_read ws zero u (children f) e w q x y h k = children_position e w
at_keeps_read ws zero u (position p) e w [] x y h k = (h, same_position (rw h at e) k)
at_keeps_read ws zero u (position p) e w (t ∷ q) x y h k = absurd h
at_keeps_read ws zero u malformed e w q x y h k = position_malformed w e
at_keeps_read ws (suc d) u (children f) e w [] x y h k = children_position (rw h at e) k
at_keeps_read ws (suc d) u (children f) e w (left ∷ q) x y h k = inl (at_keeps_read ws d f (link_at ws f) refl w.0 q x y h k)
at_keeps_read ws (suc d) u (children f) e w (right ∷ q) x y h k = inr (at_keeps_read ws d (f + 1) (link_at ws (f + 1)) refl w.1 q x y h k)
at_keeps_read ws (suc d) u (position p) e w [] x y h k = (h, same_position (rw h at e) k)
at_keeps_read ws (suc d) u (position p) e w (t ∷ q) x y h k = absurd h
at_keeps_read ws (suc d) u malformed e w q x y h k = position_malformed w e

pub at_keeps : (ws : List ℕ) (d u : ℕ) → AllRead ws (tree_at ws d u) → (q : List Turn) (x y : ℕ) → At (tree_at ws d u) q x → link_at ws x ≡ position y
    → Keeps (tree_at ws d u) x y
at_keeps ws d u w q x y h k = at_keeps_read ws d u (link_at ws u) refl w q x y h k

-- what is kept is in range, and counts
pub keeps_below : (m n : ℕ) (t : Tree ℕ) (x y : ℕ) → LabelsWithin m n t → Keeps t x y → x < m
unfolding LabelsWithin Keeps
keeps_below m n (leaf v b p) x y w h = rw h.0 at w.0
keeps_below m n (inner v b l r) x y w (inl h) = keeps_below m n l x y w.1 h
keeps_below m n (inner v b l r) x y w (inr h) = keeps_below m n r x y w.2 h

pub keeps_position : (t : Tree ℕ) (x y : ℕ) → Keeps t x y → 1 ≤ position_count y t
unfolding Keeps position_count
keeps_position (leaf v b p) x y h = let i = same_self y in rw h.1 (omega arith)
keeps_position (inner v b l r) x y (inl h) = let i = keeps_position l x y h in omega arith
keeps_position (inner v b l r) x y (inr h) = let i = keeps_position r x y h in omega arith

keeps_label : (t : Tree ℕ) (x y : ℕ) → Keeps t x y → 1 ≤ label_count x t
unfolding Keeps label_count
keeps_label (leaf v b p) x y h = let i = same_self x in rw h.0 (omega arith)
keeps_label (inner v b l r) x y (inl h) = let i = keeps_label l x y h in omega arith
keeps_label (inner v b l r) x y (inr h) = let i = keeps_label r x y h in omega arith

-- a count of at least 1 has a leaf
pub some_leaf : (t : Tree ℕ) (y : ℕ) → 1 ≤ position_count y t → (x : ℕ) × Keeps t x y
unfolding Keeps position_count
some_leaf (leaf v b p) y h = (v, (refl, same-one y p h))
some_leaf (inner v b l r) y h = pick (some? (position_count y l)) (some_leaf l y) (some_leaf r y)
  where
    pick : Some (position_count y l) → (1 ≤ position_count y l → (x : ℕ) × Keeps l x y) → (1 ≤ position_count y r → (x : ℕ) × Keeps r x y) → (x : ℕ)
        × Keeps (inner v b l r) x y
    pick (some i) f g = let u = f i in (u.0, inl u.1)
    pick (none i) f g = let u = g (omega arith) in (u.0, inr u.1)

-- a count of at most 1 has no second
pub one_leaf : (t : Tree ℕ) (y : ℕ) → position_count y t ≤ 1 → (x z : ℕ) → Keeps t x y → Keeps t z y → x ≡ z
unfolding Keeps position_count
one_leaf (leaf v b p) y k x z h g = sym h.0 ∙ g.0
one_leaf (inner v b l r) y k x z (inl h) (inl g) = one_leaf l y (omega arith) x z h g
one_leaf (inner v b l r) y k x z (inl h) (inr g) = let i = keeps_position l x y h in let j = keeps_position r z y g in absurd (omega arith)
one_leaf (inner v b l r) y k x z (inr h) (inl g) = let i = keeps_position r x y h in let j = keeps_position l z y g in absurd (omega arith)
one_leaf (inner v b l r) y k x z (inr h) (inr g) = one_leaf r y (omega arith) x z h g

-- a count of at least 2 has two leaves, where no label stands twice
pub two-leaves : (m n : ℕ) (t : Tree ℕ) (y : ℕ) → LabelsWithin m n t → ((x : ℕ) → x < m → label_count x t ≤ 1) → 2 ≤ position_count y t
    → Two (λ x. Keeps t x y)
unfolding Keeps position_count label_count LabelsWithin
two-leaves m n (leaf v b p) y w c h = let i = same_most y p in absurd (omega arith)
two-leaves m n (inner v b l r) y w c h =
    pick (some? (position_count y l)) (some? (position_count y r))
    (two-leaves m n l y w.1 (λ x k. let i = c x k in omega arith))
    (two-leaves m n r y w.2 (λ x k. let i = c x k in omega arith))
  where
    pick : Some (position_count y l) → Some (position_count y r) → (2 ≤ position_count y l → Two (λ x. Keeps l x y))
        → (2 ≤ position_count y r → Two (λ x. Keeps r x y)) → Two (λ x. Keeps (inner v b l r) x y)
    pick (some i) (some j) f g =
        let s = some_leaf l y i in
        let q = some_leaf r y j in
        record {
          first = s.0;
          second = q.0;
          has = inl s.1;
          also = inr q.1;
          differ = λ e.
              let a = c s.0 (keeps_below m n l s.0 y w.1 s.1) in
              let o = keeps_label l s.0 y s.1 in
              let k : 1 ≤ label_count s.0 r = rw e (keeps_label r q.0 y q.1) in
              omega arith;
        }
    pick (some i) (none j) f g = let u = f (omega arith) in
        record { first = u.first; second = u.second; has = inl u.has; also = inl u.also; differ = u.differ }
    pick (none i) j f g = let u = g (omega arith) in
        record { first = u.first; second = u.second; has = inr u.has; also = inr u.also; differ = u.differ }
