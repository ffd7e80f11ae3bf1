-- Paths in the words and in the tree that they are read as.
use mathlib.Core.Path.{◌≡◌, refl}
use mathlib.Core.Logic.{◌⊎◌, inl, inr}
use mathlib.Core.List.{List, [], ◌∷◌}
use Prim.Native.Nat.{ℕ, zero, suc, ◌+◌, ◌<◌, ◌≤◌}
use native.Mathlib.Omega.{arith}
use lib.ListN.{length}
use Rattle.bvh2.specs.Tree.{Tree, leaf, inner}
use Rattle.bvh2.specs.Words.{tree_nodes, Link, children, position, malformed, link_at, read_link, tree_at}
use Rattle.bvh2.specs.Causes.{LinkInside, Turn, left, right, turn, LeadsTo}
use Rattle.bvh2.specs.Decoded.{AllRead, LabelsWithin}
use Rattle.bvh2.proofs.Reading.{same-children, children_position, position_malformed}

-- every link stays inside: cause 5 does not hold
abbrev pub AllInside : List ℕ → ℕ → Type 0
AllInside ws n = (v : ℕ) → v < tree_nodes n → LinkInside n (link_at ws v)

-- then the tree's labels and positions are in range
within_read : (ws : List ℕ) (n : ℕ) → AllInside ws n → (d v : ℕ) (l : Link) → v < tree_nodes n → LinkInside n l → 0 < n
    → LabelsWithin (tree_nodes n) n (read_link ws d v l)
unfolding LinkInside read_link LabelsWithin
within_read ws n h zero v (children f) hv hl z = (hv, z)
within_read ws n h zero v (position p) hv hl z = (hv, hl)
within_read ws n h zero v malformed hv hl z = absurd hl
within_read ws n h (suc d) v (children f) hv hl z =
    let a : f < tree_nodes n = omega arith in
    (hv, within_read ws n h d f (link_at ws f) a (h f a) z, within_read ws n h d (f + 1) (link_at ws (f + 1)) hl (h (f + 1) hl) z)
within_read ws n h (suc d) v (position p) hv hl z = (hv, hl)
within_read ws n h (suc d) v malformed hv hl z = absurd hl

pub within_inside : (ws : List ℕ) (n : ℕ) → AllInside ws n → (d v : ℕ) → v < tree_nodes n → LabelsWithin (tree_nodes n) n (tree_at ws d v)
within_inside ws n h d v hv = within_read ws n h d v (link_at ws v) hv (h v hv) (omega arith)

-- the path leads from the tree's root to a node labelled x
unfoldable pub At : Tree ℕ → List Turn → ℕ → Type 0
At (leaf v b p) [] x = v ≡ x
At (leaf v b p) (t ∷ q) x = ⊥
At (inner v b l r) [] x = v ≡ x
At (inner v b l r) (left ∷ q) x = At l q x
At (inner v b l r) (right ∷ q) x = At r q x

-- a path of the tree is one of the words
leads_read : (ws : List ℕ) (d u : ℕ) (l : Link) → link_at ws u ≡ l → (q : List Turn) (x : ℕ) → At (read_link ws d u l) q x → LeadsTo ws u q x
unfolding read_link At LeadsTo
leads_read ws zero u (children f) e [] x h = h
leads_read ws zero u (children f) e (t ∷ q) x h = absurd h
leads_read ws zero u (position p) e [] x h = h
leads_read ws zero u (position p) e (t ∷ q) x h = absurd h
leads_read ws zero u malformed e [] x h = h
leads_read ws zero u malformed e (t ∷ q) x h = absurd h
leads_read ws (suc d) u (children f) e [] x h = h
leads_read ws (suc d) u (children f) e (left ∷ q) x h = (f, e, leads_read ws d f (link_at ws f) refl q x h)
leads_read ws (suc d) u (children f) e (right ∷ q) x h = (f, e, leads_read ws d (f + 1) (link_at ws (f + 1)) refl q x h)
leads_read ws (suc d) u (position p) e [] x h = h
leads_read ws (suc d) u (position p) e (t ∷ q) x h = absurd h
leads_read ws (suc d) u malformed e [] x h = h
leads_read ws (suc d) u malformed e (t ∷ q) x h = absurd h

pub leads : (ws : List ℕ) (d u : ℕ) (q : List Turn) (x : ℕ) → At (tree_at ws d u) q x → LeadsTo ws u q x
leads ws d u q x h = leads_read ws d u (link_at ws u) refl q x h

-- and a path of the words is one of the tree, if that is whole
at_read : (ws : List ℕ) (d u : ℕ) (l : Link) → link_at ws u ≡ l → AllRead ws (read_link ws d u l) → (q : List Turn) (x : ℕ) → LeadsTo ws u q x
    → At (read_link ws d u l) q x
unfolding read_link At LeadsTo AllRead
at_read ws zero u (children f) e w q x h = children_position e w
at_read ws zero u (position p) e w [] x h = h
at_read ws zero u (position p) e w (t ∷ q) x h = children_position h.1 e
at_read ws zero u malformed e w q x h = position_malformed w e
at_read ws (suc d) u (children f) e w [] x h = h
at_read ws (suc d) u (children f) e w (left ∷ q) x h = at_read ws d f (link_at ws f) refl w.0 q x (rw (same-children h.1 e) at h.2)
at_read ws (suc d) u (children f) e w (right ∷ q) x h = at_read ws d (f + 1) (link_at ws (f + 1)) refl w.1 q x
    (rw (same-children h.1 e) at h.2)
at_read ws (suc d) u (position p) e w [] x h = h
at_read ws (suc d) u (position p) e w (t ∷ q) x h = children_position h.1 e
at_read ws (suc d) u malformed e w q x h = position_malformed w e

pub at_path : (ws : List ℕ) (d u : ℕ) → AllRead ws (tree_at ws d u) → (q : List Turn) (x : ℕ) → LeadsTo ws u q x → At (tree_at ws d u) q x
at_path ws d u w q x h = at_read ws d u (link_at ws u) refl w q x h

-- a path of the tree has at most as many edges as the tree was read deep
short_read : (ws : List ℕ) (d u : ℕ) (l : Link) (q : List Turn) (x : ℕ) → At (read_link ws d u l) q x → length q ≤ d
unfolding read_link At
short_read ws zero u (children f) [] x h = omega arith
short_read ws zero u (children f) (t ∷ q) x h = absurd h
short_read ws zero u (position p) [] x h = omega arith
short_read ws zero u (position p) (t ∷ q) x h = absurd h
short_read ws zero u malformed [] x h = omega arith
short_read ws zero u malformed (t ∷ q) x h = absurd h
short_read ws (suc d) u (children f) [] x h = omega arith
short_read ws (suc d) u (children f) (left ∷ q) x h = omega (arith, short_read ws d f (link_at ws f) q x h)
short_read ws (suc d) u (children f) (right ∷ q) x h = omega (arith, short_read ws d (f + 1) (link_at ws (f + 1)) q x h)
short_read ws (suc d) u (position p) [] x h = omega arith
short_read ws (suc d) u (position p) (t ∷ q) x h = absurd h
short_read ws (suc d) u malformed [] x h = omega arith
short_read ws (suc d) u malformed (t ∷ q) x h = absurd h

pub at_short : (ws : List ℕ) (d u : ℕ) (q : List Turn) (x : ℕ) → At (tree_at ws d u) q x → length q ≤ d
at_short ws d u q x h = short_read ws d u (link_at ws u) q x h

-- a path with one edge more than d
pub record Long (ws : List ℕ) (n d u : ℕ) : Type 0 where
  pub path : List Turn
  pub end : ℕ
  pub node : end < tree_nodes n
  pub goes : LeadsTo ws u path end
  pub edges : length path ≡ suc d

longer : (ws : List ℕ) (n d u f : ℕ) (t : Turn) → link_at ws u ≡ children f → Long ws n d (turn t f) → Long ws n (suc d) u
unfolding LeadsTo
longer ws n d u f t e h = record { path = t ∷ h.path; end = h.end; node = h.node; goes = (f, e, h.goes); edges = rw h.edges }

either : (ws : List ℕ) (n d u f : ℕ) {A B : Type 0} → link_at ws u ≡ children f → A ⊎ Long ws n d f → B ⊎ Long ws n d (f + 1)
    → (A × B) ⊎ Long ws n (suc d) u
either ws n d u f e (inl a) (inl b) = inl (a, b)
either ws n d u f e (inl a) (inr b) = inr (longer ws n d u f right e b)
either ws n d u f e (inr a) (inl b) = inr (longer ws n d u f left e a)
either ws n d u f e (inr a) (inr b) = inr (longer ws n d u f left e a)

-- a tree that is not whole has too long a path
whole_read : (ws : List ℕ) (n : ℕ) → AllInside ws n → (d u : ℕ) (l : Link) → link_at ws u ≡ l → LinkInside n l
    → AllRead ws (read_link ws d u l) ⊎ Long ws n d u
unfolding LinkInside read_link AllRead LeadsTo
whole_read ws n h zero u (children f) e k = inr (record { path = left ∷ []; end = f; node = omega arith; goes = (f, e, refl); edges = refl })
whole_read ws n h zero u (position p) e k = inl e
whole_read ws n h zero u malformed e k = absurd k
whole_read ws n h (suc d) u (children f) e k =
    let a : f < tree_nodes n = omega arith in
    either ws n d u f e (whole_read ws n h d f (link_at ws f) refl (h f a)) (whole_read ws n h d (f + 1) (link_at ws (f + 1)) refl (h (f + 1) k))
whole_read ws n h (suc d) u (position p) e k = inl e
whole_read ws n h (suc d) u malformed e k = absurd k

pub whole_or_long : (ws : List ℕ) (n : ℕ) → AllInside ws n → (d u : ℕ) → u < tree_nodes n → AllRead ws (tree_at ws d u) ⊎ Long ws n d u
whole_or_long ws n h d u hu = whole_read ws n h d u (link_at ws u) refl (h u hu)
