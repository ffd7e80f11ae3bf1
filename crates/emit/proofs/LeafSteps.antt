-- One step of writing a subtree's leaves: what each call asks, and what the two calls give together.
use mathlib.Core.Path.{◌≡◌, refl, sym, ap, ◌∙◌}
use mathlib.Core.List.{List, [], ◌∷◌, map-append}
use Prim.Native.Nat.{ℕ, suc, ◌+◌, ◌<◌, ◌≤◌}
use native.Mathlib.Omega.{arith}
use lib.ListN.{length, get_or, set, length-append}
use Rattle.lists.specs.Splice.{splice}
use Rattle.lists.proofs.Splice.{splice_next, set-splice}
use Rattle.bvh2.specs.Tree.{Tree, leaf, inner, leaves, depth, positions}
use Rattle.bvh2.specs.Words.{tree_nodes, children, position, malformed, link_at, tree_at}
use Rattle.bvh2.proofs.Subtree.{leaf_link, formed}
use Rattle.lists.specs.At.{words_at}
use Rattle.children.proofs.Deeper.{fork}
use Rattle.emit.specs.Leaves.{LeavesReady, LeavesWritten}

-- as many positions as leaves
pub positions-length : {A : Type 0} (t : Tree A) → length (positions t) ≡ leaves t
unfolding positions leaves
positions-length (leaf v b p) = refl
positions-length (inner v b l r) = length-append (positions l) (positions r) ∙ omega (arith, positions-length l, positions-length r)

pub words_length : (indices ps : List ℕ) → length (words_at indices ps) ≡ length ps
words_length indices [] = refl
words_length indices (p ∷ ps) = ap suc (words_length indices ps)

-- ---- an inner node
pub record Down (ws : List ℕ) (n m at d v f : ℕ) : Type 0 where
  pub second : f + 1 < tree_nodes n
  pub few : n ≤ 65536
  pub left : LeavesReady ws n m at d f
  pub right : LeavesReady ws n m (at + leaves (tree_at ws d f)) d (f + 1)
  pub tree : (b : _) × (tree_at ws d v ≡ inner v b (tree_at ws d f) (tree_at ws d (f + 1)))
  pub left_shallower : depth (tree_at ws d f) < depth (tree_at ws d v)
  pub right_shallower : depth (tree_at ws d (f + 1)) < depth (tree_at ws d v)
  pub both : at + (leaves (tree_at ws d f) + leaves (tree_at ws d (f + 1))) ≤ m

pub down : {ws : List ℕ} {n m at d v f : ℕ} → LeavesReady ws n m at d v → children f ≡ link_at ws v → Down ws n m at d v f
unfolding leaves
down {ws} {n} {m} {at} {d} {v} {f} h e =
    let i = fork ws n d v f h.tree (sym e) in
    let room : at + (leaves (tree_at ws d f) + leaves (tree_at ws d (f + 1))) ≤ m = rw i.tree at h.room in record {
      second = i.second;
      few = h.tree.few;
      left = record { tree = i.left; room = omega arith };
      right = record { tree = i.right; room = omega arith };
      tree = (_, i.tree);
      left_shallower = i.left_shallower;
      right_shallower = i.right_shallower;
      both = room;
    }

pub up : {indices : List ℕ} {ws : List ℕ} {n m at d v f : ℕ} → Down ws n m at d v f → {a b : ℕ} {o o₁ o₂ : List ℕ} → length o ≡ m
    → LeavesWritten indices (tree_at ws d f) at a o o₁ → LeavesWritten indices (tree_at ws d (f + 1)) a b o₁ o₂
    → LeavesWritten indices (tree_at ws d v) at b o o₂
unfolding leaves positions
up {indices} {ws} {n} {m} {at} {d} {v} {f} h {a} {b} {o} {o₁} {o₂} z x y =
    let L = tree_at ws d f in
    let R = tree_at ws d (f + 1) in
    let p = words_at indices (positions L) in
    let q = words_at indices (positions R) in
    let lp : length p ≡ leaves L = words_length indices (positions L) ∙ positions-length L in
    let lq : length q ≡ leaves R = words_length indices (positions R) ∙ positions-length R in
    let w = h.both in
    rw h.tree.1
    (record {
      next = y.next ∙ omega (arith, x.next);
      list =
          y.list ∙ rw (x.list, x.next, ← lp) (splice_next o at p q (omega arith))
          ∙ ap (splice o at) (sym (map-append (λ i. get_or indices i 0) (positions L) (positions R)));
    })

-- ---- a leaf
pub record Last (ws indices : List ℕ) (at d v p : ℕ) (o : List ℕ) : Type 0 where
  pub held : p < length indices
  pub few : length indices ≤ 65536
  pub room : at < length o
  pub written : LeavesWritten indices (tree_at ws d v) at (at + 1) o (set o at (get_or indices p 0))

pub last : {ws indices : List ℕ} {at d v p : ℕ} {o : List ℕ} → LeavesReady ws (length indices) (length o) at d v
    → position p ≡ link_at ws v → Last ws indices at d v p o
unfolding leaves positions
last {ws} {indices} {at} {d} {v} {p} {o} h e =
    let i = leaf_link h.tree (sym e) in
    let room : at + 1 ≤ length o = rw i.tree at h.room in
    let r : at < length o = omega arith in record {
      held = i.held;
      few = h.tree.few;
      room = r;
      written = rw i.tree (record { next = refl; list = set-splice o at (get_or indices p 0) r });
    }

-- ---- no link is malformed
pub formed_link : {ws : List ℕ} {n m at d v : ℕ} → LeavesReady ws n m at d v → malformed ≡ link_at ws v → ⊥
formed_link {ws} {d = d} {v = v} h e = formed ws d v (sym e) h.tree.whole
