-- One step of the marking walk, as the code takes it: what it reads, and what it returns and leaves in each case.
use mathlib.Core.Path.{◌≡◌, refl, sym}
use mathlib.Core.Bool.{Bool, true, false}
use mathlib.Core.List.{List}
use Prim.Native.Nat.{ℕ, zero, suc, ◌+◌, ◌-◌, ◌<◌}
use native.Mathlib.Omega.{arith}
use lib.ListN.{get_or, set}
use Rattle.lists.proofs.Tells.{tells_true, tells_false}
use Rattle.aabb.specs.declared.Aabb.{Aabb}
use Rattle.bvh2.specs.Tree.{Tree, leaf, inner, label_of}
use Rattle.bvh2.specs.Words.{children, position, malformed, link_at, box_at, tree_at}
use Rattle.bvh2.specs.Causes.{LinkInside}
use Rattle.bvh2.specs.FirstCause.{is_position}
use Rattle.bvh2.proofs.Reading.{children_position, tree_leaf, tree_down, tree_cut, label_is}
use Rattle.bvh2.proofs.Once.{position_tells}
use Rattle.bvh2_check.specs.Marking.{Marking, stop, go, marking_if, mark, walk, MarkReady}

-- a leaf
pub record Leaf (ws : List ℕ) (n v d p : ℕ) : Type 0 where
  pub held : p < n
  pub tree : tree_at ws d v ≡ leaf v (box_at ws v) p
  pub ends : is_position p (link_at ws v) ≡ true

pub at_leaf : {ws : List ℕ} {n marks v : ℕ} (d p : ℕ) → MarkReady ws n marks v → position p ≡ link_at ws v → Leaf ws n v d p
unfolding LinkInside
at_leaf {ws} {n} {marks} {v} d p r e =
    let i : LinkInside n (position p) = rw (← e) at (r.inside v r.node) in
    record { held = i; tree = tree_leaf ws d v p (sym e); ends = tells_true (position_tells p (link_at ws v)) (sym e) }

-- no link is malformed
pub formed : {ws : List ℕ} {n marks v : ℕ} → MarkReady ws n marks v → malformed ≡ link_at ws v → ⊥
unfolding LinkInside
formed {ws} {n} {marks} {v} r e = let i : LinkInside n malformed = rw (← e) at (r.inside v r.node) in i

-- an inner node with no edge left below it
pub record Cut (ws : List ℕ) (v d : ℕ) : Type 0 where
  pub tree : tree_at ws d v ≡ leaf v (box_at ws v) 0
  pub goes_on_lem : is_position 0 (link_at ws v) ≡ false

pub at_cut : (ws : List ℕ) (v d f : ℕ) → children f ≡ link_at ws v → d ≡ 0 → Cut ws v d
at_cut ws v d f e z = record {
  tree = rw z (tree_cut ws v f (sym e));
  goes_on_lem = tells_false (position_tells 0 (link_at ws v)) (λ h. children_position (sym e) h);
}

-- an inner node
pub record Fork (ws : List ℕ) (n marks v d f : ℕ) : Type 0 where
  pub left : MarkReady ws n marks f
  pub right : MarkReady ws n marks (f + 1)
  pub tree : tree_at ws d v ≡ inner v (box_at ws v) (tree_at ws (d - 1) f) (tree_at ws (d - 1) (f + 1))

pub at_fork : {ws : List ℕ} {n marks v : ℕ} (d f : ℕ) → MarkReady ws n marks v → children f ≡ link_at ws v → (d ≡ 0 → ⊥) → Fork ws n marks v d f
unfolding LinkInside
at_fork {ws} {n} {marks} {v} d f r e z =
    let i : LinkInside n (children f) = rw (← e) at (r.inside v r.node) in
    record {
      left = record { inside = r.inside; room = r.room; node = omega arith };
      right = record { inside = r.inside; room = r.room; node = i };
      tree = tree_down ws d v f (sym e) (omega arith);
    }

-- a mark
mark_go : (o : List ℕ) (i : ℕ) → get_or o i 0 ≡ 0 → mark o i ≡ go (set o i 1)
mark_go o i h = rw (h, mark)

mark_stop : (o : List ℕ) (i : ℕ) → (get_or o i 0 ≡ 0 → ⊥) → mark o i ≡ stop o
mark_stop o i h = pick (get_or o i 0) h
  where
    pick : (x : ℕ) → (x ≡ 0 → ⊥) → elim x [ zero ↦ go (set o i 1) | suc k ↦ stop o ] ≡ stop o
    pick zero e = absurd (e refl)
    pick (suc k) e = refl

stop_at : (ws : List ℕ) (m v : ℕ) (t : Tree ℕ) (o : List ℕ) → label_of t ≡ v → (get_or o v 0 ≡ 0 → ⊥) → walk ws m t o ≡ stop o
unfolding walk label_of
stop_at ws m v (leaf u b p) o e h = rw (mark_stop o u (λ k. h (rw e at k)), walk)
stop_at ws m v (inner u b l r) o e h = rw (mark_stop o u (λ k. h (rw e at k)), walk)

-- what the code returns and leaves, in each case
pub marked_before : (ws : List ℕ) (m v d : ℕ) (o : List ℕ) → (get_or o v 0 ≡ 0 → ⊥) → stop o ≡ walk ws m (tree_at ws d v) o
marked_before ws m v d o h = sym (stop_at ws m v (tree_at ws d v) o (label_is ws d v) h)

module _ (ws : List ℕ) (m v : ℕ) (b : Aabb) (o : List ℕ) (z : get_or o v 0 ≡ 0) where
  module _ {j : ℕ} (i : j ≡ m) where
    pub held_before : (p : ℕ) (t : Tree ℕ) → t ≡ leaf v b p → is_position p (link_at ws v) ≡ true → (get_or (set o v 1) (j + p) 0 ≡ 0 → ⊥)
        → stop (set o v 1) ≡ walk ws m t o
    unfolding walk
    held_before p t e k g = rw (e, mark_go o v z, walk, k, ← i, mark_stop (set o v 1) (j + p) g)

    pub held_now : (p : ℕ) (t : Tree ℕ) → t ≡ leaf v b p → is_position p (link_at ws v) ≡ true → get_or (set o v 1) (j + p) 0 ≡ 0
        → go (set (set o v 1) (j + p) 1) ≡ walk ws m t o
    unfolding walk
    held_now p t e k g = rw (e, mark_go o v z, walk, k, ← i, mark_go (set o v 1) (j + p) g)

  pub cut_off : (t : Tree ℕ) → t ≡ leaf v b 0 → is_position 0 (link_at ws v) ≡ false → stop (set o v 1) ≡ walk ws m t o
  unfolding walk
  cut_off t e k = rw (e, mark_go o v z, walk, k)

  pub left_stops : (t l r : Tree ℕ) (o₂ : List ℕ) (x : Bool) → t ≡ inner v b l r → x ≡ false → marking_if x o₂ ≡ walk ws m l (set o v 1)
      → marking_if x o₂ ≡ walk ws m t o
  unfolding walk
  left_stops t l r o₂ true e f k = let i : ◌≡◌ {A = ℕ} 0 1 = cc in absurd (omega arith)
  left_stops t l r o₂ false e f k = rw (e, mark_go o v z, walk, ← k)

  pub both : (t l r : Tree ℕ) (o₂ : List ℕ) (x : Bool) (s : Marking) → t ≡ inner v b l r → x ≡ true → marking_if x o₂ ≡ walk ws m l (set o v 1) → s
      ≡ walk ws m r o₂ → s ≡ walk ws m t o
  unfolding walk
  both t l r o₂ true s e f k j = rw (e, mark_go o v z, walk, ← k) j
  both t l r o₂ false s e f k j = let i : ◌≡◌ {A = ℕ} 0 1 = cc in absurd (omega arith)
