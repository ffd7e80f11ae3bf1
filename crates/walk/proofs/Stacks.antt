-- The groups on a stack of words: what is due there, and what a push leaves.
use mathlib.Core.Bool.{Bool, true, false, ◌&&◌, cond}
use mathlib.Core.List.{List, ◌∷◌}
use mathlib.Core.Path.{◌≡◌, refl, ap, ap₂, ◌∙◌, subst}
use Prim.Native.Nat.{ℕ, zero, suc, ◌-◌, ◌^◌, ◌≤◌, ◌<◌}
use native.Mathlib.Numerals.{add-one}
use native.Mathlib.Omega.{arith}
use lib.Dec.{leb, ltb}
use lib.ListN.{length, get_or, set, length-set}
use lib.Seq.{get_or-set_same, get_or-set_other}
use borrow.Author.Tests.{leb-true, leb-false, ltb-true, lt-ltb}
use Rattle.lists.proofs.Counts.{Same, equal, apart, same?}
use Rattle.faststack.specs.Stack.{capacity, has_room, pushed, top_of}
use Rattle.faststack.proofs.Laws.{top_pushed}
use Rattle.walk.specs.Step.{Due, test, nothing, due_on_stack, push}
use Rattle.walk.specs.Words.{Group, packed, unpacked, children_in, groups_in, rest_of, first_child, has_child, waiting_depth}
use Rattle.walk.proofs.Words.{children_none, children_first, unpack_pack}

pub groups-length : (octant d : ℕ) (stack : List ℕ) → length (groups_in octant stack d) ≡ d
groups-length octant zero stack = refl
groups-length octant (suc d) stack = omega (arith, groups-length octant d stack)

-- the group on top of d of a stack of words of 64 bits
top_word : (stack : List ℕ) (d : ℕ) → ((i : ℕ) → get_or stack i 0 < 2 ^ 64) → top_of stack d < 2 ^ 64
unfolding top_of
top_word stack d h = go (ltb 0 d && leb d capacity)
  where
    go : (b : Bool) → cond b (get_or stack (d - 1) 0) 0 < 2 ^ 64
    go true = h (d - 1)
    go false = omega arith

pub top_bits : (stack : List ℕ) (d : ℕ) → ((i : ℕ) → get_or stack i 0 < 2 ^ 64) → (unpacked (top_of stack d)).bits < 2 ^ 32
top_bits stack d h = omega (arith, top_word stack d h)

-- ---- what is due on a stack

-- what is due where d groups count
abbrev pub due_words : ℕ → List ℕ → ℕ → Due
due_words octant stack zero = nothing
due_words octant stack (suc d) =
    test (first_child octant (unpacked (top_of stack (suc d)))) (children_in octant (rest_of (unpacked (top_of stack (suc d)))))
    (groups_in octant stack d)

pub due_stack : (octant : ℕ) (stack : List ℕ) (d : ℕ) → octant < 8 → ((i : ℕ) → get_or stack i 0 < 2 ^ 64)
    → due_on_stack (groups_in octant stack d) ≡ due_words octant stack (waiting_depth stack d)
due_stack octant stack zero o h = refl
due_stack octant stack (suc d) o h = go (has_child (unpacked (top_of stack (suc d)))) refl (due_stack octant stack d o h)
  where
    go : (b : Bool) → has_child (unpacked (top_of stack (suc d))) ≡ b → due_on_stack (groups_in octant stack d)
        ≡ due_words octant stack (waiting_depth stack d)
        → due_on_stack (children_in octant (unpacked (top_of stack (suc d))) ∷ groups_in octant stack d)
        ≡ due_words octant stack (cond b (suc d) (waiting_depth stack d))
    go true e r =
        ap (λ (l : List ℕ). due_on_stack (l ∷ groups_in octant stack d))
        (children_first octant (unpacked (top_of stack (suc d))) o (leb-true 0x100_0000 _ e) (top_bits stack (suc d) h))
    go false e r =
        ap (λ (l : List ℕ). due_on_stack (l ∷ groups_in octant stack d))
        (children_none octant (unpacked (top_of stack (suc d))) (leb-false 0x100_0000 _ e)) ∙ r

-- a group that is due holds a child
pub waiting_child : (stack : List ℕ) (d : ℕ) → 0 < waiting_depth stack d → has_child (unpacked (top_of stack (waiting_depth stack d))) ≡ true
waiting_child stack zero = λ h. absurd (omega arith)
waiting_child stack (suc d) = go (has_child (unpacked (top_of stack (suc d)))) refl (waiting_child stack d)
  where
    go : (b : Bool) → has_child (unpacked (top_of stack (suc d))) ≡ b
        → (0 < waiting_depth stack d → has_child (unpacked (top_of stack (waiting_depth stack d))) ≡ true)
        → 0 < cond b (suc d) (waiting_depth stack d) → has_child (unpacked (top_of stack (cond b (suc d) (waiting_depth stack d)))) ≡ true
    go true e r h = e
    go false e r h = r h

pub waiting_most : (stack : List ℕ) (d : ℕ) → waiting_depth stack d ≤ d
waiting_most stack zero = omega arith
waiting_most stack (suc d) = go (has_child (unpacked (top_of stack (suc d)))) (waiting_most stack d)
  where
    go : (b : Bool) → waiting_depth stack d ≤ d → cond b (suc d) (waiting_depth stack d) ≤ suc d
    go true h = omega arith
    go false h = omega arith

-- ---- a push

-- a store above leaves a group where it is
top_other : (stack : List ℕ) (d i v : ℕ) → i ≤ d → top_of (set stack d v) i ≡ top_of stack i
unfolding top_of
top_other stack d zero v h = refl
top_other stack d (suc i) v h = let e : suc i - 1 ≡ i = omega arith in rw (e, get_or-set_other stack d i v 0 (λ z. omega arith))

groups_other : (octant : ℕ) (stack : List ℕ) (d i v : ℕ) → i ≤ d → groups_in octant (set stack d v) i ≡ groups_in octant stack i
groups_other octant stack d zero v h = refl
groups_other octant stack d (suc i) v h = rw (top_other stack d (suc i) v h, groups_other octant stack d i v (omega arith))

module _ (stack : List ℕ) (d : ℕ) (long : capacity ≤ length stack) where
  pub pushed-set : d < capacity → (v : ℕ) → pushed stack d v ≡ set stack d v
  unfolding pushed
  pushed-set h v = rw (lt-ltb d capacity h)

  -- the rest of a group waits above the others, if it holds a child
  pub groups-pushed : (octant : ℕ) (g : Group) → octant < 8 → g.base < 2 ^ 32 → g.bits < 2 ^ 32 → (has_child g ≡ true → d < capacity)
      → groups_in octant (cond (has_child g) (pushed stack d (packed g)) stack) (cond (has_child g) (suc d) d)
      ≡ push (children_in octant g) (groups_in octant stack d)
  groups-pushed octant g o b w room = go (has_child g) refl
    where
      pushes : (r : List ℕ) (x : ℕ) (t : List ℕ) (u : List (List ℕ)) → r ≡ x ∷ t → r ∷ u ≡ push r u
      pushes r x t u e = rw e

      go : (c : Bool) → has_child g ≡ c
          → groups_in octant (cond c (pushed stack d (packed g)) stack) (cond c (suc d) d) ≡ push (children_in octant g) (groups_in octant stack d)
      go false e = rw (children_none octant g (leb-false 0x100_0000 _ e))
      go true e =
          let h = room e in
          let t : top_of (pushed stack d (packed g)) (suc d) ≡ packed g =
          subst (λ (x : ℕ). top_of (pushed stack d (packed g)) x ≡ packed g) (add-one d) (top_pushed stack d (packed g) h long) in
          ap₂ (λ (u : Group) (l : List (List ℕ)). children_in octant u ∷ l) (ap unpacked t ∙ unpack_pack g b)
          (ap (λ (l : List ℕ). groups_in octant l d) (pushed-set h (packed g)) ∙ groups_other octant stack d d (packed g) (omega arith))
          ∙ pushes (children_in octant g) (first_child octant g) (children_in octant (rest_of g)) (groups_in octant stack d)
          (children_first octant g o (leb-true 0x100_0000 _ e) w)

  -- it stays a stack of words of 64 bits
  pub pushed-length : (c : Bool) (v : ℕ) → length (cond c (pushed stack d v) stack) ≡ length stack
  unfolding pushed
  pushed-length false v = refl
  pushed-length true v = go (has_room d)
    where
      go : (b : Bool) → length (cond b (set stack d v) stack) ≡ length stack
      go true = length-set stack d v
      go false = refl

  pub pushed_words : (c : Bool) (v : ℕ) → v < 2 ^ 64 → ((i : ℕ) → get_or stack i 0 < 2 ^ 64) → (i : ℕ)
      → get_or (cond c (pushed stack d v) stack) i 0 < 2 ^ 64
  unfolding pushed
  pushed_words false v h w i = w i
  pushed_words true v h w i = go (has_room d) (same? i d) refl
    where
      go : (b : Bool) → Same i d → has_room d ≡ b → get_or (cond b (set stack d v) stack) i 0 < 2 ^ 64
      go false e r = w i
      go true (equal e z) r = rw (e, get_or-set_same stack d v 0 (omega (arith, ltb-true d capacity r))) h
      go true (apart e z) r = rw (get_or-set_other stack d i v 0 e) (w i)
