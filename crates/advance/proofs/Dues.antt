-- Which group is due where no position is in hand: for any fields and masks of nodes, and any rays.
use mathlib.Core.Path.{◌≡◌, refl, sym, ap, ◌∙◌}
use mathlib.Core.Bool.{Bool, true, false, cond}
use mathlib.Core.List.{List}
use Prim.Native.Nat.{ℕ, zero, suc, ◌+◌, ◌-◌, ◌≤◌, ◌<◌}
use native.Mathlib.Omega.{arith}
use borrow.Author.Tests.{le-leb, lt-leb, lt-ltb, le-ltb}
use Rattle.faststack.specs.Stack.{top_of}
use Rattle.walk.specs.Step as S
use Rattle.walk.specs.Words as W
use Rattle.walk.specs.Words.{unpacked, waiting_depth, has_child}
use Rattle.walk.specs.WordStep.{WalkerWords, NodeWords, no_group, stay_words, visit_words, pop_words, turn_words, advance_words}
use Rattle.walk.proofs.Stacks.{waiting_child, waiting_most}
use Rattle.walk.proofs.Words.{empty_front}
use Rattle.walk.proofs.WordKept.{unskipped_turn}
use Rattle.advance.specs.Turn.{DueGroup, popped, due_group}

-- ---- by the tests that the code makes

module _ (g : W.Group) (stack : List ℕ) (depth : ℕ) where
  pub due_hand : 0x100_0000 ≤ g.bits → record { group = g; depth = depth } ≡ due_group g stack depth
  unfolding due_group
  due_hand h = rw (le-leb 0x100_0000 g.bits h)

  -- where the groups above the first d that wait hold no child
  module _ (empty : g.bits < 0x100_0000) (d : ℕ) (e : waiting_depth stack d ≡ waiting_depth stack depth) where
    behind : popped stack (waiting_depth stack d) ≡ due_group g stack depth
    unfolding due_group
    behind = rw (lt-leb 0x100_0000 g.bits empty, e)

    pub due_none : d ≤ 0 → record { group = no_group; depth = 0 } ≡ due_group g stack depth
    due_none h = go d h ∙ behind
      where
        go : (k : ℕ) → k ≤ 0 → record { group = no_group; depth = 0 } ≡ popped stack (waiting_depth stack k)
        go zero l = refl
        go (suc k) l = absurd (omega arith)

    pub due_top : 0 < d → (found : W.Group) → found ≡ unpacked (top_of stack (d - 1 + 1)) → 0x100_0000 ≤ found.bits
        → record { group = found; depth = d - 1 } ≡ due_group g stack depth
    due_top h found f some = go d h f ∙ behind
      where
        go : (k : ℕ) → 0 < k → found ≡ unpacked (top_of stack (k - 1 + 1)) → record { group = found; depth = k - 1 }
            ≡ popped stack (waiting_depth stack k)
        go zero l q = absurd (omega arith)
        go (suc k) l q =
            let z : suc k - 1 ≡ k = omega arith in
            let y : suc k - 1 + 1 ≡ suc k = omega arith in
            let there : found ≡ unpacked (top_of stack (suc k)) = q ∙ ap (λ (x : ℕ). unpacked (top_of stack x)) y in
            let holds : has_child (unpacked (top_of stack (suc k))) ≡ true = sym (ap has_child there) ∙ le-leb 0x100_0000 found.bits some in
            rw (holds, z, there)

-- no more groups wait below it than waited
pub due_depth : (g : W.Group) (stack : List ℕ) (depth : ℕ) → (due_group g stack depth).depth ≤ depth
unfolding due_group
due_depth g stack depth = go (has_child g)
  where
    below : (k : ℕ) → k ≤ depth → (popped stack k).depth ≤ depth
    below zero h = omega arith
    below (suc k) h = omega arith

    go : (b : Bool) → (cond b (record { group = g; depth = depth }) (popped stack (waiting_depth stack depth))).depth ≤ depth
    go true = omega arith
    go false = below (waiting_depth stack depth) (waiting_most stack depth)

-- ---- a turn does what is due

module _ {RayData Distance : Type 0} (m : ℕ) (N : NodeWords RayData Distance) (n : ℕ) (w : WalkerWords RayData) (none : w.positions.bits ≤ 0) where
  abbrev due : DueGroup
  due = due_group w.current w.stack w.depth

  pops : (k : ℕ) → (0 < k → has_child (unpacked (top_of w.stack k)) ≡ true)
      → cond (has_child (popped w.stack k).group) (visit_words m N n w (popped w.stack k).group (popped w.stack k).depth)
      (stay_words w S.done) ≡ pop_words m N n w k
  unfolding pop_words
  pops zero h = refl
  pops (suc k) h = let z : suc k - 1 ≡ k = omega arith in rw (h (omega arith), lt-ltb 0 (suc k) (omega arith), z)

  pub turn_due : cond (has_child due.group) (visit_words m N n w due.group due.depth) (stay_words w S.done) ≡ advance_words m N n w
  unfolding due_group turn_words
  turn_due =
      rw (unskipped_turn m N n w (empty_front (N.skips w.ray) w.positions none), le-ltb 0 w.positions.bits none)
      (go (has_child w.current) refl)
    where
      go : (b : Bool) → has_child w.current ≡ b
          → let g = cond b (record { group = w.current; depth = w.depth }) (popped w.stack (waiting_depth w.stack w.depth)) in
          cond (has_child g.group) (visit_words m N n w g.group g.depth) (stay_words w S.done)
          ≡ cond b (visit_words m N n w w.current w.depth) (pop_words m N n w (waiting_depth w.stack w.depth))
      go true e = rw e
      go false e = pops (waiting_depth w.stack w.depth) (waiting_child w.stack w.depth)

  module _ (g : DueGroup) (is : g ≡ due) where
    does : cond (has_child g.group) (visit_words m N n w g.group g.depth) (stay_words w S.done) ≡ advance_words m N n w
    does = ap (λ (x : DueGroup). cond (has_child x.group) (visit_words m N n w x.group x.depth) (stay_words w S.done)) is ∙ turn_due

    pub turn_none : g.group.bits < 0x100_0000 → stay_words w S.done ≡ advance_words m N n w
    turn_none h = sym (ap (λ (b : Bool). cond b (visit_words m N n w g.group g.depth) (stay_words w S.done))
        (lt-leb 0x100_0000 g.group.bits h)) ∙ does

    pub turn_visits : 0x100_0000 ≤ g.group.bits → visit_words m N n w g.group g.depth ≡ advance_words m N n w
    turn_visits h = sym (ap (λ (b : Bool). cond b (visit_words m N n w g.group g.depth) (stay_words w S.done))
        (le-leb 0x100_0000 g.group.bits h)) ∙ does
