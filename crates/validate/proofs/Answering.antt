-- The pass over a record's bytes, turn by turn, and what it answers where it stops.
use mathlib.Core.Bool.{Bool, true, false}
use mathlib.Core.List.{List, ◌++◌}
use mathlib.Core.Logic.{◌⊎◌, inl, inr}
use mathlib.Core.Path.{◌≡◌, refl, sym, ap, ◌∙◌, subst}
use Prim.Native.Nat.{ℕ, suc, ◌+◌, ◌-◌, ◌^◌, ◌<◌, ◌≤◌, max}
use native.Mathlib.Decide.{dec_lt}
use native.Mathlib.Numerals.{add-one}
use native.Mathlib.Omega.{arith}
use lib.ListN.{length, get_or, set, take, drop, length-set, replicate, length-replicate}
use lib.Seq.{get_or-set_same, get_or-set_other, length-take-le}
use Rattle.std.specs.Prelude.{Option, Some, None, Ok, Err}
use Rattle.causes.specs.declared.Refusal.{Refusal}
use Rattle.causes.specs.Refusal.{cause_number}
use Rattle.causes.proofs.Refusals.{some_number}
use Rattle.std.specs.Bool.{then_some}
use lib.Dec.{eqb}
use Rattle.lists.proofs.Tells.{Tells, passes, fails, clash, told, denied, eqb_tells}
use Rattle.soundness.specs.Shape.{Shape, RangesPlaced}
use Rattle.soundness.proofs.Once.{empty_sound, empty_unsound}
use Rattle.node.specs.Node.{node_at}
use Rattle.node_rule.specs.Rule.{node_rule}
use Rattle.record_shape.specs.Record.{node_count, nodes_at, shape_in, shape_at, RuleAt, SoundRecord, DeepestLevel}
use Rattle.record_shape.specs.Check.{refused, cause_of, soundness_of, check_of, words_after}
use Rattle.record_shape.proofs.Placed.{placed}
use Rattle.record_shape.proofs.Record.{node_tells}
use Rattle.record_shape.proofs.Check.{Fits, fits, answers_sound, answers_unsound, check_refuses, check_answers, words_kept, words_zero}
use Rattle.validate.specs.Validity.{soundness, verdict_of}
use Rattle.validate.specs.Marks.{WorkSized, Ruled, Start, NodeMarked, WordTwice, MarksNode, all_marked}
use Rattle.validate.proofs.Filling.{marked_tells, zero_at}
use Rattle.validate.proofs.Passing.{Passed, begins, passes_next, ends_sound, ends_deepest, not-filled, no_parent, too_deep, marked_twice}

-- ---- answers as cases

pub says_sound : (bytes : List ℕ) (n d : ℕ) → SoundRecord bytes n → DeepestLevel bytes n d → soundness (Some d) ≡ soundness_of bytes n
unfolding soundness
says_sound bytes n d s h = sym (answers_sound bytes n s d h)

pub says_unsound : (bytes : List ℕ) (n : ℕ) → (SoundRecord bytes n → ⊥) → soundness None ≡ soundness_of bytes n
unfolding soundness
says_unsound bytes n s = sym (answers_unsound bytes n s)

was_marked : (f : Bool) (S : Shape) (i : ℕ) (o q : List ℕ) → MarksNode f S i o q → f ≡ true → NodeMarked S i o q
unfolding MarksNode
was_marked true S i o q h e = h
was_marked false S i o q h e = clash e

was_twice : (f : Bool) (S : Shape) (i : ℕ) (o q : List ℕ) → MarksNode f S i o q → f ≡ false → WordTwice S i o
unfolding MarksNode
was_twice true S i o q h e = clash (sym e)
was_twice false S i o q h e = h

-- ---- the pass

-- the pass has gone over the first i of m nodes
pub record Passing (bytes : List ℕ) (n m : ℕ) (o : List ℕ) (i d : ℕ) : Type 0 where
  pub words : length o ≡ m + n
  pub low : d ≤ 31
  pub known : Passed (shape_at bytes n) (RuleAt bytes n) i o d

module _ (bytes : List ℕ) (n m : ℕ) (z : List ℕ) (start : Start bytes n m z) where
  pub passing_begins : Passing bytes n m (set z 0 1) 0 0
  unfolding shape_in
  passing_begins =
      let a = start.some in
      let c = start.sized.nodes in
      let w = start.sized.words in
      record {
        words = length-set z 0 1 ∙ w;
        low = omega arith;
        known = begins (shape_at bytes n) (RuleAt bytes n) (set z 0 1) (omega arith)
            (get_or-set_same z 0 1 0 (omega arith)) (λ k h. get_or-set_other z 0 k 1 0 (λ e. omega arith) ∙ start.zeros k);
      }

  place : (j : ℕ) → j < (shape_at bytes n).nodes → RuleAt bytes n j → RangesPlaced (shape_at bytes n) j
  place j l r = placed (nodes_at bytes) n j r

  rule_holds : (i : ℕ) (b : Bool) → b ≡ node_rule (node_at bytes i) m n i → b ≡ true → RuleAt bytes n i
  rule_holds i b e h = rw (← start.sized.nodes) (told (node_tells (node_at bytes i) m n i) (sym e ∙ h))

  module _ (i d : ℕ) (o : List ℕ) (p : Passing bytes n m o i d) (l : i < m) where
    counted : i < node_count bytes
    counted = let c = start.sized.nodes in omega arith

    pub rule_fails : (b : Bool) → b ≡ node_rule (node_at bytes i) m n i → b ≡ false → soundness None ≡ soundness_of bytes n
    unfolding shape_in
    rule_fails b e h =
        says_unsound bytes n
        (λ s. denied (node_tells (node_at bytes i) m n i) (sym e ∙ h) (rw start.sized.nodes (s.rule i counted)))

    pub parent_missing : get_or o i 0 ≡ 0 → soundness None ≡ soundness_of bytes n
    unfolding shape_in
    parent_missing e = says_unsound bytes n (no_parent (shape_at bytes n) (RuleAt bytes n) place i d o p.known counted e)

    pub level_over : 32 < get_or o i 0 → soundness None ≡ soundness_of bytes n
    unfolding shape_in
    level_over e = says_unsound bytes n (too_deep (shape_at bytes n) (RuleAt bytes n) place i d o p.known counted e)

    pub node_ready : (b : Bool) → b ≡ node_rule (node_at bytes i) m n i → b ≡ true → Ruled bytes n i m (length o)
    node_ready b e h = record {
      sized = record { few = start.sized.few; small = start.sized.small; nodes = start.sized.nodes; words = p.words };
      below = l;
      rule = rule_holds i b e h;
    }

    module _ (q : List ℕ) (f : Bool) (marks : MarksNode f (shape_at bytes n) i o q) where
      pub word_twice : f ≡ false → soundness None ≡ soundness_of bytes n
      unfolding shape_in
      word_twice e =
          says_unsound bytes n
          (marked_twice (shape_at bytes n) (RuleAt bytes n) place i d o p.known counted (was_twice f (shape_at bytes n) i o q marks e))

      pub passing_next : (g : ℕ) (b : Bool) → b ≡ node_rule (node_at bytes i) m n i → b ≡ true → (get_or o i 0 ≡ 0 → ⊥) → get_or o i 0 ≤ 32
          → f ≡ true → length q ≡ length o → g ≡ max d (get_or o i 0 - 1) → Passing bytes n m q (i + 1) g
      unfolding shape_in
      passing_next g b e h nz hi fe long gd =
          let lo : 1 ≤ get_or o i 0 = omega (arith, nz) in
          let y = p.low in
          record {
            words = long ∙ p.words;
            low = omega arith;
            known = rw (add-one i)
                (passes_next (shape_at bytes n) (RuleAt bytes n) place i d g o q p.known counted (rule_holds i b e h) lo hi
                (was_marked f (shape_at bytes n) i o q marks fe) (omega arith) (omega arith) (which lo (dec_lt d g)));
          }
        where
          which : 1 ≤ get_or o i 0 → Dec (d < g) → (g ≡ d) ⊎ (get_or o i 0 ≡ suc g)
          which lo (yes k) = inr (omega arith)
          which lo (no k) = inl (omega arith)

  -- ---- the end

  module _ (i d : ℕ) (o : List ℕ) (p : Passing bytes n m o i d) (u : i ≤ m) (l : m ≤ i) (b : Bool) (full : b ≡ all_marked o m n) where
    ended : Passed (shape_at bytes n) (RuleAt bytes n) (node_count bytes) o d
    ended =
        let c = start.sized.nodes in
        subst (λ (k : ℕ). Passed (shape_at bytes n) (RuleAt bytes n) k o d) (omega arith) p.known

    not-all : b ≡ false → soundness None ≡ soundness_of bytes n
    unfolding shape_in
    not-all e = says_unsound bytes n (λ s. denied (marked_tells o m n) (sym full ∙ e) (λ x u. go s x u (dec_lt 0 (get_or o (m + x) 0))))
      where
        go : SoundRecord bytes n → (x : ℕ) → x < n → Dec (0 < get_or o (m + x) 0) → 0 < get_or o (m + x) 0
        go s x u (yes y) = y
        go s x u (no y) =
            absurd (not-filled (shape_at bytes n) (RuleAt bytes n) place d o ended x u
            (let k : get_or o (m + x) 0 ≡ 0 = omega arith in rw (← start.sized.nodes) k) s)

    all_passed : b ≡ true → soundness (Some d) ≡ soundness_of bytes n
    unfolding shape_in
    all_passed e =
        says_sound bytes n d
        (ends_sound (shape_at bytes n) (RuleAt bytes n) place d o ended
        (λ x u. rw (← start.sized.nodes) (told (marked_tells o m n) (sym full ∙ e) x u)))
        (ends_deepest (shape_at bytes n) (RuleAt bytes n) place d o ended)

    -- the answer at the end
    pub ended_says : (r : Option ℕ) → r ≡ then_some b d → soundness r ≡ soundness_of bytes n
    ended_says r e = ap soundness e ∙ go b refl
      where
        go : (t : Bool) → b ≡ t → soundness (then_some t d) ≡ soundness_of bytes n
        go true = all_passed
        go false = not-all

-- ---- between two clearings

module _ (bytes : List ℕ) (n m long : ℕ) (sized : WorkSized bytes n m long) where
  pub starts : (o : List ℕ) → (m ≡ 0 → ⊥) → o ≡ replicate long 0 → Start bytes n m o
  starts o z e = record {
    sized = (let l : length o ≡ long = rw e (length-replicate {A = ℕ} long 0) in rw l sized);
    some = omega (arith, z);
    zeros = λ k. rw e (zero_at long k);
  }

  pub zeroed : (o : List ℕ) → o ≡ replicate long 0 → o ≡ replicate (m + n) 0
  zeroed o e = e ∙ ap (λ (x : ℕ). replicate x 0) sized.words

  pub zeroed_again : (words : ℕ) (o p : List ℕ) → o ≡ replicate long 0 → words ≡ length o → p ≡ replicate words 0 → p ≡ replicate (m + n) 0
  zeroed_again words o p e f g =
      let l : length o ≡ long = rw e (length-replicate {A = ℕ} long 0) in
      g ∙ ap (λ (x : ℕ). replicate x 0) (f ∙ l ∙ sized.words)

  -- ---- no nodes

  none_sound : m ≡ 0 → n ≡ 0 → soundness (Some 0) ≡ soundness_of bytes n
  unfolding shape_in
  none_sound z e =
      let s = empty_sound (shape_at bytes n) (RuleAt bytes n) (sym sized.nodes ∙ z) e in
      says_sound bytes n 0 s.0 s.1

  none_unsound : m ≡ 0 → (n ≡ 0 → ⊥) → soundness None ≡ soundness_of bytes n
  unfolding shape_in
  none_unsound z e = says_unsound bytes n (empty_unsound (shape_at bytes n) (RuleAt bytes n) (sym sized.nodes ∙ z) (omega (arith, e)))

  pub none_says : (r : Option ℕ) → m ≡ 0 → r ≡ then_some (eqb n 0) 0 → soundness r ≡ soundness_of bytes n
  none_says r z e = ap soundness e ∙ go (eqb n 0) (eqb_tells n 0)
    where
      go : (t : Bool) → Tells (n ≡ 0) t → soundness (then_some t 0) ≡ soundness_of bytes n
      go true (passes h) = none_sound z h
      go false (fails h) = none_unsound z h

-- ---- the whole call

module _ (bytes : List ℕ) (n : ℕ) (o : List ℕ) where
  some : (f : Refusal) → cause_number f ≡ cause_of (length bytes) n (length o) → 0 < cause_of (length bytes) n (length o)
  some f e = let p = some_number f in omega (arith, p)

  -- a cause refuses and leaves the words
  pub refuses : (f : Refusal) → cause_number f ≡ cause_of (length bytes) n (length o) → verdict_of (Err f) ≡ check_of bytes n (length o)
  unfolding verdict_of
  refuses f e = ap refused e ∙ sym (check_refuses bytes n (length o) (some f e))

  pub words_left : (f : Refusal) → cause_number f ≡ cause_of (length bytes) n (length o) → o ≡ words_after bytes n o
  words_left f e = sym (words_kept bytes n o (some f e))

  module _ (z : cause_of (length bytes) n (length o) ≡ 0) where
    fitting : Fits (length bytes) n (length o)
    fitting = fits (length bytes) n (length o) z

    -- where none holds the first m + n words are used
    pub room : node_count bytes + n ≤ length o
    room = fitting.room

    pub part_length : length (take (node_count bytes + n) o) ≡ node_count bytes + n
    part_length = length-take-le (node_count bytes + n) o room

    pub part_sized : WorkSized bytes n (node_count bytes) (length (take (node_count bytes + n) o))
    part_sized = record { few = fitting.sizes.small; small = fitting.sizes.few; nodes = refl; words = part_length }

    pub sum_fits : node_count bytes + n < 2 ^ 64
    sum_fits = let s = fitting.sizes in omega arith

    pub answers : (a : Option ℕ) → soundness a ≡ soundness_of bytes n → verdict_of (Ok a) ≡ check_of bytes n (length o)
    unfolding verdict_of
    answers a h = h ∙ sym (check_answers bytes n (length o) z)

    pub words_cleared : (p : List ℕ) → p ≡ replicate (node_count bytes + n) 0 → p ++ drop (node_count bytes + n) o ≡ words_after bytes n o
    words_cleared p h = ap (λ (x : List ℕ). x ++ drop (node_count bytes + n) o) h ∙ sym (words_zero bytes n o z)
