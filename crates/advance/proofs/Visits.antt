-- A turn that tests the first child of a group, or may not: for any fields and masks of nodes, and any rays.
use mathlib.Core.Path.{◌≡◌, refl, sym, ap, ◌∙◌, subst}
use mathlib.Core.Bool.{Bool, true, false, not, ◌||◌, cond}
use mathlib.Core.List.{List}
use Prim.Native.Nat.{ℕ, ◌+◌, ◌*◌, ◌/◌, ◌%◌, ◌<◌}
use native.Mathlib.Numerals.{add-one}
use lib.Dec.{leb, T}
use borrow.Author.Tests.{leb-false}
use Rattle.ray.specs.declared.Ray.{Ray}
use Rattle.gate.specs.Gates.{Gates}
use Rattle.node.specs.declared.Node.{Node}
use Rattle.node.specs.Node.{node_at}
use Rattle.node_rule.specs.Rule.{node_rule}
use Rattle.node_slot.specs.Mask.{hit_mask}
use Rattle.node_test.specs.declared.Tested.{Tested}
use Rattle.node_test.specs.Test.{tested, read_by}
use Rattle.std.specs.Prelude.{Option, Some, None}
use Rattle.record_shape.specs.Record.{node_count}
use Rattle.walk.specs.Step as S
use Rattle.walk.specs.Words as W
use Rattle.walk.specs.WordStep.{WalkerWords, SteppedWords, NodeWords, stay_words, after_test_words, visit_words}
use Rattle.walk.specs.WordStep.{bad_child}
use Rattle.walk_record.specs.WalkRay.{WalkRay, rays_of}
use Rattle.walk_record.specs.Record.{node_words_at}
use Rattle.advance.specs.declared.Walk.{Walk}
use Rattle.advance.specs.Turn.{walker_of, lacks_room, is_past, waits, stacked, followed}

-- ---- whether a child is there

pub not_past : (c tests m : ℕ) → is_past c tests m ≡ false → (c < m) × (tests < m)
unfolding is_past
not_past c tests m e = go (leb m c) refl (leb m tests) refl e
  where
    go : (a : Bool) → leb m c ≡ a → (b : Bool) → leb m tests ≡ b → (a || b) ≡ false → (c < m) × (tests < m)
    go true e b f h = absurd (subst T h tt)
    go false e true f h = absurd (subst T h tt)
    go false e false f h = (leb-false m c e, leb-false m tests f)

-- ---- a visit, for any nodes and rays

module _ {RayData Distance : Type 0} (m : ℕ) (N : NodeWords RayData Distance) (n : ℕ) (w : WalkerWords RayData) (g : W.Group) (depth : ℕ) where
  abbrev child : ℕ
  child = W.first_child (N.octant w.ray) g

  abbrev crowded : Bool
  crowded = lacks_room depth (W.rest_of g).bits

  pub visit_crowded : crowded ≡ true → stay_words w (S.refused 10) ≡ visit_words m N n w g depth
  unfolding visit_words
  visit_crowded e = rw e

  -- the child is not there, or breaks the rule
  parts : (a x y z : Bool) → a ≡ false → (a || x || y || z) ≡ (x || y || z)
  parts true x y z e = absurd (subst T e tt)
  parts false x y z e = refl

  bad_is : crowded ≡ false → bad_child m N n w g depth ≡ (is_past child w.tests m || not (N.rule n child))
  unfolding is_past
  bad_is e = parts crowded (leb m child) (leb m w.tests) (not (N.rule n child)) e

  picked : (b : Bool) → crowded ≡ false → (is_past child w.tests m || not (N.rule n child)) ≡ b
      → cond b (stay_words w (S.refused 10)) (after_test_words m N w g depth) ≡ visit_words m N n w g depth
  unfolding visit_words
  picked b e f = sym (ap (λ (x : Bool). cond x (stay_words w (S.refused 10)) (after_test_words m N w g depth)) (bad_is e ∙ f))

  pub visit_past : crowded ≡ false → is_past child w.tests m ≡ true → stay_words w (S.refused 10) ≡ visit_words m N n w g depth
  visit_past e f = picked true e (rw f)

  pub visit_broken : crowded ≡ false → is_past child w.tests m ≡ false → N.rule n child ≡ false → stay_words w (S.refused 10)
      ≡ visit_words m N n w g depth
  visit_broken e f r = picked true e (rw (f, r))

  pub visit_tested : crowded ≡ false → is_past child w.tests m ≡ false → N.rule n child ≡ true → after_test_words m N w g depth
      ≡ visit_words m N n w g depth
  visit_tested e f r = picked false e (rw (f, r))

-- ---- what a test gives

module _ (gates : Gates) (v : Node) (m n i : ℕ) (r : Ray) (octant : ℕ) where
  abbrev by : Bool → Option Tested
  by b = cond b (Some (read_by gates v i r octant)) None

  pub met_rule : {t : Tested} → Some t ≡ tested gates v m n i r octant → (node_rule v m n i ≡ true) × (t ≡ read_by gates v i r octant)
  unfolding tested
  met_rule {t} e = go (node_rule v m n i) refl
    where
      go : (b : Bool) → node_rule v m n i ≡ b → (node_rule v m n i ≡ true) × (t ≡ read_by gates v i r octant)
      go true q = (q, let f : Some t ≡ Some (read_by gates v i r octant) = e ∙ ap by q in cc)
      go false q = absurd (let f : Some t ≡ None = e ∙ ap by q in cc)

  pub broke_rule : (o : Option Tested) → o ≡ tested gates v m n i r octant → ((t : Tested) → o ≡ Some t → ⊥) → node_rule v m n i ≡ false
  unfolding tested
  broke_rule o e none = go (node_rule v m n i) refl
    where
      go : (b : Bool) → node_rule v m n i ≡ b → node_rule v m n i ≡ false
      go true q = absurd (none (read_by gates v i r octant) (e ∙ ap by q))
      go false q = q

-- ---- a visit on a record, by what its parts return

module _ (gates : Gates) (bytes : List ℕ) (n : ℕ) (ray : Ray) (octant : ℕ) (walk : Walk) (stack : List ℕ) (g : W.Group) (depth : ℕ)
    (rest : W.Group) (c : ℕ)
    (left : rest ≡ W.rest_of g) (named : c ≡ W.first_child octant g) where
  abbrev w : WalkerWords WalkRay
  w = walker_of ray octant walk stack

  abbrev goal : SteppedWords WalkRay
  goal = visit_words (node_count bytes) (node_words_at bytes (rays_of gates)) n w g depth

  room_is : (b : Bool) → lacks_room depth rest.bits ≡ b → lacks_room depth (W.rest_of g).bits ≡ b
  room_is b e = ap (λ (x : W.Group). lacks_room depth x.bits) (sym left) ∙ e

  past_is : (b : Bool) → is_past c walk.tests (node_count bytes) ≡ b → is_past (W.first_child octant g) walk.tests (node_count bytes) ≡ b
  past_is b e = ap (λ (x : ℕ). is_past x walk.tests (node_count bytes)) (sym named) ∙ e

  pub turn_crowded : lacks_room depth rest.bits ≡ true → stay_words w (S.refused 10) ≡ goal
  turn_crowded e = visit_crowded (node_count bytes) (node_words_at bytes (rays_of gates)) n w g depth (room_is true e)

  pub turn_past : lacks_room depth rest.bits ≡ false → is_past c walk.tests (node_count bytes) ≡ true → stay_words w (S.refused 10) ≡ goal
  turn_past e f = visit_past (node_count bytes) (node_words_at bytes (rays_of gates)) n w g depth (room_is false e) (past_is true f)

  module _ (roomy : lacks_room depth rest.bits ≡ false) (there : is_past c walk.tests (node_count bytes) ≡ false) where
    abbrev result : Option Tested
    result = tested gates (node_at bytes c) (node_count bytes) n c ray octant

    rule_is : (b : Bool) → node_rule (node_at bytes c) (node_count bytes) n c ≡ b
        → (node_words_at bytes (rays_of gates)).rule n (W.first_child octant g) ≡ b
    rule_is b e = ap (λ (x : ℕ). node_rule (node_at bytes x) (node_count bytes) n x) (sym named) ∙ e

    pub turn-broken : (o : Option Tested) → o ≡ result → ((t : Tested) → o ≡ Some t → ⊥) → stay_words w (S.refused 10) ≡ goal
    turn-broken o e none =
        visit_broken (node_count bytes) (node_words_at bytes (rays_of gates)) n w g depth (room_is false roomy) (past_is false there)
        (rule_is false (broke_rule gates (node_at bytes c) (node_count bytes) n c ray octant o e none))

    pub turn-tested : {t : Tested} → Some t ≡ result → (v : Walk) (k : ℕ) (stack₁ : List ℕ) → v ≡ followed walk.tests t k → k ≡ waits depth rest.bits
        → stack₁ ≡ stacked stack depth rest
        → record { walker = walker_of ray octant v stack₁; answer = S.tested c } ≡ goal
    unfolding followed hit_mask
    turn-tested {t} e v k stack₁ ve ke se =
        let p = met_rule gates (node_at bytes c) (node_count bytes) n c ray octant e in
        let q : t ≡ read_by gates (node_at bytes (W.first_child octant g)) (W.first_child octant g) ray octant =
        p.1 ∙ ap (λ (x : ℕ). read_by gates (node_at bytes x) x ray octant) named in
        let d = ke ∙ ap (λ (x : W.Group). waits depth x.bits) left in
        let st = se ∙ ap (stacked stack depth) left in
        ap (λ (z : Walk). record { walker = walker_of ray octant z stack₁; answer = S.tested c }) ve
        ∙ (λ j. record {
          walker = record {
            ray = record { ray = ray; octant = octant };
            tests = add-one walk.tests j;
            positions = record { base = (q j).primitive_base_idx; bits = (q j).mask % 0x100_0000 };
            current = record { base = (q j).child_base_idx; bits = (q j).mask / 0x100_0000 * 0x100_0000 + (q j).imask };
            depth = d j;
            stack = st j;
          };
          answer = S.tested (named j);
        })
        ∙ visit_tested (node_count bytes) (node_words_at bytes (rays_of gates)) n w g depth (room_is false roomy) (past_is false there)
        (rule_is true p.0)
