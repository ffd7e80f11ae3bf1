-- Zeros of rays (02, [2]): the signs that a ray's zeros carry change no answer; no walker of a run from a walker just begun holds a -0; and one that
-- does is forged.
use mathlib.Core.Bool.{Bool, true, false, cond}
use mathlib.Core.List.{List, [], ◌∷◌}
use mathlib.Core.Logic.{◌⊎◌, inl, inr}
use mathlib.Core.Path.{◌≡◌, refl, sym, ap, ◌∙◌}
use Prim.Native.Nat.{ℕ, ◌+◌, ◌*◌, ◌%◌}
use lib.Dec.{eqb}
use lib.ListN.{length, get_or}
use lib.Ieee.{Float, nan, eq}
use Rattle.lists.proofs.Tells.{clash}
use Rattle.causes.proofs.Sizes.{Fit}
use Rattle.float.specs.Compare.{is_minus_zero}
use Rattle.ray.specs.declared.Vec3.{Vec3}
use Rattle.ray.specs.declared.Ray.{Ray}
use Rattle.ray.specs.Ray.{unsigned_vec, plain_vec, ray_of, reaching, counts, accepted_ray}
use Rattle.ray.proofs.Entered.{plain, signs_alike, unsigned_vec_again, entered_plain}
use Rattle.packed.specs.Packed.{vec_in, ray_in}
use Rattle.record_shape.specs.Record.{node_count}
use Rattle.walk.specs.Step as S
use Rattle.walk.specs.Calls.{Op}
use Rattle.walk.specs.WordStep.{WalkerWords, SteppedWords, stay_words}
use Rattle.walk.proofs.Cases.{and-false}
use Rattle.walk.proofs.WordKept.{step_keeps_ray}
use Rattle.walk_record.specs.WalkRay.{WalkRay, plain_ray, forged_ray, by_boxes}
use Rattle.walk_record.specs.Record.{node_words_at}
use Rattle.walk_record.specs.Walk.{step_in, step_at}
use Rattle.walk_record.proofs.WalkRay.{unforged}
use Rattle.traverse.specs.Walker.{Begun, started, told_walker, step_bytes}
use Rattle.traverse.specs.Calls.{RecordOp, step_on, tells, on_record, run_each, run_bytes}
use Rattle.traverse.proofs.Begun.{starts_fresh, refuses}
use Rattle.traverse.proofs.Steps.{step_forged}
use Rattle.demands.specs.MinusZero.{HasMinusZero, AnsweredAlike, SameLine}

-- ---- answers

alike : (r s : Ray) → r ≡ s → AnsweredAlike r s
alike r s e = record {
  begins = ap started e;
  distance = λ b. rw e;
  any_hit = λ bytes n room. rw e;
  list = λ bytes n before. rw e;
  closest = λ bytes indices panes. rw e;
  miss = λ bytes indices panes. rw e;
}

-- two rays that differ in nothing but the signs of the zeros in origin and direction are answered alike,
pub signs_change_nothing : (o o' d d' : Vec3) (near far : Float) → unsigned_vec o ≡ unsigned_vec o' → unsigned_vec d ≡ unsigned_vec d'
    → AnsweredAlike (ray_of o d near far) (ray_of o' d' near far)
signs_change_nothing o o' d d' near far e f = alike _ _ (signs_alike o o' d d' near far e f)

-- and so each ray as its neighbour whose zeros are +0
pub as_its_neighbour : (o d : Vec3) (near far : Float) → AnsweredAlike (ray_of o d near far) (ray_of (unsigned_vec o) (unsigned_vec d) near far)
as_its_neighbour o d near far =
    signs_change_nothing o (unsigned_vec o) d (unsigned_vec d) near far (sym (unsigned_vec_again o)) (sym (unsigned_vec_again d))

-- likewise rays packed one behind the other
pub packed_signs_change_nothing : (s t : List Float) (k : ℕ)
    → unsigned_vec (vec_in s (k * 8)) ≡ unsigned_vec (vec_in t (k * 8)) → unsigned_vec (vec_in s (k * 8 + 3)) ≡ unsigned_vec (vec_in t (k * 8 + 3))
    → get_or s (k * 8 + 6) nan ≡ get_or t (k * 8 + 6) nan → get_or s (k * 8 + 7) nan ≡ get_or t (k * 8 + 7) nan
    → AnsweredAlike (ray_in s k) (ray_in t k)
unfolding ray_in
packed_signs_change_nothing s t k o d near far = rw (near, far) (signs_change_nothing _ _ _ _ _ _ o d)

-- ---- runs

line_same : (a b : WalkRay) → a ≡ b → SameLine a b
line_same a b e = record {
  origin = ap (λ (x : WalkRay). x.ray.origin) e;
  direction = ap (λ (x : WalkRay). x.ray.direction) e;
  inverse = ap (λ (x : WalkRay). x.ray.inverse) e;
  start = ap (λ (x : WalkRay). x.ray.tmin) e;
  octant = ap (λ (x : WalkRay). x.octant) e;
}

line_through : {a b c : WalkRay} → SameLine a b → SameLine b c → SameLine a c
line_through p q = record {
  origin = p.origin ∙ q.origin;
  direction = p.direction ∙ q.direction;
  inverse = p.inverse ∙ q.inverse;
  start = p.start ∙ q.start;
  octant = p.octant ∙ q.octant;
}

-- telling leaves all but the reach,
tell_keeps : (t : Float) (w : WalkerWords WalkRay) → SameLine (told_walker t w).ray w.ray
tell_keeps t w = go (counts w.ray.ray t)
  where
    go : (c : Bool) → SameLine (record { ray = cond c (reaching t w.ray.ray) w.ray.ray; octant = w.ray.octant }) w.ray
    go true = record { origin = refl; direction = refl; inverse = refl; start = refl; octant = refl }
    go false = record { origin = refl; direction = refl; inverse = refl; start = refl; octant = refl }

-- a step all of it,
step_keeps : (bytes : List ℕ) (n : ℕ) (w : WalkerWords WalkRay) → (step_bytes bytes n w).walker.ray ≡ w.ray
unfolding step_bytes step_at step_in
step_keeps bytes n w = go (eqb (length bytes % 80) 0)
  where
    by : Bool → SteppedWords WalkRay
    by a = elim a [ false ↦ stay_words w (S.refused 1) | true ↦ step_at bytes by_boxes n w ]

    go : (a : Bool) → (by a).walker.ray ≡ w.ray
    go false = refl
    go true = step_keeps_ray (node_count bytes) (node_words_at bytes by_boxes) n w

-- and so every list of calls all but the reach, whatever walker it starts with and whatever records its steps bring
pub run_keeps : (l : List RecordOp) (w : WalkerWords WalkRay) → SameLine (run_each l w).walker.ray w.ray
unfolding run_each
run_keeps [] w = line_same _ _ refl
run_keeps (step_on bytes n ∷ l) w =
    line_through (run_keeps l (step_bytes bytes n w).walker) (line_same _ _ (step_keeps bytes n w))
run_keeps (tells t ∷ l) w = line_through (run_keeps l (told_walker t w)) (tell_keeps t w)

module _ (o d : Vec3) (near far : Float) where
  abbrev ray : Ray
  ray = ray_of o d near far

  -- a walker begun holds no -0, nor does the one beside a refusal,
  begins_plain : plain_ray (started ray).walker.ray.ray ≡ true
  unfolding plain_vec is_minus_zero eq
  begins_plain = go (accepted_ray ray) refl
    where
      go : (a : Bool) → accepted_ray ray ≡ a → plain_ray (started ray).walker.ray.ray ≡ true
      go true e =
          let p = entered_plain o d near far in
          ap (λ (w : WalkerWords WalkRay). plain_ray w.ray.ray) (starts_fresh ray e) ∙ rw (p.0, p.1)
      go false e = ap (λ (b : Begun). plain_ray b.walker.ray.ray) (sym (refuses ray ray refl e))

  -- and so no walker of a run from it does, whatever is called and told
  pub begun_plain : (l : List RecordOp) → plain_ray (run_each l (started ray).walker).walker.ray.ray ≡ true
  begun_plain l = let k = run_keeps l (started ray).walker in rw (k.origin, k.direction) begins_plain

  -- demand 3's lists among them
  pub run_plain : (bytes : List ℕ) (l : List (Op Float)) → plain_ray (run_bytes bytes l (started ray).walker).walker.ray.ray ≡ true
  unfolding run_bytes
  run_plain bytes l = begun_plain (on_record bytes l)

-- ---- walkers that hold a -0

minus_zero_not_plain : (v : Vec3) → HasMinusZero v → plain_vec v ≡ false
minus_zero_not_plain v h = go (plain_vec v) refl
  where
    none : HasMinusZero v → plain_vec v ≡ true → ⊥
    none (inl e) p = clash (sym (plain v p).x ∙ e)
    none (inr (inl e)) p = clash (sym (plain v p).y ∙ e)
    none (inr (inr e)) p = clash (sym (plain v p).z ∙ e)

    go : (b : Bool) → plain_vec v ≡ b → plain_vec v ≡ false
    go true e = absurd (none h e)
    go false e = e

-- a ray with a -0 in its origin or its direction is forged, whatever its inverse and its octant
pub minus_zero_forged : (b : WalkRay) → HasMinusZero b.ray.origin ⊎ HasMinusZero b.ray.direction → forged_ray b ≡ true
minus_zero_forged b h = go (forged_ray b) refl
  where
    signed : HasMinusZero b.ray.origin ⊎ HasMinusZero b.ray.direction → plain_ray b.ray ≡ false
    signed (inl e) = rw (minus_zero_not_plain b.ray.origin e)
    signed (inr e) = rw (minus_zero_not_plain b.ray.direction e) (and-false (plain_vec b.ray.origin))

    go : (c : Bool) → forged_ray b ≡ c → forged_ray b ≡ true
    go true e = e
    go false e = clash (sym (signed h) ∙ (unforged b e).plain)

-- so each step of a walker that holds it is refused 10 and leaves it, where 1 and 2 do not hold
pub minus_zero_steps : (bytes : List ℕ) (n : ℕ) (w : WalkerWords WalkRay) → HasMinusZero w.ray.ray.origin ⊎ HasMinusZero w.ray.ray.direction
    → Fit (length bytes) n → step_bytes bytes n w ≡ stay_words w (S.refused 10)
minus_zero_steps bytes n w h f = sym (step_forged bytes n w f (rw (minus_zero_forged w.ray h)))
