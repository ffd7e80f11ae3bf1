-- The queries' answers for a ray of eight floats, and for another.
use mathlib.Core.Bool.{Bool, cond}
use mathlib.Core.List.{List}
use mathlib.Core.Path.{◌≡◌, refl, sym, ap, ◌∙◌}
use Prim.Native.Nat.{ℕ, zero, suc, ◌+◌, ◌%◌}
use lib.Dec.{eqb}
use lib.Ieee.{Float}
use lib.ListN.{length}
use borrow.Author.Tests.{eq-eqb, ne_eqb}
use Rattle.ray.specs.declared.Ray.{Ray}
use Rattle.ray.specs.declared.Beam.{Beam}
use Rattle.ray.specs.Ray.{ray_from}
use Rattle.query.specs.Entry.{entry_cause}
use Rattle.query.specs.Result.{Result, unanswered}
use Rattle.any_hit.specs.AnyHit.{AnyHitAnswer, refused, any_hit_of, list_after}
use Rattle.closest.specs.Panes.{ClosestAnswer, refused_closest, MissAnswer, refused_miss, pane_cause, closest_of, miss_of}
use Rattle.packed.specs.Packed.{beam_in, ray_in}
use Rattle.funnelcress.specs.Queries.{of_eight, any_hit_by, list_by, short_cause, closest_in, closest_by, distance_in, miss_by}
use Rattle.funnelcress.specs.Queries.{any_hit_number, closest_number, miss_number}

module _ (ray : List Float) where
  -- the ray of the eight floats
  pub same_ray : (b : Beam) → b ≡ beam_in ray 0 → ray_from b ≡ ray_in ray 0
  unfolding ray_in
  same_ray b e = ap ray_from e

  pub fit : {A : Type 0} (x y : A) → length ray ≡ 8 → y ≡ of_eight ray x y
  fit x y e = ap (λ (b : Bool). cond b y x) (sym (eq-eqb _ _ e))

  pub unfit : {A : Type 0} (x y : A) → (length ray ≡ 8 → ⊥) → x ≡ of_eight ray x y
  unfit x y h = ap (λ (b : Bool). cond b y x) (sym (ne_eqb _ _ h))

  module _ (bytes : List ℕ) (n : ℕ) where
    pub any_hit_unfit : (number room : ℕ) → number ≡ 0x2_0000_0000 + 1 → (length ray ≡ 8 → ⊥) → number ≡ any_hit_number (any_hit_by bytes n ray room)
    unfolding any_hit_by any_hit_number
    any_hit_unfit number room e h = e ∙ ap any_hit_number (unfit (unanswered (refused 1)) (any_hit_of bytes n (ray_in ray 0) room) h)

    pub list_unfit : (list : List ℕ) → (length ray ≡ 8 → ⊥) → list ≡ list_by bytes n ray list
    unfolding list_by
    list_unfit list h = unfit list (list_after bytes n (ray_in ray 0) list) h

    pub any_hit_fit : (b : Beam) → length ray ≡ 8 → b ≡ beam_in ray 0
        → (number : ℕ) (a : Result AnyHitAnswer) (room : ℕ) → number ≡ any_hit_number a → a ≡ any_hit_of bytes n (ray_from b) room
        → number ≡ any_hit_number (any_hit_by bytes n ray room)
    unfolding any_hit_by
    any_hit_fit b g e number a room i j =
        i ∙ ap any_hit_number (j ∙ ap (λ (x : Ray). any_hit_of bytes n x room) (same_ray b e) ∙ fit (unanswered (refused 1))
        (any_hit_of bytes n (ray_in ray 0) room) g)

    pub list_fit : (b : Beam) → length ray ≡ 8 → b ≡ beam_in ray 0 → (after list : List ℕ) → after ≡ list_after bytes n (ray_from b) list
        → after ≡ list_by bytes n ray list
    unfolding list_by
    list_fit b g e after list j = j ∙ ap (λ (x : Ray). list_after bytes n x list) (same_ray b e) ∙ fit list (list_after bytes n (ray_in ray 0) list) g

  module _ (bytes indices : List ℕ) (panes : List Float) where
    -- ---- closest

    abbrev Closes : ℕ → List Float → List Float → Type 0
    Closes number after out =
        (number ≡ closest_number (closest_by (length out) bytes indices panes ray))
        × (after ≡ distance_in (closest_by (length out) bytes indices panes ray).answer out)

    closes : (number : ℕ) (after out : List Float) (a : Result ClosestAnswer) → number ≡ closest_number a → after ≡ distance_in a.answer out
        → a ≡ closest_by (length out) bytes indices panes ray → Closes number after out
    closes number after out a i j e = (i ∙ ap closest_number e, j ∙ ap (λ (x : Result ClosestAnswer). distance_in x.answer out) e)

    pub closest_unfit : (number : ℕ) (out : List Float) → number ≡ 0x2_0000_0000 + 1 → (length ray ≡ 8 → ⊥) → Closes number out out
    unfolding closest_by closest_number distance_in
    closest_unfit number out e h =
        closes number out out (record { answer = refused_closest 1; tests = 0 }) e refl (unfit _ (closest_in (length out) bytes indices panes ray) h)

    -- no float is lent
    pub closest_short : (r : Ray) → length ray ≡ 8 → r ≡ ray_in ray 0 → (number cause k : ℕ) (out : List Float) → length out ≡ 0
        → cause ≡ entry_cause (eqb (length panes % 6) 0) (length bytes) (length indices) 0 r
        → k ≡ short_cause cause → number ≡ 0x2_0000_0000 + k → Closes number out out
    unfolding closest_by closest_number distance_in closest_in
    closest_short r g e number cause k out z c s i =
        let u : k ≡ short_cause (pane_cause bytes indices panes (ray_in ray 0)) = s ∙ ap short_cause (c ∙ ap (pane_cause bytes indices panes) e) in
        closes number out out (record { answer = refused_closest k; tests = 0 }) i refl
        (ap (λ (j : ℕ). record { answer = refused_closest j; tests = 0 }) u ∙ ap (λ (j : ℕ). closest_in j bytes indices panes ray) (sym z)
        ∙ fit _ (closest_in (length out) bytes indices panes ray) g)

    some : (room : ℕ) → (room ≡ 0 → ⊥) → closest_of bytes indices panes (ray_in ray 0) ≡ closest_in room bytes indices panes ray
    unfolding closest_in
    some zero h = absurd (h refl)
    some (suc room) h = refl

    pub closest_fit : (b : Beam) → length ray ≡ 8 → b ≡ beam_in ray 0
        → (number : ℕ) (after out : List Float) (a : Result ClosestAnswer) → (length out ≡ 0 → ⊥) → a ≡ closest_of bytes indices panes (ray_from b)
        → number ≡ closest_number a → after ≡ distance_in a.answer out → Closes number after out
    unfolding closest_by
    closest_fit b g e number after out a z c i j =
        closes number after out a i j
        (c ∙ ap (closest_of bytes indices panes) (same_ray b e) ∙ some (length out) z ∙ fit _ (closest_in (length out) bytes indices panes ray) g)

    -- ---- miss

    pub miss_unfit : (number : ℕ) → number ≡ 0x2_0000_0000 + 1 → (length ray ≡ 8 → ⊥) → number ≡ miss_number (miss_by bytes indices panes ray)
    unfolding miss_by miss_number
    miss_unfit number e h = e ∙ ap miss_number (unfit (record { answer = refused_miss 1; tests = 0 }) (miss_of bytes indices panes (ray_in ray 0)) h)

    pub miss_fit : (b : Beam) → length ray ≡ 8 → b ≡ beam_in ray 0
        → (number : ℕ) (a : Result MissAnswer) → number ≡ miss_number a → a ≡ miss_of bytes indices panes (ray_from b)
        → number ≡ miss_number (miss_by bytes indices panes ray)
    unfolding miss_by
    miss_fit b g e number a i j =
        i
        ∙ ap miss_number
        (j ∙ ap (miss_of bytes indices panes) (same_ray b e)
        ∙ fit (record { answer = refused_miss 1; tests = 0 }) (miss_of bytes indices panes (ray_in ray 0)) g)
