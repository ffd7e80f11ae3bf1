-- A walker just begun at a quarter hour, or refused.
use mathlib.Core.Bool.{Bool, true, false, cond}
use mathlib.Core.Path.{◌≡◌, refl, sym, ap, ◌∙◌}
use Prim.Native.Nat.{ℕ}
use native.Mathlib.Omega.{arith}
use Rattle.ray.specs.declared.Ray.{Ray}
use Rattle.ray.specs.Ray.{accepted_ray}
use Rattle.span.specs.Span.{quarter_fits}
use Rattle.walk.specs.WordStep.{WalkerWords, fresh_words}
use Rattle.walk_record.specs.WalkRay.{WalkRay, walk_ray}
use Rattle.traverse.specs.Walker.{Begun, no_walker, started}
use Rattle.traverse_timed.specs.Walker.{TimedBegun, not_begun, timed_started}

module _ (r : Ray) (quarter : ℕ) where
  -- by the quarter hour and the ray
  abbrev by : Bool → Bool → TimedBegun
  by a b =
      cond a (cond b (record { walker = record { walker = fresh_words (walk_ray r); quarter = quarter }; refused = 0 }) (not_begun 9)) (not_begun 14)

  is : timed_started r quarter ≡ by (quarter_fits quarter) (accepted_ray r)
  unfolding timed_started
  is = refl

  pub refuses_quarter : quarter_fits quarter ≡ false → not_begun 14 ≡ timed_started r quarter
  refuses_quarter e = sym (is ∙ ap (λ (a : Bool). by a (accepted_ray r)) e)

  -- where that is one of a day, what an untimed walker's beginning says
  module _ (fits : quarter_fits quarter ≡ true) where
    begins_by : Bool → Begun
    begins_by b = elim b [ true ↦ record { walker = fresh_words (walk_ray r); refused = 0 } | false ↦ record { walker = no_walker; refused = 9 } ]

    pub begins : (w : WalkerWords WalkRay) → record { walker = w; refused = 0 } ≡ started r
        → record { walker = record { walker = w; quarter = quarter }; refused = 0 } ≡ timed_started r quarter
    unfolding started begins_by
    begins w e = go (accepted_ray r) e ∙ sym (is ∙ ap (λ (a : Bool). by a (accepted_ray r)) fits)
      where
        go : (b : Bool) → record { walker = w; refused = 0 } ≡ begins_by b
            → record { walker = record { walker = w; quarter = quarter }; refused = 0 } ≡ by true b
        go true h = ap (λ (x : Begun). record { walker = record { walker = x.walker; quarter = quarter }; refused = 0 }) h
        go false h = absurd (let z = ap (λ (x : Begun). x.refused) h in omega arith)

    pub refuses_ray : (k : ℕ) → (k ≡ 0 → ⊥) → record { walker = no_walker; refused = k } ≡ started r → not_begun k ≡ timed_started r quarter
    unfolding started begins_by
    refuses_ray k some e = go (accepted_ray r) e ∙ sym (is ∙ ap (λ (a : Bool). by a (accepted_ray r)) fits)
      where
        go : (b : Bool) → record { walker = no_walker; refused = k } ≡ begins_by b → not_begun k ≡ by true b
        go true h = absurd (some (ap (λ (x : Begun). x.refused) h))
        go false h = ap (λ (x : Begun). not_begun x.refused) h
