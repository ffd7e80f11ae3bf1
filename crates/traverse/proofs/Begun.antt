-- A walker just begun, or refused.
use mathlib.Core.Path.{◌≡◌, sym, ap, ◌∙◌}
use mathlib.Core.Bool.{Bool, true, false}
use Prim.Native.Nat.{ℕ}
use lib.ListN.{replicate}
use Rattle.ray.specs.declared.Ray.{Ray}
use Rattle.ray.specs.Ray.{octant_of, accepted_ray}
use Rattle.walk.specs.WordStep.{fresh_words}
use Rattle.walk_record.specs.WalkRay.{walk_ray}
use Rattle.advance.specs.declared.Walk.{Walk}
use Rattle.advance.specs.Turn.{begun, walker_of}
use Rattle.traverse.specs.Walker.{Begun, no_walker, started}

module _ (r : Ray) where
  by : Bool → Begun
  by a = elim a [ true ↦ record { walker = fresh_words (walk_ray r); refused = 0 } | false ↦ record { walker = no_walker; refused = 9 } ]

  pub starts : (q : Ray) (o : ℕ) (v : Walk) → q ≡ r → o ≡ octant_of r.direction → v ≡ begun → accepted_ray q ≡ true
      → record { walker = walker_of q o v (replicate 32 0); refused = 0 } ≡ started r
  unfolding started by
  starts q o v e f g h =
      (λ i. record { walker = walker_of (e i) (f i) (g i) (replicate 32 0); refused = 0 })
      ∙ sym (ap by (ap accepted_ray (sym e) ∙ h))

  pub refuses : (q : Ray) → q ≡ r → accepted_ray q ≡ false → record { walker = no_walker; refused = 9 } ≡ started r
  unfolding started by
  refuses q e h = sym (ap by (ap accepted_ray (sym e) ∙ h))

  pub starts_fresh : accepted_ray r ≡ true → (started r).walker ≡ fresh_words (walk_ray r)
  unfolding started by
  starts_fresh h = ap (λ (a : Bool). (by a).walker) h
