-- The sizes of a record by the tests that the code makes in turn, and what they say.
use mathlib.Core.Bool.{true}
use mathlib.Core.Path.{◌≡◌, ◌∙◌}
use Prim.Native.Nat.{ℕ, ◌/◌, ◌%◌, ◌≤◌}
use Rattle.lists.proofs.Tells.{Tells, told, tells_true, tells_false, eqb_tells, leb_tells, and_tells}
use Rattle.causes.specs.Sizes.{sizes_fit, record_conditions, record_cause}
use Rattle.causes.proofs.Causes.{first_here, first_later, Passed, passed_none, sorted, none_passed}

-- whole nodes, and neither too many nodes nor too many positions
pub record Fit (bytes n : ℕ) : Type 0 where
  pub whole : bytes % 80 ≡ 0
  pub few : n ≤ 65536
  pub small : bytes / 80 ≤ 65535

pub sizes_tell : (m n : ℕ) → Tells ((n ≤ 65536) × (m ≤ 65535)) (sizes_fit m n)
sizes_tell m n = and_tells (leb_tells n 65536) (leb_tells m 65535)

module _ (bytes n : ℕ) where
  pub record_unfit : (bytes % 80 ≡ 0 → ⊥) → record_cause bytes n ≡ 1
  unfolding record_conditions
  record_unfit h = first_here _ (tells_false (eqb_tells (bytes % 80) 0) h)

  pub record_over : bytes % 80 ≡ 0 → ((n ≤ 65536) × (bytes / 80 ≤ 65535) → ⊥) → record_cause bytes n ≡ 2
  unfolding record_conditions
  record_over w h = first_later 1 _ (tells_true (eqb_tells (bytes % 80) 0) w) ∙ first_here _ (tells_false (sizes_tell (bytes / 80) n) h)

  pub sizes_pass : Fit bytes n → sizes_fit (bytes / 80) n ≡ true
  sizes_pass f = tells_true (sizes_tell (bytes / 80) n) (f.few, f.small)

  pub record_passed : Fit bytes n → Passed (record_conditions bytes n)
  unfolding record_conditions
  record_passed f = (tells_true (eqb_tells (bytes % 80) 0) f.whole, (sizes_pass f, tt))

  pub record_fit : Passed (record_conditions bytes n) → Fit bytes n
  unfolding record_conditions
  record_fit p =
      let s = told (sizes_tell (bytes / 80) n) p.1.0 in record { whole = told (eqb_tells (bytes % 80) 0) p.0; few = s.0; small = s.1 }

  pub record_none : Fit bytes n → record_cause bytes n ≡ 0
  record_none f = passed_none (record_conditions bytes n) (record_passed f)

  pub none_record : record_cause bytes n ≡ 0 → Fit bytes n
  unfolding record_conditions sorted
  none_record e = record_fit (none_passed 0 (record_conditions bytes n) tt e)
