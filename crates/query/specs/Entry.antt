-- What refuses a query before its walk begins (01, "Causes of refusal").
use Rattle.std.specs.Prelude.{Bool, List, [], ◌∷◌, ◌++◌, ℕ}
use Rattle.causes.specs.Causes.{Condition, ◌unless◌, first_cause, given}
use Rattle.causes.specs.Sizes.{record_conditions}
use Rattle.ray.specs.declared.Ray.{Ray}
use Rattle.ray.specs.Ray.{accepted_ray}

-- For a record of so many bytes and n positions: whether other lists have lengths that fit, the record's sizes, then the cause that the query found
-- among those between 2 and 9, 0 for none, then the ray.
unfoldable pub entry_conditions : Bool → (bytes n between : ℕ) → Ray → List Condition
unfolding record_conditions
entry_conditions fits bytes n between r = 1 unless fits ∷ record_conditions bytes n ++ given between ∷ 9 unless accepted_ray r ∷ []

abbrev pub entry_cause : Bool → (bytes n between : ℕ) → Ray → ℕ
entry_cause fits bytes n between r = first_cause (entry_conditions fits bytes n between r)
