-- Internal: a test's answer and what it says, for the contracts of the parts of a test.
use Rattle.std.specs.Prelude.{Bool, true, false}

-- true says P, and false that P does not hold
unfoldable pub Tells : Type 0 → Bool → Type 0
Tells P true = P
Tells P false = P → ⊥
