use native.Mathlib.Omega.{arith}
use Rattle.bvh2_check.proofs.Tests.{sizes_1, sizes_2, sizes_0}
use Rattle.bvh2_check.proofs.sizes.Goals as goal
use Rattle.bvh2_check.proofs.sizes.Goals.{then-words-ne0-via-then-words-ne0, then-words-ne0-via-else-words-ne0+then-words-nodes}

pub returns-then-words-ne0-clause-value : goal.returns-then-words-ne0-clause-value
returns-then-words-ne0-clause-value c =
    elim c.then-words-ne0.branch [
      | then-words-ne0-via-then-words-ne0 w ↦ sizes_1 _ _ (λ e. omega arith)
      | then-words-ne0-via-else-words-ne0+then-words-nodes w ↦ sizes_1 _ _ (λ e. omega arith)
    ]

pub returns-then-n-gt-MAX_LEAVES-clause-value : goal.returns-then-n-gt-MAX_LEAVES-clause-value
returns-then-n-gt-MAX_LEAVES-clause-value c = sizes_2 _ _ (omega arith) (omega arith)

pub returns-clause-value : goal.returns-clause-value
returns-clause-value c = sizes_0 _ _ (omega arith) (omega arith)
