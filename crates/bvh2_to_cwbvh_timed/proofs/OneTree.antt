-- Which refusal has the number 7.
use mathlib.Core.Path.{◌≡◌, refl}
use denote.Enum.Bare.{sameb}
use native.Mathlib.Omega.{arith}
use Rattle.lists.proofs.Tells.{Tells, passes, fails}
use Rattle.causes.specs.declared.Refusal.{Refusal}
use Rattle.causes.specs.declared.Refusal.TheVariants as R
use Rattle.causes.specs.contracts.Refusal.{the_type}
use Rattle.causes.specs.Refusal.{cause_number}

pub one_tree_tells : (r : Refusal) → Tells (cause_number r ≡ 7) (sameb the_type r R.NotOneTree)
one_tree_tells R.LengthUnfit = fails (λ e. omega arith)
one_tree_tells R.TooMany = fails (λ e. omega arith)
one_tree_tells R.LimitOver = fails (λ e. omega arith)
one_tree_tells R.SliceShort = fails (λ e. omega arith)
one_tree_tells R.LinkOutside = fails (λ e. omega arith)
one_tree_tells R.BoxRefused = fails (λ e. omega arith)
one_tree_tells R.NotOneTree = passes refl
one_tree_tells R.TooDeep = fails (λ e. omega arith)
one_tree_tells R.RayRefused = fails (λ e. omega arith)
one_tree_tells R.Fault = fails (λ e. omega arith)
one_tree_tells R.LossesUnfit = fails (λ e. omega arith)
one_tree_tells R.IndexOver = fails (λ e. omega arith)
one_tree_tells R.SpansUnfit = fails (λ e. omega arith)
