use mathlib.Core.Path.{refl}
use native.Mathlib.Omega.{arith}
use Rattle.bvh2.specs.FirstCause.{is_inside}
use Rattle.bvh2_check.proofs.Tests.{inside_children}
use Rattle.bvh2_check.proofs.link_inside.Goals as goal

pub returns-in-Children : goal.returns-in-Children
unfolding is_inside
returns-in-Children c = rw c.in-Children.is (inside_children _ _ _ (omega arith))

pub returns-in-Position : goal.returns-in-Position
unfolding is_inside
returns-in-Position c = rw c.in-Position.is refl

pub returns-in-Malformed : goal.returns-in-Malformed
unfolding is_inside
returns-in-Malformed c = rw c.in-Malformed.is refl
