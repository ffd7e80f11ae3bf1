use mathlib.Core.Path.{refl}
use lib.Ieee.{of_bits}
use Rattle.aabb.specs.Aabb.{center_of}
use Rattle.aabb.proofs.Aabb.center.Goals as goal

pub returns : goal.returns
unfolding center_of of_bits
returns c = refl
