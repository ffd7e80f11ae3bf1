use mathlib.Core.Bool.{true, not}
use mathlib.Core.Path.{◌≡◌, sym, subst}
use lib.Dec.{T}
use lib.Ieee.{is_nan}
use Rattle.ray.specs.declared.Vec3.{Vec3}
use Rattle.ray.specs.Ray.{bounded_vec}
use Rattle.ray.proofs.Bounds.{bounded, no_nans}
use Rattle.tree_words.proofs.Writing.{three_written}
use Rattle.tree_words.proofs.put_corner.Goals as goal

numbers : (p : Vec3) → bounded_vec p ≡ true → T (not (is_nan p.x)) × T (not (is_nan p.y)) × T (not (is_nan p.z))
numbers p e = no_nans p (bounded p (subst T (sym e) tt))

pub float_to_bits-words : goal.float_to_bits-words
float_to_bits-words c = (numbers _ c.requires.1).0

pub float_to_bits-words-2 : goal.float_to_bits-words-2
float_to_bits-words-2 c = (numbers _ c.requires.1).1

pub float_to_bits-words-3 : goal.float_to_bits-words-3
float_to_bits-words-3 c = (numbers _ c.requires.1).2

pub returns : goal.returns
returns c = three_written _ _ _ _ _ c.requires.0
