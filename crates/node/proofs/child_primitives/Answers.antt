use mathlib.Core.Path.{refl}
use Rattle.node.proofs.RoundTrip.{count_ones}
use Rattle.node.proofs.child_primitives.Goals as goal

pub returns : goal.returns
returns c = (refl, count_ones c.args.meta c.ranges.meta.fits)
