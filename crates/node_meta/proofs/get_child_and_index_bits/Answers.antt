use mathlib.Core.Path.{refl}
use Prim.Native.Nat.{◌*◌}
use Rattle.node_meta.proofs.Decode.{child_word, index_word}
use Rattle.node_meta.proofs.get_child_and_index_bits.Goals as goal

pub returns : goal.returns
returns c = (child_word c.args.meta8, index_word c.args.meta8 c.args.octant (c.args.octant * 0x0101_0101_0101_0101) refl c.requires)
