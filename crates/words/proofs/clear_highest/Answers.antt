use Rattle.words.proofs.HighestBit.{clear_top}
use Rattle.words.proofs.clear_highest.Goals as goal

pub returns : goal.returns
returns c = clear_top 32 c.args.r c.args.bits c.requires c.ranges.bits.fits
