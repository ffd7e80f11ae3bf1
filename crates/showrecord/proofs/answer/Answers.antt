use mathlib.Core.Path.{sym}
use lib.Seq.{length-take-le}
use Rattle.show_text.proofs.Texts.{wrote_fits}
use Rattle.showrecord.proofs.answer.Goals as goal

pub slice_bounds-text-end : goal.slice_bounds-text-end
slice_bounds-text-end g c = let e = c.show_text-long.ensures in wrote_fits _ _ _ _ (e.value, e.out_after)

pub slice_bounds-write_all-end : goal.slice_bounds-write_all-end
slice_bounds-write_all-end g c = let e = c.show_text-long.ensures in sym (length-take-le _ _ (wrote_fits _ _ _ _ (e.value, e.out_after)))
