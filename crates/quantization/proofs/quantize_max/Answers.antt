use Rattle.quantization.proofs.Steps.{one_more, the_same, the_top}
use Rattle.quantization.proofs.quantize_max.Goals as goal
use Rattle.quantization.proofs.quantize_max.Goals.{else-floor-lt255-via-then-floor-lt255+else-from-x, else-floor-lt255-via-else-floor-lt255}

pub returns-then-from-x : goal.returns-then-from-x
returns-then-from-x c =
    one_more c.args.x c.quantize_min-floor.result c.quantize_min-floor.ensures c.if-floor-lt255.true (rw c.from.ensures at c.if-from-x.true)

pub returns-else-floor-lt255 : goal.returns-else-floor-lt255
returns-else-floor-lt255 c =
    let x = c.args.x in
    let t = c.quantize_min-floor.result in
    let is = c.quantize_min-floor.ensures in
    elim c.else-floor-lt255.branch [
      | else-floor-lt255-via-then-floor-lt255+else-from-x w ↦ the_same x t is w.if-floor-lt255.true (rw w.from.ensures at w.if-from-x.false)
      | else-floor-lt255-via-else-floor-lt255 w ↦ the_top x t is w.if-floor-lt255.false
    ]
