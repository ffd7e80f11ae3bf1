use Rattle.std.proofs.Common.{arith}
use Rattle.text.proofs.Decimal.{decimal-one, decimal_more}
use Rattle.text.proofs.Put.{put_then}
use Rattle.text.proofs.Writer.+put_decimal.Goals as goal

pub returns-then-one_digit : goal.returns-then-one_digit
returns-then-one_digit t c = rw (decimal-one c.args.n (omega arith)) c.put_byte.ensures

pub returns : goal.returns
returns t c =
    let e = decimal_more c.args.n (omega arith) in
    rw e (put_then (rw e at c.requires) c.put_decimal.ensures (λ _. c.put_byte-2.ensures))
