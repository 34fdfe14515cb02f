use Rattle.std.proofs.Common.{arith}
use Rattle.text.proofs.Decimal.{decimal_more}
use Rattle.text.proofs.Putting.{put_one, put_then}
use Rattle.text.proofs.+put_decimal.Goals as goal

pub returns : goal.returns
returns t c =
    rw (decimal_more c.args.n (omega arith))
    (put_then c.put_decimal-end.ensures (put_one c.put_decimal-end.new.out c.put_decimal-end.result _))
