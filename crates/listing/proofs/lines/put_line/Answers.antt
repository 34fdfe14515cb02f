use Rattle.std.proofs.Common.{arith}
use Rattle.listing.specs.Lines.{line}
use Rattle.listing.proofs.Putting.{length_line}
use Rattle.text.proofs.Putting.{put_one, put_copy, put_then}
use Rattle.listing.proofs.lines.put_line.Goals as goal

pub copy-requires : goal.copy-requires
copy-requires c = omega (arith, length_line c.args.name.now c.args.n)

pub put_decimal-end-requires : goal.put_decimal-end-requires
put_decimal-end-requires c = omega (arith, c.copy.auto.b, length_line c.args.name.now c.args.n)

pub bounds-out-end : goal.bounds-out-end
bounds-out-end c = omega (arith, c.copy.auto.b, c.put_decimal-end.auto.out, c.put_decimal-end.ensures.ends, length_line c.args.name.now c.args.n)

pub overflow_add-result : goal.overflow_add-result
overflow_add-result c = omega (arith, c.put_decimal-end.ensures.ends, length_line c.args.name.now c.args.n)

pub returns : goal.returns
unfolding line
returns c =
    put_then (put_copy c.args.out.now c.args.at c.args.name.now _ c.copy.ensures)
    (put_then c.put_decimal-end.ensures (put_one c.put_decimal-end.new.out c.put_decimal-end.result 10))
