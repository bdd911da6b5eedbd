-- The proof of `put_digits`, which calls itself: the measure is the number.
use native.Mathlib.Omega.{arith}
use Rattle.text.proofs.DecimalLaws.{decimal-1, decimal-more, length-1, length_more}
use Rattle.text.proofs.PlacesLaws.{text-same, text-then}
use Rattle.text.proofs.TextSpace.+put_digits.Goals as goal

pub put_byte-requires : goal.put_byte-requires
put_byte-requires t c = omega (arith, length-1 c.args.x c.if-x-lt10.true)

pub returns-then-x-lt10 : goal.returns-then-x-lt10
returns-then-x-lt10 t c = text-same (decimal-1 c.args.x c.if-x-lt10.true) c.put_byte.ensures

pub put_digits-requires : goal.put_digits-requires
put_digits-requires t c =
    let h = length_more c.args.x c.if-x-lt10.false (omega (arith, c.ranges.x)) in
    (omega (arith, c.if-x-lt10.false), omega (arith, h))

pub put_byte-requires-2 : goal.put_byte-requires-2
put_byte-requires-2 t c =
    let h = length_more c.args.x c.if-x-lt10.false (omega (arith, c.ranges.x)) in
    omega (arith, h, c.put_digits.ensures.put.ends)

pub returns : goal.returns
returns t c =
    text-same (decimal-more c.args.x c.if-x-lt10.false (omega (arith, c.ranges.x))) (text-then c.put_digits.ensures c.put_byte-2.ensures)
