-- `put_number` meets its contract.
use native.Mathlib.Omega.{arith}
use Rattle.text.proofs.DecimalLaws.{decimal-short}
use Rattle.text.proofs.PlacesLaws.{text-then}
use Rattle.text.proofs.TextSpace.put_number.Goals as goal

pub put_digits-requires : goal.put_digits-requires
put_digits-requires c = omega (arith, decimal-short c.args.x)

pub put_byte-requires : goal.put_byte-requires
put_byte-requires c = omega (arith, decimal-short c.args.x, c.put_digits.ensures.put.ends)

pub returns : goal.returns
returns c =
    let p = c.put_digits.ensures in
    let q = c.put_byte.ensures in
    (text-then p q, omega (arith, decimal-short c.args.x, p.put.ends, q.put.ends))
