-- `put_decimal` meets its contract.
use native.Mathlib.Omega.{arith}
use Rattle.text.proofs.PlacesLaws.{text-same, text-then}
use Rattle.figure_text.proofs.GroupLaws.{upper-and-last}
use Rattle.figure_text.proofs.put_decimal.Goals as goal

pub returns : goal.returns
returns c =
    let p = c.put_upper.ensures in
    let q = c.put_last_digits.ensures in
    (text-same (upper-and-last _ c.if-x-lt10000.false (omega arith)) (text-then p.0 q.0), omega (arith, p.1, q.1))
