-- `put_small` meets its contract.
use Prim.Native.Nat.{◌+◌, ◌≤◌}
use native.Mathlib.Omega.{arith}
use Rattle.text.specs.Decimal.{decimal}
use Rattle.text.specs.Places.{TextPut}
use Rattle.text.proofs.DecimalLaws.{decimal-1, decimal-2}
use Rattle.text.proofs.PlacesLaws.{text-same, text-then}
use Rattle.text.proofs.TextSpace.put_small.Goals.{then-x-lt10, else-x-lt10}
use Rattle.text.proofs.TextSpace.put_small.Goals as goal

pub returns : goal.returns
returns c =
    let digits : TextPut c.args.self.now (decimal c.args.x) c.if-x-lt10.self × (c.if-x-lt10.self.at ≤ c.args.self.now.at + 2) =
    elim c.if-x-lt10.branch [
      | then-x-lt10 w ↦ rw w.self-is (text-same (decimal-1 c.args.x w.if-x-lt10.true) w.put_byte.ensures, omega (arith, w.put_byte.ensures.put.ends))
      | else-x-lt10 w ↦ rw w.self-is (text-same (decimal-2 c.args.x w.if-x-lt10.false c.requires.0) w.put_last_digits.ensures.0, omega (arith, w.put_last_digits.ensures.1))
    ] in
    let q = c.put_byte-2.ensures in
    (text-then digits.0 q, omega (arith, digits.1, q.put.ends))
