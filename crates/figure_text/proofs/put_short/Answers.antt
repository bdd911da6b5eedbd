-- `put_short` meets its contract.
use native.Mathlib.Omega.{arith}
use Rattle.text.proofs.DecimalLaws.{decimal-1, decimal-2, decimal-4}
use Rattle.text.proofs.PlacesLaws.{text-same, put_same, put-ends, put-fewer}
use Rattle.figure_text.proofs.GroupLaws.{first-three}
use Rattle.figure_text.proofs.put_short.Goals as goal

pub returns-then-v-lt10 : goal.returns-then-v-lt10
returns-then-v-lt10 c =
    let p = c.put_byte.ensures in (text-same (decimal-1 c.args.v (omega arith)) p, omega (arith, p.put.ends))

pub returns-then-v-lt100 : goal.returns-then-v-lt100
returns-then-v-lt100 c =
    let p = c.put_last_digits.ensures in (text-same (decimal-2 c.args.v (omega arith) (omega arith)) p.0, omega (arith, p.1))

pub returns-then-v-lt1000 : goal.returns-then-v-lt1000
returns-then-v-lt1000 c =
    let p = c.put_last_digits-then-v-lt1000.ensures in
    let e = first-three c.args.v (omega arith) (omega arith) in (
      record {
        put = put_same e (put-ends (put-fewer 3 p.0.put (omega arith) (omega (arith, p.1, p.0.put.ends))) (omega (arith, p.1)));
        same = p.0.same;
        room = p.0.room;
      },
      omega (arith, p.1),
    )

pub returns : goal.returns
returns c =
    let p = c.put_last_digits-2.ensures in (text-same (decimal-4 c.args.v (omega arith) (omega arith)) p.0, omega (arith, p.1))
