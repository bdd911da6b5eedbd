-- `put_refusal` meets its contract.
use native.Mathlib.Omega.{arith}
use Rattle.lines.proofs.PrintedLaws.{refusal-put}
use Rattle.lines.proofs.put_refusal.Goals as goal

pub returns : goal.returns
returns c =
    let p = c.put_number.ensures in
    let q = c.put_number-2.ensures in
    (refusal-put _ _ p.0 c.put_bytes.ensures q.0, omega (arith, p.1, c.put_bytes.ensures.put.ends, q.1))
