-- `put_line` meets its contract.
use native.Mathlib.Omega.{arith}
use lib.Seq.{length-take-le}
use Rattle.lines.proofs.PrintedLaws.{line-put}
use Rattle.lines.proofs.put_line.Goals as goal

pub returns : goal.returns
returns c =
    let k = length-take-le c.args.size c.args.start.now (omega (arith, c.requires.whole, c.requires.few)) in (
      line-put _ _ _ c.put_start.ensures c.put_small.ensures.0 c.put_figures.ensures.0,
      omega (arith, c.requires.few, c.put_start.ensures.put.ends, c.put_small.ensures.1, c.put_figures.ensures.1, k),
    )
