-- `put_figures` meets its contract.
use native.Mathlib.Omega.{arith}
use Rattle.lines.proofs.PrintedLaws.{figures-put}
use Rattle.lines.proofs.put_figures.Goals as goal

pub returns : goal.returns
returns c = (
  figures-put c.args.figures c.put_figure.ensures.0 c.put_figure-2.ensures.0 c.put_figure-3.ensures.0 c.put_figure-4.ensures.0,
  omega arith,
)
