-- `put_element` meets its contract.
use Prim.Native.Nat.{◌+◌, ◌*◌}
use native.Mathlib.Omega.{arith}
use lib.ListN.{get_or}
use Rattle.std.proofs.Common.{rules}
use Rattle.method.specs.Inflow.{no_inflow}
use Rattle.lines.specs.Starts.{line_after, lines_after}
use Rattle.lines.proofs.PrintedLaws.{joined-none, joined-more, element-put}
use Rattle.lines.proofs.put_element.Goals as goal

pub loop-lead-init : goal.loop-lead-init
loop-lead-init c = (omega arith, (omega arith, joined-none _ _))

pub loop-lead-preserved : goal.loop-lead-preserved
unfolding no_inflow
loop-lead-preserved c =
    let l = c.loop-lead in
    let p = c.put_line.ensures in
    (omega arith, (omega (arith, p.1), joined-more _ _ l.invariant.1.1 p.0))

pub returns : goal.returns
unfolding lines_after
returns c =
    let l = c.loop-lead in
    element-put (λ start lead. line_after start lead (get_or c.args.figures.now (c.args.i * c.args.leads + lead) no_inflow)) _ _ c.put_small.ensures.0 (omega arith) (search rules) l.invariant.1.1 (omega arith) l.invariant.1.0
