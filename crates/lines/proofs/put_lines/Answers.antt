-- `put_lines` meets its contract.
use mathlib.Core.Path.{◌≡◌, refl, ◌∙◌}
use Rattle.std.proofs.Common.{rules}
use native.Mathlib.Omega.{arith}
use Rattle.text.proofs.PlacesLaws.{text-same, text-lent}
use Rattle.lines.specs.Printed.{answer_lines}
use Rattle.lines.proofs.PrintedLaws.{joined-none, joined-more, joined-all, rows-within, lines_start}
use Rattle.lines.proofs.put_lines.Goals as goal

pub loop-i-init : goal.loop-i-init
loop-i-init c =
    let p = c.put_number.ensures.0 in (omega arith, (omega arith, (joined-none _ _, (search rules, search rules))))

pub loop-i-preserved : goal.loop-i-preserved
loop-i-preserved c =
    let l = c.loop-i in
    let text = l.invariant.1.1.1.1 in
    let e = c.put_element.ensures in
    let rows = rows-within _ _ c.args.leads c.loop-i-test.true in (
      omega arith,
      (
        omega arith,
        (
          joined-more _ _ l.invariant.1.1.0 (text-same (lines_start _ _ _ _ _ text) e.text),
          (c.put_element.auto.start ∙ l.invariant.1.1.1.0, rw e.kept text),
        ),
      ),
    )

pub returns : goal.returns
unfolding answer_lines
returns c =
    let l = c.loop-i in
    let e : l.i ≡ c.args.elements = omega arith in
    (text-lent (joined-all _ _ _ e l.invariant.1.1.0) refl refl (search rules) refl refl, rw e at l.invariant.1.0)
