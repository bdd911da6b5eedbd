-- The loop of `put_element`.
use Prim.Native.Nat.{ℕ, ◌+◌, ◌*◌, ◌≤◌}
use mathlib.Core.List.{List}
use lib.ListN.{take, get_or}
use Rattle.method.specs.declared.Figures.{Figures}
use Rattle.method.specs.Inflow.{no_inflow}
use Rattle.text.specs.Places.{TextPut}
use Rattle.lines.specs.Printed.{joined}
use Rattle.lines.specs.Starts.{line_after}
use Rattle.lines.proofs.put_element.Given as goal

abbrev pub line_of : List ℕ → ℕ → ℕ → List Figures → ℕ → List ℕ
line_of start i leads figures lead = line_after start lead (get_or figures (i * leads + lead) no_inflow)

abbrev pub invariant-loop-lead : goal.invariant-loop-lead
invariant-loop-lead l =
    (l.lead ≤ l.leads) × ((l.text.at ≤ l.initial.text.at + 147 * l.lead) × TextPut l.initial.text (joined (line_of (take l.size l.start) l.i l.leads l.figures) l.lead) l.text)
