-- The loop of `put_lines`.
use Prim.Native.Nat.{◌+◌, ◌*◌, ◌≤◌}
use mathlib.Core.List.{[], ◌∷◌, ◌++◌}
use mathlib.Core.Path.{◌≡◌}
use lib.ListN.{length, take}
use Rattle.text.specs.Decimal.{decimal}
use Rattle.text.specs.Places.{TextPut}
use Rattle.lines.specs.Printed.{joined, element_lines}
use Rattle.lines.proofs.put_lines.Given as goal

abbrev pub invariant-loop-i : goal.invariant-loop-i
invariant-loop-i l = (l.i ≤ l.elements)
    × ((l.lines.at ≤ l.initial.lines.at + 147 * (l.i * l.leads))
    × (TextPut l.initial.lines (joined (element_lines l.steps l.leads l.figures) l.i) l.lines
    × ((length l.start ≡ 32) × (take l.size l.start ≡ decimal l.steps ++ 32 ∷ []))))
