-- The loop of `judge_elements`.
use Prim.Native.Nat.{◌*◌, ◌≤◌}
use mathlib.Core.Bool.{true}
use mathlib.Core.Path.{◌≡◌}
use Rattle.fields.specs.Ranges.{all_below}
use Rattle.elements.specs.Elements.{element_at}
use Rattle.elements.specs.Rules.{element_fits, down_fits}
use Rattle.table.specs.Tables.{table_of}
use Rattle.table.specs.KindCounts.{basins_before, dams_before, extra_before}
use Rattle.table_reader.proofs.judge_elements.Given as goal

abbrev pub invariant-loop-i : goal.invariant-loop-i
invariant-loop-i l = ((l.i ≤ l.n) × ((l.basins ≤ l.i) × ((l.dams ≤ l.i) × (l.extra ≤ 7 * l.i))))
    × ((all_below (λ k. element_fits l.step (element_at l.table k)) l.i ≡ true)
    × ((l.later ≡ all_below (down_fits l.n (element_at l.table)) l.i)
    × ((l.basins ≡ basins_before (table_of l.table) l.i)
    × ((l.dams ≡ dams_before (table_of l.table) l.i) × (l.extra ≡ extra_before (table_of l.table) l.i)))))
