-- Serves the code: what it makes of the counts of an accepted table.
use Rattle.std.specs.Prelude.{◌+◌, ◌≤◌, ◌≡◌}
use Rattle.sizes.specs.Sizes.{most_elements, most_places, most_leads, most_gauges}
use Rattle.table.specs.declared.Counts.{Counts}
use Rattle.table.specs.Tables.{TableValues}
use Rattle.table.specs.KindCounts.{basin_count, dam_count, extra_count}
use Rattle.table.specs.Decoded.{CountsHeld}
use Rattle.river.specs.declared.TablePlan.{TablePlan}
use Rattle.river.specs.Replies.{plan_of}

-- counts that a table can have
pub record CountsSmall (counts : Counts) : Type 0 where
  pub elements : counts.elements ≤ most_elements
  pub leads : counts.leads ≤ most_leads
  pub gauges : counts.gauges ≤ most_gauges
  pub basins : counts.basins ≤ most_elements
  pub dams : counts.dams ≤ most_elements
  pub places : counts.elements + counts.extra ≤ most_places

-- what every table with these counts asks for
pub record PlanAsked (counts : Counts) (r : TablePlan) : Type 0 where
  pub of : (t : TableValues) → CountsHeld counts t → counts.basins ≡ basin_count t → counts.dams ≡ dam_count t → counts.extra ≡ extra_count t → r ≡ plan_of t
