-- `lead_input` meets its contract.
use mathlib.Core.Path.{◌≡◌}
use native.Mathlib.Omega.{arith}
use Rattle.std.proofs.Common.{rules}
use Rattle.elements.specs.Kinds.{basin}
use Rattle.table.proofs.HeldLaws.{element-bounds}
use Rattle.network_leads.proofs.InputLaws.{basin-rains}
use Rattle.network_leads.proofs.lead_input.Goals as goal

pub sum_of-sum-requires : goal.sum_of-sum-requires
sum_of-sum-requires c =
    let p = c.requires in
    let k : c.args.kind ≡ basin = search rules in
    (omega (arith, p.used, p.table.bounds.elements_most), (p.few, basin-rains _ p.table p.used _ p.state p.is k))

pub mean_rain_inflow-requires : goal.mean_rain_inflow-requires
mean_rain_inflow-requires c =
    let p = c.requires in
    let e = element-bounds _ p.table p.used in
    let is = c.element_at-element.ensures in
    (c.sum_of-sum.ensures.1, (p.few, (rw is e.area, rw is e.runoff)))
