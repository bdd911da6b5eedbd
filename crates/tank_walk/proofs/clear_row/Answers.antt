-- `clear_row` meets its contract.
use Rattle.std.proofs.Common.{rules}
use Rattle.std.proofs.lemmas.List.{places}
use Rattle.method.specs.Inflow.{no_inflow}
use Rattle.tank_walk.proofs.PutLaws.{row-cleared}
use Rattle.tank_walk.proofs.clear_row.Goals as goal

pub returns : goal.returns
unfolding no_inflow
returns c =
    let h = c.fill.ensures in
    let long = c.fill.ensures.len in
    row-cleared _ _ _ _ (λ k l. search (rules, places)) (λ k l. search (rules, places)) (λ k l m. search (rules, places, h.clones))
