-- `work_weight` meets its contract.
use native.Mathlib.Omega.{arith}
use Rattle.element_weights.proofs.WeightsLaws.{lag-bounds, weight-worked, no-weight}
use Rattle.element_weights.proofs.work_weight.Goals as goal

pub returns-then-lag-eq0 : goal.returns-then-lag-eq0
returns-then-lag-eq0 c = (no-weight _ _ c.requires c.lag_at-lag.ensures c.if-lag-eq0.true, omega arith)

pub series_weight-requires : goal.series_weight-requires
series_weight-requires c = lag-bounds _ _ c.requires c.lag_at-lag.ensures c.if-lag-eq0.false

pub returns : goal.returns
returns c =
    (weight-worked _ _ c.requires c.lag_at-lag.ensures c.if-lag-eq0.false c.series_weight.ensures.0, c.series_weight.ensures.1)
