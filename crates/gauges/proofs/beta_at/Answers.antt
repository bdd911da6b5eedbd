-- `beta_at` meets its contract.
use Rattle.std.proofs.Common.{rules}
use Rattle.gauges.specs.Gauges.{table_version, gauge_size, beta_at}
use Rattle.gauges.proofs.beta_at.Goals as goal

pub whole16-requires : goal.whole16-requires
unfolding table_version gauge_size
whole16-requires c = search rules

pub returns-then-wide-eq2 : goal.returns-then-wide-eq2
unfolding beta_at table_version
returns-then-wide-eq2 c = search rules

pub returns : goal.returns
unfolding beta_at table_version
returns c = search rules
