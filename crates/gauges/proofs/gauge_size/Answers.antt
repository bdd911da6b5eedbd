-- `gauge_size` meets its contract.
use Rattle.gauges.specs.Gauges.{table_version}
use Rattle.gauges.proofs.GaugeLaws.{size-counted}
use Rattle.gauges.proofs.gauge_size.Goals as goal

pub returns : goal.returns
unfolding table_version
returns c = rw c.from.ensures (size-counted _ c.requires)
