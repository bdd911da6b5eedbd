-- `in_space` meets its contract.
use Rattle.method.specs.Inflow.{no_inflow}
use Rattle.leads.proofs.AnswerLaws.{zeros-ready}
use Rattle.leads.proofs.in_space.Goals as goal

pub copy_out-requires : goal.copy_out-requires
unfolding no_inflow
copy_out-requires g c = zeros-ready c.requires.1
