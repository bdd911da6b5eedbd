-- `answered` meets its contract.
use Rattle.machine.proofs.TurnLaws.{record-due}
use Rattle.machine.proofs.answered.Goals as goal

pub next_answered-requires : goal.next_answered-requires
next_answered-requires c =
    (c.requires.0, (c.requires.1.0, record-due _ c.requires.1.1 c.if-p.true))
