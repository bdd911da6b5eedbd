-- `judge_state` meets its contract.
use Rattle.fields.proofs.RangeLaws.{kept, broken}
use Rattle.state.proofs.StateLaws.{elements-refused, tanks-refused, tanks-tested, both-accepted}
use Rattle.state_rules.proofs.judge_state.Goals as goal

pub returns-then-not-state_fits : goal.returns-then-not-state_fits
returns-then-not-state_fits c =
    rw (elements-refused _ _ (broken c.state_fits.ensures c.if-not-state_fits.true))

pub returns-then-not-tanks_fit : goal.returns-then-not-tanks_fit
returns-then-not-tanks_fit c =
    let tanks = tanks-tested _ _ c.requires.1.0 c.requires.1.1 c.tanks_fit.ensures in
    rw (tanks-refused _ _ (broken tanks c.if-not-tanks_fit.true))

pub returns : goal.returns
returns c =
    let tanks = tanks-tested _ _ c.requires.1.0 c.requires.1.1 c.tanks_fit.ensures in
    rw (both-accepted _ _ (kept c.state_fits.ensures c.if-not-state_fits.false) (kept tanks c.if-not-tanks_fit.false))
