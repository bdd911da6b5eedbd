-- `store_tank` meets its contract.
use native.Mathlib.Omega.{arith}
use Rattle.lead_walk.proofs.LeadsLaws.{leads-begin, leads-refused, leads-again, leads-done, element-accepted}
use Rattle.lead_walk.proofs.store_tank.Goals as goal

pub loop-k-init : goal.loop-k-init
loop-k-init c = leads-begin _ _ _ _ _ _ c.requires.fits

pub returns-in_err-old : goal.returns-in_err-old
returns-in_err-old c =
    leads-refused _ _ _ _ _ _ c.requires.places _ _ _ c.loop-k.invariant c.loop-k-test.true _ _ (c.tank_lead.ensures.at _)
    c.in_err-old.was c.from_residual.ensures.1

pub loop-k-preserved : goal.loop-k-preserved
loop-k-preserved c =
    leads-again _ _ _ _ _ _ c.requires.places _ _ _ c.loop-k.invariant c.loop-k-test.true _ _ (c.tank_lead.ensures.at _)
    c.in_ok-old.was

pub returns : goal.returns
returns c =
    let l = c.loop-k in element-accepted (leads-done (omega (arith, l.invariant.few, c.loop-k-test.false)) l.invariant)
