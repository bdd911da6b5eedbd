-- `hold_dam` meets its contract.
use mathlib.Core.Path.{refl}
use native.Mathlib.Omega.{arith}
use Rattle.lead_walk.proofs.LeadsLaws.{leads-begin, leads-again, leads-done}
use Rattle.lead_walk.proofs.hold_dam.Goals as goal

pub loop-k-init : goal.loop-k-init
loop-k-init c = leads-begin _ _ _ _ _ _ c.requires.0.fits

pub loop-k-preserved : goal.loop-k-preserved
loop-k-preserved c =
    leads-again _ _ _ _ _ _ c.requires.0.places _ _ _ c.loop-k.invariant c.loop-k-test.true _ _ (c.hold_lead-old.ensures.at _) refl

pub returns : goal.returns
returns c = let l = c.loop-k in leads-done (omega (arith, l.invariant.few, c.loop-k-test.false)) l.invariant
