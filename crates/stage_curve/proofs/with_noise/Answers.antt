-- `with_noise` meets its contract.
use Rattle.std.proofs.Common.{rules}
use mathlib.Core.Path.{ap, subst}
use Rattle.refusal.specs.Answers.{answer_of}
use Rattle.rating.specs.Noise.{with_noise}
use Rattle.rating.specs.Bounds.{RatingFits}
use Rattle.gauges.specs.Gauges.{gauge_from}
use Rattle.gauges.specs.Looks.{look_by}
use Rattle.gauges.proofs.GaugeLaws.{noise-read}
use Rattle.stage_curve.proofs.with_noise.Goals as goal

pub noise_of-requires : goal.noise_of-requires
unfolding RatingFits
noise_of-requires c =
    let p = c.requires in
    (noise-read _ _ c.whole32.ensures.0 c.beta_at-beta.ensures p.0.1.noise, subst RatingFits (ap answer_of c.in-Ok.is) p.1)

pub returns-in-Ok : goal.returns-in-Ok
unfolding look_by with_noise gauge_from
returns-in-Ok c = search rules

pub returns-in-Err : goal.returns-in-Err
unfolding look_by with_noise
returns-in-Err c = search rules
