-- `lead_element` meets its contract.
use mathlib.Core.Path.{◌≡◌, refl, ◌∙◌}
use Rattle.std.proofs.Common.{rules}
use Rattle.elements.specs.Kinds.{basin, reach}
use Rattle.element_step.proofs.StepLaws.{move-alone, basin-answered, reach-answered}
use Rattle.element_step.proofs.lead_element.Goals as goal

pub returns-in-Some-Basin : goal.returns-in-Some-Basin
returns-in-Some-Basin c =
    let k : c.args.e.kind ≡ basin = search rules in (
      c.move_basin.ensures.0 ∙ (move-alone _ _ _ _ _ c.requires.1.0 ∙ basin-answered _ _ _ _ k refl),
      c.move_basin.ensures.1,
    )

pub returns-in-Some-Reach : goal.returns-in-Some-Reach
returns-in-Some-Reach c =
    let k : c.args.e.kind ≡ reach = search rules in (
      c.move_reach.ensures.0 ∙ (move-alone _ _ _ _ _ c.requires.1.0 ∙ reach-answered _ _ _ _ k),
      c.move_reach.ensures.1,
    )
