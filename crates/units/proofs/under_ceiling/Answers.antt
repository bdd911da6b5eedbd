-- `under_ceiling` meets its contract.
use mathlib.Core.Path.{sym, ◌∙◌}
use Rattle.units.proofs.CeilingLaws.{passes, stays, none_left}
use Rattle.units.proofs.under_ceiling.Goals as goal

pub returns-then-count-gt-CEILING : goal.returns-then-count-gt-CEILING
returns-then-count-gt-CEILING g c = sym (passes _ _ _ c.if-count-gt-CEILING.true)

pub returns : goal.returns
returns g c = sym (stays _ _ _ c.if-count-gt-CEILING.false ∙ none_left _)
