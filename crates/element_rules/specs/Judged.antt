-- Only serves the code: what rule 5 says of an element, with its kind, so that basins, dams and tanks are counted where they are judged.
use Rattle.std.specs.Prelude.{ℕ, cond, Option, None}
use Rattle.elements.specs.declared.Kind.{Kind}
use Rattle.elements.specs.declared.Element.{Element}
use Rattle.elements.specs.Rules.{element_fits}

-- its kind where it keeps the rule
unfoldable pub judged : ℕ → Element → Option Kind
judged T e = cond (element_fits T e) e.kind None
