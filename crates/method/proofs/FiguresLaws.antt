-- Figures under the ceiling: as estimates, of an answer, as numbers.
use Rattle.refusal.specs.declared.Refusal.{Refusal}
use Rattle.std.specs.Prelude.{Result, Ok}
use mathlib.Core.Path.{◌≡◌, subst}
use borrow.Author.Tests.{le-ltb}
use Rattle.units.specs.Ceiling.{some_passes}
use Rattle.units.proofs.UnderLaws.{Under, first_under}
use Rattle.method.specs.declared.Figures.{Figures}
use Rattle.method.specs.Figures.{figure_numbers, FiguresFit, AnsweredFiguresFit}

pub accepted-fits : {r : Result Figures Refusal} {x : Figures} → r ≡ Ok x → AnsweredFiguresFit r → FiguresFit x
unfolding AnsweredFiguresFit
accepted-fits e h = subst AnsweredFiguresFit e h

-- as numbers
pub figures-under : (f : Figures) → FiguresFit f → Under (figure_numbers f)
unfolding some_passes
figures-under f h =
    rw (le-ltb _ _ h.discharge, le-ltb _ _ h.discharge_margin, le-ltb _ _ h.variance, le-ltb _ _ h.variance_margin)

pub under-figures : (f : Figures) → Under (figure_numbers f) → FiguresFit f
under-figures f u =
    let q = first_under _ _ u in
    let e = first_under _ _ q.1 in
    let v = first_under _ _ e.1 in
    let d = first_under _ _ v.1 in
    record { discharge = q.0; discharge_margin = e.0; variance = v.0; variance_margin = d.0 }
