-- Document 01, Numbers for no, 8 and 9, and document 02, M-107.
use Rattle.std.specs.Prelude.{◌+◌, Bool, false, not, cond, ◌&&◌, leb, eqb, Option}
use Rattle.units.specs.Units.{C}
use Rattle.method.specs.declared.Figures.{Figures}
use Rattle.fields.specs.Ranges.{all_below}
use Rattle.elements.specs.Kinds.{tanks, by_kind, same_kind}
use Rattle.table.specs.Tables.{TableValues}
use Rattle.table.specs.KindCounts.{extra_count}
use Rattle.state.specs.declared.Rains.{Rains}
use Rattle.state.specs.States.{State, ElementState, elements_of, steps_of, figures_of, place_of}
use Rattle.elements.specs.declared.Kind.{Kind}

-- "a number above C"
unfoldable pub figures_fit : Figures → Bool
figures_fit f =
    ((leb f.discharge.0 C && leb f.discharge_margin.0 C) && leb f.variance.0 C)
    && leb f.variance_margin.0 C

-- "a basin's rain above 3,000"
unfoldable pub rains_fit : Rains → Bool
rains_fit r = (leb r.first 3000 && leb r.second 3000) && leb r.third 3000

-- the place of an element: "A reach's rain places, if kept, are neither read nor changed."; M-100: a dam's "rain places are as a reach's";
-- M-107: of tanks it is the last one's
unfoldable pub place_fits : Option Kind → ElementState → Bool
place_fits kind p =
    cond (same_kind kind tanks) (figures_fit p.figures)
    (by_kind kind (figures_fit p.figures && rains_fit p.rains) (figures_fit p.figures) (figures_fit p.figures) false)

-- 8: "The state has another N, a step count above 10,000, or, in its first N elements, a number above C or a basin's rain
-- above 3,000."; M-107: "rules 8 and 16 cover the numbers of the tanks in use", the others than an element's last after the N elements
unfoldable pub elements_fit : TableValues → State → Bool
elements_fit t s =
    (eqb (elements_of s) t.elements && leb (steps_of s) 10000)
    && all_below (λ i. place_fits (t.element i).kind (place_of s i)) t.elements

unfoldable pub tanks_fit : TableValues → State → Bool
tanks_fit t s = all_below (λ x. figures_fit (figures_of s (t.elements + x))) (extra_count t)

unfoldable pub state_fits : TableValues → State → Bool
state_fits t s = elements_fit t s && tanks_fit t s

-- 9: "The state's step count is 10,000 already."
unfoldable pub steps_left : State → Bool
steps_left s = not (eqb (steps_of s) 10000)
