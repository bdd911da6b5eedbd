-- Document 01, The run in fractions: "This run is fed the table, the cabinet's calls in order with each step's record, and of
-- their answers only whether a call was refused; refused calls it skips."; document 02, M-107: it "has the same tanks", and hands out the last.
use Rattle.std.specs.Prelude.{◌+◌, Bool, true, false, List, [], ◌∷◌}
use Rattle.exact.specs.Exact.{ExactFigures}
use Rattle.table.specs.Tables.{TableValues}
use Rattle.cells.specs.Cells.{last_cell, cells}
use Rattle.network.specs.Answer.{listed, by_element_and_lead}
use Rattle.exact_run.specs.ExactForecast.{ExactState, exact_lead_figures}
use Rattle.exact_run.specs.ExactRun.{exact_stepped}
use Rattle.claim.specs.Calls.{Call, step, forecast, Place, state_places, forecast_places, paired}

module _ (t : TableValues) where
  unfoldable pub exact_state_handed : ExactState → List (Place × ExactFigures)
  exact_state_handed x = paired (state_places t x.steps) (listed (λ i. x.figures (last_cell t i)) t.elements)

  unfoldable pub exact_forecast_handed : ExactState → List (Place × ExactFigures)
  exact_forecast_handed x =
      paired (forecast_places t x.steps) (by_element_and_lead (λ i lead. exact_lead_figures (cells t) x lead (last_cell t i)) t.elements (t.leads + 1))

  -- "a step moves them, and a forecast works its leads from them and leaves them"
  unfoldable pub exact_next : Call → Bool → ExactState → ExactState
  exact_next call true x = x
  exact_next (step bytes) false x = exact_stepped (cells t) bytes x
  exact_next (forecast room) false x = x

  unfoldable pub exact_handed : Call → Bool → ExactState → List (Place × ExactFigures)
  exact_handed call true x = []
  exact_handed (step bytes) false x = exact_state_handed (exact_stepped (cells t) bytes x)
  exact_handed (forecast room) false x = exact_forecast_handed x

  -- each call comes with whether it was refused
  unfoldable pub fraction_run : ExactState → List (Call × Bool) → List (List (Place × ExactFigures))
  fraction_run x [] = []
  fraction_run x (c ∷ calls) = exact_handed c.0 c.1 x ∷ fraction_run (exact_next c.0 c.1 x) calls
