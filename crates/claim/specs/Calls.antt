-- Document 01, The run in fractions: the mission's list of calls, and where its figures stand.
use Rattle.std.specs.Prelude.{ℕ, ◌+◌, List, [], ◌∷◌}
use Rattle.table.specs.Tables.{TableValues}
use Rattle.network.specs.Answer.{listed, by_element_and_lead}

-- a call after the start: the bytes of a step's record, or how many numbers a forecast's lent space holds;
-- "all calls of the list take [the table] unchanged"
pub data Call : Type 0 where
  step : List ℕ → Call
  forecast : ℕ → Call

-- "at the same element, step count and lead"; elements by their numbers, from 1
pub record Place : Type 0 where
  pub steps : ℕ
  pub element : ℕ
  pub lead : ℕ

-- "the figures of the first N elements in the state .., as lead 0"
unfoldable pub state_places : TableValues → ℕ → List Place
state_places t steps = listed (λ i. record { steps = steps; element = i + 1; lead = 0 }) t.elements

-- "all that an accepted forecast answers": by element and then lead 0 to L
unfoldable pub forecast_places : TableValues → ℕ → List Place
forecast_places t steps =
    by_element_and_lead (λ i lead. record { steps = steps; element = i + 1; lead = lead }) t.elements (t.leads + 1)

-- two lists side by side
unfoldable pub paired : {A B : Type 0} → List A → List B → List (A × B)
paired [] others = []
paired (a ∷ rest) [] = []
paired (a ∷ rest) (b ∷ others) = (a, b) ∷ paired rest others
