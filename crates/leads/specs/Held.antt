-- Serves the code: what a forecast relies on, and what it leaves in lent space.
use Rattle.refusal.specs.declared.Refusal.{Refusal}
use Rattle.std.specs.Prelude.{ℕ, ◌+◌, ◌*◌, ◌≤◌, List, ◌≡◌, length, take, drop, Result}
use Rattle.sizes.specs.Sizes.{most_elements, answer_numbers, forecast_places}
use Rattle.refusal.specs.Answers.{accepted, answer_of}
use Rattle.method.specs.declared.Figures.{Figures}
use Rattle.table.specs.Tables.{TableValues}
use Rattle.table.specs.Bounds.{AcceptedTable}
use Rattle.table.specs.InUse.{table_in}
use Rattle.state.specs.States.{State}
use Rattle.state.specs.Bounds.{StateBounds}
use Rattle.network.specs.Answer.{leads_answer}
use Rattle.network.specs.Lent.{count_written, Lent}
use Rattle.network_leads.specs.Worked.{space_size}

-- the places of the answer, and its numbers
abbrev pub answer_places : TableValues → ℕ
answer_places t = t.elements * (t.leads + 1)

abbrev pub answer_size : TableValues → ℕ
answer_size t = 4 * t.elements * (t.leads + 1)

-- N, L and T of an accepted table, and a state that rule 8 accepts
pub record ForecastGiven (bytes : List ℕ) (n L T : ℕ) (s : State) : Type 0 where
  pub table : AcceptedTable bytes
  pub elements : n ≡ (table_in bytes).elements
  pub leads : L ≡ (table_in bytes).leads
  pub step : T ≡ (table_in bytes).step
  pub state : StateBounds (table_in bytes) s

-- what is given to a forecast, with so many numbers for weights, so many places to work in, and so many numbers lent for its answer
pub record CopyReady (bytes : List ℕ) (n L T : ℕ) (s : State) (own room lent : ℕ) : Type 0 where
  pub given : ForecastGiven bytes n L T s
  pub weights : (table_in bytes).elements ≤ own
  pub space : space_size (table_in bytes) ≤ room
  pub answer : answer_size (table_in bytes) ≤ lent

-- the sizes of a space: so many weights, and so many places to work in
pub record SpaceGiven (own room : ℕ) : Type 0 where
  pub own_most : own ≤ most_elements
  pub room_most : room ≤ forecast_places

-- the count of numbers, and the lent numbers, in which the answer is laid out where no number passes the ceiling
abbrev pub Copied : Result ℕ Refusal → TableValues → State → List ℕ → List ℕ → Type 0
Copied r t s before after = Lent r after (leads_answer t s (length before)) before

-- a forecast in lent space, in which the answer begins after the places of what leaves the river: the count, and the answer's figures
-- where it is accepted; what the space then holds elsewhere, and what it holds where it is refused, is left open
pub record ForecastHeld (r : Result ℕ Refusal) (space : List Figures) (t : TableValues) (s : State) : Type 0 where
  pub count : answer_of r ≡ count_written (leads_answer t s answer_numbers)
  pub figures :
      (fs : List Figures) → leads_answer t s answer_numbers ≡ accepted fs → take (length fs) (drop (t.leads + 1) space) ≡ fs
