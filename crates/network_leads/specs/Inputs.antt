-- Serves the code: what the leads of one element are worked out from.
use Rattle.std.specs.Prelude.{ℕ, ◌≤◌, ◌<◌, List, ◌≡◌, length, None, Option}
use Rattle.method.specs.Inflow.{mean_rain_inflow}
use Rattle.elements.specs.declared.Element.{Element}
use Rattle.elements.specs.Elements.{element_at}
use Rattle.elements.specs.Kinds.{by_kind}
use Rattle.table.specs.Bounds.{AcceptedTable}
use Rattle.table.specs.InUse.{table_in}
use Rattle.state.specs.States.{State, figures_of, rains_of}
use Rattle.state.specs.Bounds.{StateBounds}
use Rattle.one_lead.specs.declared.ElementInput.{ElementInput}
use Rattle.network.specs.Forecast.{rain_sum}
use Rattle.elements.specs.declared.Kind.{Kind}

-- what the code of it relies on, of an element, its kind, numbers with its weight, and a count of rains
pub record InputReady (bytes : List ℕ) (s : State) (i : ℕ) (kind : Option Kind) (weight : List ℕ) (count : ℕ) : Type 0 where
  pub table : AcceptedTable bytes
  pub used : i < (table_in bytes).elements
  pub is : kind ≡ (element_at bytes i).kind
  pub weighed : i < length weight
  pub state : StateBounds (table_in bytes) s
  pub few : count ≤ 3

-- an element, its weight and its own number: "leads 1 to L are steps without readings"
abbrev pub input_of : Element → ℕ → ℕ → ElementInput
input_of e weight own = record { element = e; weight = weight; own = own; first_lead = 1; observation = None }

-- the inflow that a basin's last rains bring, the discharge that the state holds of a dam
unfoldable pub own_number : Element → ℕ → State → ℕ → ℕ
own_number e count s i =
    by_kind e.kind (mean_rain_inflow (rain_sum (rains_of s i) count) count e.area e.runoff) 0 (figures_of s i).discharge.0 0

unfoldable pub lead_input : Element → ℕ → ℕ → State → ℕ → ElementInput
lead_input e weight count s i = input_of e weight (own_number e count s i)
