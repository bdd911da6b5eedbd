-- Serves the code: what a step works one element out of, and how it counts basins and dams on the way.
use Rattle.rating.specs.declared.RatedReading.{RatedReading}
use Rattle.std.specs.Prelude.{ℕ, ◌+◌, ◌*◌, ◌≤◌, List, ◌≡◌, length, Option}
use Rattle.method.specs.Inflow.{mean_rain_inflow}
use Rattle.elements.specs.declared.Element.{Element}
use Rattle.elements.specs.Elements.{element_at}
use Rattle.elements.specs.Kinds.{basin, dam, by_kind, basin_of, dam_of}
use Rattle.record.specs.Records.{rain_at, release_at}
use Rattle.one_lead.specs.declared.ElementInput.{ElementInput}
use Rattle.network_step.specs.declared.Passed.{Passed}
use Rattle.network_step.specs.declared.StepInput.{StepInput}
use Rattle.elements.specs.declared.Kind.{Kind}

-- an element with its weight, its own number, lead 0, and what its gauge observed
unfoldable pub input_of : Element → ℕ → ℕ → Option RatedReading → ElementInput
input_of e weight own o = record { element = e; weight = weight; own = own; first_lead = 0; observation = o }

-- its own number: the inflow of a basin's rain, a dam's release, where `passed` come before it and b rains stand in the record
unfoldable pub own_number : Element → List ℕ → ℕ → Passed → ℕ
own_number e bytes b passed =
    by_kind e.kind (mean_rain_inflow (rain_at bytes passed.basins) 1 e.area e.runoff) 0 (release_at bytes b passed.dams) 0

-- basins and dams with one element more
unfoldable pub passed_by : Option Kind → Passed → Passed
passed_by kind passed = record { basins = passed.basins + basin_of kind; dams = passed.dams + dam_of kind }

-- element i, by the bytes of the table and of the record
unfoldable pub step_input : List ℕ → ℕ → ℕ → List ℕ → ℕ → Passed → Option RatedReading → StepInput
step_input table i weight bytes b passed o =
    let e = element_at table i in
    record { input = input_of e weight (own_number e bytes b passed) o; passed = passed_by e.kind passed }

-- what the code of it relies on
pub record StepInputReady (table : List ℕ) (i : ℕ) (bytes : List ℕ) (b : ℕ) (passed : Passed) : Type 0 where
  pub there : (i ≤ 1000) × (26 * i + 36 ≤ length table)
  pub rain : (element_at table i).kind ≡ basin → 2 * passed.basins + 5 ≤ length bytes
  pub rain_most : (element_at table i).kind ≡ basin → rain_at bytes passed.basins ≤ 3000
  pub release : (element_at table i).kind ≡ dam → 2 * b + 4 * passed.dams + 7 ≤ length bytes
  pub few : (passed.basins ≤ i) × (passed.dams ≤ i)
  pub area : (element_at table i).area ≤ 400000
  pub runoff : (element_at table i).runoff ≤ 1000
