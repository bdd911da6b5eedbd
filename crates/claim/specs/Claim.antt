-- The mission's third property. Document 01, The run in fractions: "Each discharge and variance among them is compared with the
-- other run's at the same element, step count and lead: the larger less the smaller is at most the margin".
use Rattle.std.specs.Prelude.{ℕ, ◌+◌, ◌*◌, ◌≤◌, Bool, false, List, [], ◌∷◌, map, ◌≡◌}
use Rattle.method.specs.declared.Figures.{Figures}
use Rattle.exact.specs.Fraction.{Within}
use Rattle.exact.specs.Exact.{ExactFigures}
use Rattle.table.specs.Tables.{TableValues}
use Rattle.table.specs.InUse.{table_in}
use Rattle.cells.specs.Cells.{last_number, cells}
use Rattle.state.specs.States.{State}
use Rattle.network.specs.Step.{network_down}
use Rattle.exact_run.specs.ExactRun.{exact_started}
use Rattle.exact_run.specs.Limit.{at_or_above, NoReading}
use Rattle.claim.specs.Calls.{Call, Place, paired}
use Rattle.claim.specs.CabinetRun.{Outcome, cabinet_run, start_outcome}
use Rattle.claim.specs.FractionRun.{exact_state_handed, fraction_run}

-- two lists of the same length whose members stand in a relation, one to one
pub data Pairwise {A B : Type 0} (R : A → B → Type 0) : List A → List B → Type 0 where
  none : Pairwise R [] []
  more : {a : A} {b : B} {rest : List A} {others : List B} → R a b → Pairwise R rest others → Pairwise R (a ∷ rest) (b ∷ others)

-- what holds of every member of a list
pub data All {A : Type 0} (P : A → Type 0) : List A → Type 0 where
  none : All P []
  more : {a : A} {rest : List A} → P a → All P rest → All P (a ∷ rest)

-- "a discharge by its discharge margin, a variance by its variance margin"
pub record WithinMargins (cabinet : Place × Figures) (fractions : Place × ExactFigures) : Type 0 where
  pub place : cabinet.0 ≡ fractions.0
  pub discharge :
      Within cabinet.1.discharge.0 fractions.1.discharge cabinet.1.discharge_margin.0
  pub variance : Within cabinet.1.variance.0 fractions.1.variance cabinet.1.variance_margin.0

-- the mission: "where no reading has come in at or above an element, its discharge margin after n steps and leads is at most
-- 16 × n × c, c being the elements at or above it"; "The mission's n is the step count plus the lead."; M-107, of tanks: "in the margin
-- limit c counts them"
unfoldable pub UnderLimit : TableValues → (ℕ → Bool) → Place × Figures → Type 0
UnderLimit t has_reading (place, figures) =
    NoReading t.elements (network_down t) has_reading place.element
    → figures.discharge_margin.0
    ≤ 16 * (place.steps + place.lead) * at_or_above (cells t).elements (network_down (cells t)) (last_number t place.element)

-- all outcomes of the cabinet's run on a table's bytes from the state s that a start left, the start's own first
unfoldable pub outcomes : List ℕ → State → List Call → List Outcome
outcomes table s calls = start_outcome table s ∷ cabinet_run table s (λ k. false) calls

-- all that the run in fractions hands out
unfoldable pub fractions : List ℕ → State → List Call → List (List (Place × ExactFigures))
fractions table s calls =
    let t : TableValues = table_in table in
    exact_state_handed t (exact_started (cells t))
    ∷ fraction_run t (exact_started (cells t)) (paired calls (map (λ (o : Outcome). o.was_refused) (cabinet_run table s (λ k. false) calls)))

-- "This is a single claim about the whole list, and not one for each call."
pub record Claim (table : List ℕ) (s : State) (calls : List Call) : Type 0 where
  pub near :
      Pairwise (λ (o : Outcome) (x : List (Place × ExactFigures)). Pairwise WithinMargins o.handed x)
      (outcomes table s calls) (fractions table s calls)
  pub limit : All (λ (o : Outcome). All (UnderLimit (table_in table) o.has_reading) o.handed) (outcomes table s calls)
