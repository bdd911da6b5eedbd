-- Serves the code: what it relies on at the tanks of one element above its last, and what it has worked out.
use Prim.{Unit}
use Rattle.std.specs.Prelude.{ℕ, ◌+◌, ◌*◌, ◌≤◌, ◌<◌, cond, List, ◌≢◌, ◌≡◌, eqb, length, Result, Ok, Err, None}
use Rattle.sizes.specs.Sizes.{most_places, most_leads}
use Rattle.refusal.specs.declared.Refusal.{Refusal}
use Rattle.units.specs.Units.{C, S}
use Rattle.method.specs.declared.Figures.{Figures}
use Rattle.method.specs.Figures.{FiguresFit}
use Rattle.method.specs.Inflow.{no_inflow}
use Rattle.state.specs.States.{State, figures_of}
use Rattle.answer_space.specs.Places.{figures_at}
use Rattle.one_lead.specs.declared.ElementInput.{ElementInput}
use Rattle.one_lead.specs.Worked.{tank_input}
use Rattle.lead_walk.specs.Worked.{Apart, ElementWorked}
use Rattle.tank_walk.specs.declared.TankPlaces.{TankPlaces}

-- the place of tank j, from 0, of an element with so many tanks above its last, which stands at the element's own
unfoldable pub tank_place : TankPlaces → ℕ → ℕ → ℕ
tank_place p extra j = cond (eqb j extra) p.own (p.first + j * p.width)

pub record PlaceFits (p : TankPlaces) (extra j : ℕ) : Type 0 where
  pub few : j ≢ extra → p.first + j * p.width ≤ 1000000

-- so many places from one on have nothing in them, and no other place has changed
pub record RowCleared (place leads : ℕ) (before after : List Figures) : Type 0 where
  pub cleared : (l : ℕ) → l < leads → figures_at after (place + l) ≡ no_inflow
  pub others : (p : ℕ) → ((l : ℕ) → l < leads → p ≢ place + l) → figures_at after p ≡ figures_at before p

pub record MoveReady (source place leads : ℕ) (space : List Figures) : Type 0 where
  pub source_room : source + leads ≤ length space
  pub place_room : place + leads ≤ length space
  pub apart : Apart source place leads

-- they have what stood at so many from another on
pub record RowMoved (source place leads : ℕ) (before after : List Figures) : Type 0 where
  pub moved : (l : ℕ) → l < leads → figures_at after (place + l) ≡ figures_at before (source + l)
  pub others : (p : ℕ) → ((l : ℕ) → l < leads → p ≢ place + l) → figures_at after p ≡ figures_at before p

-- tanks of an element, each from its figures before; the places of tank j begin at `place j`
module _ (c : ElementInput) (first : ℕ → Figures) (place : ℕ → ℕ) (leads extra : ℕ) where
  -- the turn of tank j: the places of the next are cleared before it
  pub record TankTurn (j : ℕ) (r : Result Unit Refusal) (before after : List Figures) : Type 0 where
    pub middle : List Figures
    pub row : RowCleared (place (j + 1)) leads before middle
    pub worked : ElementWorked r c (first j) (place j) (place (j + 1)) leads middle after

  -- from tank j to the one above the last, one after the other
  pub data TanksWorked : ℕ → Result Unit Refusal → List Figures → List Figures → Type 0 where
    done : {j : ℕ} {space : List Figures} → j ≡ extra → TanksWorked j (Ok tt) space space
    refused :
        {j : ℕ} {r : Result Unit Refusal} {k : Refusal} {before after : List Figures}
        → j < extra
        → r ≡ Err k
        → TankTurn j r before after
        → TanksWorked j (Err k) before after
    more :
        {j : ℕ} {r turn : Result Unit Refusal} {before middle after : List Figures}
        → j < extra
        → turn ≡ (Ok tt)
        → TankTurn j turn before middle
        → TanksWorked (j + 1) r middle after
        → TanksWorked j r before after

-- a space with the places of all tanks, those of one apart from those of the next
pub record TanksThere (p : TankPlaces) (extra : ℕ) (space : List Figures) : Type 0 where
  pub short : p.leads ≤ most_leads
  pub some : 0 < extra
  pub extra_few : extra ≤ 7
  pub few : (j : ℕ) → j < extra → p.first + j * p.width ≤ 1000000
  pub room : (j : ℕ) → j ≤ extra → tank_place p extra j + p.leads ≤ length space
  pub apart : (j : ℕ) → j < extra → Apart (tank_place p extra j) (tank_place p extra (j + 1)) p.leads
  pub moved : Apart p.own p.first p.leads

-- what the turn of tank j relies on
pub record TankTurnReady (noise weight extra j : ℕ) (p : TankPlaces) (first : Figures) (space : List Figures) : Type 0 where
  pub there : TanksThere p extra space
  pub tank : j < extra
  pub system_noise : noise ≤ C
  pub weighed : weight ≤ S
  pub fits : FiguresFit first

abbrev pub TankTurned : Result Unit Refusal → ℕ → ℕ → ℕ → ℕ → TankPlaces → Figures → List Figures → List Figures → Type 0
TankTurned r noise weight extra j p first before after =
    TankTurn (tank_input noise weight None) (λ k. first) (tank_place p extra) p.leads extra j r before after

-- the tanks from tank j on: their figures stand from place x of the state on
pub record TanksReady (noise weight extra x j : ℕ) (p : TankPlaces) (s : State) (space : List Figures) : Type 0 where
  pub there : TanksThere p extra space
  pub places : x + extra ≤ most_places
  pub tank : j ≤ extra
  pub system_noise : noise ≤ C
  pub weighed : weight ≤ S
  pub fits : (k : ℕ) → k < extra → FiguresFit (figures_of s (x + k))

abbrev pub TanksAnswered : Result Unit Refusal → ℕ → ℕ → ℕ → ℕ → ℕ → TankPlaces → State → List Figures → List Figures → Type 0
TanksAnswered r noise weight extra x j p s before after =
    TanksWorked (tank_input noise weight None) (λ k. figures_of s (x + k)) (tank_place p extra) p.leads extra j r before after

-- an element of tanks before the turn of its last: its sums were moved to the places of the first, and the tanks above the last worked out,
-- or 16
pub record TanksOpened (r : Result Unit Refusal) (noise weight extra x : ℕ) (p : TankPlaces) (s : State) (before after : List Figures) : Type 0 where
  pub middle : List Figures
  pub row : RowMoved p.own p.first p.leads before middle
  pub worked : TanksAnswered r noise weight extra x 0 p s middle after
