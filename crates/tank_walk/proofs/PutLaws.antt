-- A row of places of the space written at once.
use Prim.Native.Nat.{ℕ, ◌+◌, ◌-◌, ◌≤◌, ◌<◌}
use mathlib.Core.List.{List}
use mathlib.Core.Logic.{◌≢◌}
use mathlib.Core.Path.{◌≡◌, ap, ◌∙◌}
use native.Mathlib.Decide.{dec_le}
use native.Mathlib.Omega.{arith}
use lib.ListN.{get_or}
use Rattle.method.specs.declared.Figures.{Figures}
use Rattle.method.specs.Inflow.{no_inflow}
use Rattle.answer_space.specs.Places.{figures_at}
use Rattle.tank_walk.specs.Tanks.{RowCleared, RowMoved}

-- the places outside of the row are as before
module _
    (place leads : ℕ) (before after : List Figures) (below : (p : ℕ) → p < place → get_or after p no_inflow ≡ get_or before p no_inflow)
    (above : (p : ℕ) → place + leads ≤ p → get_or after p no_inflow ≡ get_or before p no_inflow) where
  other-places : (p : ℕ) → ((l : ℕ) → l < leads → p ≢ place + l) → figures_at after p ≡ figures_at before p
  unfolding figures_at
  other-places p apart = go (dec_le place p) (dec_le (place + leads) p)
    where
      go : Dec (place ≤ p) → Dec (place + leads ≤ p) → get_or after p no_inflow ≡ get_or before p no_inflow
      go (no n) d = below p (omega arith)
      go (yes y) (yes z) = above p z
      go (yes y) (no n) = absurd (apart (p - place) (omega arith) (omega arith))

  -- cleared
  pub row-cleared :
      ((p : ℕ) → place ≤ p → p < place + leads → get_or after p no_inflow ≡ no_inflow) → RowCleared place leads before after
  unfolding figures_at
  row-cleared none = record { cleared = λ l m. none (place + l) (omega arith) (omega arith); others = other-places }

  -- moved
  pub row-moved :
      (source : ℕ)
      → ((p : ℕ) → place ≤ p → p < place + leads → get_or after p no_inflow ≡ get_or before (source + (p - place)) no_inflow)
      → RowMoved source place leads before after
  unfolding figures_at
  row-moved source moved =
      record {
        moved =
            λ l m. moved (place + l) (omega arith) (omega arith) ∙ ap (λ (p : ℕ). get_or before p no_inflow) (omega arith);
        others = other-places;
      }
