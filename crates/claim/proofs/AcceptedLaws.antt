-- What an accepted start, step and forecast give.
use Prim.Native.Nat.{ℕ}
use mathlib.Core.List.{List}
use mathlib.Core.Path.{◌≡◌}
use Rattle.refusal.specs.Answers.{accepted}
use Rattle.method.specs.declared.Figures.{Figures}
use Rattle.table.specs.Tables.{TableValues}
use Rattle.table.specs.InUse.{table_in}
use Rattle.table.specs.Bounds.{AcceptedBounds}
use Rattle.table.proofs.InUseLaws.{bounds-in-use}
use Rattle.table.proofs.TableLaws as table-laws
use Rattle.record.specs.Records.{input_at}
use Rattle.cells.specs.Cells.{cells}
use Rattle.state.specs.States.{State}
use Rattle.state.specs.Start.{started}
use Rattle.network.specs.Step.{stepped}
use Rattle.network.specs.Answer.{forecast_figures}
use Rattle.entries.specs.Entries.{start_answer, step_answer, forecast_answer}
use Rattle.entries.proofs.NextLaws.{Stepping, stepping-on}
use Rattle.entries.proofs.ForecastLaws.{Forecasting, forecasting-on}

-- an accepted start
pub record Starting (t : TableValues) (any s : State) : Type 0 where
  pub bounds : AcceptedBounds t
  pub state : s ≡ started t any

pub starting : (table : List ℕ) (any s : State) → start_answer table any ≡ accepted s → Starting (table_in table) any s
unfolding start_answer table_in
starting table any s h =
    let k = table-laws.table_kept table _ h in
    record { bounds = bounds-in-use _ (table-laws.table-bounds table k.0); state = cc k.1 }

-- an accepted step
pub stepping :
    (table bytes : List ℕ) (s next : State)
    → step_answer table bytes s ≡ accepted next
    → Stepping (table_in table) bytes s × (next ≡ stepped (table_in table) (input_at (cells (table_in table)) bytes) s)
unfolding step_answer
stepping table bytes s next h = stepping-on (table_in table) bytes s next (table-laws.table_kept table _ h).1

-- an accepted forecast
pub forecasting :
    (table : List ℕ) (s : State) (room : ℕ) (figures : List Figures)
    → forecast_answer table s room ≡ accepted figures
    → Forecasting (table_in table) s × (figures ≡ forecast_figures (table_in table) s)
unfolding forecast_answer
forecasting table s room figures h = forecasting-on (table_in table) s room figures (table-laws.table_kept table _ h).1
