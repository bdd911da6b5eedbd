-- Document 01, Numbers for no: an entry's answer as numbers, for programs in C or Rust.
use Rattle.rating.specs.declared.RatedReading.{RatedReading}
use Rattle.std.specs.Prelude.{ℕ, ◌+◌, ◌*◌, List, ◌≡◌, Float, pos}
use Rattle.std.specs.Float.{binary64}
use Rattle.std.specs.Float.Ieee.{of_int}
use Rattle.refusal.specs.Answers.{Answer, accepted, refused}
use Rattle.rating.specs.Looks.{Look}
use Rattle.method.specs.declared.Figures.{Figures}
use Rattle.table.specs.Tables.{TableValues}
use Rattle.table.specs.KindCounts.{basin_count, dam_count, extra_count}
use Rattle.state.specs.States.{State}
use Rattle.state.specs.Answers.{state_after}
use Rattle.network.specs.Lent.{count_written, lent_after}
use Rattle.river.specs.declared.TablePlan.{TablePlan}
use Rattle.river.specs.declared.Written.{Written}
use Rattle.display.specs.declared.Shown.{Shown}
use Rattle.river.specs.declared.Rating.{Rating}
use Rattle.river.specs.declared.Display.{Display}

-- the version of the interface
abbrev pub version : ℕ
version = 6

-- the number for no; 0 where the call is accepted
unfoldable pub refusal_of : {A : Type 0} → Answer A → ℕ
refusal_of (accepted a) = 0
refusal_of (refused n) = n

-- what a table asks the host to lend: of a record of version 1 "1 + 2 × basins + 2 × M" bytes, and 4 a dam (M-100), after the two of its
-- length, and "4 × N × (L + 1)" numbers of a forecast; and T; M-107: the tanks above the
-- last of their elements, and the places of a state that are in use
unfoldable pub plan_of : TableValues → TablePlan
plan_of t =
    record {
      refusal = 0;
      elements = t.elements;
      leads = t.leads;
      gauges = t.gauges;
      basins = basin_count t;
      dams = dam_count t;
      tanks = extra_count t;
      places = t.elements + extra_count t;
      record_bytes = 3 + 2 * basin_count t + 4 * dam_count t + 2 * t.gauges;
      forecast_numbers = 4 * t.elements * (t.leads + 1);
      step_minutes = t.step;
    }

unfoldable pub no_plan : ℕ → TablePlan
no_plan n =
    record {
      refusal = n;
      elements = 0;
      leads = 0;
      gauges = 0;
      basins = 0;
      dams = 0;
      tanks = 0;
      places = 0;
      record_bytes = 0;
      forecast_numbers = 0;
      step_minutes = 0;
    }

unfoldable pub plan_reply : Answer TableValues → TablePlan
plan_reply (accepted t) = plan_of t
plan_reply (refused n) = no_plan n

-- "returned alone; state and lent memory stay as before"
pub record StateReplied (r : ℕ) (after : State) (answer : Answer State) (before : State) : Type 0 where
  pub refusal : r ≡ refusal_of answer
  pub state : after ≡ state_after answer before

-- "the count written is part of the answer"; it is 0 where the call is refused
unfoldable pub written_reply : Answer ℕ → Written
written_reply (accepted count) = record { refusal = 0; count = count }
written_reply (refused n) = record { refusal = n; count = 0 }

-- the reply of a forecast or a trial, and the lent numbers that it leaves
pub record ForecastReplied (r : Written) (after : List ℕ) (answer : Answer (List Figures)) (before : List ℕ) : Type 0 where
  pub reply : r ≡ written_reply (count_written answer)
  pub numbers : after ≡ lent_after answer before

-- M-101: "z or 14 .. and with either the number of pieces"; M-105: "a discharge and a noise together", both 0 where the stage is refused
unfoldable pub discharge_in : Answer RatedReading → ℕ
discharge_in (accepted r) = r.discharge.0
discharge_in (refused n) = 0

unfoldable pub noise_in : Answer RatedReading → ℕ
noise_in (accepted r) = r.noise.0
noise_in (refused n) = 0

unfoldable pub rating_reply : Look → Rating
rating_reply look =
    record {
      refusal = refusal_of look.answer;
      discharge = discharge_in look.answer;
      noise = noise_in look.answer;
      pieces = look.pieces;
    }

-- M-104: a discharge and its margin for the display; both 0 where a count is refused
abbrev pub no_float : Float
no_float = of_int binary64 (pos 0)

unfoldable pub display_reply : Answer Shown → Display
display_reply (accepted s) = record { refusal = 0; discharge = s.discharge; margin = s.margin }
display_reply (refused n) = record { refusal = n; discharge = no_float; margin = no_float }
