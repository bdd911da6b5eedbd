-- What a list of calls hands out, its steps accepted: at each place the figures of this element and lead, from the state after so many records.
use Prim.Native.Nat.{ℕ, zero, suc, ◌+◌, ◌≤◌, ◌<◌}
use mathlib.Core.Bool.{Bool, false}
use mathlib.Core.List.{List, [], ◌∷◌}
use mathlib.Core.Path.{◌≡◌, refl, sym, ap, ◌∙◌}
use native.Mathlib.Nat.{add-zero}
use native.Mathlib.Omega.{arith}
use lib.ListN.{length}
use Rattle.sizes.specs.Sizes.{most_places, state_numbers}
use Rattle.refusal.specs.Answers.{Answer, accepted, refused}
use Rattle.method.specs.declared.Figures.{Figures}
use Rattle.table.specs.Tables.{TableValues}
use Rattle.table.specs.InUse.{table_in}
use Rattle.record.specs.Records.{input_at}
use Rattle.cells.specs.Cells.{last_cell, cells}
use Rattle.cells.proofs.CellLaws.{last-place}
use Rattle.state.specs.States.{State, steps_of, figures_of}
use Rattle.state.specs.Answers.{state_after}
use Rattle.network.specs.Step.{stepped}
use Rattle.network.specs.Forecast.{lead_figures}
use Rattle.network.specs.Answer.{forecast_figures}
use Rattle.network.proofs.StepLaws.{stepped-length, stepped-steps}
use Rattle.entries.specs.Entries.{step_answer, forecast_answer}
use Rattle.claim.specs.Calls.{Call, step, forecast, Place, state_places, forecast_places, paired}
use Rattle.claim.specs.CabinetRun.{Outcome, is_refused, state_handed, step_handed, forecast_handed, outcome, next_state, cabinet_run}
use Rattle.claim.specs.Claim.{All, none, more}
use Rattle.claim.proofs.AcceptedLaws.{stepping, forecasting}
use Rattle.claim.proofs.ListLaws.{every-listed, every-by-lead}
use Rattle.more_rain.specs.MoreRain.{records_of, NotRefused, EachHandedOut}

-- the state after the first k records, all accepted
unfoldable pub state_at : TableValues → State → List (List ℕ) → ℕ → State
state_at t s records zero = s
state_at t s [] (suc k) = s
state_at t s (bytes ∷ records) (suc k) = state_at t (stepped t (input_at (cells t) bytes) s) records k

-- of what is handed out at a place: the records done by then, the element counted from 0, and whose figures these are
pub record AtItsPlace (t : TableValues) (s : State) (records : List (List ℕ)) (x : Place × Figures) : Type 0 where
  pub done : ℕ
  pub element : ℕ
  pub inside : element < t.elements
  pub place : x.0 ≡ record { steps = steps_of s + done; element = element + 1; lead = x.0.lead }
  pub figures : x.1 ≡ lead_figures t (state_at t s records done) x.0.lead (last_cell t element)

-- what follows at each place follows of all
all-follows : {A : Type 0} {P Q : A → Type 0} {xs : List A} → ((x : A) → P x → Q x) → All P xs → All Q xs
all-follows h none = none
all-follows h (more p rest) = more (h _ p) (all-follows h rest)

pub each-follows :
    {P Q : Place × Figures → Type 0} {handing : List Outcome}
    → ((x : Place × Figures) → P x → Q x)
    → EachHandedOut P handing
    → EachHandedOut Q handing
each-follows h each = all-follows (λ o p. all-follows h p) each

module _ (t : TableValues) (s : State) (records : List (List ℕ)) where
  -- from the state itself
  here : (i lead : ℕ) → i < t.elements → AtItsPlace t s records (record { steps = steps_of s; element = i + 1; lead = lead }, lead_figures t s lead (last_cell t i))
  unfolding state_at
  here i lead l =
      record {
        done = 0;
        element = i;
        inside = l;
        place = ap (λ (n : ℕ). record { steps = n; element = i + 1; lead = lead }) (sym (add-zero (steps_of s)));
        figures = refl;
      }

  pub state-placed : All (AtItsPlace t s records) (state_handed t s)
  unfolding state_handed state_places lead_figures
  state-placed = every-listed (AtItsPlace t s records) _ (figures_of s) t.elements (λ i l. rw (last-place t i l) at (here i 0 l))

  leads-placed : All (AtItsPlace t s records) (paired (forecast_places t (steps_of s)) (forecast_figures t s))
  unfolding forecast_places forecast_figures
  leads-placed =
      every-by-lead (AtItsPlace t s records) _ (λ i lead. lead_figures t s lead (last_cell t i)) t.elements (t.leads + 1) (λ i lead l m. here i lead l)

  -- from the state after one record more
  module _ (bytes : List ℕ) (full : length s ≡ state_numbers) (few : (cells t).elements ≤ most_places) where
    later :
        {next : State}
        → next ≡ stepped t (input_at (cells t) bytes) s
        → (x : Place × Figures)
        → AtItsPlace t next records x
        → AtItsPlace t s (bytes ∷ records) x
    unfolding state_at
    later e x p =
        record {
          done = suc p.done;
          element = p.element;
          inside = p.inside;
          place =
              p.place
              ∙ ap (λ (n : ℕ). record { steps = n; element = p.element + 1; lead = x.0.lead })
              (omega (arith, ap steps_of e, stepped-steps t (input_at (cells t) bytes) s full few));
          figures = rw (← e) p.figures;
        }

module _ (table : List ℕ) (few : (cells (table_in table)).elements ≤ most_places) where
  abbrev t : TableValues
  t = table_in table

  -- a step that was not refused: the state that it leaves, and what it hands out
  step-placed :
      (bytes : List ℕ) (s : State) (records : List (List ℕ)) (answer : Answer State)
      → step_answer table bytes s ≡ answer
      → is_refused answer ≡ false
      → (state_after answer s ≡ stepped t (input_at (cells t) bytes) s) × All (AtItsPlace t (state_after answer s) records) (step_handed t answer)
  unfolding is_refused state_after step_handed
  step-placed bytes s records (accepted next) e ok = ((stepping table bytes s next e).1, state-placed t next records)
  step-placed bytes s records (refused n) e ok = let z : ◌≡◌ {A = ℕ} 0 1 = cc in absurd (omega arith)

  -- a forecast, refused or not
  forecast-placed :
      (s : State) (records : List (List ℕ)) (room : ℕ) (answer : Answer (List Figures))
      → forecast_answer table s room ≡ answer
      → All (AtItsPlace t s records) (forecast_handed t (steps_of s) answer)
  unfolding forecast_handed
  forecast-placed s records room (accepted figures) e = rw (forecasting table s room figures e).1 (leads-placed t s records)
  forecast-placed s records room (refused n) e = none

  -- all calls
  pub run-placed :
      (s : State) (has_reading : ℕ → Bool)
      → length s ≡ state_numbers
      → (calls : List Call)
      → All NotRefused (paired calls (cabinet_run table s has_reading calls))
      → EachHandedOut (AtItsPlace t s (records_of calls)) (cabinet_run table s has_reading calls)
  unfolding cabinet_run outcome next_state paired records_of NotRefused
  run-placed s has_reading full [] h = none
  run-placed s has_reading full (step bytes ∷ calls) (more p rest) =
      let records = records_of calls in
      let k = step-placed bytes s records (step_answer table bytes s) refl p in
      let full-next = ap length k.0 ∙ (stepped-length t (input_at (cells t) bytes) s ∙ full) in
      more (all-follows (later t s records bytes full few k.0) k.1)
      (each-follows (later t s records bytes full few k.0) (run-placed (next_state table (step bytes) s) _ full-next calls rest))
  run-placed s has_reading full (forecast room ∷ calls) (more p rest) =
      more (forecast-placed s (records_of calls) room (forecast_answer table s room) refl) (run-placed s has_reading full calls rest)
