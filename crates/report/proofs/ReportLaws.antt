-- Laws of what a record prints.
use Rattle.std.specs.Prelude.{Result, Ok, Err}
use Prim.{Unit}
use Prim.Native.Nat.{ℕ, ◌+◌, ◌*◌, ◌-◌, ◌≤◌}
use mathlib.Core.Bool.{Bool, true, false}
use mathlib.Core.List.{List}
use mathlib.Core.Path.{◌≡◌, refl, sym, ap, fun_ext, ◌∙◌}
use native.Mathlib.Omega.{arith}
use lib.Dec.{leb}
use lib.ListN.{length, take, drop}
use Rattle.sizes.specs.Sizes.{most_elements, most_leads, state_numbers, answer_numbers}
use Rattle.refusal.specs.Refusals.{number}
use Rattle.refusal.specs.Answers.{Answer, accepted, refused}
use Rattle.refusal.specs.declared.Refusal.{Refusal}
use Rattle.method.specs.declared.Figures.{Figures}
use Rattle.table.specs.Bounds.{AcceptedBounds}
use Rattle.table.specs.InUse.{table_in}
use Rattle.cells.proofs.BoundsLaws.{cells-bounds}
use Rattle.table.specs.Rules.{table_rules}
use Rattle.table.specs.Tables.{TableValues}
use Rattle.table.proofs.TableLaws.{rules-accepted}
use Rattle.state.specs.States.{State, steps_of}
use Rattle.state.specs.Rules.{state_fits}
use Rattle.state.specs.Answers.{state_after, Answered}
use Rattle.state.proofs.AnswerLaws.{answered-next, answered-not}
use Rattle.table.specs.declared.Counts.{Counts}
use Rattle.entries.specs.Entries.{step_answer, step_on_answer, forecast_answer, forecast_on_answer}
use Rattle.entries.proofs.NextLaws.{next_fits, next-length}
use Rattle.text.specs.declared.TextSpace.{TextSpace}
use Rattle.text.specs.Places.{TextPut}
use Rattle.text.proofs.PlacesLaws.{text-same}
use Rattle.lines.specs.Ceiling.{FiguresUnderCeiling}
use Rattle.lines.specs.Printed.{answer_lines, refusal_line}
use Rattle.lines.proofs.PrintedLaws.{lines-before}
use Rattle.refusal_answer.specs.Answers.{TextAnswered}
use Rattle.program.specs.Records.{figures_lines, refusal_printed, forecast_printed, step_printed, record_printed, record_on_printed}
use Rattle.report.specs.Answers.{RecordReady, TextAnsweredOf, Reported}
use Rattle.report.proofs.FiguresLaws.{ForecastShown, forecast-shown, shown-under, rest_of, part_room, few-lines}
use Rattle.leads.specs.Held.{ForecastHeld}
use Rattle.lines.specs.Ready.{LinesReady}

-- ---- the state beside the text

forecast-state : (t : TableValues) (s : State) (answer : Answer (List Figures)) → s ≡ (forecast_printed t s answer).state
unfolding forecast_printed refusal_printed
forecast-state t s (accepted fs) = refl
forecast-state t s (refused n) = refl

refusal-state : (s : State) (n : ℕ) → s ≡ (refusal_printed s n).state
unfolding refusal_printed
refusal-state s n = refl

module _ (t : TableValues) (bytes : List ℕ) (s after : State) (v : Result Unit Refusal) (h : Answered v after (step_on_answer t bytes s) s) where
  -- the state is as long as before
  pub step-length : AcceptedBounds t → length s ≡ state_numbers → length after ≡ state_numbers
  unfolding state_after
  step-length bounds full = go (step_on_answer t bytes s) refl h.state
    where
      go : (answer : Answer State) → step_on_answer t bytes s ≡ answer → after ≡ state_after answer s → length after ≡ state_numbers
      go (accepted next) e k = rw k (next-length t bytes s next (cells-bounds t bounds) full e)
      go (refused n) e k = rw k full

  -- an accepted step, and the forecast after it
  step-accepted : v ≡ (Ok tt) → forecast_printed t after (forecast_on_answer t after answer_numbers) ≡ record_on_printed t bytes s
  unfolding record_on_printed step_printed
  step-accepted e = rw (answered-next v after (step_on_answer t bytes s) s h e)

  -- a refused step
  step-refused : (k : Refusal) → v ≡ Err k → (after ≡ s) × (refusal_printed s (number k) ≡ record_on_printed t bytes s)
  unfolding record_on_printed step_printed
  step-refused k e = let both = answered-not v after (step_on_answer t bytes s) s h e in (both.1, rw both.0)

  pub reported-accepted :
      {r : Bool} {before out : TextSpace}
      → v ≡ (Ok tt)
      → TextAnsweredOf r before out (forecast_printed t after (forecast_on_answer t after answer_numbers))
      → Reported r before out after (record_on_printed t bytes s)
  reported-accepted {r} {before} {out} e k =
      rw (← step-accepted e) (record { answered = k; left = forecast-state t after (forecast_on_answer t after answer_numbers) })

  pub reported-refused :
      (k : Refusal) {r : Bool} {before out : TextSpace}
      → v ≡ Err k
      → TextAnswered r before out (refusal_line (steps_of after) (number k)) (leb (number k) 10)
      → Reported r before out after (record_on_printed t bytes s)
  unfolding refusal_printed
  reported-refused k {r} {before} {out} e x =
      let both = step-refused k e in
      let x' : TextAnswered r before out (refusal_line (steps_of s) (number k)) (leb (number k) 10) = rw both.0 at x in
      rw (← both.1) (record { answered = x'; left = both.0 })

-- ---- the lines of an accepted forecast

-- by the counts of a table, and by what it says
module _ (figures : List Figures) {n m l k : ℕ} (elements : n ≡ m) (leads : l ≡ k) where
  under-by : FiguresUnderCeiling figures (m * k) → FiguresUnderCeiling figures (n * l)
  under-by h = rw (elements, leads) h

  lines-by : (steps : ℕ) → answer_lines steps l figures n ≡ answer_lines steps k figures m
  lines-by steps = rw (elements, leads)

module _
    {table : List ℕ} {counts : Counts} {weights : List ℕ} {s : State} {lent : List Figures} {text : TextSpace} (p : RecordReady table counts weights s lent text)
    {r : Result ℕ Refusal} {count : ℕ} {space : List Figures} (h : ForecastHeld r space (table_in table) s) (accepts : r ≡ Ok count) where
  abbrev t : TableValues
  t = table_in table

  abbrev leads : ℕ
  leads = counts.leads + 1

  -- as the code takes the figures out of the space
  abbrev all : List Figures
  all = take (length space - leads) (drop leads space)

  elements_is : counts.elements ≡ t.elements
  elements_is = p.weighed.counted.counted.held.elements

  leads-is : leads ≡ t.leads + 1
  leads-is = ap (λ (k : ℕ). k + 1) p.weighed.counted.counted.held.leads

  few-elements : counts.elements ≤ most_elements
  few-elements = omega (arith, elements_is, p.weighed.counted.counted.table.bounds.elements_most)

  few-leads : leads ≤ most_leads + 1
  few-leads = omega (arith, leads-is, p.weighed.counted.counted.table.bounds.leads_most)

  lines-few : counts.elements * leads ≤ most_elements * (most_leads + 1)
  lines-few = few-lines counts.elements leads few-elements few-leads

  shown : ForecastShown t s all
  shown = forecast-shown t s p.state_kept r space h all accepts (rest_of space leads (t.leads + 1) leads-is)

  pub lines-ready : length space ≡ length lent → LinesReady text all counts.elements leads
  lines-ready size =
      record {
        room = omega (arith, lines-few, p.room);
        there = part_room space counts.elements leads few-leads lines-few (size ∙ p.space_full);
        elements_few = few-elements;
        leads_few = omega (arith, few-leads);
        under = under-by all elements_is leads-is (shown-under t s all shown);
      }

  pub lines-printed :
      {after : TextSpace}
      → TextPut text (answer_lines (steps_of s) leads all counts.elements) after
      → after.at ≤ text.at + 147 * (counts.elements * leads)
      → TextAnsweredOf false text after (forecast_printed t s (forecast_on_answer t s answer_numbers))
  unfolding forecast_printed figures_lines
  lines-printed put few =
      let behind = drop (length shown.figures) all in
      let same = lines-before (steps_of s) (t.leads + 1) t.elements shown.figures behind (omega (arith, shown.counted)) in
      rw shown.answered
      (record {
        text =
            text-same
            (lines-by all elements_is leads-is (steps_of s)
            ∙ (ap (λ (l : List Figures). answer_lines (steps_of s) (t.leads + 1) l t.elements) (sym shown.shown) ∙ same)) put;
        ended = refl;
        within = omega (arith, few, lines-few);
      })

-- ---- what a record leaves

-- a record on the bytes of an accepted table is one on what they say
pub record-on :
    (table bytes : List ℕ) (s : State)
    → table_rules {A = Unit} table (accepted tt) ≡ accepted tt
    → record_printed table bytes s ≡ record_on_printed (table_in table) bytes s
unfolding record_printed record_on_printed step_answer forecast_answer
record-on table bytes s h =
    let e :
    ◌≡◌ {A = State → Answer (List Figures)} (λ next. table_rules table (forecast_on_answer (table_in table) next answer_numbers))
    (λ next. forecast_on_answer (table_in table) next answer_numbers) =
    fun_ext (λ next. rules-accepted table _ h) in
    rw (e, rules-accepted table (step_on_answer (table_in table) bytes s) h)

-- the state that a record leaves is one that rule 8 accepts, where the state before it was, and as long
module _ (t : TableValues) (bytes : List ℕ) (s : State) (bounds : AcceptedBounds t) (full : length s ≡ state_numbers) where
  record-fits : state_fits t s ≡ true → state_fits t (record_on_printed t bytes s).state ≡ true
  unfolding record_on_printed step_printed
  record-fits fits = go (step_on_answer t bytes s) refl
    where
      go :
          (answer : Answer State)
          → step_on_answer t bytes s ≡ answer
          → state_fits t (step_printed t (λ next. forecast_on_answer t next answer_numbers) s answer).state ≡ true
      go (accepted next) e =
          rw (← forecast-state t next (forecast_on_answer t next answer_numbers)) (next_fits t bytes s next (cells-bounds t bounds) full e)
      go (refused n) e = rw (← refusal-state s n) fits

  record-length : length (record_on_printed t bytes s).state ≡ state_numbers
  unfolding record_on_printed step_printed
  record-length = go (step_on_answer t bytes s) refl
    where
      go :
          (answer : Answer State)
          → step_on_answer t bytes s ≡ answer
          → length (step_printed t (λ next. forecast_on_answer t next answer_numbers) s answer).state ≡ state_numbers
      go (accepted next) e =
          rw (← forecast-state t next (forecast_on_answer t next answer_numbers)) (next-length t bytes s next (cells-bounds t bounds) full e)
      go (refused n) e = rw (← refusal-state s n) full

-- and so for every record on what it relies on
pub record-left :
    (table bytes : List ℕ) (counts : Counts) (weights : List ℕ) (s : State) (space : List Figures) (text : TextSpace) {after : State}
    → RecordReady table counts weights s space text
    → after ≡ (record_on_printed (table_in table) bytes s).state
    → (length after ≡ state_numbers) × (state_fits (table_in table) after ≡ true)
record-left table bytes counts weights s space text h e = (
  rw e (record-length (table_in table) bytes s h.weighed.counted.counted.table.bounds h.state_whole),
  rw e (record-fits (table_in table) bytes s h.weighed.counted.counted.table.bounds h.state_whole h.state_kept),
)
