-- Laws of a step or a trial by a record: its rules in checking order after rule 8, and the state that a step leaves.
use Rattle.method.specs.declared.Figures.{Figures}
use Rattle.std.specs.Prelude.{Result, Ok, Err, IsErrAnd}
use Rattle.std.proofs.lemmas.Result.{err_from_is_err_and}
use Prim.{Unit}
use Prim.Native.Nat.{ℕ, ◌+◌, ◌*◌, ◌≤◌, ◌<◌}
use mathlib.Core.Bool.{Bool, true, false}
use mathlib.Core.List.{List}
use mathlib.Core.Path.{◌≡◌, refl, sym, ap, ◌∙◌}
use borrow.Author.Tests.{le-leb, lt-leb}
use native.Mathlib.Omega.{arith}
use lib.ListN.{length, replicate, length-replicate}
use Rattle.sizes.specs.Sizes.{most_elements, most_places, state_numbers}
use Rattle.fields.specs.Ranges.{all_below}
use Rattle.refusal.specs.Answers.{and_then, accepted, refused, answer_of}
use Rattle.refusal.proofs.RuleLaws.{not-both, rule-then}
use Rattle.refusal.specs.declared.Refusal.{Refusal}
use Rattle.refusal.specs.declared.Refusal.TheVariants.{StepLimit, AnswerSpace}
use Rattle.table.specs.declared.Counts.{Counts}
use Rattle.table.specs.Tables.{TableValues}
use Rattle.table.specs.Bounds.{AcceptedTable, CountedPlaces}
use Rattle.table.specs.KindCounts.{basin_count}
use Rattle.table.specs.InUse.{table_in}
use Rattle.cells.specs.Cells.{cells}
use Rattle.record.specs.Records.{input_at}
use Rattle.record.specs.Rules.{record_rules}
use Rattle.record.specs.Decoded.{RecordRead}
use Rattle.record.proofs.GaugeOrderLaws.{gauges-few}
use Rattle.state.specs.States.{State, figures_of}
use Rattle.state.specs.Rules.{figures_fit, elements_fit, tanks_fit, state_fits, steps_left}
use Rattle.state.specs.Answers.{Answered}
use Rattle.state.proofs.StateLaws.{tanks-tested, tanks-refused, both-accepted}
use Rattle.state.proofs.AnswerLaws.{answered-accepted, answered-refused}
use Rattle.state.proofs.BoundsLaws.{state-bounds}
use Rattle.network.specs.Step.{stepped}
use Rattle.element_weights.specs.Weights.{WeightsHeld}
use Rattle.network_step.specs.Held.{StepReady, place_count, Cleared, StepWorked}
use Rattle.network_step.proofs.StepLaws.{cleared}
use Rattle.entries.specs.Entries.{step_rules, step_on_answer}
use Rattle.entries.specs.Trials.{trial_space_fits}
use Rattle.entries.proofs.StepRuleLaws as step-rules
use Rattle.next_state.specs.Written.{TanksWritten, WriteReady, ElementsWritten}
use Rattle.next_state.proofs.WriteLaws.{tanks-steps, written-in-parts}
use Rattle.method.specs.Inflow.{no_inflow}
use Rattle.record_step.specs.Judged.{RiverGiven, StepJudged, worked_answer, RecordGiven, RecordWorked, WriteGiven}

-- a refusal that is passed on
pub err-passed : {A : Type 0} (r : Result A Refusal) (k : Refusal) → IsErrAnd r (λ (e : Refusal). e ≡ k) → r ≡ Err k
err-passed r k p = let q = err_from_is_err_and r p in q.1 ∙ ap Err q.2

pub passed-as : {A : Type 0} (v s : Result A Refusal) (k : Refusal) → v ≡ Err k → IsErrAnd s (λ (e : Refusal). e ≡ k) → v ≡ s
passed-as v s k e p = e ∙ sym (err-passed s k p)

-- ---- the rules before 15 and 16

module _ (t : TableValues) (bytes : List ℕ) (s : State) (h : state_fits t s ≡ true) (whole : length s ≡ state_numbers) {observed : List ℕ} where
  -- 9
  pub limit-judged : steps_left s ≡ false → StepJudged t bytes s (Err StepLimit) observed
  unfolding step_rules
  limit-judged l =
      record {
        decided = rw (h, l);
        kept = λ e. absurd (not-both (ap answer_of e) refl);
        held = λ e. absurd (not-both (ap answer_of e) refl);
        whole = whole;
      }

  -- the record's own
  pub record-judged : {v : Result Unit Refusal} → steps_left s ≡ true → RecordRead t bytes v observed → StepJudged t bytes s v observed
  unfolding step_rules
  record-judged {v} l r = record { decided = rw (h, l) r.decided; kept = kept; held = λ e. r.held (kept e); whole = whole }
    where
      kept : v ≡ (Ok tt) → record_rules {A = Unit} t bytes (accepted tt) ≡ accepted tt
      kept e = sym r.decided ∙ ap answer_of e

-- ---- all rules, whatever the answer holds

module _ {A : Type 0} (t : TableValues) (bytes : List ℕ) (s : State) (lent : ℕ) (a : A) where
  worked_then : and_then (worked_answer {A = Unit} t bytes s lent tt) (λ _. accepted a) ≡ worked_answer t bytes s lent a
  unfolding worked_answer
  worked_then = simp (step-rules.and-then, rule-then, step-rules.under-then)

  pub worked-accepted : worked_answer {A = Unit} t bytes s lent tt ≡ accepted tt → worked_answer t bytes s lent a ≡ accepted a
  worked-accepted h = rw (← worked_then, h)

  pub worked-refused : {k : ℕ} → worked_answer {A = Unit} t bytes s lent tt ≡ refused k → worked_answer t bytes s lent a ≡ refused k
  worked-refused h = rw (← worked_then, h)

-- what the verdict before 15 and 16 says of them
module _ (t : TableValues) (bytes : List ℕ) (s : State) {v : Result Unit Refusal} {observed : List ℕ} (h : StepJudged t bytes s v observed) where
  -- a refusal before them
  pub refused-before : {lent : ℕ} {k : Refusal} {space : List Figures} → v ≡ Err k → RecordWorked v space t bytes s lent
  unfolding worked_answer
  refused-before e =
      record {
        decided = ap answer_of e ∙ sym (step-rules.step-refused t bytes s _ (sym h.decided ∙ ap answer_of e));
        kept = λ a. absurd (not-both (ap answer_of a) (ap answer_of e));
        enough = λ a. absurd (not-both (ap answer_of a) (ap answer_of e));
        held = λ a. absurd (not-both (ap answer_of a) (ap answer_of e));
        whole = h.whole;
      }

  module _ (accepts : v ≡ (Ok tt)) where
    judged : step_rules {A = Unit} t bytes s (accepted tt) ≡ accepted tt
    judged = sym h.decided ∙ ap answer_of accepts

    -- 15
    pub space-short : {lent : ℕ} {space : List Figures} → lent < 4 * t.elements → RecordWorked (Err AnswerSpace) space t bytes s lent
    unfolding worked_answer trial_space_fits
    space-short l =
        record {
          decided = sym (step-rules.step-accepted t bytes s _ judged ∙ rw (lt-leb _ _ l));
          kept = λ a. absurd (not-both (ap answer_of a) refl);
          enough = λ a. absurd (not-both (ap answer_of a) refl);
          held = λ a. absurd (not-both (ap answer_of a) refl);
          whole = h.whole;
        }

    -- and 16
    pub after-judged :
        {lent : ℕ} {r : Result Unit Refusal} {space : List Figures}
        → 4 * t.elements ≤ lent
        → StepWorked r space t bytes s
        → RecordWorked r space t bytes s lent
    unfolding worked_answer trial_space_fits
    after-judged l w =
        record {
          decided = w.decided ∙ sym (step-rules.step-accepted t bytes s _ judged ∙ rw (le-leb _ _ l));
          kept = λ _. h.kept accepts;
          enough = λ _. l;
          held = w.held;
          whole = h.whole;
        }

-- ---- the state

-- a step lends itself as many numbers as its figures have, so that 15 never decides
step-answer :
    (t : TableValues) (bytes : List ℕ) (s : State) {lent : ℕ}
    → lent ≡ 4 * t.elements
    → worked_answer t bytes s lent (stepped t (input_at (cells t) bytes) s) ≡ step_on_answer t bytes s
unfolding worked_answer trial_space_fits step_on_answer
step-answer t bytes s e = rw (e, le-leb (4 * t.elements) (4 * t.elements) (omega arith))

module _
    (t : TableValues) (bytes : List ℕ) (s : State) {v : Result Unit Refusal} {space : List Figures} {lent : ℕ} (h : RecordWorked v space t bytes s lent)
    (all : lent ≡ 4 * t.elements) where
  pub written-refused : {k : Refusal} → v ≡ Err k → Answered v s (step_on_answer t bytes s) s
  written-refused e =
      answered-refused e (sym (step-answer t bytes s all) ∙ worked-refused t bytes s lent _ (sym h.decided ∙ ap answer_of e)) refl

  pub written-accepted : {after : State} → v ≡ (Ok tt) → after ≡ stepped t (input_at (cells t) bytes) s → Answered (Ok tt) after (step_on_answer t bytes s) s
  written-accepted e a =
      answered-accepted refl (sym (step-answer t bytes s all) ∙ worked-accepted t bytes s lent _ (sym h.decided ∙ ap answer_of e)) a

-- ---- the state in two parts

module _
    {v : Result Unit Refusal} {table bytes : List ℕ} {space : List Figures} {n extra : ℕ} {s middle : State} (g : WriteGiven v table n extra bytes space s) (accepts : v ≡ (Ok tt))
    (tanks : TanksWritten n extra space s middle) where
  -- what the elements' part relies on after the tanks'
  pub elements-ready : WriteReady table n bytes space middle
  elements-ready =
      record {
        fits = g.accepts;
        elements = g.elements;
        kept = g.worked.kept accepts;
        room = omega (arith, g.room);
        steps = omega (arith, tanks-steps n extra space s middle tanks, (state-bounds _ _ g.fits).steps);
      }

  pub both-written : {after : State} → ElementsWritten table bytes space middle after → Answered (Ok tt) after (step_on_answer (table_in table) bytes s) s
  both-written {after} elements =
      written-accepted _ _ _ g.worked (ap (λ (m : ℕ). 4 * m) g.elements) accepts
      (written-in-parts table bytes space s middle after g.accepts.bounds g.worked.whole (g.worked.held accepts) g.elements g.extra_all tanks
      elements)

-- ---- rule 8 in two parts, the elements and the tanks above the last of theirs

module _
    {table : List ℕ} {counts : Counts} {fit : Bool} (s : State) (c : CountedPlaces table counts)
    (h : fit ≡ all_below (λ x. figures_fit (figures_of s (counts.elements + x))) counts.extra) where
  tanks-judged : fit ≡ tanks_fit (table_in table) s
  tanks-judged = tanks-tested table s c.counted.held.elements c.extra h

  pub tanks-above : fit ≡ false → state_fits (table_in table) s ≡ false
  tanks-above e = tanks-refused _ _ (sym tanks-judged ∙ e)

  pub both-fit : elements_fit (table_in table) s ≡ true → fit ≡ true → state_fits (table_in table) s ≡ true
  both-fit e f = both-accepted _ _ e (sym tanks-judged ∙ f)

-- how many places are in use
pub places-few : {table : List ℕ} {counts : Counts} → CountedPlaces table counts → counts.elements + counts.extra ≤ most_places
places-few c = omega (arith, c.counted.held.elements, c.extra, c.counted.table.bounds.places_most)

-- ---- what is given to each part

-- what the network is worked out of, once the rules before 15 accept
pub work-ready :
    {table : List ℕ} {basins : ℕ} {weight bytes observed : List ℕ} {s : State} {v : Result Unit Refusal}
    → AcceptedTable table
    → basins ≡ basin_count (table_in table)
    → WeightsHeld (table_in table) weight
    → state_fits (table_in table) s ≡ true
    → StepJudged (table_in table) bytes s v observed
    → v ≡ (Ok tt)
    → 2 * (table_in table).gauges ≤ length observed
    → StepReady table basins weight bytes observed s
work-ready accepts counted weights fits j e room =
    record {
      accepts = accepts;
      counted = counted;
      weights = weights;
      kept = j.kept e;
      held = j.held e;
      room = room;
      state = state-bounds _ _ fits;
    }

pub river-given :
    {table : List ℕ} {counts : Counts} {s : State}
    → CountedPlaces table counts
    → state_fits (table_in table) s ≡ true
    → RiverGiven table counts.elements counts.extra counts.basins counts.dams s
river-given p f =
    let c = p.counted in
    record { accepts = c.table; elements = c.held.elements; extra_all = p.extra; basins_all = c.basins; dams_all = c.dams; fits = f }

-- what writing the state relies on, of a river that was worked out
pub write-given :
    {table bytes : List ℕ} {space : List Figures} {n extra basins dams : ℕ} {s : State} {v : Result Unit Refusal}
    → RiverGiven table n extra basins dams s
    → n + extra + 1 ≤ length space
    → RecordWorked v space (table_in table) bytes s (4 * n)
    → WriteGiven v table n extra bytes space s
write-given g room w =
    record { accepts = g.accepts; elements = g.elements; extra_all = g.extra_all; fits = g.fits; room = room; worked = w }

-- spaces of any sizes that are large enough
module _ {table : List ℕ} {n extra basins dams : ℕ} {s : State} (g : RiverGiven table n extra basins dams s) where
  pub spaces-ready :
      (elements observed space : ℕ)
      → n ≤ elements
      → 2 * (table_in table).gauges ≤ observed
      → n + extra + 1 ≤ space
      → RecordGiven table basins dams s (replicate elements 0) (replicate observed 0) × Cleared (place_count (table_in table)) (replicate space no_inflow)
  spaces-ready elements observed space few seen room = (
    record {
      counted = (g.accepts, (g.basins_all, g.dams_all));
      fits = g.fits;
      weights = rw (length-replicate {A = ℕ} elements 0) (omega (arith, g.elements));
      room = rw (length-replicate {A = ℕ} observed 0) seen;
    },
    cleared _ space (omega (arith, room, g.elements, g.extra_all)),
  )

  -- a river has no more gauges than elements
  pub few-gauges : (table_in table).gauges ≤ n
  few-gauges = omega (arith, gauges-few (table_in table) g.accepts.bounds.gauge g.accepts.bounds.rising, g.elements)

  -- eight places an element at most
  pub few-places : n + extra ≤ 8 * most_elements
  few-places = omega (arith, g.elements, g.extra_all, g.accepts.bounds.extra_most, g.accepts.bounds.elements_most)
