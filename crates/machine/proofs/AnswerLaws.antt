-- Laws of the table and of a record, answered where they lie in the program's buffers.
use Rattle.method.specs.declared.Figures.{Figures}
use Rattle.std.specs.Prelude.{Result, Ok, Err}
use Prim.Native.Nat.{ℕ, zero, suc, ◌-◌, ◌≤◌, ◌<◌}
use mathlib.Core.Bool.{Bool, true, false}
use mathlib.Core.List.{List, [], ◌∷◌, ◌++◌}
use mathlib.Core.Path.{◌≡◌, refl, sym, ap, subst, ◌∙◌}
use native.Mathlib.Omega.{arith}
use lib.Dec.{leb}
use lib.ListN.{length, take, drop, length-append, length-take, length-drop}
use lib.Seq.{length-take-le, take_at}
use Rattle.sizes.specs.Sizes.{state_numbers}
use Rattle.refusal.specs.Refusals.{number}
use Rattle.refusal.specs.declared.Refusal.{Refusal}
use Rattle.table.specs.InUse.{table_in}
use Rattle.state.specs.States.{State}
use Rattle.text.specs.declared.TextSpace.{TextSpace}
use Rattle.text.specs.Places.{TextPut}
use Rattle.lines.specs.Printed.{refusal_line}
use Rattle.refusal_answer.specs.Answers.{TextAnswered}
use Rattle.table_input.specs.Start.{input_answer}
use Rattle.table.specs.declared.Counts.{Counts}
use Rattle.table_input.specs.Starts.{InputStarted, StartedOnInput}
use Rattle.table_input.specs.declared.TableStart.{TableStart}
use Rattle.table_input.proofs.StartsLaws.{started-input-kept, started-input-short, started-input-fits, started-input-length}
use Rattle.program.specs.Records.{Printed, record_printed, record_on_printed}
use Rattle.program.specs.Program.{record_bytes}
use Rattle.report.specs.Answers.{RecordReady, Reported}
use Rattle.report.proofs.ReportLaws.{record-on, record-left}
use Rattle.program_run.specs.Machine.{Held, stopped, table_answered, record_answered, records_answered, answered}
use Rattle.progress.specs.declared.Progress.{Progress}
use Rattle.input_parts.specs.Parts.{RecordEnd}
use Rattle.progress.specs.Places.{held_in, after_table, after_refusal, after_record, after_stop}
use Rattle.progress.proofs.PlacesLaws.{window-later}
use Rattle.machine.specs.Buffers.{BufferSizes, BuffersFit, WorkingSpace, TableDue, RecordDue}
use Rattle.machine.specs.Turns.{HeldAnswered}

-- the bytes that are read and not used yet
abbrev pub unused_in : Progress → List ℕ → List ℕ
unused_in p input = take (p.have - p.from) (drop p.from input)

-- no more than lie between the two places
pub unused-few : (p : Progress) (input : List ℕ) → length (unused_in p input) ≤ p.have - p.from
unused-few p input = rw length-take (omega arith)

-- and all of these, where they lie within the buffer
pub unused-all : (p : Progress) (input : List ℕ) → p.have ≤ length input → length (unused_in p input) ≡ p.have - p.from
unused-all p input h = rw (length-take, length-drop) (omega arith)

-- buffers keep their sizes
pub sizes-kept :
    {input table weights out input' table' weights' out' : List ℕ} {state state' : State}
    → BufferSizes input table weights state out
    → length input' ≡ length input
    → length table' ≡ length table
    → length weights' ≡ length weights
    → length state' ≡ state_numbers
    → length out' ≡ length out
    → BufferSizes input' table' weights' state' out'
sizes-kept h i t w s o =
    record {
      input_whole = i ∙ h.input_whole;
      table_whole = t ∙ h.table_whole;
      weights_whole = w ∙ h.weights_whole;
      state_whole = s;
      text_whole = o ∙ h.text_whole;
    }

-- what is not 0 is more
pub positive : (n : ℕ) → (n ≡ 0 → ⊥) → 0 < n
positive zero h = absurd (h refl)
positive (suc n) h = omega arith

-- what is answered, before the table has been judged and after
module _ (h : Held) where
  answered-table : h.judged ≡ false → answered h ≡ table_answered h (input_answer h.unused h.state)
  unfolding answered
  answered-table j = rw j

  answered-records : h.judged ≡ true → answered h ≡ records_answered h h.unused
  unfolding answered
  answered-records j = rw j

-- what is left, by another name
pub answered-as :
    {h : Held} {p r : Progress} {input table weights : List ℕ} {state : State} {out : List ℕ}
    → r ≡ p
    → HeldAnswered h p input table weights state out
    → HeldAnswered h r input table weights state out
answered-as {h} {p} {r} {input} {table} {weights} {state} {out} e a =
    subst (λ (q : Progress). HeldAnswered h q input table weights state out) (sym e) a

-- text put into lent space, by what stands in the buffer before and after
text-in :
    {s t : TextSpace} {before after line : List ℕ} {at : ℕ}
    → TextPut s line t
    → s.bytes.now ≡ before
    → s.at ≡ at
    → after ≡ t.bytes.now
    → (take t.at after ≡ take at before ++ line) × (length after ≡ length before)
text-in p b a e = (rw (e, ← b, ← a) p.put.holds, rw (e, ← b) p.room)

-- ---- the table

module _
    (p : Progress) (input table weights : List ℕ) (state : State) (out : List ℕ)
    (f : BuffersFit p input table weights state out) (d : TableDue p) (t : TableStart) (later : List ℕ) (after : State)
    (o : StartedOnInput (unused_in p input) state t later after) (full : length later ≡ length weights) where
  started-as : (r : Result Counts Refusal) → t.counts ≡ r → InputStarted (unused_in p input) state r t.length later after
  started-as r e = subst (λ (x : Result Counts Refusal). InputStarted (unused_in p input) state x t.length later after) e o.started

  -- there is room for an accepted table
  pub table-room : (counts : Counts) → t.counts ≡ Ok counts → t.length ≤ length table
  table-room counts e =
      omega (arith, started-input-short _ _ _ _ _ _ f.sizes.state_whole (started-as (Ok counts) e) o.within, f.sizes.table_whole)

  pub copy-room :
      (counts : Counts)
      → t.counts ≡ Ok counts
      → (t.length ≡ length (take t.length table)) × (length (take t.length table) ≡ length (take t.length (unused_in p input)))
  copy-room counts e =
      let kept = length-take-le t.length table (table-room counts e) in
      (sym kept, kept ∙ sym (length-take-le t.length (unused_in p input) o.within))

  pub table-accepted :
      (counts : Counts)
      → t.counts ≡ Ok counts
      → (copy : List ℕ)
      → copy ≡ take t.length (unused_in p input)
      → HeldAnswered (held_in p input table state out) (after_table p counts t.length) input (copy ++ drop t.length table) later after out
  unfolding held_in table_answered
  table-accepted counts e copy is =
      let whole : length copy ≡ t.length = ap length is ∙ length-take-le t.length (unused_in p input) o.within in
      let bytes : take t.length (copy ++ drop t.length table) ≡ take t.length (unused_in p input) =
      take_at copy (drop t.length table) t.length whole ∙ is in
      let same : length (copy ++ drop t.length table) ≡ length table =
      omega (arith, length-append copy (drop t.length table), length-drop t.length table, whole, table-room counts e) in
      let a = started-as (Ok counts) e in
      let s = f.sizes.state_whole in
      let rest = window-later p.from p.have t.length input ∙ a.rest in
      record {
        held = rw (answered-table (held_in p input table state out) d.phase, a.answered, rest, bytes ∙ a.bytes);
        fits =
            record {
              order = omega (arith, f.order, o.within, unused-few p input);
              inside = f.inside;
              table_inside = started-input-short _ _ _ _ _ _ s a o.within;
              text_inside = f.text_inside;
              sizes = sizes-kept f.sizes refl same full (started-input-length _ _ _ _ _ _ s a) refl;
              started =
                  λ j some.
                  rw bytes
                  (record {
                    kept = started-input-kept _ _ _ _ _ _ s a;
                    weighed = a.fits;
                    state_kept = started-input-fits _ _ _ _ _ _ s a;
                  });
            };
      }

  pub table-refused :
      (k : Refusal) {r : Bool} {before end : TextSpace} {text : List ℕ}
      → t.counts ≡ Err k
      → TextAnswered r before end (refusal_line 0 (number k)) (leb (number k) 10)
      → before.bytes.now ≡ out
      → before.at ≡ p.at
      → text ≡ end.bytes.now
      → HeldAnswered (held_in p input table state out) (after_refusal p end.at) input table later after text
  unfolding held_in table_answered
  table-refused k {end = end} {text = text} e put b at is =
      let both = started-as (Err k) e in
      let line = text-in put.text b at is in
      record {
        held = rw (answered-table (held_in p input table state out) d.phase, both.0, both.1, line.0);
        fits =
            record {
              order = f.order;
              inside = f.inside;
              table_inside = f.table_inside;
              text_inside = omega (arith, put.within, at, d.room);
              sizes = sizes-kept f.sizes refl refl full (ap length both.1 ∙ f.sizes.state_whole) line.1;
              started = λ j some. absurd (omega (arith, some));
            };
      }

-- ---- a record

-- some bytes are there
records-some :
    (h : Held) (l : List ℕ)
    → 0 < length l
    → records_answered h l ≡ record_answered h (record_printed h.table (record_bytes l) h.state)
unfolding records_answered
records-some h [] some = absurd (omega (arith, some))
records-some h (b ∷ l) some = refl

module _
    (p : Progress) (input table weights : List ℕ) (state : State) (out : List ℕ)
    (f : BuffersFit p input table weights state out) (d : RecordDue p) where
  -- input that stops before a record's first byte
  pub records-stopped :
      p.from ≡ p.have
      → HeldAnswered (held_in p input table state out) (after_stop p) input table weights state out
  unfolding held_in records_answered stopped
  records-stopped e =
      let none : p.have - p.from ≡ 0 = omega arith in
      let empty : unused_in p input ≡ [] = ap (λ k. take k (drop p.from input)) none in
      record {
        held = sym (answered-records (held_in p input table state out) d.phase ∙ ap (records_answered (held_in p input table state out)) empty);
        fits =
            record {
              order = f.order;
              inside = f.inside;
              table_inside = f.table_inside;
              text_inside = f.text_inside;
              sizes = f.sizes;
              started = λ j some. absurd (omega (arith, some));
            };
      }

  -- what a record relies on
  pub due-ready :
      (space : List Figures) (text : TextSpace)
      → WorkingSpace space
      → text.bytes.now ≡ out
      → text.at ≡ p.at
      → RecordReady (take p.length table) p.counts weights state space text
  due-ready space text lent b at =
      let s = f.started d.phase d.some in
      record {
        weighed = s.weighed;
        state_whole = f.sizes.state_whole;
        state_kept = s.state_kept;
        space_full = lent.space_whole;
        room = omega (arith, d.room, f.sizes.text_whole, at, ap length b);
      }

  module _
      (space : List Figures) (lent : WorkingSpace space) (size : ℕ) (r : Bool) (after : State) (before end : TextSpace) (text : List ℕ)
      (some : p.from ≡ p.have → ⊥) (e : RecordEnd (unused_in p input) size)
      (a : Reported r before end after (record_on_printed (table_in (take p.length table)) (take size (unused_in p input)) state))
      (b : before.bytes.now ≡ out) (at : before.at ≡ p.at) (is : text ≡ end.bytes.now) where
    abbrev printed : Printed
    printed = record_on_printed (table_in (take p.length table)) (take size (unused_in p input)) state

    -- what is printed of it, by the definition
    printed-same : record_printed (take p.length table) (record_bytes (unused_in p input)) state ≡ printed
    printed-same =
        ap (λ (bytes : List ℕ). record_printed (take p.length table) bytes state) e.bytes
        ∙ record-on (take p.length table) (take size (unused_in p input)) state (f.started d.phase d.some).kept

    pub record-answered :
        HeldAnswered (held_in p input table state out) (after_record p size r end.at) input table weights after text
    unfolding held_in record_answered
    record-answered =
        let all = unused-all p input (omega (arith, f.inside, f.sizes.input_whole)) in
        let there : 0 < length (unused_in p input) = positive _ (λ z. some (omega (arith, f.order, all, z))) in
        let rest = window-later p.from p.have size input ∙ sym e.after in
        let next = record-left _ _ _ _ _ _ _ (due-ready space before lent b at) a.left in
        let line = text-in a.answered.text b at is in
        record {
          held =
              rw (
                answered-records (held_in p input table state out) d.phase,
                records-some (held_in p input table state out) (unused_in p input) there,
                printed-same,
                rest,
                a.answered.ended,
                line.0,
                a.left,
              );
          fits =
              record {
                order = omega (arith, f.order, e.within, all);
                inside = f.inside;
                table_inside = f.table_inside;
                text_inside = omega (arith, a.answered.within, at, d.room);
                sizes = sizes-kept f.sizes refl refl refl next.0 line.1;
                started = λ j few. record { kept = (f.started d.phase d.some).kept; weighed = (f.started d.phase d.some).weighed; state_kept = next.1 };
              };
        }
