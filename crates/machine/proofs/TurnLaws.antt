-- Laws of the machine's next thing, from its tests.
use Prim.Native.Nat.{ℕ, ◌+◌, ◌-◌, ◌≤◌}
use mathlib.Core.Bool.{Bool, true, false}
use mathlib.Core.List.{List}
use mathlib.Core.Path.{◌≡◌, refl, sym, ap, ◌∙◌}
use native.Mathlib.Omega.{arith}
use borrow.Author.Tests.{ltb-false, eqb-true, eqb-false}
use lib.Dec.{eqb}
use lib.ListN.{length, take, drop}
use lib.Seq.{length-take-le}
use Rattle.sizes.specs.Sizes.{text_bytes, text_buffer}
use Rattle.state.specs.States.{State}
use Rattle.program_run.specs.Machine as definition
use Rattle.program_run.specs.Machine.{Held, lacking, wants_more, none_left, ended, goes_out, text_due, next, after_next}
use Rattle.progress.specs.declared.Progress.{Progress}
use Rattle.input_parts.specs.Parts.{Tells}
use Rattle.progress.specs.Places.{held_in, TextWritten, MovedFront}
use Rattle.machine.specs.declared.Next.TheVariants.{Write, End, Read, Answer}
use Rattle.machine.specs.Buffers.{BuffersFit, AnswerDue, RecordDue}
use Rattle.machine.specs.Turns.{HeldAnswered, Turned}
use Rattle.machine.proofs.AnswerLaws.{sizes-kept, unused-all, positive}

-- ---- what an answer asks

-- where records are left, and the table has been judged, a record is due
pub record-due : (p : Progress) → AnswerDue p → p.judged ≡ true → RecordDue p
unfolding none_left
record-due p d j =
    let some : eqb p.left 0 ≡ false = rw j at d.some in
    record { phase = j; some = positive p.left (eqb-false p.left 0 some); room = d.room }

-- ---- the next thing

module _ (h : Held) where
  next-write : text_due h ≡ true → next h ≡ definition.write h.text
  unfolding next
  next-write t = rw t

  next-end : text_due h ≡ false → ended h ≡ true → next h ≡ definition.end
  unfolding next
  next-end t e = rw (t, e)

  next-read : text_due h ≡ false → ended h ≡ false → wants_more h ≡ true → next h ≡ definition.read
  unfolding next
  next-read t e w = rw (t, e, w)

  next-answer : text_due h ≡ false → ended h ≡ false → wants_more h ≡ false → next h ≡ definition.answer
  unfolding next
  next-answer t e w = rw (t, e, w)

module _
    (p : Progress) (input table weights : List ℕ) (state : State) (out : List ℕ)
    (f : BuffersFit p input table weights state out) (wants none due : Bool)
    (w : Tells wants (lacking p.judged p.over (take (p.have - p.from) (drop p.from input))) true (take (p.have - p.from) (drop p.from input)))
    (e : none ≡ none_left p.judged p.left) (t : due ≡ goes_out none wants p.at) where
  abbrev held : Held
  held = held_in p input table state out

  wants-as : wants ≡ wants_more held
  unfolding held_in wants_more
  wants-as = w.same

  none-as : none ≡ ended held
  unfolding held_in ended
  none-as = e

  size-as : length held.text ≡ p.at
  unfolding held_in
  size-as = length-take-le p.at out (omega (arith, f.text_inside, f.sizes.text_whole))

  due-as : due ≡ text_due held
  unfolding text_due
  due-as = rw (size-as, ← wants-as, ← none-as) t

  pub turn-write :
      (r : Progress)
      → due ≡ true
      → TextWritten p r
      → Turned held (record { progress = r; next = Write p.at }) input table weights state out
  unfolding held_in after_next
  turn-write r goes m =
      let n = next-write held (sym due-as ∙ goes) in
      record {
        did = sym n;
        held = rw n (m.held input table state out);
        fits =
            rw m.same
            (record {
              order = f.order;
              inside = f.inside;
              table_inside = f.table_inside;
              text_inside = omega arith;
              sizes = f.sizes;
              started = f.started;
            });
        read = λ at k. absurd (let z : ◌≡◌ {A = ℕ} 0 1 = cc in omega arith);
        write = λ size k. let z : p.at ≡ size = cc in omega (arith, f.text_inside, f.sizes.text_whole);
      }

  pub turn_end : due ≡ false → none ≡ true → Turned held (record { progress = p; next = End }) input table weights state out
  unfolding after_next
  turn_end stays over =
      let n = next-end held (sym due-as ∙ stays) (sym none-as ∙ over) in
      record {
        did = sym n;
        held = rw n;
        fits = f;
        read = λ at k. absurd (let z : ◌≡◌ {A = ℕ} 0 1 = cc in omega arith);
        write = λ size k. absurd (let z : ◌≡◌ {A = ℕ} 0 1 = cc in omega arith);
      }

  pub turn-read :
      (r : Progress) (later : List ℕ)
      → due ≡ false
      → none ≡ false
      → wants ≡ true
      → MovedFront p input r later
      → length later ≡ length input
      → Turned held (record { progress = r; next = Read r.have }) later table weights state out
  unfolding after_next
  turn-read r later stays some more m same =
      let n = next-read held (sym due-as ∙ stays) (sym none-as ∙ some) (sym wants-as ∙ more) in
      let few = w.few more in
      record {
        did = sym n;
        held = rw n (m.held table state out);
        fits =
            rw m.same
            (record {
              order = omega arith;
              inside = omega (arith, f.inside);
              table_inside = f.table_inside;
              text_inside = f.text_inside;
              sizes = sizes-kept f.sizes same refl refl f.sizes.state_whole refl;
              started = f.started;
            });
        read = λ at k. let z : r.have ≡ at = cc in record { place = sym z; room = omega (arith, few, ap (λ (q : Progress). q.have) m.same, unused-all p input (omega (arith, f.inside, f.sizes.input_whole))) };
        write = λ size k. absurd (let z : ◌≡◌ {A = ℕ} 0 1 = cc in omega arith);
      }

  -- where an answer is due, a record is left, and there is room for its text
  pub answer-due : due ≡ false → none ≡ false → wants ≡ false → AnswerDue p
  unfolding goes_out
  answer-due stays some enough =
      record { some = sym e ∙ some; room = room (eqb p.at 0) refl }
    where
      room : (b : Bool) → eqb p.at 0 ≡ b → p.at + text_bytes ≤ text_buffer
      room true z = omega (arith, eqb-true p.at 0 z)
      room false z = omega (arith, ltb-false (text_buffer - text_bytes) p.at (rw (z, some, enough) at (sym t ∙ stays)))

  pub turn-answer :
      (r : Progress) (input' table' weights' : List ℕ) (state' : State) (out' : List ℕ)
      → due ≡ false
      → none ≡ false
      → wants ≡ false
      → HeldAnswered held r input' table' weights' state' out'
      → Turned held (record { progress = r; next = Answer }) input' table' weights' state' out'
  unfolding after_next
  turn-answer r input' table' weights' state' out' stays some enough a =
      let n = next-answer held (sym due-as ∙ stays) (sym none-as ∙ some) (sym wants-as ∙ enough) in
      record {
        did = sym n;
        held = rw n a.held;
        fits = a.fits;
        read = λ at k. absurd (let z : ◌≡◌ {A = ℕ} 0 1 = cc in omega arith);
        write = λ size k. absurd (let z : ◌≡◌ {A = ℕ} 0 1 = cc in omega arith);
      }
