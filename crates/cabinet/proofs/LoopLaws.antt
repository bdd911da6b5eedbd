-- Laws of the program's loop: what each turn leaves fits the buffers again, and is less.
use Prim.Native.Nat.{ℕ, zero, suc, ◌+◌, ◌-◌, ◌≤◌, ◌<◌}
use mathlib.Core.Bool.{false}
use mathlib.Core.List.{List}
use mathlib.Core.Path.{◌≡◌, refl, sym, ap, ◌∙◌}
use native.Mathlib.Omega.{arith}
use borrow.Rule.Slice.PartMut.{mid_of, put_mid, same_len_mid, take_put}
use lib.ListN.{length, take, drop, length-take, length-drop}
use lib.Seq.{length-take-le}
use Rattle.sizes.specs.Sizes.{longest_record}
use Rattle.state.specs.States.{State}
use Rattle.program_run.specs.Machine as definition
use Rattle.program_run.specs.Machine.{Held, next, written, answered, after_next, given, closed}
use Rattle.program_run.proofs.NextLaws.{read-open}
use Rattle.program_run.proofs.MeasureLaws.{size, write-less, answer-less, given-less, closed-less}
use Rattle.progress.specs.declared.Progress.{Progress}
use Rattle.progress.specs.Places.{held_in, ReadIn}
use Rattle.machine.specs.declared.Next.TheVariants.{Write, Read, Answer}
use Rattle.machine.specs.declared.Turn.{Turn}
use Rattle.machine.specs.Turns.{next_in, Turned}

module _
    (h : Held) (r : Turn) (input table weights : List ℕ) (state : State) (out : List ℕ)
    (t : Turned h r input table weights state out) where
  -- text is handed over
  pub written-less : (n : ℕ) → r.next ≡ Write n → size (held_in r.progress input table state out) < size h
  unfolding after_next
  written-less n e =
      let did : next h ≡ definition.write (take n out) = sym t.did ∙ ap (λ k. next_in k out) e in
      let left : held_in r.progress input table state out ≡ written h = t.held ∙ ap (λ k. after_next k h) did in
      rw left (write-less h (take n out) did)

  -- the table or a record is answered
  pub answered_less : r.next ≡ Answer → size (held_in r.progress input table state out) < size h
  unfolding after_next
  answered_less e =
      let did : next h ≡ definition.answer = sym t.did ∙ ap (λ k. next_in k out) e in
      let left : held_in r.progress input table state out ≡ answered h = t.held ∙ ap (λ k. after_next k h) did in
      rw left (answer-less h did)

  -- input is read after the bytes that are held: a part of the buffer is lent, and so many bytes of it are new
  module _
      (at : ℕ) (e : r.next ≡ Read at) (got k : ℕ) (part : List ℕ)
      (lent : length part ≡ length (mid_of at k input)) (count : got ≤ length part) where
    abbrev after : List ℕ
    after = put_mid at k input part

    did : next h ≡ definition.read
    did = sym t.did ∙ ap (λ k. next_in k out) e

    same : held_in r.progress input table state out ≡ h
    unfolding after_next
    same = t.held ∙ ap (λ k. after_next k h) did

    place : at ≡ r.progress.have
    place = (t.read at e).place

    room : at ≤ length input
    room = omega (arith, (t.read at e).room, t.fits.sizes.input_whole)

    few : at + got ≤ length input
    few =
        let some = length-take k (drop at input) in
        let rest = length-drop at input in omega (arith, lent, count, some, rest, room)

    full : length after ≡ length input
    full = same_len_mid at k input part lent

    held_bytes : take r.progress.have after ≡ take r.progress.have input
    held_bytes = rw (← place) (take_put at k input part room)

    module _ (p : Progress) (i : ReadIn r.progress got p) where
      still_open : r.progress.over ≡ false
      unfolding held_in
      still_open = ap (λ (k : Held). k.over) same ∙ read-open h did

      unused-short : length h.unused < longest_record
      unfolding held_in
      unused-short =
          let bytes = ap (λ (k : Held). length k.unused) same in
          let all = length-take (r.progress.have - r.progress.from) (drop r.progress.from input) in
          omega (arith, bytes, all, place, (t.read at e).room)

      piece-length : length (take got (drop r.progress.have after)) ≡ got
      piece-length = length-take-le got _ (rw length-drop (omega (arith, few, place, full)))

      pub read-less : size (held_in p after table state out) < size h
      read-less = go got refl
        where
          go : (k : ℕ) → got ≡ k → size (held_in p after table state out) < size h
          go zero none =
              let left = i.end input after table state out none held_bytes ∙ ap closed same in rw left (closed-less h did)
          go (suc k) some =
              let more : 0 < got = omega (arith, some) in
              let whole : r.progress.have + got ≤ length after = omega (arith, few, place, full) in
              let left =
              i.piece input after table state out more still_open t.fits.order whole held_bytes
              ∙ ap (λ (k : Held). given k (take got (drop r.progress.have after))) same in
              rw left (given-less h _ unused-short (omega (arith, more, piece-length)))
