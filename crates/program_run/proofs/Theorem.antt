-- The program prints what document 01 says, however its input is cut into pieces.
use Prim.Native.Nat.{ℕ, zero, suc, ◌+◌, ◌<◌}
use mathlib.Core.Bool.{Bool, true, false, cond, true≢false}
use mathlib.Core.List.{List, [], ◌∷◌, ◌++◌}
use mathlib.Core.Path.{◌≡◌, refl, sym, ap, ◌∙◌}
use native.Mathlib.Omega.{arith}
use borrow.Author.Tests.{not-false}
use lib.ListN.{length}
use Rattle.program_run.specs.Machine.{Held, first, table_held, record_held, lacking, wants_more, Next, write, end, read, answer, next, written, answered, after_next, given, closed}
use Rattle.program_run.specs.Pieces.{joined_pieces, Written, written_first, turn, loop, Prints}
use Rattle.program_run.proofs.NextLaws.{write-next, end-next, read_next, read-open, answer-next}
use Rattle.program_run.proofs.HeldLaws.{Ready, whole, last}
use Rattle.program_run.proofs.ToPrintLaws.{to_print, first-to-print, end-to-print, written-to-print, given-to-print, closed-to-print, answer-to-print}
use Rattle.program_run.proofs.MeasureLaws.{size, answered-over, write-less, answer-less, given-no-more, closed-less}

-- the loop has ended, and has written this
abbrev done : List ℕ → Written
done text = record { text = text; ended = true }

-- no input comes after its end
record Ends (over : Bool) (pieces : List (List ℕ)) : Type 0 where
  nothing : over ≡ true → joined_pieces pieces ≡ []

still_open : {over : Bool} (pieces : List (List ℕ)) → over ≡ false → Ends over pieces
still_open pieces e = record { nothing = λ h. absurd (true≢false (sym h ∙ e)) }

-- what is answered is held whole, or no more input comes
held-ready :
    (judged over : Bool) (unused : List ℕ) (pieces : List (List ℕ))
    → Ends over pieces
    → lacking judged over unused ≡ false
    → Ready (cond judged (record_held unused) (table_held unused)) (joined_pieces pieces)
unfolding lacking
held-ready judged true unused pieces e h = last (e.nothing refl)
held-ready true false unused pieces e h = whole (not-false _ h)
held-ready false false unused pieces e h = whole (not-false _ h)

-- so many turns do all that is to be done
Enough : ℕ → Held → List (List ℕ) → Type 0
Enough turns h pieces =
    size h + length pieces < turns → Ends h.over pieces → loop turns h pieces ≡ done (to_print h (joined_pieces pieces))

-- one turn more, where the turns after it are enough
module _ (turns : ℕ) (after : (h : Held) (pieces : List (List ℕ)) → Enough turns h pieces) (h : Held) where
  write-turn :
      (text : List ℕ) (pieces : List (List ℕ))
      → size h + length pieces < suc turns
      → Ends h.over pieces
      → next h ≡ write text
      → written_first text (loop turns (written h) pieces) ≡ done (to_print h (joined_pieces pieces))
  unfolding Enough written_first written
  write-turn text pieces b e n =
      let less = write-less h text n in
      ap (written_first text) (after (written h) pieces (omega arith) e)
      ∙ ap done (rw (write-next h text n).0 (written-to-print h (joined_pieces pieces)))

  end-turn : (pieces : List (List ℕ)) → next h ≡ end → done [] ≡ done (to_print h (joined_pieces pieces))
  end-turn pieces n = let k = end-next h n in ap done (sym (end-to-print h (joined_pieces pieces) k.0 k.1))

  close-turn :
      size h + length {A = List ℕ} [] < suc turns
      → next h ≡ read
      → loop turns (closed h) [] ≡ done (to_print h [])
  unfolding Enough joined_pieces
  close-turn b n =
      let less = closed-less h n in
      after (closed h) [] (omega arith) (record { nothing = λ e. refl }) ∙ ap done (closed-to-print h [])

  read-turn :
      (piece : List ℕ) (rest : List (List ℕ))
      → size h + length (piece ∷ rest) < suc turns
      → next h ≡ read
      → loop turns (given h piece) rest ≡ done (to_print h (piece ++ joined_pieces rest))
  unfolding Enough given
  read-turn piece rest b n =
      let less = given-no-more h piece in
      after (given h piece) rest (omega arith) (still_open rest (read-open h n)) ∙ ap done (given-to-print h piece (joined_pieces rest))

  answer-turn :
      (pieces : List (List ℕ))
      → size h + length pieces < suc turns
      → Ends h.over pieces
      → next h ≡ answer
      → loop turns (answered h) pieces ≡ done (to_print h (joined_pieces pieces))
  unfolding Enough wants_more
  answer-turn pieces b e n =
      let less = answer-less h n in
      let k = answer-next h n in
      after (answered h) pieces (omega arith) (rw (answered-over h) e)
      ∙ ap done (sym (answer-to-print h (joined_pieces pieces) k.0 (held-ready h.judged h.over h.unused pieces e k.1)))

  any-turn :
      (n : Next) (pieces : List (List ℕ))
      → size h + length pieces < suc turns
      → Ends h.over pieces
      → next h ≡ n
      → turn (loop turns) n (after_next n h) pieces ≡ done (to_print h (joined_pieces pieces))
  unfolding turn after_next joined_pieces
  any-turn (write text) pieces b e n = write-turn text pieces b e n
  any-turn end pieces b e n = end-turn pieces n
  any-turn read [] b e n = close-turn b n
  any-turn read (piece ∷ rest) b e n = read-turn piece rest b n
  any-turn answer pieces b e n = answer-turn pieces b e n

enough : (turns : ℕ) (h : Held) (pieces : List (List ℕ)) → Enough turns h pieces
unfolding Enough loop
enough zero h pieces b e = absurd (omega arith)
enough (suc turns) h pieces b e = any-turn turns (enough turns) h (next h) pieces b e refl

-- before the first byte the input has not ended
first-open : (pieces : List (List ℕ)) → Ends first.over pieces
unfolding first
first-open pieces = still_open pieces refl

-- the texts that are handed over, joined, are `program` of the pieces joined, and the loop ends
pub the-program : (pieces : List (List ℕ)) → Prints pieces
unfolding Enough
the-program pieces =
    let turns = suc (size first + length pieces) in
    record {
      turns = turns;
      all = enough turns first pieces (omega arith) (first-open pieces) ∙ ap done (first-to-print (joined_pieces pieces));
    }

-- all text is handed over before input is asked for, and it is asked for only where the table or the next record is not whole
pub text-before-read : (h : Held) → next h ≡ read → (h.text ≡ []) × (wants_more h ≡ true)
text-before-read h n = read_next h n
