-- How much is still to be done: every turn but the last leaves less.
use Prim.Native.Nat.{ℕ, zero, suc, ◌+◌, ◌-◌, ◌*◌, ◌≤◌, ◌<◌}
use mathlib.Core.Bool.{Bool, true, false, cond, true≢false}
use mathlib.Core.List.{List, [], ◌∷◌}
use mathlib.Core.Path.{◌≡◌, refl, ◌∙◌}
use native.Mathlib.Omega.{arith}
use lib.Dec.{eqb}
use lib.ListN.{length, length-append}
use Rattle.sizes.specs.Sizes.{longest_record}
use Rattle.refusal.specs.Answers.{Answer, accepted, refused}
use Rattle.state.specs.States.{State}
use Rattle.table_input.specs.Start.{input_answer}
use Rattle.program.specs.Records.{record_printed}
use Rattle.program.specs.Program.{record_bytes}
use Rattle.program_run.specs.Machine.{Held, none_left, ended, write, read, answer, next, written, table_answered, record_answered, stopped, records_answered, answered, given, closed}
use Rattle.program_run.proofs.NextLaws.{write-next, read-open, answer-next}

-- by what is left to be answered, then by the bytes that a record may still lack and whether more input comes, then by whether there
-- is text
unfoldable pub size_of : ℕ → ℕ → ℕ → ℕ → ℕ
size_of answers bytes comes text = 2 * ((longest_record + 1) * answers + (longest_record - bytes) + comes) + text

-- the records that are left, and the table
unfoldable pub answers_left : Bool → ℕ → ℕ
answers_left judged left = left + cond judged 0 1

unfoldable pub size : Held → ℕ
size h =
    size_of (answers_left h.judged h.left) (length h.unused) (cond h.over 0 1) (cond (eqb (length h.text) 0) 0 1)

-- ---- over plain numbers

at_most_one : (b : Bool) → cond b 0 1 ≤ 1
at_most_one true = omega arith
at_most_one false = omega arith

less-text : (answers bytes comes text' text : ℕ) → text' < text → size_of answers bytes comes text' < size_of answers bytes comes text
unfolding size_of
less-text answers bytes comes text' text h = omega arith

less-answers :
    (answers' answers bytes' bytes comes text' text : ℕ)
    → answers' < answers
    → text' ≤ 1
    → size_of answers' bytes' comes text' < size_of answers bytes comes text
unfolding size_of
less-answers answers' answers bytes' bytes comes text' text h few = omega arith

more_bytes :
    (answers bytes' bytes comes text : ℕ)
    → bytes < longest_record
    → bytes < bytes'
    → size_of answers bytes' comes text < size_of answers bytes comes text
unfolding size_of
more_bytes answers bytes' bytes comes text few h = omega arith

no-fewer-bytes :
    (answers bytes' bytes comes text : ℕ) → bytes ≤ bytes' → size_of answers bytes' comes text ≤ size_of answers bytes comes text
unfolding size_of
no-fewer-bytes answers bytes' bytes comes text h = omega arith

less-comes :
    (answers bytes comes' comes text : ℕ) → comes' < comes → size_of answers bytes comes' text < size_of answers bytes comes text
unfolding size_of
less-comes answers bytes comes' comes text h = omega arith

-- ---- an answer

table-fewer : (h : Held) (a : Answer State) → (table_answered h a).left ≤ h.left
unfolding table_answered
table-fewer h (accepted s) = omega arith
table-fewer h (refused n) = omega arith

table-judged : (h : Held) (a : Answer State) → (table_answered h a).judged ≡ true
unfolding table_answered
table-judged h (accepted s) = refl
table-judged h (refused n) = refl

table-over : (h : Held) (a : Answer State) → (table_answered h a).over ≡ h.over
unfolding table_answered
table-over h (accepted s) = refl
table-over h (refused n) = refl

ended-fewer : (over : Bool) (left : ℕ) → 0 < left → cond over 0 (left - 1) < left
ended-fewer true left h = omega arith
ended-fewer false left h = omega arith

records-fewer : (h : Held) (unused : List ℕ) → 0 < h.left → (records_answered h unused).left < h.left
unfolding records_answered record_answered stopped
records-fewer h [] n = n
records-fewer h (b ∷ rest) n = ended-fewer (record_printed h.table (record_bytes (b ∷ rest)) h.state).ended h.left n

records-judged : (h : Held) (unused : List ℕ) → (records_answered h unused).judged ≡ h.judged
unfolding records_answered record_answered stopped
records-judged h [] = refl
records-judged h (b ∷ rest) = refl

records-over : (h : Held) (unused : List ℕ) → (records_answered h unused).over ≡ h.over
unfolding records_answered record_answered stopped
records-over h [] = refl
records-over h (b ∷ rest) = refl

-- the input has ended after an answer where it had before
picked-over : (judged : Bool) (a b : Held) {over : Bool} → a.over ≡ over → b.over ≡ over → (cond judged a b).over ≡ over
picked-over true a b p q = p
picked-over false a b p q = q

pub answered-over : (h : Held) → (answered h).over ≡ h.over
unfolding answered
answered-over h = picked-over h.judged _ _ (records-over h h.unused) (table-over h (input_answer h.unused h.state))

some_left : (left : ℕ) → none_left true left ≡ false → 0 < left
unfolding none_left
some_left zero n = absurd (true≢false n)
some_left (suc left) n = omega arith

-- one answer less is left
one_less :
    (judged' judged : Bool) (left' left : ℕ)
    → judged' ≡ true
    → left' < left + cond judged 0 1
    → answers_left judged' left' < answers_left judged left
unfolding answers_left
one_less judged' judged left' left e h = rw e (omega arith)

picked-fewer :
    (judged : Bool) (a b : Held) (left : ℕ)
    → (judged ≡ true → (a.judged ≡ true) × (a.left < left))
    → b.judged ≡ true
    → b.left ≤ left
    → answers_left (cond judged a b).judged (cond judged a b).left < answers_left judged left
picked-fewer true a b left f j h = one_less a.judged true a.left left (f refl).0 (omega (arith, (f refl).1))
picked-fewer false a b left f j h = one_less b.judged false b.left left j (omega arith)

answered-fewer :
    (h : Held) → ended h ≡ false → answers_left (answered h).judged (answered h).left < answers_left h.judged h.left
unfolding answered ended
answered-fewer h n =
    let a = input_answer h.unused h.state in
    picked-fewer h.judged _ _ h.left
    (λ j. (records-judged h h.unused ∙ j, records-fewer h h.unused (some_left h.left (rw j at n)))) (table-judged h a)
    (table-fewer h a)

-- ---- the turns

pub write-less : (h : Held) (text : List ℕ) → next h ≡ write text → size (written h) < size h
unfolding size written
write-less h text n =
    let due : ◌≡◌ {A = ℕ} (cond (eqb (length h.text) 0) 0 1) 1 = rw (write-next h text n).1 in
    less-text (answers_left h.judged h.left) (length h.unused) (cond h.over 0 1) 0
    (cond (eqb (length h.text) 0) 0 1) (omega arith)

pub answer-less : (h : Held) → next h ≡ answer → size (answered h) < size h
unfolding size
answer-less h n =
    rw (answered-over h)
    (less-answers _ _ _ _ _ _ _ (answered-fewer h (answer-next h n).0) (at_most_one (eqb (length (answered h).text) 0)))

pub given-less :
    (h : Held) (piece : List ℕ)
    → length h.unused < longest_record
    → 0 < length piece
    → size (given h piece) < size h
unfolding size given
given-less h piece few some =
    more_bytes _ _ (length h.unused) _ _ few (omega (arith, length-append h.unused piece))

pub given-no-more : (h : Held) (piece : List ℕ) → size (given h piece) ≤ size h
unfolding size given
given-no-more h piece = no-fewer-bytes _ _ (length h.unused) _ _ (omega (arith, length-append h.unused piece))

pub closed-less : (h : Held) → next h ≡ read → size (closed h) < size h
unfolding size closed
closed-less h n = rw (read-open h n) (less-comes _ _ 0 1 _ (omega arith))
