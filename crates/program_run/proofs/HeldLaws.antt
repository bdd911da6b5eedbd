-- Laws of a table and of a record that are held whole: what comes after their bytes changes nothing of them.
use Prim.Native.Nat.{ℕ, ◌+◌, ◌≤◌, ◌<◌}
use mathlib.Core.Bool.{Bool, true, false, cond, false≢true}
use mathlib.Core.List.{List, [], ◌++◌, append-nil}
use mathlib.Core.Path.{◌≡◌, refl, sym, ap, ◌∙◌}
use native.Mathlib.Omega.{arith}
use borrow.Author.Tests.{leb-true, ltb-true, lt-leb}
use lib.Dec.{leb, ltb}
use lib.ListN.{length, take, drop, get_or-append}
use lib.Seq.{take-append-le, drop-append-le}
use Rattle.sizes.specs.Sizes.{table_bytes}
use Rattle.refusal.specs.Answers.{accepted, refused}
use Rattle.refusal.proofs.RuleLaws.{not-both}
use Rattle.fields.specs.Bytes.{byte_at, number16, number32}
use Rattle.state.specs.States.{State}
use Rattle.table_input.specs.Start.{table_part, input_answer}
use Rattle.program.specs.Program.{record_bytes, rest_after}
use Rattle.program_run.specs.Machine.{table_held, record_held}

-- it is held whole, or nothing comes after what is held
pub data Ready (held : Bool) (more : List ℕ) : Type 0 where
  whole : held ≡ true → Ready held more
  last : more ≡ [] → Ready held more

-- the same answer to a table, and where it is accepted the same bytes and the rest after them
pub record TableWhole (bytes more : List ℕ) : Type 0 where
  pub answer : (s : State) → input_answer (bytes ++ more) s ≡ input_answer bytes s
  pub part : (s after : State) → input_answer bytes s ≡ accepted after → table_part (bytes ++ more) ≡ table_part bytes
  pub rest :
      (s after : State)
      → input_answer bytes s ≡ accepted after
      → drop (number32 (bytes ++ more) 0 + 4) (bytes ++ more) ≡ drop (number32 bytes 0 + 4) bytes ++ more

-- the same bytes of a record, and the rest after them
pub record RecordWhole (bytes more : List ℕ) : Type 0 where
  pub same : record_bytes (bytes ++ more) ≡ record_bytes bytes
  pub rest : rest_after (bytes ++ more) ≡ rest_after bytes ++ more

-- ---- the length fields

byte_more : (bytes more : List ℕ) (at : ℕ) → at < length bytes → byte_at (bytes ++ more) at ≡ byte_at bytes at
byte_more bytes more at h = get_or-append bytes more 0 at h

number16-more : (bytes more : List ℕ) (at : ℕ) → at + 2 ≤ length bytes → number16 (bytes ++ more) at ≡ number16 bytes at
number16-more bytes more at h = rw (byte_more bytes more at (omega arith), byte_more bytes more (at + 1) (omega arith))

number32-more : (bytes more : List ℕ) → 4 ≤ length bytes → number32 (bytes ++ more) 0 ≡ number32 bytes 0
number32-more bytes more h = rw (number16-more bytes more 0 (omega arith), number16-more bytes more 2 (omega arith))

-- ---- at the end of the input

nothing-more : (bytes more : List ℕ) → more ≡ [] → bytes ++ more ≡ bytes
nothing-more bytes more e = ap (λ (l : List ℕ). bytes ++ l) e ∙ append-nil bytes

table-last : (bytes more : List ℕ) → more ≡ [] → TableWhole bytes more
table-last bytes more e =
    let all = nothing-more bytes more e in
    record {
      answer = λ s. ap (λ (l : List ℕ). input_answer l s) all;
      part = λ s after a. ap table_part all;
      rest = λ s after a. ap (λ (l : List ℕ). drop (number32 l 0 + 4) l) all ∙ sym (nothing-more _ more e);
    }

record-last : (bytes more : List ℕ) → more ≡ [] → RecordWhole bytes more
record-last bytes more e =
    let all = nothing-more bytes more e in
    record { same = ap record_bytes all; rest = ap rest_after all ∙ sym (nothing-more _ more e) }

-- ---- a table

-- one that is too long
refused-long : (input : List ℕ) (s : State) → table_bytes < number32 input 0 + 4 → input_answer input s ≡ refused 1
unfolding input_answer
refused-long input s h = rw (lt-leb (number32 input 0 + 4) table_bytes h)

table-long : (bytes more : List ℕ) → 4 ≤ length bytes → table_bytes < number32 bytes 0 + 4 → TableWhole bytes more
table-long bytes more few h =
    let n = number32-more bytes more few in
    record {
      answer = λ s. refused-long (bytes ++ more) s (omega (arith, h, n)) ∙ sym (refused-long bytes s h);
      part = λ s after a. absurd (not-both a (refused-long bytes s h));
      rest = λ s after a. absurd (not-both a (refused-long bytes s h));
    }

-- one whose bytes are all there
part-more :
    (bytes more : List ℕ) → 4 ≤ length bytes → number32 bytes 0 + 4 ≤ length bytes → table_part (bytes ++ more) ≡ table_part bytes
unfolding table_part
part-more bytes more few h =
    ap (λ (k : ℕ). take (k + 4) (bytes ++ more)) (number32-more bytes more few) ∙ take-append-le (number32 bytes 0 + 4) bytes more h

rest_more :
    (bytes more : List ℕ)
    → 4 ≤ length bytes
    → number32 bytes 0 + 4 ≤ length bytes
    → drop (number32 (bytes ++ more) 0 + 4) (bytes ++ more) ≡ drop (number32 bytes 0 + 4) bytes ++ more
rest_more bytes more few h =
    ap (λ (k : ℕ). drop (k + 4) (bytes ++ more)) (number32-more bytes more few) ∙ drop-append-le (number32 bytes 0 + 4) bytes more h

answer-as :
    (a b : List ℕ) (s : State) → number32 a 0 ≡ number32 b 0 → table_part a ≡ table_part b → input_answer a s ≡ input_answer b s
unfolding input_answer
answer-as a b s n p = rw (n, p)

table-there : (bytes more : List ℕ) → 4 ≤ length bytes → number32 bytes 0 + 4 ≤ length bytes → TableWhole bytes more
table-there bytes more few h =
    record {
      answer = λ s. answer-as (bytes ++ more) bytes s (number32-more bytes more few) (part-more bytes more few h);
      part = λ s after a. part-more bytes more few h;
      rest = λ s after a. rest_more bytes more few h;
    }

both_true : (a b : Bool) → cond a b false ≡ true → (a ≡ true) × (b ≡ true)
both_true true b h = (refl, h)
both_true false b h = absurd (false≢true h)

table-held : (bytes more : List ℕ) → table_held bytes ≡ true → TableWhole bytes more
unfolding table_held
table-held bytes more h = go (ltb table_bytes (number32 bytes 0 + 4)) refl both.1
  where
    both :
        (leb 4 (length bytes) ≡ true)
        × (cond (ltb table_bytes (number32 bytes 0 + 4)) true (leb (number32 bytes 0 + 4) (length bytes)) ≡ true)
    both = both_true (leb 4 (length bytes)) _ h

    few : 4 ≤ length bytes
    few = leb-true _ _ both.0

    go :
        (long : Bool)
        → ltb table_bytes (number32 bytes 0 + 4) ≡ long
        → cond long true (leb (number32 bytes 0 + 4) (length bytes)) ≡ true
        → TableWhole bytes more
    go true e k = table-long bytes more few (ltb-true _ _ e)
    go false e k = table-there bytes more few (leb-true _ _ k)

pub table-whole : (bytes more : List ℕ) → Ready (table_held bytes) more → TableWhole bytes more
table-whole bytes more (whole h) = table-held bytes more h
table-whole bytes more (last e) = table-last bytes more e

-- ---- a record

record-held : (bytes more : List ℕ) → number16 bytes 0 + 2 ≤ length bytes → RecordWhole bytes more
unfolding record_bytes rest_after
record-held bytes more h =
    let n = number16-more bytes more 0 (omega arith) in
    record {
      same = ap (λ (k : ℕ). take (k + 2) (bytes ++ more)) n ∙ take-append-le (number16 bytes 0 + 2) bytes more h;
      rest = ap (λ (k : ℕ). drop (k + 2) (bytes ++ more)) n ∙ drop-append-le (number16 bytes 0 + 2) bytes more h;
    }

pub record-whole : (bytes more : List ℕ) → Ready (record_held bytes) more → RecordWhole bytes more
unfolding record_held
record-whole bytes more (whole h) = record-held bytes more (leb-true _ _ h)
record-whole bytes more (last e) = record-last bytes more e

-- no record is held whole in no byte
pub nothing-held : (more : List ℕ) → Ready (record_held []) more → more ≡ []
unfolding record_held
nothing-held more (whole h) = absurd (false≢true h)
nothing-held more (last e) = e
