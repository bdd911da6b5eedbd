-- Laws of an answer that is written into lent space: rules 15 and 16, and the figures laid out.
use Rattle.std.specs.Prelude.{Result, Ok, Err}
use Prim.{Unit}
use Prim.Native.Nat.{ℕ, ◌≤◌, ◌<◌}
use mathlib.Core.List.{List, ◌++◌}
use mathlib.Core.Path.{◌≡◌, refl, sym, ap, subst, ◌∙◌}
use borrow.Author.Tests.{le-leb, lt-leb}
use lib.Dec.{leb}
use lib.ListN.{length, drop}
use Rattle.refusal.specs.Refusals.{number}
use Rattle.refusal.specs.Answers.{Answer, accepted, refused, rule, answer_of}
use Rattle.refusal.specs.declared.Refusal.{Refusal}
use Rattle.refusal.specs.declared.Refusal.TheVariants.{AnswerSpace}
use Rattle.units.specs.Ceiling.{under_ceiling}
use Rattle.units.proofs.CeilingLaws.{same-accepted, same-refused-number}
use Rattle.method.specs.declared.Figures.{Figures}
use Rattle.table.specs.Rules.{table_rules}
use Rattle.table.proofs.TableLaws.{rules-accepted, rules-refused}
use Rattle.method.specs.Figures.{layout}
use Rattle.network.specs.Lent.{count_written, lent_after, Lent}

-- a refusal writes nothing
pub lent-refused :
    (out : List ℕ) (answer : Answer (List Figures)) (k : Refusal)
    → answer ≡ refused (number k)
    → Lent (Err k) out answer out
unfolding count_written lent_after
lent-refused out answer k e = rw e (record { count = refl; numbers = refl })

-- an answer known by another name
pub lent-as :
    {r : Result ℕ Refusal} {after before : List ℕ} {a b : Answer (List Figures)} → a ≡ b → Lent r after b before → Lent r after a before
lent-as {r} {after} {before} {a} {b} e h = subst (λ (x : Answer (List Figures)). Lent r after x before) (sym e) h

-- an answer on the bytes of an accepted table, and of a refused one
module _ (bytes : List ℕ) (rest : Answer (List Figures)) where
  pub lent-table :
      {r : Result ℕ Refusal} {after before : List ℕ}
      → table_rules {A = Unit} bytes (accepted tt) ≡ accepted tt
      → Lent r after rest before
      → Lent r after (table_rules bytes rest) before
  lent-table k h = lent-as (rules-accepted bytes rest k) h

  pub lent-table-refused :
      (before : List ℕ) (k : Refusal)
      → table_rules {A = Unit} bytes (accepted tt) ≡ refused (number k)
      → Lent (Err k) before (table_rules bytes rest) before
  lent-table-refused before k h = lent-refused before _ k (rules-refused bytes rest h)

-- the count of an answer
pub written-accepted :
    {answer : Answer (List Figures)} {fs : List Figures} {size : ℕ}
    → length (layout fs) ≡ size
    → answer ≡ accepted fs
    → accepted size ≡ count_written answer
unfolding count_written
written-accepted long e = rw e (ap accepted (sym long))

pub written-refused : {answer : Answer (List Figures)} {k : ℕ} → answer ≡ refused k → refused k ≡ count_written answer
unfolding count_written
written-refused e = rw e

-- figures laid out at the beginning of lent space
pub figures-lent :
    (out : List ℕ) {answer : Answer (List Figures)} {fs : List Figures} {after : List ℕ} {size count : ℕ}
    → answer ≡ accepted fs
    → length (layout fs) ≡ size
    → after ≡ layout fs ++ drop size out
    → count ≡ size
    → Lent (Ok count) after answer out
unfolding lent_after
figures-lent out k long a all = record { count = ap accepted all ∙ written-accepted long k; numbers = a ∙ rw (k, long) }

-- figures that take so many numbers, with the numbers that 16 judges
module _ (size : ℕ) (ns : List ℕ) (fs : List Figures) where
  abbrev pub space_answer : ℕ → Answer (List Figures)
  space_answer room = rule 15 (leb size room) (under_ceiling ns fs)

  -- 15
  pub space-refused : (out : List ℕ) → length out < size → Lent (Err AnswerSpace) out (space_answer (length out)) out
  space-refused out h = lent-refused out (space_answer (length out)) AnswerSpace (rw (lt-leb _ _ h))

  module _ (room : ℕ) (fits : size ≤ room) {v : Result Unit Refusal} (decided : answer_of v ≡ under_ceiling ns tt) where
    pub space-accepted : v ≡ Ok tt → space_answer room ≡ accepted fs
    space-accepted e = rw (le-leb _ _ fits) (same-accepted tt fs _ (sym (ap answer_of e) ∙ decided)).1

    -- 16
    pub ceiling-refused : {j : Refusal} → v ≡ Err j → space_answer room ≡ refused (number j)
    ceiling-refused e = rw (le-leb _ _ fits) (same-refused-number tt fs _ (sym decided ∙ ap answer_of e))

  -- nothing is written, or the figures are copied
  module _ (out : List ℕ) (fits : size ≤ length out) {v : Result Unit Refusal} (decided : answer_of v ≡ under_ceiling ns tt) where
    pub none-copied : {j : Refusal} → v ≡ Err j → Lent (Err j) out (space_answer (length out)) out
    none-copied {j} e = lent-refused out _ j (ceiling-refused (length out) fits decided e)

    pub all-copied :
        {after : List ℕ} {count : ℕ}
        → length (layout fs) ≡ size
        → after ≡ layout fs ++ drop size out
        → v ≡ Ok tt
        → count ≡ size
        → Lent (Ok count) after (space_answer (length out)) out
    all-copied long a e all = figures-lent out (space-accepted (length out) fits decided e) long a all
