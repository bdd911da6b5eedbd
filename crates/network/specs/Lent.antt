-- Document 01, Numbers for no: "Where an answer is written into lent space, the count written is part of the answer and what
-- lies after it stays."
use Rattle.refusal.specs.declared.Refusal.{Refusal}
use Rattle.std.specs.Prelude.{ℕ, List, ◌++◌, ◌≡◌, length, drop, Result}
use Rattle.refusal.specs.Answers.{Answer, accepted, refused, answer_of}
use Rattle.method.specs.declared.Figures.{Figures}
use Rattle.method.specs.Figures.{layout}

unfoldable pub count_written : Answer (List Figures) → Answer ℕ
count_written (accepted fs) = accepted (length (layout fs))
count_written (refused n) = refused n

-- the lent numbers after the call
unfoldable pub lent_after : Answer (List Figures) → List ℕ → List ℕ
lent_after (accepted fs) before = layout fs ++ drop (length (layout fs)) before
lent_after (refused n) before = before

-- the answer of a forecast or a trial, and the lent numbers that it leaves
pub record Lent (r : Result ℕ Refusal) (after : List ℕ) (answer : Answer (List Figures)) (before : List ℕ) : Type 0 where
  pub count : answer_of r ≡ count_written answer
  pub numbers : after ≡ lent_after answer before
