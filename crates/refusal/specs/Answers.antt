-- What a call answers: its values, or document 01's number for no.
use Rattle.std.specs.Prelude.{ℕ, Bool, cond, Result, Ok, Err}
use Rattle.refusal.specs.declared.Refusal.{Refusal}
use Rattle.refusal.specs.Refusals.{number}

pub data Answer (A : Type 0) : Type 0 where
  accepted : A → Answer A
  refused : ℕ → Answer A

-- the answer that a call's result gives: the values as they are, the number of a refusal
abbrev pub answer_of : {A : Type 0} → Result A Refusal → Answer A
answer_of (Ok a) = accepted a
answer_of (Err r) = refused (number r)

-- a second answer that is worked out from the values of a first; the first refusal stands
abbrev pub and_then : {A B : Type 0} → Answer A → (A → Answer B) → Answer B
and_then (accepted a) f = f a
and_then (refused n) f = refused n

-- a rule in checking order: where it is kept the rules after it decide, else its number is the answer
abbrev pub rule : {A : Type 0} → ℕ → Bool → Answer A → Answer A
rule n kept rest = cond kept rest (refused n)
