-- A step's rules in checking order, and what is made of the answer after them.
use Prim.{Unit}
use Prim.Native.Nat.{ℕ}
use mathlib.Core.Bool.{Bool, true, false, cond}
use mathlib.Core.List.{List}
use mathlib.Core.Path.{◌≡◌, refl, ap, ◌∙◌}
use Rattle.refusal.specs.Answers.{Answer, accepted, refused, and_then}
use Rattle.refusal.proofs.RuleLaws.{rule-then, then-kept}
use Rattle.units.specs.Ceiling.{some_passes, under_ceiling}
use Rattle.table.specs.Tables.{TableValues}
use Rattle.record.proofs.RecordLaws as record-laws
use Rattle.state.specs.States.{State}
use Rattle.entries.specs.Entries.{step_rules}

-- an answer that rule 16 judges
pub under-then :
    {A B : Type 0} (ns : List ℕ) (a : A) (f : A → B) → and_then (under_ceiling ns a) (λ x. accepted (f x)) ≡ under_ceiling ns (f a)
unfolding under_ceiling
under-then ns a f = go (some_passes ns)
  where
    go : (some : Bool) → and_then (cond some (refused 16) (accepted a)) (λ x. accepted (f x)) ≡ cond some (refused 16) (accepted (f a))
    go true = refl
    go false = refl

module _ (t : TableValues) (bytes : List ℕ) (s : State) where
  pub and-then : {A B : Type 0} (r : Answer A) (f : A → Answer B) → and_then (step_rules t bytes s r) f ≡ step_rules t bytes s (and_then r f)
  unfolding step_rules
  and-then r f = simp (rule-then, record-laws.and-then)

  -- the rules before 16 decide
  module _ {A : Type 0} (rest : Answer A) where
    rules-then : and_then (step_rules {A = Unit} t bytes s (accepted tt)) (λ _. rest) ≡ step_rules t bytes s rest
    rules-then = and-then (accepted tt) (λ _. rest)

    pub step-accepted : step_rules {A = Unit} t bytes s (accepted tt) ≡ accepted tt → step_rules t bytes s rest ≡ rest
    step-accepted h = rw (← rules-then, h)

    pub step-refused : {k : ℕ} → step_rules {A = Unit} t bytes s (accepted tt) ≡ refused k → step_rules t bytes s rest ≡ refused k
    step-refused h = rw (← rules-then, h)

    pub step_kept :
        {a : A}
        → step_rules t bytes s rest ≡ accepted a
        → (step_rules {A = Unit} t bytes s (accepted tt) ≡ accepted tt) × (rest ≡ accepted a)
    step_kept h = then-kept (step_rules t bytes s (accepted tt)) rest (rules-then ∙ h)

  -- and 16 with them, whatever the answer holds
  module _ {A : Type 0} (ns : List ℕ) (a : A) where
    all_then : and_then (step_rules {A = Unit} t bytes s (under_ceiling ns tt)) (λ _. accepted a) ≡ step_rules t bytes s (under_ceiling ns a)
    all_then = and-then (under_ceiling ns tt) (λ _. accepted a) ∙ ap (step_rules t bytes s) (under-then ns tt (λ _. a))

    pub all-accepted :
        step_rules {A = Unit} t bytes s (under_ceiling ns tt) ≡ accepted tt → step_rules t bytes s (under_ceiling ns a) ≡ accepted a
    all-accepted h = rw (← all_then, h)

    pub all-refused :
        {k : ℕ} → step_rules {A = Unit} t bytes s (under_ceiling ns tt) ≡ refused k → step_rules t bytes s (under_ceiling ns a) ≡ refused k
    all-refused h = rw (← all_then, h)
