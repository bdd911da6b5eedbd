-- What an answer of a unit's constructor says.
use Prim.Native.Nat.{ℕ, ◌≤◌, ◌<◌}
use mathlib.Core.List.{[], ◌∷◌}
use mathlib.Core.Path.{◌≡◌, ap, sym, ◌∙◌}
use Rattle.std.specs.Prelude.{Result, Ok, Err}
use Rattle.refusal.specs.declared.Refusal.{Refusal}
use Rattle.refusal.specs.Answers.{answer_of}
use Rattle.units.specs.Units.{C}
use Rattle.units.specs.Ceiling.{under_ceiling}
use Rattle.units.proofs.CeilingLaws.{refused-one, accepted-one}

-- of a number that is judged alone, in any unit
module _ {A : Type 0} (unit : ℕ → A) (n : ℕ) {r : Result A Refusal} where
  pub unit-over : {k : Refusal} → r ≡ Err k → answer_of r ≡ under_ceiling (n ∷ []) (unit n) → C < n
  unit-over p e = refused-one _ _ (sym (ap answer_of p) ∙ e)

  pub unit-known : {x : A} → r ≡ Ok x → answer_of r ≡ under_ceiling (n ∷ []) (unit n) → (n ≤ C) × (x ≡ unit n)
  unit-known p e = accepted-one _ _ (sym (ap answer_of p) ∙ e)
