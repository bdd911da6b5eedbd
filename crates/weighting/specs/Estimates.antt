-- A number with its margin, and the answer of what gives one.
use Rattle.refusal.specs.declared.Refusal.{Refusal}
use Prim.{Unit}
use Rattle.std.specs.Prelude.{ℕ, ◌≤◌, Result, Ok, Err}
use Rattle.units.specs.Units.{C}
use Rattle.weighting.specs.declared.Estimate.{Estimate}

abbrev pub estimate : ℕ → ℕ → Estimate
estimate n margin = record { value = n; margin = margin }

-- what callers may rely on: no number passes the ceiling
pub record EstimateFits (e : Estimate) : Type 0 where
  pub value : e.value ≤ C
  pub margin : e.margin ≤ C

unfoldable pub AnsweredEstimateFits : Result Estimate Refusal → Type 0
AnsweredEstimateFits (Ok e) = EstimateFits e
AnsweredEstimateFits (Err r) = Unit
