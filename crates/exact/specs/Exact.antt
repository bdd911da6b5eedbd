-- Document 01, The run in fractions, and document 02, M-103: the rules for one element.
use Rattle.std.specs.Prelude.{ℕ, ◌*◌, cond, List, eqb}
use Rattle.refusal.specs.Answers.{Answer, accepted, and_then}
use Rattle.rating.specs.declared.Piece.{Piece}
use Rattle.rating.specs.Rating.{piece_for, depth}
use Rattle.exact.specs.Fraction.{Fraction, whole, ◌⊕◌, ◌⊖◌, ◌⊗◌, ◌⊘◌}

-- a discharge or an inflow, and its variance
pub record ExactFigures : Type 0 where
  pub discharge : Fraction
  pub variance : Fraction

-- "With x the old discharge, j the inflow .. the discharge is F × x + (1 − F) × j"
unfoldable pub exact_blend : Fraction → Fraction → Fraction → Fraction
exact_blend F x j = F ⊗ x ⊕ (whole 1 ⊖ F) ⊗ j

-- "v the old variance and u the inflow variance .. the variance F × F × v + (1 − F) × (1 − F) × u + W"
unfoldable pub exact_variance : Fraction → ℕ → Fraction → Fraction → Fraction
exact_variance F W u v = F ⊗ F ⊗ v ⊕ (whole 1 ⊖ F) ⊗ (whole 1 ⊖ F) ⊗ u ⊕ whole W

unfoldable pub exact_routed : Fraction → ℕ → ExactFigures → ExactFigures → ExactFigures
exact_routed F W inflow old =
    record {
      discharge = exact_blend F old.discharge inflow.discharge;
      variance = exact_variance F W inflow.variance old.variance;
    }

-- "the gain is v / (v + R)"
unfoldable pub exact_gain : ℕ → Fraction → Fraction
exact_gain R v = v ⊘ (v ⊕ whole R)

-- "the discharge x + gain × (z − x), the variance v × R / (v + R)"
unfoldable pub exact_corrected : ℕ → Fraction → ExactFigures → ExactFigures
exact_corrected R z x =
    record {
      discharge = x.discharge ⊕ exact_gain R x.variance ⊗ (z ⊖ x.discharge);
      variance = x.variance ⊗ whole R ⊘ (x.variance ⊕ whole R);
    }

-- "The curve's z and all inflows are unrounded.": a (h + b)² / 1,000
unfoldable pub exact_rated : ℕ → List Piece → Answer Fraction
exact_rated h pieces =
    and_then (piece_for h pieces) (λ p.
    and_then (depth h p.offset) (λ d.
    accepted (whole (p.factor * (d * d)) ⊘ whole 1000)))

-- 5 × rain × area × f / 18, known for certain
unfoldable pub exact_step_inflow : ℕ → ℕ → ℕ → ExactFigures
exact_step_inflow rain area f =
    record { discharge = whole (5 * rain * area * f) ⊘ whole 18; variance = whole 0 }

-- 5 × s × area × f / (18 × c), 0 where c is 0; the variance lead × G
unfoldable pub exact_forecast_inflow : ℕ → ℕ → ℕ → ℕ → ℕ → ℕ → ExactFigures
exact_forecast_inflow s c area f lead G =
    record {
      discharge = cond (eqb c 0) (whole 0) (whole (5 * s * area * f) ⊘ whole (18 * c));
      variance = whole (lead * G);
    }

-- what drains into a reach is added up
unfoldable pub exact_nothing : ExactFigures
exact_nothing = record { discharge = whole 0; variance = whole 0 }

unfoldable pub exact_sum : ExactFigures → ExactFigures → ExactFigures
exact_sum x y = record { discharge = x.discharge ⊕ y.discharge; variance = x.variance ⊕ y.variance }

-- M-103: "The run in fractions takes the unrounded half sum", of old and new outflows; the variance is that of the new ones
unfoldable pub exact_old_outflow : ExactFigures → ExactFigures
exact_old_outflow old = record { discharge = old.discharge; variance = whole 0 }

unfoldable pub exact_old_and_new_outflow : ExactFigures → ExactFigures → ExactFigures
exact_old_and_new_outflow old new = exact_sum (exact_old_outflow old) new

unfoldable pub exact_reach_inflow : ExactFigures → ExactFigures
exact_reach_inflow above = record { discharge = above.discharge ⊘ whole 2; variance = above.variance }
