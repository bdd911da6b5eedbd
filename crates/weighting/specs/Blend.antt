-- Document 01, Blend.
use Rattle.std.specs.Prelude.{ℕ, ◌+◌, ◌-◌, ◌*◌, ◌/◌, max, min, [], ◌∷◌}
use Rattle.refusal.specs.Answers.{Answer}
use Rattle.units.specs.Units.{S}
use Rattle.units.specs.Ceiling.{under_ceiling}
use Rattle.weighting.specs.declared.Estimate.{Estimate}

-- "[(w × X + (S − w) × Y) / S]"
unfoldable pub weighted_mean : ℕ → ℕ → ℕ → ℕ
weighted_mean w x y = (w * x + (S - w) * y) / S

-- "the gap being the larger of X and Y less the smaller"
unfoldable pub gap_of : ℕ → ℕ → ℕ
gap_of x y = max x y - min x y

-- "Blend of X (margin E) and Y (margin E2) by weight w with weight margin g: value [(w × X + (S − w) × Y) / S],
-- margin [(w × E + (S − w) × E2) / S] + [g × (gap + E + E2) / S] + 3"
unfoldable pub blended : ℕ → ℕ → Estimate → Estimate → Estimate
blended w g x y =
    record {
      value = weighted_mean w x.value y.value;
      margin =
          weighted_mean w x.margin y.margin + g * (gap_of x.value y.value + x.margin + y.margin) / S + 3;
    }

-- rule 16 judges the margin "of a blend on the way"; the value is never above the larger of X and Y
unfoldable pub blend_answer : ℕ → ℕ → Estimate → Estimate → Answer Estimate
blend_answer w g x y = under_ceiling ((blended w g x y).margin ∷ []) (blended w g x y)
