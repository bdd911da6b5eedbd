-- Document 01, The run in fractions: "A fraction is two whole numbers, the upper of either sign, the lower above 0; they are
-- added, multiplied and divided in the usual way and compared by cross products."
use Rattle.std.specs.Prelude.{ℕ, zero, suc, ◌*◌, ◌<◌, ℤ, pos, negsuc, neg_ℤ, ◌+ℤ◌, ◌*ℤ◌, ◌≤ℤ◌}
use Rattle.std.proofs.Common.{mul-pos, arith}

pub record Fraction : Type 0 where
  pub upper : ℤ
  pub lower : ℕ
  pub above : 0 < lower

-- a whole number as a fraction
unfoldable pub whole : ℕ → Fraction
whole n = record { upper = pos n; lower = 1; above = omega arith }

infixl 6 ◌⊕◌ ◌⊖◌
infixl 7 ◌⊗◌ ◌⊘◌
infix 5 ◌≼◌
unfoldable pub ◌⊕◌ : Fraction → Fraction → Fraction
x ⊕ y =
    record {
      upper = (x.upper *ℤ pos y.lower) +ℤ (y.upper *ℤ pos x.lower);
      lower = x.lower * y.lower;
      above = mul-pos x.above y.above;
    }

unfoldable pub minus : Fraction → Fraction
minus x = record { upper = neg_ℤ x.upper; lower = x.lower; above = x.above }

unfoldable pub ◌⊖◌ : Fraction → Fraction → Fraction
x ⊖ y = x ⊕ minus y

unfoldable pub ◌⊗◌ : Fraction → Fraction → Fraction
x ⊗ y = record { upper = x.upper *ℤ y.upper; lower = x.lower * y.lower; above = mul-pos x.above y.above }

-- d over an upper number; over 0 it is 0, and nothing here divides by 0
unfoldable pub inverse : ℤ → ℕ → Fraction
inverse (pos zero) d = whole 0
inverse (pos (suc n)) d = record { upper = pos d; lower = suc n; above = omega arith }
inverse (negsuc n) d = record { upper = neg_ℤ (pos d); lower = suc n; above = omega arith }

unfoldable pub ◌⊘◌ : Fraction → Fraction → Fraction
x ⊘ y = x ⊗ inverse y.upper y.lower

-- at most, by cross products
pub record ◌≼◌ (x y : Fraction) : Type 0 where
  pub cross : (x.upper *ℤ pos y.lower) ≤ℤ (y.upper *ℤ pos x.lower)

-- "the larger less the smaller is at most the margin"
pub record Within (n : ℕ) (x : Fraction) (margin : ℕ) : Type 0 where
  pub below : whole n ⊖ x ≼ whole margin
  pub above : x ⊖ whole n ≼ whole margin
