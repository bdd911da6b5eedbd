-- Document 01, Series weight: "F is the sum, for m from 0 to 12, of −T / lag to the power m, over m factorial."
use Rattle.std.specs.Prelude.{ℕ, zero, suc, ◌*◌}
use Rattle.exact.specs.Fraction.{Fraction, whole, minus, ◌⊕◌, ◌⊗◌, ◌⊘◌}

unfoldable pub power : Fraction → ℕ → Fraction
power x zero = whole 1
power x (suc m) = power x m ⊗ x

unfoldable pub factorial : ℕ → ℕ
factorial zero = 1
factorial (suc m) = factorial m * suc m

-- term m + term (m + 1) + .. + term (m + k)
unfoldable pub sum : (ℕ → Fraction) → ℕ → ℕ → Fraction
sum term m zero = term m
sum term m (suc k) = term m ⊕ sum term (suc m) k

unfoldable pub series_term : ℕ → ℕ → ℕ → Fraction
series_term T lag m = power (minus (whole T) ⊘ whole lag) m ⊘ whole (factorial m)

unfoldable pub F : ℕ → ℕ → Fraction
F T lag = sum (series_term T lag) 0 12
