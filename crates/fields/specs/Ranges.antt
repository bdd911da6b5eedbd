-- Tests that the rules are made of.
use Rattle.std.specs.Prelude.{ℕ, zero, suc, Bool, true, ◌&&◌, leb}

-- "low to high"
abbrev pub in_range : ℕ → ℕ → ℕ → Bool
in_range x low high = leb low x && leb x high

-- whether a test holds of 0, .., n - 1
unfoldable pub all_below : (ℕ → Bool) → ℕ → Bool
all_below test zero = true
all_below test (suc n) = all_below test n && test n
