-- Document 01, Units.
use Rattle.std.specs.Prelude.{ℕ}
use Rattle.units.specs.declared.Discharge.{Discharge}
use Rattle.units.specs.declared.Variance.{Variance}

-- the ceiling C of every inflow, discharge, variance and margin
abbrev pub C : ℕ
C = 4_000_000_000

-- S: weights are whole numbers 0 to S
abbrev pub S : ℕ
S = 1_000_000_000

-- a discharge of so many grains of 0.000001 m³/s
abbrev pub grains : ℕ → Discharge
grains n = record { 0 = n }

-- a variance of so many units of 0.001 (m³/s)²
abbrev pub thousandths : ℕ → Variance
thousandths n = record { 0 = n }
