-- A record is judged alike by a river's elements and by its cells.
use Prim.{Unit}
use Prim.Native.Nat.{ℕ}
use mathlib.Core.List.{List}
use mathlib.Core.Path.{◌≡◌, ◌∙◌}
use Rattle.refusal.specs.Answers.{Answer, accepted}
use Rattle.fields.proofs.RangeLaws.{all_same}
use Rattle.table.specs.Tables.{TableValues}
use Rattle.cells.specs.Cells.{cells}
use Rattle.record.specs.Records.{reading_at}
use Rattle.record.proofs.CellInputs.{basins-same, dams-same, gauges-same, reading-same, observed-same}
use Rattle.record.specs.Rules.{reading_fits, readings_fit, record_rules}

module _ (t : TableValues) where
  test-same : (bytes : List ℕ) (g : ℕ) → reading_fits (cells t) bytes g ≡ reading_fits t bytes g
  unfolding reading_fits
  test-same bytes g = rw (reading-same t bytes g, observed-same t g (reading_at t bytes g))

  tests_same : (bytes : List ℕ) → readings_fit (cells t) bytes ≡ readings_fit t bytes
  unfolding cells
  tests_same bytes = all_same _ _ t.gauges (λ g l. test-same bytes g)

  pub cells-rules : {A : Type 0} (bytes : List ℕ) (rest : Answer A) → record_rules (cells t) bytes rest ≡ record_rules t bytes rest
  unfolding record_rules
  cells-rules bytes rest = rw (tests_same bytes, basins-same t, dams-same t, gauges-same t)

  pub cells-kept : (bytes : List ℕ) → record_rules {A = Unit} t bytes (accepted tt) ≡ accepted tt → record_rules {A = Unit} (cells t) bytes (accepted tt) ≡ accepted tt
  cells-kept bytes h = cells-rules bytes (accepted tt) ∙ h
