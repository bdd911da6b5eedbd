-- Two records of either version with the same rains, releases and readings get the same answer of a step and of a trial.
use Prim.Native.Nat.{ℕ}
use mathlib.Core.Bool.{Bool, true, false}
use mathlib.Core.List.{List}
use mathlib.Core.Path.{◌≡◌, refl, sym, ◌∙◌, fun_ext}
use borrow.Author.Tests.{ltb-true}
use native.Mathlib.Omega.{arith}
use lib.Dec.{ltb}
use Rattle.refusal.specs.Answers.{Answer}
use Rattle.fields.proofs.RangeLaws.{all_same}
use Rattle.elements.specs.Kinds.{by_kind}
use Rattle.elements.specs.Elements.{no_element}
use Rattle.table.specs.Tables.{TableValues}
use Rattle.table.specs.InUse.{below, table_in}
use Rattle.table.specs.KindCounts.{basin_count, dam_count}
use Rattle.record.specs.Records.{rain_of, release_of, input_rain, input_release, input_at}
use Rattle.record.specs.Rules.{rain_fits, release_fits, reading_fits, rains_fit, releases_fit, readings_fit, record_rules}
use Rattle.record.proofs.SameLaws.{same-rain, same-release, same-observation}
use Rattle.cells.specs.Cells.{cells}
use Rattle.record.proofs.CellInputs.{basins-same, dams-same, reading-same}
use Rattle.state.specs.States.{State}
use Rattle.entries.specs.Entries.{step_rules, step_on_answer, step_answer}
use Rattle.entries.specs.Trials.{tried_answer, trial_answer}
use Rattle.entries.specs.SameReadings.{OfEitherVersion, SameReadings}

-- beyond the elements of a table there is nothing to bring
beyond : (t : TableValues) (i : ℕ) → ltb i (cells t).elements ≡ false → (cells t).element i ≡ no_element
unfolding cells below
beyond t i e = rw e

module _ (table one other : List ℕ) (same : SameReadings (table_in table) one other) where
  abbrev t : TableValues
  t = table_in table

  rain-same : (i : ℕ) → input_rain (cells t) one i ≡ input_rain (cells t) other i
  unfolding input_rain rain_of by_kind
  rain-same i = go (ltb i (cells t).elements) refl
    where
      go : (used : Bool) → ltb i (cells t).elements ≡ used → input_rain (cells t) one i ≡ input_rain (cells t) other i
      go true e = same-rain (cells t) one other i (rw (basins-same t) same.rains) (ltb-true _ _ e)
      go false e = rw (beyond t i e)

  release-same : (i : ℕ) → input_release (cells t) one i ≡ input_release (cells t) other i
  unfolding input_release release_of by_kind
  release-same i = go (ltb i (cells t).elements) refl
    where
      go : (used : Bool) → ltb i (cells t).elements ≡ used → input_release (cells t) one i ≡ input_release (cells t) other i
      go true e = same-release (cells t) one other i (rw (basins-same t, dams-same t) same.releases) (ltb-true _ _ e)
      go false e = rw (beyond t i e)

  input-same : input_at (cells t) one ≡ input_at (cells t) other
  unfolding input_at table_in cells
  input-same =
      fun_ext
      (λ i.
      rw (rain-same i, release-same i, same-observation (cells t) one other i (λ k l _. reading-same t one k ∙ (same.readings k l ∙ sym (reading-same t other k))) t.gauges (omega arith)))

  -- the rules that ask for the numbers, and those that are kept
  rains-same : rains_fit t one ≡ rains_fit t other
  unfolding rain_fits
  rains-same = all_same _ _ (basin_count t) (λ k l. rw (same.rains k l))

  releases-same : releases_fit t one ≡ releases_fit t other
  unfolding release_fits
  releases-same = all_same _ _ (dam_count t) (λ k l. rw (same.releases k l))

  readings-same : readings_fit t one ≡ readings_fit t other
  unfolding reading_fits
  readings-same = all_same _ _ t.gauges (λ g l. rw (same.readings g l))

  module _ (first : OfEitherVersion t one) (second : OfEitherVersion t other) where
    rules-same : {A : Type 0} (rest : Answer A) → record_rules t one rest ≡ record_rules t other rest
    unfolding record_rules
    rules-same rest =
        rw (
          first.length,
          first.version,
          first.stages,
          first.floats,
          second.length,
          second.version,
          second.stages,
          second.floats,
          rains-same,
          releases-same,
          readings-same,
        )

    -- equal readings in either version give equal figures
    pub same_step : (s : State) → step_answer table one s ≡ step_answer table other s
    unfolding step_answer step_on_answer step_rules
    same_step s = rw (input-same) (rw (rules-same _))

    pub same-trial : (s : State) (room : ℕ) → trial_answer table one s room ≡ trial_answer table other s room
    unfolding trial_answer tried_answer step_rules
    same-trial s room = rw (input-same) (rw (rules-same _))
