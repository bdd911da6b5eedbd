-- Where no reading has come in, no gauge corrects.
use Rattle.units.specs.declared.Stage.{Stage}
use Rattle.std.specs.Prelude.{Option, Some, None}
use Prim.Native.Nat.{ℕ, zero, suc, ◌+◌}
use mathlib.Core.Bool.{Bool, true, false, cond}
use mathlib.Core.List.{List}
use mathlib.Core.Path.{◌≡◌, refl, sym, subst, ◌∙◌}
use native.Mathlib.Numerals.{add-one}
use native.Mathlib.Omega.{arith}
use lib.Dec.{eqb}
use Rattle.units.proofs.UnderLaws.{neither}
use Rattle.table.specs.Tables.{TableValues}
use Rattle.record.specs.Records.{reading_at, observation_of, accepted_observation, observation_at, at_element, input_observation, input_at}
use Rattle.network.specs.Step.{observed_in}
use Rattle.claim.specs.CabinetRun.{is_reading, has_reading_after}

module _ (t : TableValues) (bytes : List ℕ) where
  -- a gauge that has a gap observes nothing
  gap-observes : (g : ℕ) (r : Option Stage) → is_reading r ≡ false → accepted_observation (observation_of (t.gauge g) r) ≡ None
  unfolding is_reading observation_of accepted_observation
  gap-observes g None h = refl
  gap-observes g (Some k) h = let z : ◌≡◌ {A = ℕ} 0 1 = cc in absurd (omega arith)

  -- nor do the gauges of which the one at the element has a gap
  gaps-observe :
      (i m : ℕ)
      → is_reading (at_element t None (reading_at t bytes) i m) ≡ false
      → at_element t None (observation_at t bytes) i m ≡ None
  unfolding at_element observation_at
  gaps-observe i zero h = refl
  gaps-observe i (suc g) h = go (eqb (t.gauge g).element (i + 1)) h (gaps-observe i g)
    where
      go :
          (here : Bool)
          → is_reading (cond here (reading_at t bytes g) (at_element t None (reading_at t bytes) i g)) ≡ false
          → (is_reading (at_element t None (reading_at t bytes) i g) ≡ false → at_element t None (observation_at t bytes) i g ≡ None)
          → cond here (observation_at t bytes g) (at_element t None (observation_at t bytes) i g) ≡ None
      go true k others = gap-observes g (reading_at t bytes g) k
      go false k others = others k

  module _ (has_reading : ℕ → Bool) where
    -- a reading that has come in stays
    pub readings-stay : has_reading 0 ≡ false → (k : ℕ) → has_reading k ≡ true → has_reading_after t bytes has_reading k ≡ true
    unfolding has_reading_after
    readings-stay none zero h = sym none ∙ h
    readings-stay none (suc i) h = rw h

    -- where none has come in, this record brings no observation
    pub not-observed : (i : ℕ) → has_reading_after t bytes has_reading (i + 1) ≡ false → observed_in (input_at t bytes) i ≡ None
    unfolding has_reading_after observed_in input_at input_observation
    not-observed i h =
        gaps-observe i t.gauges
        (neither (has_reading (suc i)) _ (subst (λ (k : ℕ). has_reading_after t bytes has_reading k ≡ false) (add-one i) h)).1
