-- What an accepted record brings an element follows what it brings it in fractions.
use Rattle.units.specs.declared.Stage.{Stage}
use Rattle.rating.specs.declared.RatedReading.{RatedReading}
use Rattle.std.specs.Prelude.{Option, Some, None}
use Prim.{Unit}
use Prim.Native.Nat.{ℕ, zero, suc, ◌+◌, ◌≤◌, ◌<◌}
use mathlib.Core.Bool.{Bool, true, false, cond}
use mathlib.Core.List.{List}
use mathlib.Core.Path.{◌≡◌, refl}
use native.Mathlib.Omega.{arith}
use lib.Dec.{eqb}
use Rattle.refusal.specs.Answers.{Answer, accepted, refused}
use Rattle.units.specs.Units.{thousandths}
use Rattle.units.specs.declared.Discharge.{Discharge}
use Rattle.rating.specs.Noise.{noise_of, with_noise}
use Rattle.rating.proofs.NoiseLaws.{noise-least}
use Rattle.rating.specs.Rating.{pieces_of, rated}
use Rattle.weighting.specs.Estimates.{estimate}
use Rattle.method.specs.declared.Figures.{Figures}
use Rattle.exact.specs.Fraction.{Fraction}
use Rattle.exact.specs.Exact.{ExactFigures, exact_rated}
use Rattle.exact.specs.Margins.{Tracks, Follows}
use Rattle.exact.proofs.Theorems.{first-near, rating-near, step-inflow-near, no-inflow-near}
use Rattle.elements.specs.declared.Element.{Element}
use Rattle.elements.proofs.KindLaws.{kind-both}
use Rattle.fields.proofs.RangeLaws.{all-at}
use Rattle.gauges.specs.declared.Gauge.{Gauge}
use Rattle.gauges.specs.Looks.{look_by, look_on}
use Rattle.gauges.specs.Bounds.{GaugeBounds}
use Rattle.table.specs.Tables.{TableValues}
use Rattle.table.specs.Bounds.{TableBounds}
use Rattle.record.specs.Records.{reading_at, rate_answer, observation_of, accepted_observation, observation_at, at_element, input_rain, input_release, input_observation, input_at}
use Rattle.record.specs.Rules.{is_accepted, reading_fits, record_rules}
use Rattle.record.proofs.RecordLaws.{rules-kept}
use Rattle.element_step.specs.ElementStep.{released, own_of}
use Rattle.network.specs.Step.{step_own, observed_in}
use Rattle.exact_run.specs.ExactStep.{ExactObservation, nothing, exact_reading, given_noise, exact_observed, exact_observation_in, exact_released, exact_own_of, exact_own}
use Rattle.exact_run.specs.Following.{Observes, no-reading, reading}

-- what an element has of its own: the inflow of a basin, and the release of a dam, which is exact
pub own-follows :
    (e : Element) {inflow : Figures} {inflow* : ExactFigures} {release : ℕ} {release* : Fraction}
    → Follows inflow inflow*
    → Tracks (estimate release 0) release*
    → Follows (own_of e.kind inflow (released e release)) (exact_own_of e.kind inflow* (exact_released e release*))
unfolding own_of exact_own_of released exact_released
own-follows e i r =
    kind-both Follows e.kind (λ _. i) (λ _. no-inflow-near) (λ _. record { discharge = r; variance = first-near e.system_noise.0 })
    (λ _ _ _. no-inflow-near)

-- one gauge whose reading rule 14 accepts
module _ (n : ℕ) (gauge : Gauge) (b : GaugeBounds n gauge) where
  rated-near :
      (h : ℕ) (z : Answer Discharge)
      → rated h (pieces_of gauge.curve) ≡ z
      → let r = with_noise gauge.noise gauge.beta z in
      is_accepted (rate_answer r) ≡ true
      → Observes (accepted_observation (rate_answer r)) (exact_reading (given_noise r) (exact_rated h (pieces_of gauge.curve)))
  unfolding with_noise is_accepted rate_answer accepted_observation given_noise exact_reading
  rated-near h (accepted z) e ok =
      let r = rating-near h (pieces_of gauge.curve) e in
      let noise = thousandths (noise_of gauge.noise.0 gauge.beta z.0) in
      let least : 1 ≤ noise.0 = omega (arith, noise-least gauge.noise.0 gauge.beta z.0, b.noise.noise_least) in
      rw r.same (reading {noise = noise} least r.near)
  rated-near h (refused k) e ok = let z : ◌≡◌ {A = ℕ} 0 1 = cc in absurd (omega arith)

  observed-near :
      (r : Option Stage) → is_accepted (observation_of gauge r) ≡ true → Observes (accepted_observation (observation_of gauge r)) (exact_observed gauge r)
  unfolding observation_of exact_observed accepted_observation look_on look_by
  observed-near None ok = no-reading
  observed-near (Some h) ok = rated-near h.0 (rated h.0 (pieces_of gauge.curve)) refl ok

module _ (t : TableValues) (bytes : List ℕ) (b : TableBounds t) (kept : record_rules {A = Unit} t bytes (accepted tt) ≡ accepted tt) where
  accepted-reading : (g : ℕ) → g < t.gauges → is_accepted (observation_of (t.gauge g) (reading_at t bytes g)) ≡ true
  unfolding reading_fits
  accepted-reading g l = all-at (reading_fits t bytes) t.gauges g l (rules-kept t bytes kept).readings

  at-element :
      (i m : ℕ)
      → m ≤ t.gauges
      → Observes (at_element t None (observation_at t bytes) i m) (at_element t nothing (λ g. exact_observed (t.gauge g) (reading_at t bytes g)) i m)
  unfolding at_element observation_at
  at-element i zero l = no-reading
  at-element i (suc g) l =
      go (eqb (t.gauge g).element (i + 1))
      (observed-near t.elements (t.gauge g) (b.gauge g (omega arith)) (reading_at t bytes g) (accepted-reading g (omega arith)))
      (at-element i g (omega arith))
    where
      go : (here : Bool) {o p : Option RatedReading} {o* p* : ExactObservation} → Observes o o* → Observes p p* → Observes (cond here o p) (cond here o* p*)
      go true x y = x
      go false x y = y

  -- the observation of element i, and what it has of its own
  pub observation-near : (i : ℕ) → Observes (observed_in (input_at t bytes) i) (exact_observation_in t bytes i)
  unfolding observed_in input_at input_observation exact_observation_in
  observation-near i = at-element i t.gauges (omega arith)

  pub own-near : (i : ℕ) → Follows (step_own t (input_at t bytes) i) (exact_own t bytes i)
  unfolding step_own input_at exact_own
  own-near i =
      own-follows (t.element i) (step-inflow-near (input_rain t bytes i) (t.element i).area (t.element i).runoff)
      (first-near (input_release t bytes i))
