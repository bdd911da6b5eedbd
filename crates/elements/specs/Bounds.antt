-- What callers may rely on once rules 5 and 6 accept an element, and of what a river is worked out by: basins, reaches and dams.
use Rattle.std.specs.Prelude.{ℕ, ◌+◌, ◌≤◌, ◌<◌, ◌⊎◌, ◌≢◌, ◌≡◌}
use Rattle.units.specs.Units.{C}
use Rattle.elements.specs.declared.Element.{Element}
use Rattle.elements.specs.Kinds.{dam, tanks, IsKind}

-- of element i, counted from 0, at the step T among n elements, as accepted
pub record AcceptedElement (T n i : ℕ) (e : Element) : Type 0 where
  pub single : e.kind ≢ tanks → IsKind e.kind
  pub tanks : e.kind ≡ tanks → (2 ≤ e.runoff) × (e.runoff ≤ 8)
  pub down : e.down ≤ n
  pub later : (e.down ≡ 0) ⊎ (i + 1 < e.down)
  pub lag : e.kind ≢ dam → (T ≤ e.lag) × (e.lag ≤ 60000)
  pub no_lag : e.kind ≡ dam → e.lag ≡ 0
  pub area : e.area ≤ 400000
  pub runoff : e.runoff ≤ 1000
  pub first_discharge : e.first_discharge.0 ≤ C
  pub first_variance : e.first_variance.0 ≤ C
  pub system_noise : e.system_noise.0 ≤ 100000000
  pub rain_noise : e.rain_noise.0 ≤ 100000000

-- of a basin, a reach or a dam among n of them
pub record ElementBounds (T n i : ℕ) (e : Element) : Type 0 where
  pub kind : IsKind e.kind
  pub down : e.down ≤ n
  pub later : (e.down ≡ 0) ⊎ (i + 1 < e.down)
  pub lag : e.kind ≢ dam → (T ≤ e.lag) × (e.lag ≤ 60000)
  pub no_lag : e.kind ≡ dam → e.lag ≡ 0
  pub area : e.area ≤ 400000
  pub runoff : e.runoff ≤ 1000
  pub first_discharge : e.first_discharge.0 ≤ C
  pub first_variance : e.first_variance.0 ≤ C
  pub system_noise : e.system_noise.0 ≤ 100000000
  pub rain_noise : e.rain_noise.0 ≤ 100000000
