-- Document 02, M-106: "let two equally long lists of steps from one fresh start be accepted whole, with equal readings and releases, and each
-- rain of the second at least that of the first. Then every discharge of the second, at each element, step and lead where both are handed
-- out, is at least the first's, and the variances are equal. Margins may differ." The lists are the claim's, of steps and forecasts.
use Prim.{Unit}
use Rattle.std.specs.Prelude.{ℕ, ◌≤◌, ◌<◌, false, List, [], ◌∷◌, ◌≡◌}
use Rattle.method.specs.declared.Figures.{Figures}
use Rattle.method.specs.AtLeast.{AtLeast}
use Rattle.table.specs.Tables.{TableValues}
use Rattle.table.specs.InUse.{table_in}
use Rattle.table.specs.KindCounts.{basin_count, dam_count}
use Rattle.record.specs.Records.{rain_at, release_at, reading_at}
use Rattle.state.specs.States.{State}
use Rattle.claim.specs.Calls.{Call, step, forecast, Place, paired}
use Rattle.claim.specs.CabinetRun.{Outcome, cabinet_run}
use Rattle.claim.specs.Claim.{Pairwise, All, outcomes}

-- "with equal readings and releases, and each rain of the second at least that of the first": the records of one step; readings are equal
-- millimetres or gaps, in either version; basins, dams and gauges are counted from 0
pub record MoreRain (t : TableValues) (first second : List ℕ) : Type 0 where
  pub rains : (k : ℕ) → k < basin_count t → rain_at first k ≤ rain_at second k
  pub releases : (k : ℕ) → k < dam_count t → release_at first (basin_count t) k ≡ release_at second (basin_count t) k
  pub readings : (g : ℕ) → g < t.gauges → reading_at t first g ≡ reading_at t second g

-- the records of a list's steps, in order; forecasts may stand anywhere between them
unfoldable pub records_of : List Call → List (List ℕ)
records_of [] = []
records_of (step bytes ∷ calls) = bytes ∷ records_of calls
records_of (forecast room ∷ calls) = records_of calls

-- "accepted whole": no step is refused; a forecast may be, and hands out nothing then
unfoldable pub NotRefused : Call × Outcome → Type 0
NotRefused (step bytes, o) = o.was_refused ≡ false
NotRefused (forecast room, o) = Unit

unfoldable pub AcceptedWhole : List ℕ → State → List Call → Type 0
AcceptedWhole table s calls = All NotRefused (paired calls (cabinet_run table s (λ k. false) calls))

-- "two equally long lists of steps from one fresh start", which left the state s
pub record TwoStorms (table : List ℕ) (s : State) (first second : List Call) : Type 0 where
  pub first_accepted : AcceptedWhole table s first
  pub second_accepted : AcceptedWhole table s second
  pub records : Pairwise (MoreRain (table_in table)) (records_of first) (records_of second)

-- what holds of everything that a list's outcomes hand out
abbrev pub EachHandedOut : (Place × Figures → Type 0) → List Outcome → Type 0
EachHandedOut P handing = All (λ (o : Outcome). All P o.handed) handing

-- "at each element, step and lead where both are handed out"
unfoldable pub WhereBoth : Place × Figures → Place × Figures → Type 0
WhereBoth one other = one.0 ≡ other.0 → AtLeast one.1 other.1

-- "Then every discharge of the second .. is at least the first's, and the variances are equal."
unfoldable pub AtLeastAsMuchWater : List ℕ → State → List Call → List Call → Type 0
AtLeastAsMuchWater table s first second =
    EachHandedOut (λ (one : Place × Figures). EachHandedOut (WhereBoth one) (outcomes table s second)) (outcomes table s first)
