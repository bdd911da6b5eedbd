-- Laws of the sums of the last rains.
use Prim.Native.Nat.{ℕ, zero, suc, ◌+◌, ◌≤◌}
use mathlib.Core.Logic.{◌≢◌}
use mathlib.Core.Path.{◌≡◌, refl}
use Rattle.state.specs.declared.Rains.{Rains}
use Rattle.network.specs.Forecast.{rain_sum}

-- a count that is none of 0, 1 and 2
pub all-three-rains :
    (r : Rains) (c : ℕ)
    → c ≤ 3
    → c ≢ 0
    → c ≢ 1
    → c ≢ 2
    → rain_sum r c ≡ r.first + r.second + r.third
unfolding rain_sum
all-three-rains r zero l a b d = absurd (a refl)
all-three-rains r (suc zero) l a b d = absurd (b refl)
all-three-rains r (suc (suc zero)) l a b d = absurd (d refl)
all-three-rains r (suc (suc (suc c))) l a b d = refl
