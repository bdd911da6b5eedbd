-- Laws of a space with nothing in it.
use Prim.Native.Nat.{ℕ, ◌≤◌, ◌<◌}
use mathlib.Core.List.{List}
use mathlib.Core.Path.{◌≡◌}
use native.Mathlib.Decide.{dec_le}
use native.Mathlib.Omega.{arith}
use lib.ListN.{length, get_or, replicate, get_or-replicate, length-replicate, get_or-eq_default}
use Rattle.method.specs.declared.Figures.{Figures}
use Rattle.method.specs.Inflow.{no_inflow}
use Rattle.answer_space.specs.Places.{figures_at, Empty}

pub all-empty :
    (space : List Figures) (n : ℕ) → length space ≡ n → ((k : ℕ) → k < n → get_or space k no_inflow ≡ no_inflow) → Empty space
unfolding figures_at
all-empty space n long h = record { at = λ k. go k (dec_le n k) }
  where
    go : (k : ℕ) → Dec (n ≤ k) → figures_at space k ≡ no_inflow
    go k (yes l) = get_or-eq_default space no_inflow (omega (arith, long))
    go k (no l) = h k (omega arith)

-- as the code makes it
pub nothing-empty : (n : ℕ) → Empty (replicate n no_inflow)
nothing-empty n = all-empty (replicate n no_inflow) n (length-replicate n no_inflow) (λ k l. get_or-replicate n k no_inflow no_inflow l)
