-- Document 01, The run in fractions: "At or above an element are itself and all from which the down numbers lead to it."
-- Elements go by their numbers here, from 1. As in the walk, `down i` is the number that element i, counted from 0, drains into.
use Rattle.std.specs.Prelude.{ℕ, zero, suc, ◌+◌, ◌≤◌, Bool, true, false, cond, ◌||◌, ◌≡◌, eqb}

-- the number that element number k drains into; 0, the outlet, leads nowhere
unfoldable pub next : (ℕ → ℕ) → ℕ → ℕ
next down zero = 0
next down (suc k) = down k

-- "from which the down numbers lead to it": whether they lead from number k to number i, in at most so many turns
unfoldable pub leads_to : (ℕ → ℕ) → ℕ → ℕ → ℕ → Bool
leads_to down i zero k = eqb k i
leads_to down i (suc turns) k = eqb k i || leads_to down i turns (next down k)

-- how many of the numbers 1 to n are such
unfoldable pub counted : (ℕ → Bool) → ℕ → ℕ
counted such zero = 0
counted such (suc n) = counted such n + cond (such (suc n)) 1 0

-- "itself and all from which the down numbers lead to it": how many of n elements are at or above number i;
-- each down is a later number, so that n turns are enough
unfoldable pub at_or_above : ℕ → (ℕ → ℕ) → ℕ → ℕ
at_or_above n down i = counted (leads_to down i n) n

-- "A reading has come in at an element ..": has_reading says of each number whether one has. At or above number i none has
pub record NoReading (n : ℕ) (down : ℕ → ℕ) (has_reading : ℕ → Bool) (i : ℕ) : Type 0 where
  pub none : (k : ℕ) → 1 ≤ k → k ≤ n → leads_to down i n k ≡ true → has_reading k ≡ false
