-- Document 01: "Bases are decimal unless hex is said." A number as text, in ASCII.
use Rattle.std.specs.Prelude.{ℕ, zero, suc, ◌+◌, ◌/◌, ◌%◌, cond, List, [], ◌∷◌, ◌++◌, ltb}

-- the digits of n, the most significant first, of which there are at most so many
unfoldable pub digits_within : ℕ → ℕ → List ℕ
digits_within zero n = []
digits_within (suc most) n =
    cond (ltb n 10) ((48 + n) ∷ []) (digits_within most (n / 10) ++ (48 + n % 10) ∷ [])

-- the digits of a number of 64 bits, with no zero before them
unfoldable pub decimal : ℕ → List ℕ
decimal n = digits_within 20 n

-- the last digits of n, zeros before them where n has fewer
unfoldable pub last_digits : ℕ → ℕ → List ℕ
last_digits zero n = []
last_digits (suc count) n = last_digits count (n / 10) ++ (48 + n % 10) ∷ []
