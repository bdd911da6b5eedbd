-- Laws of the words of four digits.
use Prim.Native.Nat.{ℕ, ◌<◌}
use mathlib.Core.List.{List}
use mathlib.Core.Path.{◌≡◌, ap, ◌∙◌}
use native.Mathlib.Omega.{arith}
use lib.ListN.{length, get_or}
use Rattle.std.proofs.lemmas.List.FromFn.{fill_by_all, length-map-range_with_len, get_or-map-range_with_len}
use Rattle.text.specs.Fours.{four_of, fours_below}

pub length-fours : (n : ℕ) → length (fours_below n) ≡ n
unfolding fours_below
length-fours n = length-map-range_with_len four_of 0 n

pub all-fours : (words : List ℕ) (n : ℕ) → length words ≡ n → ((k : ℕ) → k < n → get_or words k 0 ≡ four_of k) → words ≡ fours_below n
unfolding fours_below
all-fours words n e f = fill_by_all four_of words n 0 e f

pub word_at : (words : List ℕ) (v : ℕ) → words ≡ fours_below 10000 → v < 10000 → (get_or words v 0 ≡ four_of v) × (v < length words)
unfolding fours_below
word_at words v e h = (
  ap (λ l. get_or l v 0) e ∙ get_or-map-range_with_len four_of 0 10000 v v 0 h (omega arith),
  omega (arith, ap length e, length-fours 10000),
)
