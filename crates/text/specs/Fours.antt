-- Serves the code: the digits of 0 to 9,999, four to a word of 32 bits, whose lowest byte is the first digit.
use Rattle.std.specs.Prelude.{ℕ, ◌+◌, ◌*◌, ◌/◌, ◌%◌, List, map}
use Rattle.std.specs.List.{range_with_len}

-- two digits, and four
abbrev pub pair_of : ℕ → ℕ
pair_of v = 12336 + v / 10 + 256 * (v % 10)

abbrev pub four_of : ℕ → ℕ
four_of v = pair_of (v / 100) + 65536 * pair_of (v % 100)

-- the words of 0 to n - 1
unfoldable pub fours_below : ℕ → List ℕ
fours_below n = map four_of (range_with_len 0 n)
