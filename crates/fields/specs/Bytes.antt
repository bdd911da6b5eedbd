-- Document 01, The table, big-endian: numbers in a byte string, the highest byte first. Past the end a byte counts as 0.
use Rattle.std.specs.Prelude.{ℕ, ◌+◌, ◌*◌, List, get_or}

abbrev pub byte_at : List ℕ → ℕ → ℕ
byte_at s at = get_or s at 0

abbrev pub number16 : List ℕ → ℕ → ℕ
number16 s at = byte_at s at * 256 + byte_at s (at + 1)

abbrev pub number32 : List ℕ → ℕ → ℕ
number32 s at = number16 s at * 65536 + number16 s (at + 2)
