-- Serves the code: what it finds in the bytes that are read and not used yet.
use Rattle.std.specs.Prelude.{ℕ, ◌≤◌, ◌<◌, Bool, List, ◌≡◌, length, take, drop}
use Rattle.sizes.specs.Sizes.{longest_record}
use Rattle.program.specs.Program.{record_bytes, rest_after}

-- a test of the bytes that are held; where its answer means that more are needed, they are fewer than the longest record has
pub record Tells (r test lacks : Bool) (bytes : List ℕ) : Type 0 where
  pub same : r ≡ test
  pub few : r ≡ lacks → length bytes < longest_record

-- where the next record ends: its bytes, and the input after it
pub record RecordEnd (rest : List ℕ) (size : ℕ) : Type 0 where
  pub bytes : record_bytes rest ≡ take size rest
  pub after : rest_after rest ≡ drop size rest
  pub within : size ≤ length rest
