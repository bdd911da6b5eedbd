-- Serves the code: bytes put into lent space at a place.
use Rattle.std.specs.Prelude.{ℕ, ◌+◌, List, ◌++◌, ◌≡◌, length, take}
use Rattle.text.specs.declared.TextSpace.{TextSpace}

-- up to the place after the bytes stand these, and before them what stood there; what stands after them may change
pub record Put (before : List ℕ) (at : ℕ) (bytes after : List ℕ) (next : ℕ) : Type 0 where
  pub holds : take next after ≡ take at before ++ bytes
  pub ends : next ≡ at + length bytes

-- these bytes are put into the same space at the place that it held, and it holds the place after them
pub record TextPut (before : TextSpace) (bytes : List ℕ) (after : TextSpace) : Type 0 where
  pub put : Put before.bytes.now before.at bytes after.bytes.now after.at
  pub same : after.bytes.ghost_name ≡ before.bytes.ghost_name
  pub room : length after.bytes.now ≡ length before.bytes.now
