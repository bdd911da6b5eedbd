-- Serves the code: what it answers for a text.
use Rattle.std.specs.Prelude.{ℕ, ◌+◌, ◌≤◌, Bool, List, ◌≡◌}
use Rattle.sizes.specs.Sizes.{text_bytes}
use Rattle.text.specs.declared.TextSpace.{TextSpace}
use Rattle.text.specs.Places.{TextPut}

-- a text is put, which ends the run or not
pub record TextAnswered (r : Bool) (before after : TextSpace) (line : List ℕ) (ends : Bool) : Type 0 where
  pub text : TextPut before line after
  pub ended : r ≡ ends
  pub within : after.at ≤ before.at + text_bytes
