-- Laws of lines.
use Prim.Native.Nat.{ℕ}
use mathlib.Core.List.{List, [], ◌∷◌, ◌++◌, append_assoc}
use mathlib.Core.Path.{◌≡◌}
use Rattle.text.specs.Decimal.{decimal}
use Rattle.text.specs.Lines.{line}

-- the first number of a line, with its space, and the others after it
pub line-then : (x y : ℕ) (more : List ℕ) → (decimal x ++ 32 ∷ []) ++ line (y ∷ more) ≡ line (x ∷ y ∷ more)
unfolding line
line-then x y more = append_assoc (decimal x) (32 ∷ []) (line (y ∷ more))
