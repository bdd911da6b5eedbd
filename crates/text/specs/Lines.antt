-- Document 01, the program: "prints, one line each with single spaces".
use Rattle.std.specs.Prelude.{ℕ, List, [], ◌∷◌, ◌++◌}
use Rattle.text.specs.Decimal.{decimal}

-- numbers with single spaces between them, and a line feed
unfoldable pub line : List ℕ → List ℕ
line [] = 10 ∷ []
line (x ∷ []) = decimal x ++ 10 ∷ []
line (x ∷ y ∷ more) = decimal x ++ 32 ∷ line (y ∷ more)
