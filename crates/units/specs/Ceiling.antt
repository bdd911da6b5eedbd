-- Document 01, Numbers for no, 16: some number would pass C.
use Rattle.std.specs.Prelude.{ℕ, Bool, false, cond, ◌||◌, List, [], ◌∷◌, ltb}
use Rattle.refusal.specs.Answers.{Answer, accepted, refused}
use Rattle.units.specs.Units.{C}

unfoldable pub some_passes : List ℕ → Bool
some_passes [] = false
some_passes (n ∷ ns) = ltb C n || some_passes ns

-- a result, with the numbers on the way to it that rule 16 judges
unfoldable pub under_ceiling : {A : Type 0} → List ℕ → A → Answer A
under_ceiling judged result = cond (some_passes judged) (refused 16) (accepted result)
