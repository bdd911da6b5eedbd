-- Document 01, the program: what it prints of a forecast's figures and of a refusal.
use Rattle.std.specs.Prelude.{ℕ, zero, suc, ◌+◌, ◌*◌, List, [], ◌∷◌, ◌++◌, get_or}
use Rattle.method.specs.declared.Figures.{Figures}
use Rattle.method.specs.Figures.{figure_numbers}
use Rattle.method.specs.Inflow.{no_inflow}
use Rattle.text.specs.Decimal.{decimal}
use Rattle.text.specs.Lines.{line}

-- what a function gives for 0 to n - 1, one after the other
unfoldable pub joined : (ℕ → List ℕ) → ℕ → List ℕ
joined f zero = []
joined f (suc n) = joined f n ++ f n

-- "one line each ..: step count, element, lead, discharge, margin, variance, variance margin"; the element is counted from 0 here
unfoldable pub line_from : ℕ → ℕ → ℕ → Figures → List ℕ
line_from steps i lead f = line (steps ∷ (i + 1) ∷ lead ∷ figure_numbers f)

-- the lines of element i, where the answer has so many leads of each element
unfoldable pub element_lines : ℕ → ℕ → List Figures → ℕ → List ℕ
element_lines steps leads figures i = joined (λ lead. line_from steps i lead (get_or figures (i * leads + lead) no_inflow)) leads

-- "by element and then lead 0 (the state) to L": the lines of so many elements
unfoldable pub answer_lines : ℕ → ℕ → List Figures → ℕ → List ℕ
answer_lines steps leads figures elements = joined (element_lines steps leads figures) elements

-- the ASCII bytes of "refused" and a space
abbrev pub refused_word : List ℕ
refused_word = 114 ∷ 101 ∷ 102 ∷ 117 ∷ 115 ∷ 101 ∷ 100 ∷ 32 ∷ []

-- "A refusal prints accepted steps so far, "refused", the number"
unfoldable pub refusal_line : ℕ → ℕ → List ℕ
refusal_line steps number = decimal steps ++ 32 ∷ (refused_word ++ (decimal number ++ 10 ∷ []))
