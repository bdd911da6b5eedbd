-- Laws of the move of one element.
use Prim.Native.Nat.{ℕ}
use mathlib.Core.Bool.{Bool, true, false, cond, ◌||◌, or-true, or-false, or_comm}
use mathlib.Core.List.{[], ◌∷◌}
use mathlib.Core.Path.{◌≡◌, refl, ap, ◌∙◌}
use lib.Dec.{ltb}
use Rattle.refusal.specs.Answers.{Answer, accepted, refused, and_then}
use Rattle.units.specs.Units.{C}
use Rattle.units.specs.Ceiling.{some_passes, under_ceiling}
use Rattle.weighting.specs.declared.Estimate.{Estimate}
use Rattle.method.specs.declared.Figures.{Figures}
use Rattle.method.specs.Figures.{variance}
use Rattle.method.specs.Inflow.{inflow_numbers, inflow_answer}
use Rattle.method.specs.Routing.{routed_discharge, routed, variance_numbers, routing_numbers, routing_answer}
use Rattle.routing.specs.Parts.{part_margins, parts_answer, routed_answer}

-- the code judges the parts before the discharge, and the variance before its margin: two numbers, four, and all in the order of rule 16
in_order :
    (a b p q m n : Bool)
    → ((p || (q || false)) || (a || (b || (n || (m || false))))) ≡ (a || (b || (p || (q || (m || (n || false))))))
in_order true b p q m n = or-true (p || (q || false))
in_order false true p q m n = or-true (p || (q || false))
in_order false false true q m n = refl
in_order false false false true m n = refl
in_order false false false false m n = rw (or-false m, or-false n) (or_comm n m)

module _ {A B : Type 0} (v : A) (f : A → Answer B) (x : B) where
  then-judged :
      (s t : Bool)
      → f v ≡ cond t (refused 16) (accepted x)
      → and_then (cond s (refused 16) (accepted v)) f ≡ cond (s || t) (refused 16) (accepted x)
  then-judged true t e = refl
  then-judged false t e = e

  judged-in-order :
      (a b p q m n : ℕ)
      → f v ≡ under_ceiling (a ∷ b ∷ n ∷ m ∷ []) x
      → and_then (under_ceiling (p ∷ q ∷ []) v) f ≡ under_ceiling (a ∷ b ∷ p ∷ q ∷ m ∷ n ∷ []) x
  unfolding under_ceiling some_passes
  judged-in-order a b p q m n e =
      then-judged (some_passes (p ∷ q ∷ [])) (some_passes (a ∷ b ∷ n ∷ m ∷ [])) e
      ∙ ap (λ (some : Bool). cond some (refused 16) (accepted x)) (in_order (ltb C a) (ltb C b) (ltb C p) (ltb C q) (ltb C m) (ltb C n))

module _ (H W : ℕ) (inflow old : Figures) where
  -- the parts of the code together are the move
  pub move-joined :
      routed_answer (routed_discharge H inflow old) (parts_answer H W (variance inflow) (variance old))
      ≡ routing_answer H W inflow old
  unfolding routed_answer part_margins inflow_answer inflow_numbers routing_answer routing_numbers variance_numbers routed
  move-joined = judged-in-order _ _ _ _ _ _ _ _ _ refl

  -- the same, of what they answer
  pub move-answered :
      {q : Estimate} {v : Answer Estimate} {answer : Answer Figures}
      → q ≡ routed_discharge H inflow old
      → v ≡ parts_answer H W (variance inflow) (variance old)
      → answer ≡ routed_answer q v
      → answer ≡ routing_answer H W inflow old
  move-answered d p f = f ∙ rw (d, p) move-joined
