-- A part of the space that holds all leads has the forecast's figures, by element and lead.
use Prim.Native.Nat.{ℕ, zero, suc, ◌+◌, ◌*◌, ◌≤◌, ◌<◌}
use mathlib.Core.List.{List, [], ◌∷◌, ◌++◌, append_assoc, append-nil}
use mathlib.Core.Path.{◌≡◌, sym, ap, ◌∙◌}
use native.Mathlib.Nat.{mul-le-mul_right, suc-mul, zero-mul, add-zero}
use native.Mathlib.Omega.{arith}
use lib.ListN.{length, take, drop}
use lib.Seq.{get_or-drop}
use Rattle.std.proofs.lemmas.List.{take_more}
use Rattle.method.specs.declared.Figures.{Figures}
use Rattle.method.specs.Inflow.{no_inflow}
use Rattle.network.specs.Answer.{listed, by_element_and_lead}
use Rattle.answer_space.specs.Places.{figures_at}

-- the places after the first w
pub figures-after : (space : List Figures) (w p : ℕ) → figures_at (drop w space) p ≡ figures_at space (w + p)
unfolding figures_at
figures-after space w p = get_or-drop w space p no_inflow

module _
    (part : List Figures) (figures : ℕ → ℕ → Figures) (n w : ℕ)
    (held : (i lead : ℕ) → i < n → lead < w → figures_at part (i * w + lead) ≡ figures i lead)
    (room : n * w ≤ length part) where
  within : (i lead : ℕ) → i < n → lead < w → i * w + lead < length part
  within i lead l m = omega (arith, room, mul-le-mul_right w l, suc-mul i w)

  more : (m k : ℕ) → m + suc k ≡ m + k + 1
  more m k = omega arith

  -- the first leads of element i, after the elements before it
  leads-laid :
      (i lead : ℕ)
      → i < n
      → lead ≤ w
      → take (i * w) part ≡ by_element_and_lead figures i w
      → take (i * w + lead) part ≡ by_element_and_lead figures i w ++ listed (figures i) lead
  unfolding listed figures_at
  leads-laid i zero l m h = ap (λ (k : ℕ). take k part) (add-zero (i * w)) ∙ (h ∙ sym (append-nil (by_element_and_lead figures i w)))
  leads-laid i (suc lead) l m h =
      ap (λ (k : ℕ). take k part) (more (i * w) lead)
      ∙ (take_more part (i * w + lead) no_inflow (within i lead l m)
      ∙ (ap (λ (f : Figures). take (i * w + lead) part ++ f ∷ []) (held i lead l m)
      ∙ (ap (λ (r : List Figures). r ++ figures i lead ∷ []) (leads-laid i lead l (omega arith) h)
      ∙ append_assoc (by_element_and_lead figures i w) _ _)))

  elements_laid : (i : ℕ) → i ≤ n → take (i * w) part ≡ by_element_and_lead figures i w
  unfolding by_element_and_lead
  elements_laid zero l = ap (λ (k : ℕ). take k part) (zero-mul w)
  elements_laid (suc i) l = ap (λ (k : ℕ). take k part) (suc-mul i w) ∙ leads-laid i w l (omega arith) (elements_laid i (omega arith))

  pub answer-laid : take (n * w) part ≡ by_element_and_lead figures n w
  answer-laid = elements_laid n (omega arith)
