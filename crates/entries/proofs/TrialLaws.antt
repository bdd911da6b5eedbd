-- A trial hands out what the step would.
use Prim.Native.Nat.{ℕ, zero, suc, ◌*◌, ◌≤◌}
use mathlib.Core.List.{List, [], ◌∷◌, ◌++◌}
use mathlib.Core.Path.{◌≡◌, refl, sym, ap, ◌∙◌}
use borrow.Author.Tests.{le-leb, leb-true}
use lib.Dec.{leb}
use Rattle.refusal.specs.Answers.{Answer, accepted, refused, and_then}
use Rattle.refusal.proofs.RuleLaws.{not-both, rule-kept}
use Rattle.method.specs.declared.Figures.{Figures}
use Rattle.table.specs.Tables.{TableValues}
use Rattle.table.specs.InUse.{table_in}
use Rattle.table.specs.Rules.{table_rules}
use Rattle.table.proofs.TableLaws as table-laws
use Rattle.record.specs.Records.{input_at}
use native.Mathlib.Omega.{arith}
use Rattle.cells.specs.Cells.{last_cell, cells}
use Rattle.cells.proofs.CellLaws.{last-place}
use Rattle.state.specs.States.{State, figures_of}
use Rattle.network.specs.Step.{stepped, step_numbers}
use Rattle.network.specs.Forecast.{lead_figures}
use Rattle.network.specs.Answer.{listed, by_element_and_lead}
use Rattle.entries.specs.Entries.{step_rules, step_on_answer, step_answer}
use Rattle.entries.specs.Trials.{state_figures, trial_space_fits, tried_answer, trial_answer}
use Rattle.entries.proofs.StepRuleLaws as step-rules

-- the figures of a state, by element
pub state-figures : (t : TableValues) (s : State) → state_figures t s ≡ listed (figures_of s) t.elements
unfolding state_figures by_element_and_lead listed lead_figures
state-figures t s = go t.elements (omega arith)
  where
    go : (n : ℕ) → n ≤ t.elements → by_element_and_lead (λ i lead. lead_figures t s lead (last_cell t i)) n 1 ≡ listed (figures_of s) n
    go zero l = refl
    go (suc n) l = rw (last-place t n l) (ap (λ (fs : List Figures). fs ++ figures_of s n ∷ []) (go n (omega arith)))

module _ (table bytes : List ℕ) (s : State) (room : ℕ) where
  abbrev t : TableValues
  t = table_in table

  -- with space enough, a trial answers what the step does, with the figures of the step's state
  pub trial-of-step :
      4 * t.elements ≤ room
      → trial_answer table bytes s room ≡ and_then (step_answer table bytes s) (λ next. accepted (state_figures t next))
  unfolding trial_answer step_answer step_on_answer tried_answer trial_space_fits
  trial-of-step l =
      rw (le-leb _ _ l)
      (ap (λ r. table_rules table (step_rules t bytes s r))
      (sym (step-rules.under-then (step_numbers t (input_at (cells t) bytes) s) (stepped t (input_at (cells t) bytes) s) (state_figures t)))
      ∙ sym (simp (table-laws.and-then, step-rules.and-then)))

  -- an accepted trial has space enough
  trial-room : {fs : List Figures} → trial_answer table bytes s room ≡ accepted fs → 4 * t.elements ≤ room
  unfolding trial_answer tried_answer trial_space_fits
  trial-room h =
      let k = step-rules.step_kept t bytes s (tried_answer t bytes s room) (table-laws.table_kept table _ h).1 in
      leb-true _ _ (rule-kept 15 (leb (4 * t.elements) room) _ k.1).0

  -- and is accepted with the step, whose state has its figures
  pub record TrialOfStep (fs : List Figures) : Type 0 where
    pub next : State
    pub stepped : step_answer table bytes s ≡ accepted next
    pub figures : fs ≡ state_figures t next

  pub trial-accepted : (fs : List Figures) → trial_answer table bytes s room ≡ accepted fs → TrialOfStep fs
  trial-accepted fs h = go (step_answer table bytes s) refl (sym (trial-of-step (trial-room h)) ∙ h)
    where
      go :
          (answer : Answer State)
          → step_answer table bytes s ≡ answer
          → and_then answer (λ next. accepted (state_figures t next)) ≡ accepted fs
          → TrialOfStep fs
      go (accepted next) e k = record { next = next; stepped = e; figures = cc }
      go (refused n) e k = absurd (not-both k refl)
