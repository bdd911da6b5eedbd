-- Document 02, M-102: a trial's figures are those that the step in its place would hand out, so that the claim's margins are theirs too.
use Prim.Native.Nat.{ℕ, ◌+◌}
use mathlib.Core.Bool.{Bool}
use mathlib.Core.List.{List}
use mathlib.Core.Path.{◌≡◌, sym, ap, ◌∙◌}
use lib.ListN.{length}
use Rattle.sizes.specs.Sizes.{state_numbers}
use Rattle.refusal.specs.Answers.{accepted}
use Rattle.method.specs.declared.Figures.{Figures}
use Rattle.table.specs.InUse.{table_in}
use Rattle.table.proofs.HeldLaws.{accepted-table}
use Rattle.table.proofs.TableLaws.{table_kept}
use Rattle.record.specs.Records.{input_at}
use Rattle.cells.specs.Cells.{cells}
use Rattle.cells.proofs.BoundsLaws.{cells-bounds}
use Rattle.state.specs.States.{State, steps_of, figures_of}
use Rattle.network.specs.Answer.{listed}
use Rattle.network.proofs.StepLaws.{stepped-steps}
use Rattle.entries.specs.Entries.{step_answer}
use Rattle.entries.specs.Trials.{trial_answer}
use Rattle.entries.proofs.TrialLaws.{trial-accepted, state-figures}
use Rattle.claim.specs.Calls.{step, state_places, paired}
use Rattle.claim.specs.CabinetRun.{state_handed, step_handed, outcome}
use Rattle.claim.proofs.AcceptedLaws.{stepping}

pub trial-handed :
    (table bytes : List ℕ) (s : State) (room : ℕ) (figures : List Figures) (has_reading : ℕ → Bool)
    → length s ≡ state_numbers
    → trial_answer table bytes s room ≡ accepted figures
    → (outcome table (step bytes) s has_reading).handed ≡ paired (state_places (table_in table) (steps_of s + 1)) figures
unfolding outcome step_handed state_handed step_answer
trial-handed table bytes s room figures has_reading whole h =
    let t = table_in table in
    let o = trial-accepted table bytes s room figures h in
    let few = (cells-bounds _ (accepted-table table (table_kept table _ o.stepped).0).bounds).elements_most in
    let steps = ap steps_of (stepping table bytes s o.next o.stepped).1 ∙ stepped-steps t (input_at (cells t) bytes) s whole few in
    ap (step_handed t) o.stepped
    ∙ (ap (λ (n : ℕ). paired (state_places t n) (listed (figures_of o.next) t.elements)) steps
    ∙ ap (paired (state_places t (steps_of s + 1))) (sym (o.figures ∙ state-figures t o.next)))
