-- Serves the code: what a trial leaves in lent space.
use Rattle.std.specs.Prelude.{ℕ, List, length, Result}
use Rattle.refusal.specs.declared.Refusal.{Refusal}
use Rattle.table.specs.InUse.{table_in}
use Rattle.state.specs.States.{State}
use Rattle.network.specs.Lent.{Lent}
use Rattle.entries.specs.Entries.{step_rules}
use Rattle.entries.specs.Trials.{tried_answer}

-- a trial on an accepted table: its answer, and the lent numbers after it and before it
abbrev pub TrialHeld : Result ℕ Refusal → List ℕ → List ℕ → List ℕ → State → List ℕ → Type 0
TrialHeld r after table bytes s before =
    Lent r after (step_rules (table_in table) bytes s (tried_answer (table_in table) bytes s (length before))) before
