-- Laws of the entries: the rules in checking order, and what an accepted table and record give.
use Rattle.std.specs.Prelude.{Result, Ok, Err, IsErrAnd}
use Prim.{Unit}
use Prim.Native.Nat.{ℕ}
use mathlib.Core.Bool.{true}
use mathlib.Core.List.{List}
use mathlib.Core.Path.{◌≡◌, refl, sym, ap, ◌∙◌}
use lib.ListN.{length}
use Rattle.refusal.specs.Refusals.{number}
use Rattle.refusal.specs.Answers.{Answer, accepted, refused, rule, answer_of}
use Rattle.refusal.specs.declared.Refusal.{Refusal}
use Rattle.table.specs.Tables.{TableValues}
use Rattle.table.specs.Rules.{table_rules}
use Rattle.table.specs.InUse.{table_in}
use Rattle.table.proofs.TableLaws as table-laws
use Rattle.state.specs.States.{State}
use Rattle.state.specs.Rules.{state_fits}
use Rattle.state.specs.Start.{started}
use Rattle.state.specs.Answers.{Answered}
use Rattle.state.proofs.AnswerLaws.{answered-refused, answered-accepted}
use Rattle.network.specs.Answer.{leads_answer}
use Rattle.network.specs.Lent.{Lent}
use Rattle.network.proofs.LentLaws.{lent-refused}
use Rattle.state_rules.proofs.JudgedLaws.{judged-kept, judged-refused}
use Rattle.record_step.proofs.StepLaws.{err-passed}
use Rattle.entries.specs.Entries.{start_answer, step_rules, step_on_answer, forecast_on_answer}

-- ---- the start

pub start-accepted :
    (bytes : List ℕ) (s after : State)
    → table_rules {A = Unit} bytes (accepted tt) ≡ accepted tt
    → after ≡ started (table_in bytes) s
    → Answered (Ok tt) after (start_answer bytes s) s
unfolding start_answer
start-accepted bytes s after k h = answered-accepted refl (table-laws.rules-accepted bytes _ k) h

-- an answer that the table's rules refuse
pub refused-by-table :
    (bytes : List ℕ) (rest : Answer State) (s : State) (k : Refusal)
    → table_rules {A = Unit} bytes (accepted tt) ≡ refused (number k)
    → Answered (Err k) s (table_rules bytes rest) s
refused-by-table bytes rest s k h = answered-refused refl (table-laws.rules-refused bytes rest h) refl

-- ---- rule 8, and a refusal that is passed on

module _ (t : TableValues) (s : State) (v : Result Unit Refusal) (k : Refusal) (judged : answer_of v ≡ rule {A = Unit} 8 (state_fits t s) (accepted tt)) where
  pub step-refused : (bytes : List ℕ) (r : Result Unit Refusal) → v ≡ Err k → IsErrAnd r (λ (e : Refusal). e ≡ k) → Answered r s (step_on_answer t bytes s) s
  unfolding step_rules step_on_answer
  step-refused bytes r e p =
      let j = judged-refused t s (sym (ap answer_of e) ∙ judged) in
      rw (err-passed r k p) (answered-refused refl (rw (j.0, j.1)) refl)

  pub forecast-refused : (out : List ℕ) (r : Result ℕ Refusal) → v ≡ Err k → IsErrAnd r (λ (e : Refusal). e ≡ k) → Lent r out (forecast_on_answer t s (length out)) out
  unfolding forecast_on_answer
  forecast-refused out r e p =
      let j = judged-refused t s (sym (ap answer_of e) ∙ judged) in
      rw (err-passed r k p) (lent-refused out _ k (rw (j.0, j.1)))

pub judged-accepted :
    (t : TableValues) (s : State) {v : Result Unit Refusal} {x : Unit} → answer_of v ≡ rule {A = Unit} 8 (state_fits t s) (accepted tt) → v ≡ Ok x → state_fits t s ≡ true
judged-accepted t s judged e = judged-kept t s (sym (ap answer_of e) ∙ judged)

-- ---- the forecast

module _ (t : TableValues) (s : State) (room : ℕ) where
  pub forecast-state-kept : state_fits t s ≡ true → forecast_on_answer t s room ≡ leads_answer t s room
  unfolding forecast_on_answer
  forecast-state-kept h = rw h
