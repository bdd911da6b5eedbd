-- Laws of the replies: an answer's numbers are those of its definition.
use Rattle.refusal.specs.declared.Refusal.{Refusal}
use Rattle.std.specs.Prelude.{Result}
use Prim.{Unit}
use Prim.Native.Nat.{ℕ}
use mathlib.Core.List.{List}
use mathlib.Core.Path.{◌≡◌, refl, sym, ap, ◌∙◌}
use Rattle.refusal.specs.Answers.{Answer, accepted, refused, answer_of}
use Rattle.method.specs.declared.Figures.{Figures}
use Rattle.table.specs.Rules.{table_rules}
use Rattle.table.specs.InUse.{table_in}
use Rattle.table.proofs.TableLaws as table-laws
use Rattle.state.specs.States.{State}
use Rattle.state.specs.Answers.{verdict, Answered}
use Rattle.network.specs.Lent.{Lent}
use Rattle.river.specs.declared.TablePlan.{TablePlan}
use Rattle.river.specs.declared.Written.{Written}
use Rattle.river.specs.Replies.{refusal_of, plan_of, no_plan, plan_reply, StateReplied, written_reply, ForecastReplied}

same-refusal : (answer : Answer State) → refusal_of (verdict answer) ≡ refusal_of answer
unfolding refusal_of verdict
same-refusal (accepted s) = refl
same-refusal (refused n) = refl

pub state-replied :
    (v : Result Unit Refusal) (after : State) (answer : Answer State) (before : State) (r : ℕ)
    → Answered v after answer before
    → r ≡ refusal_of (answer_of v)
    → StateReplied r after answer before
state-replied v after answer before r h e =
    record { refusal = e ∙ (ap refusal_of h.verdict ∙ same-refusal answer); state = h.state }

pub forecast-replied :
    (a : Result ℕ Refusal) (answer : Answer (List Figures)) (before after : List ℕ) (r : Written)
    → Lent a after answer before
    → r ≡ written_reply (answer_of a)
    → ForecastReplied r after answer before
forecast-replied a answer before after r h e = record { reply = e ∙ ap written_reply h.count; numbers = h.numbers }

-- what an accepted table asks for, and a refused one
pub plan-replied :
    (bytes : List ℕ) (r : TablePlan)
    → table_rules {A = Unit} bytes (accepted tt) ≡ accepted tt
    → r ≡ plan_of (table_in bytes)
    → r ≡ plan_reply (table_rules bytes (accepted (table_in bytes)))
unfolding plan_reply
plan-replied bytes r k e = e ∙ ap plan_reply (sym (table-laws.rules-accepted bytes (accepted (table_in bytes)) k))

pub plan-refused :
    (bytes : List ℕ) (k n : ℕ) (r : TablePlan)
    → table_rules {A = Unit} bytes (accepted tt) ≡ refused k
    → n ≡ k
    → r ≡ no_plan n
    → r ≡ plan_reply (table_rules bytes (accepted (table_in bytes)))
unfolding plan_reply
plan-refused bytes k n r h c e =
    e ∙ ap no_plan c ∙ ap plan_reply (sym (table-laws.rules-refused bytes (accepted (table_in bytes)) h))
