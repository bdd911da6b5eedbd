-- Laws of an entry's answer.
use Rattle.std.specs.Prelude.{Result, Ok, Err}
use Prim.{Unit}
use mathlib.Core.Path.{◌≡◌, sym, ap, subst, ◌∙◌}
use Rattle.refusal.specs.Refusals.{number}
use Rattle.refusal.specs.Answers.{Answer, accepted, refused, answer_of}
use Rattle.refusal.specs.declared.Refusal.{Refusal}
use Rattle.refusal.proofs.RuleLaws.{not-both}
use Rattle.state.specs.States.{State}
use Rattle.state.specs.Answers.{verdict, state_after, Answered}

-- a refusal leaves the state as it was
pub answered-refused :
    {v : Result Unit Refusal} {k : Refusal} {answer : Answer State} {before after : State}
    → v ≡ Err k
    → answer ≡ refused (number k)
    → after ≡ before
    → Answered v after answer before
unfolding verdict state_after
answered-refused v e s = record { verdict = rw (v, e); state = rw (e, s) }

pub answered-accepted :
    {v : Result Unit Refusal} {answer : Answer State} {before next after : State}
    → v ≡ Ok tt
    → answer ≡ accepted next
    → after ≡ next
    → Answered v after answer before
unfolding verdict state_after
answered-accepted v e s = record { verdict = rw (v, e); state = rw (e, s) }

-- an entry's answer, read backwards: it was accepted
pub answered-next :
    (v : Result Unit Refusal) (after : State) (answer : Answer State) (before : State)
    → Answered v after answer before
    → v ≡ Ok tt
    → answer ≡ accepted after
unfolding verdict state_after
answered-next v after answer before h e = go answer h.verdict h.state
  where
    go : (answer : Answer State) → answer_of v ≡ verdict answer → after ≡ state_after answer before → answer ≡ accepted after
    go (accepted next) u s = ap accepted (sym s)
    go (refused n) u s = absurd (not-both (ap answer_of e) u)

-- or refused, and left the state as it was
pub answered-not :
    (v : Result Unit Refusal) (after : State) (answer : Answer State) (before : State) {k : Refusal}
    → Answered v after answer before
    → v ≡ Err k
    → (answer ≡ refused (number k)) × (after ≡ before)
unfolding verdict state_after
answered-not v after answer before {k} h e = go answer h.verdict h.state
  where
    go :
        (answer : Answer State)
        → answer_of v ≡ verdict answer
        → after ≡ state_after answer before
        → (answer ≡ refused (number k)) × (after ≡ before)
    go (accepted next) u s = absurd (not-both u (ap answer_of e))
    go (refused n) u s =
        let both : ◌≡◌ {A = Answer Unit} (refused (number k)) (refused n) = sym (ap answer_of e) ∙ u in
        let same : number k ≡ n = cc in (ap refused (sym same), s)

-- an answer known by another name
pub answered-as : {v : Result Unit Refusal} {after : State} {a b : Answer State} {s : State} → a ≡ b → Answered v after b s → Answered v after a s
answered-as {v} {after} {a} {b} {s} e h = subst (λ (x : Answer State). Answered v after x s) (sym e) h
