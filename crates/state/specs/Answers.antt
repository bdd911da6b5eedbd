-- Document 01, Numbers for no: what a call answers and which state it leaves.
use Rattle.refusal.specs.declared.Refusal.{Refusal}
use Prim.{Unit}
use Rattle.std.specs.Prelude.{◌≡◌, Result}
use Rattle.refusal.specs.Answers.{Answer, accepted, refused, answer_of}
use Rattle.state.specs.States.{State}

-- "returned alone; state and lent memory stay as before"
unfoldable pub verdict : {A : Type 0} → Answer A → Answer Unit
verdict (accepted a) = accepted tt
verdict (refused n) = refused n

unfoldable pub state_after : Answer State → State → State
state_after (accepted next) before = next
state_after (refused n) before = before

-- an entry's verdict, and every number of the state that it leaves
pub record Answered (r : Result Unit Refusal) (after : State) (answer : Answer State) (before : State) : Type 0 where
  pub verdict : answer_of r ≡ verdict answer
  pub state : after ≡ state_after answer before
