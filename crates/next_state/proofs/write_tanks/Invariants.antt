-- The loop of `write_tanks`.
use Prim.Native.Nat.{◌+◌, ◌≤◌}
use mathlib.Core.Path.{◌≡◌}
use Rattle.state.specs.States.{changed, figures_put}
use Rattle.answer_space.specs.Places.{figures_at}
use Rattle.next_state.proofs.write_tanks.Given as goal

abbrev pub invariant-loop-x : goal.invariant-loop-x
invariant-loop-x l = (l.x ≤ l.extra) × (l.state ≡ changed (figures_put (λ k. figures_at l.space (l.n + k + 1)) l.n) l.x l.initial.state)
