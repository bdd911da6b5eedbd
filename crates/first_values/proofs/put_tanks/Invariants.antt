-- The loop of `put_tanks`.
use Prim.Native.Nat.{◌≤◌}
use mathlib.Core.Path.{◌≡◌}
use Rattle.state.specs.States.{changed, figures_put}
use Rattle.first_values.proofs.put_tanks.Given as goal

abbrev pub invariant-loop-j : goal.invariant-loop-j
invariant-loop-j l = (l.j ≤ l.extra) × (l.state ≡ changed (figures_put (λ _. l.figures) l.x) l.j l.initial.state)
