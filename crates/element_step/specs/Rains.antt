-- Document 01, Forecast: "each basin's last three rains, latest first".
use Rattle.std.specs.Prelude.{ℕ, Option}
use Rattle.elements.specs.Kinds.{by_kind}
use Rattle.state.specs.declared.Rains.{Rains}
use Rattle.elements.specs.declared.Kind.{Kind}

-- after a step with one rain more
unfoldable pub shifted_rains : ℕ → Rains → Rains
shifted_rains rain before = record { first = rain; second = before.first; third = before.second }

-- of an element; "A reach's rain places, if kept, are neither read nor changed.", M-100: a dam's "rain places are as a reach's"
unfoldable pub rains_after : Option Kind → ℕ → Rains → Rains
rains_after kind rain before = by_kind kind (shifted_rains rain before) before before before
