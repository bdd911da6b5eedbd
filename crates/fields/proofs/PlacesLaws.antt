-- Laws of a loop that fills the places of an array.
use Prim.Native.Nat.{ℕ, ◌+◌, ◌<◌}
use mathlib.Core.List.{List}
use mathlib.Core.Logic.{⊎_elim}
use mathlib.Core.Path.{◌≡◌, ◌∙◌}
use native.Mathlib.Nat.{eq-or-lt_of_le}
use native.Mathlib.Omega.{arith}
use lib.ListN.{length, get_or, set}
use lib.Seq.{get_or-set_same, get_or-set_other}

-- one place more: the places before i keep what they hold, and place i holds x
pub filled_more :
    {A : Type 0} (places : List A) (none : A) (value : ℕ → A) (i : ℕ) (x : A)
    → ((k : ℕ) → k < i → get_or places k none ≡ value k)
    → x ≡ value i
    → i < length places
    → (k : ℕ) → k < i + 1 → get_or (set places i x) k none ≡ value k
filled_more places none value i x before here fits k l =
    ⊎_elim (λ e. rw e (get_or-set_same places i x none fits ∙ here))
    (λ m. get_or-set_other places i k x none (λ e. omega arith) ∙ before k m) (eq-or-lt_of_le (omega arith))
