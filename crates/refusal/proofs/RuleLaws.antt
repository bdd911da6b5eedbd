-- Laws of answers and of rules in checking order.
use Prim.{Unit}
use Prim.Native.Nat.{ℕ}
use mathlib.Core.Bool.{Bool, true, false}
use mathlib.Core.Path.{◌≡◌, refl}
use native.Mathlib.Omega.{arith}
use Rattle.refusal.specs.Answers.{Answer, accepted, refused, and_then, rule}

-- an answer is not both
pub not-both : {A : Type 0} {answer : Answer A} {a : A} {k : ℕ} → answer ≡ accepted a → answer ≡ refused k → ⊥
not-both p q = let z : ◌≡◌ {A = ℕ} 0 1 = cc in omega arith

-- what follows a rule
pub rule-then :
    {A B : Type 0} (n : ℕ) (kept : Bool) (r : Answer A) (f : A → Answer B)
    → and_then (rule n kept r) f ≡ rule n kept (and_then r f)
rule-then n true r f = refl
rule-then n false r f = refl

-- rules and an answer after them, both accepted
pub then-kept :
    {A : Type 0} (r : Answer Unit) (rest : Answer A) {a : A}
    → and_then r (λ _. rest) ≡ accepted a
    → (r ≡ accepted tt) × (rest ≡ accepted a)
then-kept (accepted u) rest h = (refl, h)
then-kept (refused k) rest h = absurd (not-both h refl)

-- a rule before an accepted answer is kept
pub rule-kept :
    {A : Type 0} (n : ℕ) (kept : Bool) (r : Answer A) {a : A}
    → rule n kept r ≡ accepted a
    → (kept ≡ true) × (r ≡ accepted a)
rule-kept n true r h = (refl, h)
rule-kept n false r h = absurd (not-both h refl)
