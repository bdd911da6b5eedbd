-- Rule 16 on numbers after numbers: none passes the ceiling where none of any part does.
use Prim.{Unit}
use Prim.Native.Nat.{ℕ, ◌≤◌}
use mathlib.Core.Bool.{Bool, true, false, cond, ◌||◌}
use mathlib.Core.List.{List, [], ◌∷◌, ◌++◌}
use mathlib.Core.Path.{◌≡◌, refl, sym, ap, ◌∙◌}
use borrow.Author.Tests.{ltb-false}
use native.Mathlib.Omega.{arith}
use lib.Dec.{ltb}
use Rattle.std.specs.Prelude.{Result, Ok}
use Rattle.refusal.specs.declared.Refusal.{Refusal}
use Rattle.refusal.specs.Answers.{Answer, accepted, refused, answer_of}
use Rattle.units.specs.Units.{C}
use Rattle.units.specs.Ceiling.{some_passes, under_ceiling}

-- no number of a list passes C
abbrev pub Under : List ℕ → Type 0
Under ns = some_passes ns ≡ false

pub none-under : Under []
unfolding some_passes
none-under = refl

-- two tests of which neither holds
pub neither : (a b : Bool) → (a || b) ≡ false → (a ≡ false) × (b ≡ false)
neither true b h = let z : ◌≡◌ {A = ℕ} 0 1 = cc in absurd (omega arith)
neither false b h = (refl, h)

-- the first number of a list under the ceiling
pub first_under : (n : ℕ) (ns : List ℕ) → Under (n ∷ ns) → (n ≤ C) × Under ns
unfolding some_passes
first_under n ns u = go (ltb C n) refl u
  where
    go : (b : Bool) → ltb C n ≡ b → (b || some_passes ns) ≡ false → (n ≤ C) × Under ns
    go true e h = let z : ◌≡◌ {A = ℕ} 0 1 = cc in absurd (omega arith)
    go false e h = (ltb-false C n e, h)

-- two lists, one after the other
pub parts-under : (ns ms : List ℕ) → Under (ns ++ ms) → Under ns × Under ms
unfolding some_passes
parts-under [] ms u = (refl, u)
parts-under (n ∷ ns) ms u =
    let f = neither (ltb C n) (some_passes (ns ++ ms)) u in
    let r = parts-under ns ms f.1 in
    (rw f.0 r.0, r.1)

pub both_under : (ns ms : List ℕ) → Under ns → Under ms → Under (ns ++ ms)
unfolding some_passes
both_under [] ms u v = v
both_under (n ∷ ns) ms u v =
    let f = neither (ltb C n) (some_passes ns) u in rw f.0 (both_under ns ms f.1 v)

-- what an answer under the ceiling says of its numbers
pub under-accepted : {A : Type 0} (a : A) (ns : List ℕ) → Under ns → accepted a ≡ under_ceiling ns a
unfolding under_ceiling
under-accepted a ns u = rw u

pub known_under : {A : Type 0} (a : A) (ns : List ℕ) {x : A} → accepted x ≡ under_ceiling ns a → Under ns
unfolding under_ceiling
known_under a ns {x} h = go (some_passes ns) h
  where
    go : (some : Bool) → accepted x ≡ cond some (refused 16) (accepted a) → some ≡ false
    go true k = let z : ◌≡◌ {A = ℕ} 0 1 = cc in absurd (omega arith)
    go false k = refl

pub accepted-under : (ns : List ℕ) (r : Result Unit Refusal) → answer_of r ≡ under_ceiling {A = Unit} ns tt → r ≡ Ok tt → Under ns
unfolding under_ceiling
accepted-under ns r h e = known_under tt ns (sym (ap answer_of e) ∙ h)

-- 16 on a part is 16 on the whole
pub refused-whole :
    {A : Type 0} (a : A) (ns ms : List ℕ) {k : ℕ}
    → (Under ms → Under ns)
    → refused k ≡ under_ceiling {A = Unit} ns tt
    → refused 16 ≡ under_ceiling ms a
unfolding under_ceiling
refused-whole a ns ms {k} part h = go (some_passes ns) (some_passes ms) part h
  where
    go :
        (n m : Bool)
        → (m ≡ false → n ≡ false)
        → ◌≡◌ {A = Answer Unit} (refused k) (cond n (refused 16) (accepted tt))
        → refused 16 ≡ cond m (refused 16) (accepted a)
    go n true p q = refl
    go true false p q = let e = p refl in let z : ◌≡◌ {A = ℕ} 0 1 = cc in absurd (omega arith)
    go false false p q = let z : ◌≡◌ {A = ℕ} 0 1 = cc in absurd (omega arith)

-- what rule 16 refuses it refuses by its own number, so that a part's refusal is passed on as the whole's
pub number-16 : {A B : Type 0} (a : A) (ns : List ℕ) {k : ℕ} → refused k ≡ under_ceiling ns a → ◌≡◌ {A = Answer B} (refused k) (refused 16)
unfolding under_ceiling
number-16 {B = B} a ns {k} h = go (some_passes ns) h
  where
    go : (some : Bool) → refused k ≡ cond some (refused 16) (accepted a) → ◌≡◌ {A = Answer B} (refused k) (refused 16)
    go true q = let n : k ≡ 16 = cc in ap refused n
    go false q = let z : ◌≡◌ {A = ℕ} 0 1 = cc in absurd (omega arith)

pub refused-part :
    {A : Type 0} (a : A) (ns ms : List ℕ) {k : ℕ}
    → (Under ms → Under ns)
    → refused k ≡ under_ceiling {A = Unit} ns tt
    → refused k ≡ under_ceiling ms a
refused-part a ns ms part h = number-16 tt ns h ∙ refused-whole a ns ms part h
