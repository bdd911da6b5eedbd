-- Laws of rule 16's definition, one number of its list at a time.
use Prim.Native.Nat.{ℕ, ◌≤◌, ◌<◌}
use mathlib.Core.Bool.{Bool, true, false, cond, ◌||◌}
use mathlib.Core.List.{List, [], ◌∷◌, ◌++◌}
use mathlib.Core.Path.{◌≡◌, refl, sym, ap, ◌∙◌}
use borrow.Author.Tests.{lt-ltb, le-ltb}
use lib.Dec.{ltb}
use native.Mathlib.Decide.{dec_le}
use native.Mathlib.Omega.{arith}
use Rattle.refusal.specs.Answers.{Answer, accepted, refused}
use Rattle.units.specs.Units.{C}
use Rattle.units.specs.Ceiling.{some_passes, under_ceiling}

module _ {A : Type 0} (n : ℕ) (ns : List ℕ) (a : A) where
  -- the first number passes C
  pub passes : C < n → under_ceiling (n ∷ ns) a ≡ refused 16
  unfolding under_ceiling some_passes
  passes h = rw (lt-ltb C n h)

  -- the first number does not: the others decide
  pub stays : n ≤ C → under_ceiling (n ∷ ns) a ≡ under_ceiling ns a
  unfolding under_ceiling some_passes
  stays h = rw (le-ltb C n h)

pub none_left : {A : Type 0} (a : A) → under_ceiling [] a ≡ accepted a
unfolding under_ceiling some_passes
none_left a = refl

-- an answer under the ceiling, read backwards
module _ {A B : Type 0} (a : A) (b : B) where
  picked-refused :
      (t : Bool) (k : ℕ)
      → refused k ≡ cond t (refused 16) (accepted a)
      → cond t (refused 16) (accepted b) ≡ refused 16
  picked-refused true k e = refl
  picked-refused false k e = let z : ◌≡◌ {A = ℕ} 0 1 = cc in absurd (omega arith)

  picked-accepted :
      (t : Bool) (x : A)
      → accepted x ≡ cond t (refused 16) (accepted a)
      → (x ≡ a) × (cond t (refused 16) (accepted b) ≡ accepted b)
  picked-accepted true x e = let z : ◌≡◌ {A = ℕ} 0 1 = cc in absurd (omega arith)
  picked-accepted false x e = (cc, refl)

  -- the same numbers refuse every result, or none
  pub same-refused : (ns : List ℕ) {k : ℕ} → refused k ≡ under_ceiling ns a → under_ceiling ns b ≡ refused 16
  unfolding under_ceiling
  same-refused ns {k} e = picked-refused (some_passes ns) k e

  pub same-accepted :
      (ns : List ℕ) {x : A} → accepted x ≡ under_ceiling ns a → (x ≡ a) × (under_ceiling ns b ≡ accepted b)
  unfolding under_ceiling
  same-accepted ns {x} e = picked-accepted (some_passes ns) x e

  -- and by the same number
  pub same-refused-number : (ns : List ℕ) {k : ℕ} → under_ceiling ns a ≡ refused k → under_ceiling ns b ≡ refused k
  unfolding under_ceiling
  same-refused-number ns {k} e = go (some_passes ns) e
    where
      go : (t : Bool) → cond t (refused 16) (accepted a) ≡ refused k → cond t (refused 16) (accepted b) ≡ refused k
      go true h = ap refused cc
      go false h = let z : ◌≡◌ {A = ℕ} 0 1 = cc in absurd (omega arith)

-- an answer that judges a single number
module _ {A : Type 0} (n : ℕ) (a : A) where
  pub refused-one : {k : ℕ} → refused k ≡ under_ceiling (n ∷ []) a → C < n
  refused-one {k} e = go (dec_le n C)
    where
      go : Dec (n ≤ C) → C < n
      go (yes h) = let z : ◌≡◌ {A = ℕ} 0 1 = cc (e ∙ (stays n [] a h ∙ none_left a)) in absurd (omega arith)
      go (no h) = omega arith

  pub accepted-one : {x : A} → accepted x ≡ under_ceiling (n ∷ []) a → (n ≤ C) × (x ≡ a)
  accepted-one {x} e = (go (dec_le n C), (same-accepted a a (n ∷ []) e).0)
    where
      go : Dec (n ≤ C) → n ≤ C
      go (yes h) = h
      go (no h) = let z : ◌≡◌ {A = ℕ} 0 1 = cc (e ∙ passes n [] a (omega arith)) in absurd (omega arith)

-- a refusal by the ceiling that a `?` passes on
module _ {A : Type 0} (ns : List ℕ) (a : A) {k : ℕ} (e : refused k ≡ under_ceiling ns a) where
  -- its number is 16
  pub number-16 : k ≡ 16
  unfolding under_ceiling
  number-16 = go (some_passes ns) e
    where
      go : (t : Bool) → refused k ≡ cond t (refused 16) (accepted a) → k ≡ 16
      go true h = cc
      go false h = let z : ◌≡◌ {A = ℕ} 0 1 = cc in absurd (omega arith)

  pub passed-on : {B : Type 0} {answer : Answer B} → answer ≡ refused 16 → refused k ≡ answer
  passed-on h = rw number-16 (sym h)

-- numbers after numbers
passes_append : (ns ms : List ℕ) → some_passes (ns ++ ms) ≡ (some_passes ns || some_passes ms)
unfolding some_passes
passes_append [] ms = refl
passes_append (n ∷ ns) ms = rw (passes_append ns ms) (or_assoc (ltb C n) (some_passes ns) (some_passes ms))
  where
    or_assoc : (a b c : Bool) → (a || (b || c)) ≡ ((a || b) || c)
    or_assoc true b c = refl
    or_assoc false b c = refl

module _ {A B : Type 0} (ns ms : List ℕ) (a : A) (b : B) where
  -- the first numbers refuse
  pub refused-append : {k : ℕ} → refused k ≡ under_ceiling ns a → under_ceiling (ns ++ ms) b ≡ refused 16
  unfolding under_ceiling
  refused-append {k} e = rw (passes_append ns ms) (go (some_passes ns) e)
    where
      go :
          (t : Bool)
          → refused k ≡ cond t (refused 16) (accepted a)
          → cond (t || some_passes ms) (refused 16) (accepted b) ≡ refused 16
      go true h = refl
      go false h = let z : ◌≡◌ {A = ℕ} 0 1 = cc in absurd (omega arith)

  -- they do not: the others decide
  pub accepted-append : {x : A} → accepted x ≡ under_ceiling ns a → under_ceiling (ns ++ ms) b ≡ under_ceiling ms b
  unfolding under_ceiling
  accepted-append {x} e = rw (passes_append ns ms) (go (some_passes ns) e)
    where
      go :
          (t : Bool)
          → accepted x ≡ cond t (refused 16) (accepted a)
          → cond (t || some_passes ms) (refused 16) (accepted b) ≡ cond (some_passes ms) (refused 16) (accepted b)
      go true h = let z : ◌≡◌ {A = ℕ} 0 1 = cc in absurd (omega arith)
      go false h = refl
