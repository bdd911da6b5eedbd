-- A whole number of either sign is the difference of two natural numbers, its positive and its negative part, of which
-- one is 0. With the laws of these two, ℕ's arithmetic proves ℤ's.
use Prim.Native.Nat.{ℕ, zero, suc, ◌+◌, ◌*◌, ◌-◌, ◌<◌, ◌≤◌}
use mathlib.Core.Bool.{Bool, true, false, not, cond}
use mathlib.Core.Path.{◌≡◌, refl}
use native.Mathlib.Omega.{arith}
use lib.Dec.{T, ltb, ltb→lt, nltb→le, leb→le, le→leb}
use lib.IntN.{ℤ, pos, negsuc, neg_ℤ, ◌+ℤ◌, ◌*ℤ◌, sub_ℕ}
use lib.Signed.{◌≤ℤ◌}

abbrev pub positive : ℤ → ℕ
positive (pos n) = n
positive (negsuc n) = zero

abbrev pub negative : ℤ → ℕ
negative (pos n) = zero
negative (negsuc n) = suc n

pub minus-parts : (a : ℤ) → (positive (neg_ℤ a) ≡ negative a) × (negative (neg_ℤ a) ≡ positive a)
minus-parts (pos zero) = (refl, refl)
minus-parts (pos (suc n)) = (refl, refl)
minus-parts (negsuc n) = (refl, refl)

either : (b : Bool) (x y : ℤ) (P : ℤ → Type 0) → (T b → P x) → (T (not b) → P y) → P (cond b x y)
either true x y P f g = f tt
either false x y P f g = g tt

difference-parts : (a b : ℕ) → positive (sub_ℕ a b) + b ≡ a + negative (sub_ℕ a b)
difference-parts a b =
    either (ltb a b) (negsuc (b - suc a)) (pos (a - b)) (λ z. positive z + b ≡ a + negative z)
    (λ t. below (ltb→lt a b t))
    (λ t. above (nltb→le a b t))
  where
    below : a < b → 0 + b ≡ a + suc (b - suc a)
    below h = omega arith

    above : b ≤ a → (a - b) + b ≡ a + 0
    above h = omega arith

pub sum-parts :
    (a b : ℤ) → positive (a +ℤ b) + (negative a + negative b) ≡ (positive a + positive b) + negative (a +ℤ b)
sum-parts (pos a) (pos b) = omega arith
sum-parts (pos a) (negsuc b) = omega (arith, difference-parts a (suc b))
sum-parts (negsuc a) (pos b) = omega (arith, difference-parts b (suc a))
sum-parts (negsuc a) (negsuc b) = omega arith

pub product-parts :
    (a b : ℤ)
    → (positive (a *ℤ b) ≡ positive a * positive b + negative a * negative b)
    × (negative (a *ℤ b) ≡ positive a * negative b + negative a * positive b)
product-parts (pos a) (pos b) = omega arith
product-parts (pos a) (negsuc b) = omega (arith, minus-parts (pos (a * suc b)))
product-parts (negsuc a) (pos b) = omega (arith, minus-parts (pos (suc a * b)))
product-parts (negsuc a) (negsuc b) = omega arith

-- times a natural number
pub scaled-parts :
    (a : ℤ) (l : ℕ)
    → (positive (a *ℤ pos l) ≡ positive a * l) × (negative (a *ℤ pos l) ≡ negative a * l)
scaled-parts a l = omega (arith, product-parts a (pos l))

pub at-most-parts : (a b : ℤ) → a ≤ℤ b → positive a + negative b ≤ positive b + negative a
at-most-parts (pos a) (pos b) h = omega (arith, leb→le a b h.le)
at-most-parts (pos a) (negsuc b) h = absurd h.le
at-most-parts (negsuc a) (pos b) h = omega arith
at-most-parts (negsuc a) (negsuc b) h = omega (arith, leb→le b a h.le)

pub parts-at-most : (a b : ℤ) → positive a + negative b ≤ positive b + negative a → a ≤ℤ b
parts-at-most (pos a) (pos b) h = record { le = le→leb a b (omega arith) }
parts-at-most (pos a) (negsuc b) h = absurd (omega arith)
parts-at-most (negsuc a) (pos b) h = record { le = tt }
parts-at-most (negsuc a) (negsuc b) h = record { le = le→leb b a (omega arith) }

pub not_negative : (a : ℤ) → negative a ≤ positive a → negative a ≡ 0
not_negative (pos n) h = refl
not_negative (negsuc n) h = omega arith
