-- `Is x p n d`: the fraction x is (p − n) / d, for three natural numbers. Stated so, every operation on fractions and
-- their order are facts of ℕ.
use Prim.Native.Nat.{ℕ, zero, suc, ◌+◌, ◌*◌, ◌<◌, ◌≤◌}
use mathlib.Core.Path.{◌≡◌, ap, subst}
use native.Mathlib.Nat.{mul-pos, mul-le-mul_right, le_of_mul-le-mul_right, eq_of_mul-eq-mul_right}
use native.Mathlib.Omega.{arith}
use lib.IntN.{ℤ, pos, negsuc, ◌*ℤ◌}
use Rattle.exact.specs.Fraction.{Fraction, whole, minus, inverse, ◌⊕◌, ◌⊖◌, ◌⊗◌, ◌⊘◌, ◌≼◌}
use Rattle.exact.proofs.SignedParts.{
  positive,
  negative,
  minus-parts,
  sum-parts,
  product-parts,
  scaled-parts,
  at-most-parts,
  parts-at-most,
  not_negative,
}

pub record Is (x : Fraction) (p n d : ℕ) : Type 0 where
  pub some : 0 < d
  pub same : positive x.upper * d + n * x.lower ≡ p * x.lower + negative x.upper * d

-- an equation times a number
pub times : {a b : ℕ} (c : ℕ) → a ≡ b → a * c ≡ b * c
times c e = ap (λ (t : ℕ). t * c) e

-- ---- the same fraction by other numbers

pub is-also :
    {x : Fraction} {p n d p' n' d' : ℕ}
    → Is x p n d
    → 0 < d'
    → p * d' + n' * d ≡ p' * d + n * d'
    → Is x p' n' d'
is-also {x} {p} {n} {d} {p'} {n'} {d'} i h e =
    record {
      some = h;
      same = eq_of_mul-eq-mul_right d i.some _ _ (omega (arith, times d' i.same, times x.lower e));
    }

-- over the same lower number
pub is_same : {x : Fraction} {p n p' n' d : ℕ} → Is x p n d → p + n' ≡ p' + n → Is x p' n' d
is_same {p = p} {n = n} {p' = p'} {n' = n'} {d = d} i e = is-also i i.some (omega (arith, times d e))

pub is-lower : {x : Fraction} {p n d d' : ℕ} → Is x p n d → d ≡ d' → Is x p n d'
is-lower {x} {p} {n} i e = subst (Is x p n) e i

pub is-scaled : {x : Fraction} {p n d : ℕ} (c : ℕ) → 0 < c → Is x p n d → Is x (p * c) (n * c) (d * c)
is-scaled {p = p} {n = n} {d = d} c h i = is-also i (mul-pos i.some h) (omega arith)

-- ---- the operations

pub is_whole : (k : ℕ) → Is (whole k) k 0 1
unfolding whole
is_whole k = record { some = omega arith; same = omega arith }

-- a whole number over any lower number
pub is-whole-over : (k : ℕ) {d : ℕ} → 0 < d → Is (whole k) (k * d) 0 d
is-whole-over k h = is-also (is_whole k) h (omega arith)

sum-law :
    (u v a b a' b' l l' p n p' n' d : ℕ)
    → u + (b * l' + b' * l) ≡ (a * l' + a' * l) + v
    → a * d + n * l ≡ p * l + b * d
    → a' * d + n' * l' ≡ p' * l' + b' * d
    → u * d + (n + n') * (l * l') ≡ (p + p') * (l * l') + v * d
sum-law u v a b a' b' l l' p n p' n' d e f g = omega (arith, times d e, times l' f, times l g)

pub is_sum : {x y : Fraction} {p n p' n' d : ℕ} → Is x p n d → Is y p' n' d → Is (x ⊕ y) (p + p') (n + n') d
unfolding ◌⊕◌
is_sum {x} {y} {p} {n} {p'} {n'} {d} i j =
    record { some = i.some; same = sum-law _ _ _ _ _ _ _ _ p n p' n' d upper i.same j.same }
  where
    upper :
        positive (x ⊕ y).upper + (negative x.upper * y.lower + negative y.upper * x.lower)
        ≡ (positive x.upper * y.lower + positive y.upper * x.lower) + negative (x ⊕ y).upper
    upper =
        omega (
          arith,
          sum-parts (x.upper *ℤ pos y.lower) (y.upper *ℤ pos x.lower),
          scaled-parts x.upper y.lower,
          scaled-parts y.upper x.lower,
        )

regroup : (a b c e l m : ℕ) → (a * c + b * e) * (l * m) ≡ (a * l) * (c * m) + (b * l) * (e * m)
regroup a b c e l m = omega arith

product_law :
    (a b a' b' p n p' n' : ℕ)
    → a + n ≡ p + b
    → a' + n' ≡ p' + b'
    → (a * a' + b * b') + (p * n' + n * p') ≡ (p * p' + n * n') + (a * b' + b * a')
product_law a b a' b' p n p' n' f g = omega (arith, times a' f, times b' f, times p g, times n g)

product-over-law :
    (a b a' b' l l' p n d p' n' d' : ℕ)
    → a * d + n * l ≡ p * l + b * d
    → a' * d' + n' * l' ≡ p' * l' + b' * d'
    → (a * a' + b * b') * (d * d') + (p * n' + n * p') * (l * l')
    ≡ (p * p' + n * n') * (l * l') + (a * b' + b * a') * (d * d')
product-over-law a b a' b' l l' p n d p' n' d' f g =
    rw (regroup a b a' b' d d', regroup p n n' p' l l', regroup p n p' n' l l', regroup a b b' a' d d')
    (product_law (a * d) (b * d) (a' * d') (b' * d') (p * l) (n * l) (p' * l') (n' * l') f g)

pub is-product :
    {x y : Fraction} {p n d p' n' d' : ℕ}
    → Is x p n d
    → Is y p' n' d'
    → Is (x ⊗ y) (p * p' + n * n') (p * n' + n * p') (d * d')
unfolding ◌⊗◌
is-product {x} {y} {p} {n} {d} {p'} {n'} {d'} i j =
    record {
      some = mul-pos i.some j.some;
      same =
          rw ((product-parts x.upper y.upper).0, (product-parts x.upper y.upper).1)
          (product-over-law _ _ _ _ _ _ p n d p' n' d' i.same j.same);
    }

pub is-minus : {x : Fraction} {p n d : ℕ} → Is x p n d → Is (minus x) n p d
unfolding minus
is-minus {x} i =
    record { some = i.some; same = rw ((minus-parts x.upper).0, (minus-parts x.upper).1) (omega (arith, i.same)) }

pub is-difference : {x y : Fraction} {p n p' n' d : ℕ} → Is x p n d → Is y p' n' d → Is (x ⊖ y) (p + n') (n + p') d
unfolding ◌⊖◌
is-difference i j = is_sum i (is-minus j)

is_inverse :
    (z : ℤ) (l c q : ℕ)
    → 0 < q
    → 0 < l
    → positive z * c + 0 * l ≡ q * l + negative z * c
    → Is (inverse z l) c 0 q
unfolding inverse
is_inverse (pos zero) l c q h k e = absurd (omega (arith, mul-pos h k))
is_inverse (pos (suc m)) l c q h k e = record { some = h; same = omega arith }
is_inverse (negsuc m) l c q h k e = absurd (omega (arith, mul-pos h k))

pub is-quotient :
    {x y : Fraction} {p n d q c : ℕ} → Is x p n d → Is y q 0 c → 0 < q → Is (x ⊘ y) (p * c) (n * c) (d * q)
unfolding ◌⊘◌
is-quotient {y = y} {p = p} {n = n} {d = d} {q = q} {c = c} i j h =
    is-also (is-product i (is_inverse y.upper y.lower c q h y.above j.same)) (mul-pos i.some h)
    (omega arith)

-- ---- the order

cross-law :
    (a b l a' b' l' p n p' n' d : ℕ)
    → 0 < d
    → a * d + n * l ≡ p * l + b * d
    → a' * d + n' * l' ≡ p' * l' + b' * d
    → p + n' ≤ p' + n
    → a * l' + b' * l ≤ a' * l + b * l'
cross-law a b l a' b' l' p n p' n' d k f g h =
    le_of_mul-le-mul_right {k = d} (omega (arith, times l' f, times l g, mul-le-mul_right (l * l') h)) k

cross-back-law :
    (a b l a' b' l' p n p' n' d : ℕ)
    → 0 < l * l'
    → a * d + n * l ≡ p * l + b * d
    → a' * d + n' * l' ≡ p' * l' + b' * d
    → a * l' + b' * l ≤ a' * l + b * l'
    → p + n' ≤ p' + n
cross-back-law a b l a' b' l' p n p' n' d k f g h =
    le_of_mul-le-mul_right {k = l * l'} (omega (arith, times l' f, times l g, mul-le-mul_right d h)) k

module _ {x y : Fraction} {p n p' n' d : ℕ} (i : Is x p n d) (j : Is y p' n' d) where
  pub at_most : p + n' ≤ p' + n → x ≼ y
  at_most h =
      record {
        cross =
            parts-at-most _ _
            (omega (
              arith,
              scaled-parts x.upper y.lower,
              scaled-parts y.upper x.lower,
              cross-law _ _ _ _ _ _ p n p' n' d i.some i.same j.same h,
            ));
      }

  pub at-most-back : x ≼ y → p + n' ≤ p' + n
  at-most-back h =
      cross-back-law _ _ _ _ _ _ p n p' n' d (mul-pos x.above y.above) i.same j.same
      (omega (
        arith,
        scaled-parts x.upper y.lower,
        scaled-parts y.upper x.lower,
        at-most-parts _ _ h.cross,
      ))

-- a fraction that is not below 0, by its own numbers
pub is-own : (x : Fraction) → whole 0 ≼ x → Is x (positive x.upper) 0 x.lower
is-own x h =
    record {
      some = x.above;
      same =
          omega (
            arith,
            times x.lower (not_negative x.upper (omega (arith, at-most-back (is-whole-over 0 x.above) own h))),
          );
    }
  where
    own : Is x (positive x.upper) (negative x.upper) x.lower
    own = record { some = x.above; same = omega arith }
