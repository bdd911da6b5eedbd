-- Lists by element and lead.
use Prim.Native.Nat.{ℕ, zero, suc, ◌*◌}
use mathlib.Core.List.{[], ◌∷◌}
use mathlib.Core.Path.{◌≡◌, refl}
use native.Mathlib.Omega.{arith}
use lib.ListN.{length, length-append}
use Rattle.network.specs.Answer.{listed, by_element_and_lead}

-- how many places the lists have
module _ {A : Type 0} where
  pub listed-length : (f : ℕ → A) (n : ℕ) → length (listed f n) ≡ n
  unfolding listed
  listed-length f zero = refl
  listed-length f (suc n) = omega (arith, length-append (listed f n) (f n ∷ []), listed-length f n)

  pub by-lead-length : (f : ℕ → ℕ → A) (n w : ℕ) → length (by_element_and_lead f n w) ≡ n * w
  unfolding by_element_and_lead
  by-lead-length f zero w = omega arith
  by-lead-length f (suc n) w =
      omega (
        arith,
        length-append (by_element_and_lead f n w) (listed (f n) w),
        by-lead-length f n w,
        listed-length (f n) w,
      )
