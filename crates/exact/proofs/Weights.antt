-- A weight of S beside the fraction that it stands for.
use Prim.Native.Nat.{ℕ, ◌+◌, ◌-◌, ◌*◌, ◌≤◌}
use mathlib.Core.Path.{◌≡◌}
use native.Mathlib.Omega.{arith}
use Rattle.units.specs.Units.{S}
use Rattle.weighting.specs.Estimates.{estimate}
use Rattle.exact.specs.Fraction.{Fraction, whole, ◌⊖◌, ◌⊗◌, ◌≼◌, Within}
use Rattle.exact.proofs.SignedParts.{positive}
use Rattle.exact.proofs.FractionParts.{
  Is,
  times,
  is-also,
  is_same,
  is_whole,
  is-whole-over,
  is-product,
  is-difference,
  is-own,
  at_most,
  at-most-back,
}
use Rattle.exact.proofs.Tracking.{Near, near, within, not-below-0}

-- f is p / c, which leaves k / c of 1, and the weight w is within g of S × f
pub record Share (w g : ℕ) (f : Fraction) : Type 0 where
  pub p : ℕ
  pub k : ℕ
  pub c : ℕ
  pub is : Is f p 0 c
  pub sum : p + k ≡ c
  pub near : Near (estimate w g) (S * p) c
  pub most : w ≤ S

is-weighed : {f : Fraction} {p c : ℕ} → Is f p 0 c → Is (whole S ⊗ f) (S * p) 0 c
is-weighed i = is-also (is-product (is_whole S) i) i.some (omega arith)

-- ---- to and from the definitions of specs/

module _ {w g : ℕ} {f : Fraction} where
  pub share : w ≤ S → Within w (whole S ⊗ f) g → whole 0 ≼ f → f ≼ whole 1 → Share w g f
  share most h least below =
      record {
        p = positive f.upper;
        k = f.lower - positive f.upper;
        c = f.lower;
        is = is-own f least;
        sum = omega (arith, at-most-back (is-own f least) (is-whole-over 1 f.above) below);
        near = near (is-weighed (is-own f least)) h;
        most = most;
      }

  pub share-within : Share w g f → Within w (whole S ⊗ f) g
  share-within h = within (is-weighed h.is) h.near

  pub share-least : Share w g f → whole 0 ≼ f
  share-least h = not-below-0 h.is

  pub share-most : Share w g f → f ≼ whole 1
  share-most h = at_most h.is (is-whole-over 1 h.is.some) (omega (arith, h.sum))

-- ---- the weight that is left

pub is-rest : {f : Fraction} {p c : ℕ} (k : ℕ) → Is f p 0 c → p + k ≡ c → Is (whole 1 ⊖ f) k 0 c
is-rest k i e = is_same (is-difference (is-whole-over 1 i.some) i) (omega arith)

pub near-rest :
    (w u g p k c : ℕ) → w + u ≡ S → p + k ≡ c → Near (estimate w g) (S * p) c → Near (estimate u g) (S * k) c
near-rest w u g p k c e e' h = omega (arith, h, times c e)

pub share-rest : {w g : ℕ} {f : Fraction} → Share w g f → Share (S - w) g (whole 1 ⊖ f)
share-rest {w} {g} h =
    record {
      p = h.k;
      k = h.p;
      c = h.c;
      is = is-rest h.k h.is h.sum;
      sum = omega (arith, h.sum);
      near = near-rest w (S - w) g h.p h.k h.c (omega (arith, h.most)) h.sum h.near;
      most = omega arith;
    }
