-- The places of the working space, by element and then lead.
use Prim.Native.Nat.{ℕ, ◌+◌, ◌*◌, ◌≤◌, ◌<◌}
use mathlib.Core.List.{List}
use mathlib.Core.Logic.{◌≢◌, ⊎_elim}
use mathlib.Core.Path.{◌≡◌, ap}
use native.Mathlib.Nat.{mul-le-mul_right, suc-mul, eq-or-lt_of_le}
use native.Mathlib.Decide.{dec_le}
use native.Mathlib.Omega.{arith}
use lib.ListN.{length, length-set}
use lib.Seq.{get_or-set_same, get_or-set_other}
use Rattle.units.specs.Units.{C}
use Rattle.method.specs.declared.Figures.{Figures}
use Rattle.method.specs.Figures.{FiguresFit}
use Rattle.method.specs.Inflow.{no_inflow, joined_inflow}
use Rattle.answer_space.specs.Places.{figures_at, put, added, put_and_added, most_sum, FiguresBelow, PlacesReady}

-- figures put at place p
module _ (space : List Figures) (p : ℕ) (f : Figures) where
  pub put-length : length (put space p f) ≡ length space
  unfolding put
  put-length = length-set space p f

  -- those of another place stay
  pub put_other : (q : ℕ) → q ≢ p → figures_at (put space p f) q ≡ figures_at space q
  unfolding figures_at put
  put_other q n = get_or-set_other space p q f no_inflow n

  -- they are at place p
  pub put-here : p < length space → figures_at (put space p f) p ≡ f
  unfolding figures_at put
  put-here room = get_or-set_same space p f no_inflow room

-- how large sums are
pub fits_below : {f : Figures} → FiguresFit f → FiguresBelow f C
fits_below h =
    record { discharge = h.discharge; discharge_margin = h.discharge_margin; variance = h.variance; variance_margin = h.variance_margin }

pub below-most : {f : Figures} {b m : ℕ} → FiguresBelow f b → b ≤ m → FiguresBelow f m
below-most h l =
    record {
      discharge = omega (arith, h.discharge);
      discharge_margin = omega (arith, h.discharge_margin);
      variance = omega (arith, h.variance);
      variance_margin = omega (arith, h.variance_margin);
    }

pub joined-below :
    {f x : Figures} {a b m : ℕ} → FiguresBelow f a → FiguresBelow x b → a + b ≤ m → FiguresBelow (joined_inflow f x) m
unfolding joined_inflow
joined-below h g l =
    record {
      discharge = omega (arith, h.discharge, g.discharge);
      discharge_margin = omega (arith, h.discharge_margin, g.discharge_margin);
      variance = omega (arith, h.variance, g.variance);
      variance_margin = omega (arith, h.variance_margin, g.variance_margin);
    }

-- figures put at p, and then added to the sums at another place
module _ (space middle : List Figures) (p q : ℕ) (f : Figures) (ready : PlacesReady space p q f) (is : middle ≡ put space p f) where
  sums-stay : figures_at middle q ≡ figures_at space q
  sums-stay = rw is (put_other space p f q ready.apart)

  pub add-ready : (q < length middle) × (FiguresBelow (figures_at middle q) most_sum × FiguresFit f)
  add-ready = (rw (is, put-length space p f) ready.below_room, (rw sums-stay ready.small, ready.fits))

  pub put-then-added : {after : List Figures} → after ≡ added middle q f → after ≡ put_and_added space p q f
  put-then-added e = rw (sums-stay, is) at e

-- places of two elements and leads, at w leads an element, are apart
earlier : (w i k : ℕ) → i < k → i * w + w ≤ k * w
earlier w i k l = omega (arith, mul-le-mul_right w l, suc-mul i w)

pub same-element : (w i k a b : ℕ) → a < w → b < w → i * w + a ≡ k * w + b → i ≡ k
same-element w i k a b la lb e = go (dec_le i k)
  where
    go : Dec (i ≤ k) → i ≡ k
    go (yes h) = ⊎_elim (λ s. s) (λ l. absurd (omega (arith, earlier w i k l))) (eq-or-lt_of_le h)
    go (no h) = absurd (omega (arith, earlier w k i (omega arith)))

pub same-lead : (w i k a b : ℕ) → a < w → b < w → i * w + a ≡ k * w + b → a ≡ b
same-lead w i k a b la lb e = omega (arith, ap (λ (j : ℕ). j * w) (same-element w i k a b la lb e))
