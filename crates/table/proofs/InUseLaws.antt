-- Laws of the places in use.
use Prim.Native.Nat.{ℕ, zero, suc, ◌+◌, ◌≤◌, ◌<◌}
use mathlib.Core.List.{List}
use mathlib.Core.Bool.{Bool, true, false, cond}
use mathlib.Core.Path.{◌≡◌, refl, fun_ext}
use borrow.Author.Tests.{lt-ltb, ltb-true}
use native.Mathlib.Omega.{arith}
use lib.Dec.{ltb}
use Rattle.elements.specs.Elements.{element_at, no_element}
use Rattle.gauges.specs.Gauges.{gauge_at, no_gauge}
use Rattle.table.specs.Tables.{TableValues, table_of}
use Rattle.table.specs.KindCounts.{extra_before}
use Rattle.table.specs.Bounds.{AcceptedBounds}
use Rattle.table.specs.InUse.{below, in_use, table_in}

module _ {A : Type 0} (n : ℕ) (none : A) where
  -- a place in use
  pub below-used : (f : ℕ → A) (i : ℕ) → i < n → below n none f i ≡ f i
  unfolding below
  below-used f i h = rw (lt-ltb i n h)

  -- functions that agree below n
  pub below-same : (f g : ℕ → A) → ((i : ℕ) → i < n → f i ≡ g i) → below n none f ≡ below n none g
  unfolding below
  below-same f g h = fun_ext (λ i. go i (ltb i n) refl)
    where
      go : (i : ℕ) (t : Bool) → ltb i n ≡ t → cond (ltb i n) (f i) none ≡ cond (ltb i n) (g i) none
      go i true e = rw e (h i (ltb-true i n e))
      go i false e = rw e

-- an element and a gauge in use are those of the bytes
module _ (bytes : List ℕ) where
  pub element-read : (i : ℕ) → i < (table_in bytes).elements → (table_in bytes).element i ≡ element_at bytes i
  unfolding table_in in_use table_of
  element-read i l = below-used _ no_element _ i l

  pub gauge-read : (g : ℕ) → g < (table_in bytes).gauges → (table_in bytes).gauge g ≡ gauge_at bytes (table_in bytes).elements g
  unfolding table_in in_use table_of
  gauge-read g l = below-used _ no_gauge _ g l

-- only the places in use are counted
pub extra-held : (t : TableValues) (i : ℕ) → i ≤ t.elements → extra_before t i ≡ extra_before (in_use t) i
unfolding extra_before in_use
extra-held t zero l = refl
extra-held t (suc i) l = rw (extra-held t i (omega arith), below-used t.elements no_element t.element i l)

pub bounds-in-use : (t : TableValues) → AcceptedBounds t → AcceptedBounds (in_use t)
unfolding in_use
bounds-in-use t b =
    record {
      step_least = b.step_least;
      leads_least = b.leads_least;
      leads_most = b.leads_most;
      elements_least = b.elements_least;
      elements_most = b.elements_most;
      extra_most = rw (← extra-held t t.elements (omega arith)) b.extra_most;
      places_most = rw (← extra-held t t.elements (omega arith)) b.places_most;
      gauges_most = b.gauges_most;
      element = λ i l. rw (below-used _ no_element t.element i l) (b.element i l);
      gauge = λ g l. rw (below-used _ no_gauge t.gauge g l) (b.gauge g l);
      rising =
          λ g l.
          rw (below-used t.gauges no_gauge t.gauge g (omega arith), below-used t.gauges no_gauge t.gauge (g + 1) l)
          (b.rising g l);
    }
