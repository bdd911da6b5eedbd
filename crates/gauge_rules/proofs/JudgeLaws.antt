-- Laws of rule 7 on the gauges, by what is read where they stand.
use Prim.Native.Nat.{ℕ, ◌+◌, ◌-◌, ◌≤◌, ◌<◌}
use mathlib.Core.Bool.{not, ◌&&◌}
use mathlib.Core.List.{List}
use mathlib.Core.Path.{◌≡◌}
use native.Mathlib.Omega.{arith}
use lib.Dec.{ltb, leb}
use lib.ListN.{length}
use Rattle.sizes.specs.Sizes.{most_elements, most_gauges}
use Rattle.units.specs.Units.{C}
use Rattle.fields.specs.Bytes.{byte_at, number32}
use Rattle.fields.specs.Ranges.{in_range}
use Rattle.elements.specs.Elements.{element_at}
use Rattle.elements.specs.Kinds.{dam, same_kind}
use Rattle.gauges.specs.Gauges.{curve_at, beta_at, gauge_from, gauge_place, gauge_at}
use Rattle.gauges.specs.Places.{Versioned, GaugeThere, GaugePlaced}
use Rattle.gauges.specs.Rules.{curve_fits, not_on_dam, beta_fits, gauge_fits}
use Rattle.gauges.proofs.GaugeLaws.{gauge-there, place-before}
use Rattle.gauge_rules.specs.Judged.{GaugeAfter}

-- each of the first m gauges is there
pub placed :
    (table : List ℕ) (n : ℕ) {m g : ℕ}
    → Versioned table × ((n ≤ most_elements) × ((m ≤ most_gauges) × (gauge_place table n m ≤ length table)))
    → g < m
    → GaugePlaced table n g
placed table n {g = g} p l =
    record {
      versioned = p.0;
      elements = p.1.0;
      gauges = omega (arith, p.1.1.0);
      whole = omega (arith, place-before table p.0 n l, p.1.1.1);
    }

module _ (table : List ℕ) (n g : ℕ) {above at : ℕ} (p : GaugeAfter table n g above) (is : at ≡ gauge_place table n g) where
  -- all its bytes are there
  pub there : GaugeThere table at
  there = rw is (gauge-there table n g p.placed)

  pub judged :
      {number : ℕ}
      → number ≡ byte_at table at
      → gauge_fits n (element_at table) (gauge_at table n) g
      ≡ (((((ltb above number && leb number n) && not (same_kind (element_at table (number - 1)).kind dam)) && in_range (number32 table (at + 2)) 1 C)
      && curve_fits (curve_at table at))
      && leb (beta_at table at) 500)
  unfolding gauge_fits not_on_dam beta_fits gauge_at gauge_from
  judged e = rw (e, p.before, is)
