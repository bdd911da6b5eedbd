-- Laws of two tables with the same values: the same rules are kept, and the same places are in use.
use Prim.Native.Nat.{ℕ, ◌<◌}
use mathlib.Core.Bool.{true}
use mathlib.Core.List.{List}
use mathlib.Core.Path.{◌≡◌, sym, ◌∙◌}
use Rattle.refusal.specs.Answers.{Answer}
use Rattle.fields.proofs.RangeLaws.{all_same}
use Rattle.elements.specs.Elements.{no_element}
use Rattle.elements.proofs.ElementLaws.{down-same}
use Rattle.gauges.specs.declared.Gauge.{Gauge}
use Rattle.gauges.specs.Gauges.{beta_at, gauge_from, gauge_at, no_gauge}
use Rattle.gauges.proofs.GaugeLaws.{gauge-same}
use Rattle.table.specs.Tables.{TableValues, table_of}
use Rattle.table.specs.Rules.{length_fits, version_fits, counts_fit, size_fits, elements_fit, downs_fit, gauges_fit, table_rules}
use Rattle.table.specs.InUse.{in_use, table_in}
use Rattle.table.specs.SameNumbers.{OfVersion, SameGauge, SameNumbers}
use Rattle.table.proofs.InUseLaws.{below-same}

-- the same values at the places in use
pub record SameValues (one other : TableValues) : Type 0 where
  pub step : one.step ≡ other.step
  pub leads : one.leads ≡ other.leads
  pub elements : one.elements ≡ other.elements
  pub gauges : one.gauges ≡ other.gauges
  pub element : (i : ℕ) → i < one.elements → one.element i ≡ other.element i
  pub gauge : (g : ℕ) → g < one.gauges → one.gauge g ≡ other.gauge g

module _ (one other : List ℕ) (same : SameValues (table_of one) (table_of other)) where
  counts_same : counts_fit (table_of one) ≡ counts_fit (table_of other)
  unfolding counts_fit
  counts_same = rw (same.step, same.leads, same.elements, same.gauges)

  elements_same : elements_fit (table_of one) ≡ elements_fit (table_of other)
  elements_same = rw (← same.elements, ← same.step) (all_same _ _ (table_of one).elements (λ i l. rw (same.element i l)))

  downs-same : downs_fit (table_of one) ≡ downs_fit (table_of other)
  downs-same = rw (← same.elements) (all_same _ _ (table_of one).elements (down-same _ _ _ same.element))

  gauges-same : gauges_fit (table_of one) ≡ gauges_fit (table_of other)
  gauges-same =
      rw (← same.elements, ← same.gauges)
      (all_same _ _ (table_of one).gauges (gauge-same _ _ _ _ _ _ same.element same.gauge))

  pub in-use-same : table_in one ≡ table_in other
  unfolding table_in in_use
  in-use-same =
      rw (
        below-same (table_of one).elements no_element (table_of one).element (table_of other).element same.element,
        below-same (table_of one).gauges no_gauge (table_of one).gauge (table_of other).gauge same.gauge,
        same.step,
        same.leads,
        same.elements,
        same.gauges,
      )

  -- where both keep rules 1, 2 and 4, rules 1 to 7 decide the same
  module _
      {A : Type 0} (rest : Answer A) (length₁ : length_fits one ≡ true) (length₂ : length_fits other ≡ true) (version₁ : version_fits one ≡ true)
      (version₂ : version_fits other ≡ true) (size₁ : size_fits one (table_of one) ≡ true) (size₂ : size_fits other (table_of other) ≡ true) where
    pub rules-same : table_rules one rest ≡ table_rules other rest
    unfolding table_rules
    rules-same =
        rw (length₁, length₂, version₁, version₂, size₁, size₂, counts_same, elements_same, downs-same, gauges-same)

-- a table of version 1 has β 0, so that the same numbers are the same values
same-gauge : (one other : Gauge) → SameGauge one other → one.beta ≡ other.beta → one ≡ other
same-gauge one other s b = whole s.element s.noise b s.curve
  where
    made : Gauge → Gauge
    made g = record { element = g.element; noise = g.noise; beta = g.beta; curve = g.curve }

    whole : one.element ≡ other.element → one.noise ≡ other.noise → one.beta ≡ other.beta → one.curve ≡ other.curve → made one ≡ made other
    whole e n b c = rw (e, n, b, c)

module _ (one other : List ℕ) (first : OfVersion 1 one) (second : OfVersion 2 other) (same : SameNumbers (table_of one) (table_of other)) where
  no-beta : (g : ℕ) → ((table_of one).gauge g).beta ≡ 0
  unfolding table_of gauge_at gauge_from beta_at
  no-beta g = rw first.is

  pub same-values : SameValues (table_of one) (table_of other)
  same-values =
      record {
        step = same.step;
        leads = same.leads;
        elements = same.elements;
        gauges = same.gauges;
        element = same.element;
        gauge = λ g l. same-gauge _ _ (same.gauge g l) (no-beta g ∙ sym (same.no_beta g l));
      }

  pub same-rules : {A : Type 0} (rest : Answer A) → table_rules one rest ≡ table_rules other rest
  unfolding version_fits
  same-rules rest =
      rules-same one other same-values rest first.length second.length (rw first.is) (rw second.is) first.size second.size

  pub same-in-use : table_in one ≡ table_in other
  same-in-use = in-use-same one other same-values
