-- Laws of rules 1 to 7: what follows them decides where they accept, and what callers may then rely on.
use Prim.{Unit}
use Prim.Native.Nat.{ℕ, zero, suc, ◌+◌, ◌*◌, ◌-◌, ◌≤◌, ◌<◌}
use mathlib.Core.Bool.{Bool, true, false, cond}
use mathlib.Core.List.{List}
use mathlib.Core.Path.{◌≡◌, refl, ◌∙◌}
use native.Mathlib.Omega.{arith}
use Rattle.sizes.specs.Sizes.{most_elements, most_leads, most_gauges}
use Rattle.refusal.proofs.RuleLaws.{rule-then, then-kept, rule-kept}
use Rattle.refusal.specs.Answers.{Answer, accepted, refused, and_then, rule}
use Rattle.fields.specs.Bytes.{byte_at, number16}
use Rattle.fields.specs.Ranges.{in_range, all_below}
use Rattle.fields.proofs.RangeLaws.{all-four, range-bounds, all-at}
use Rattle.elements.specs.declared.Element.{Element}
use Rattle.elements.specs.Elements.{element_at}
use Rattle.elements.specs.Kinds.{tanks, extra_tanks, same_kind}
use Rattle.elements.specs.Bounds.{AcceptedElement}
use Rattle.elements.specs.Rules.{element_fits, down_fits}
use Rattle.elements.proofs.ElementLaws.{element-bounds}
use Rattle.gauges.specs.Gauges.{gauge_at}
use Rattle.gauges.specs.Rules.{gauge_fits}
use Rattle.gauges.proofs.GaugeLaws.{gauge-bounds, gauge-rises}
use Rattle.table.specs.Tables.{TableValues, table_of}
use Rattle.table.specs.Rules.{length_fits, version_fits, counts_fit, size_fits, elements_fit, downs_fit, gauges_fit, table_rules}
use Rattle.table.specs.KindCounts.{extra_before}
use Rattle.table.specs.Bounds.{AcceptedBounds}
use Rattle.elements.proofs.KindLaws.{same-true}

-- what is made of the answer after the rules
pub and-then :
    {A B : Type 0} (bytes : List ℕ) (r : Answer A) (f : A → Answer B)
    → and_then (table_rules bytes r) f ≡ table_rules bytes (and_then r f)
unfolding table_rules
and-then bytes r f = simp rule-then

module _ {A : Type 0} (bytes : List ℕ) (rest : Answer A) where
  rules-then : and_then (table_rules {A = Unit} bytes (accepted tt)) (λ _. rest) ≡ table_rules bytes rest
  rules-then = and-then bytes (accepted tt) (λ _. rest)

  pub rules-accepted : table_rules {A = Unit} bytes (accepted tt) ≡ accepted tt → table_rules bytes rest ≡ rest
  rules-accepted h = rw (← rules-then, h)

  pub rules-refused : {k : ℕ} → table_rules {A = Unit} bytes (accepted tt) ≡ refused k → table_rules bytes rest ≡ refused k
  rules-refused h = rw (← rules-then, h)

  -- rules before an accepted answer are kept
  pub table_kept :
      {a : A} → table_rules bytes rest ≡ accepted a → (table_rules {A = Unit} bytes (accepted tt) ≡ accepted tt) × (rest ≡ accepted a)
  table_kept h = then-kept (table_rules bytes (accepted tt)) rest (rules-then ∙ h)

-- rules 5 to 7
abbrev pub rules_left : {A : Type 0} → TableValues → Answer A → Answer A
rules_left t rest = rule 5 (elements_fit t) (rule 6 (downs_fit t) (rule 7 (gauges_fit t) rest))

-- rules 1 to 4, the header's, and rules 1 to 7 are kept
pub record HeaderKept (bytes : List ℕ) : Type 0 where
  pub length : length_fits bytes ≡ true
  pub version : version_fits bytes ≡ true
  pub counts : counts_fit (table_of bytes) ≡ true
  pub size : size_fits bytes (table_of bytes) ≡ true

pub record RulesKept (bytes : List ℕ) : Type 0 where
  pub header : HeaderKept bytes
  pub elements : elements_fit (table_of bytes) ≡ true
  pub downs : downs_fit (table_of bytes) ≡ true
  pub gauges : gauges_fit (table_of bytes) ≡ true

pub rules-kept : (bytes : List ℕ) → table_rules {A = Unit} bytes (accepted tt) ≡ accepted tt → RulesKept bytes
unfolding table_rules
rules-kept bytes h =
    let a = rule-kept _ _ _ h in
    let b = rule-kept _ _ _ a.1 in
    let c = rule-kept _ _ _ b.1 in
    let d = rule-kept _ _ _ c.1 in
    let e = rule-kept _ _ _ d.1 in
    let f = rule-kept _ _ _ e.1 in
    let g = rule-kept _ _ _ f.1 in
    record {
      header = record { length = a.0; version = b.0; counts = c.0; size = d.0 };
      elements = e.0;
      downs = f.0;
      gauges = g.0;
    }

-- the header leaves rules 5 to 7
pub header-left :
    {A : Type 0} (bytes : List ℕ) (rest : Answer A) → HeaderKept bytes → table_rules bytes rest ≡ rules_left (table_of bytes) rest
unfolding table_rules
header-left bytes rest h = rw (h.length, h.version, h.counts, h.size)

-- what rule 3 asks
pub record CountsBounds (t : TableValues) : Type 0 where
  pub step_least : 1 ≤ t.step
  pub leads_least : 1 ≤ t.leads
  pub leads_most : t.leads ≤ most_leads
  pub elements_least : 1 ≤ t.elements
  pub elements_most : t.elements ≤ most_elements
  pub gauges_most : t.gauges ≤ most_gauges

pub counts-bounds : (t : TableValues) → counts_fit t ≡ true → CountsBounds t
unfolding counts_fit
counts-bounds t h =
    let leads = in_range t.leads 1 most_leads in
    let elements = in_range t.elements 1 most_elements in
    let k = all-four (in_range t.step 1 1440) leads elements (in_range t.gauges 0 most_gauges) h in
    record {
      step_least = (range-bounds _ _ _ k.0).0;
      leads_least = (range-bounds _ _ _ k.1.0).0;
      leads_most = (range-bounds _ _ _ k.1.0).1;
      elements_least = (range-bounds _ _ _ k.1.1.0).0;
      elements_most = (range-bounds _ _ _ k.1.1.0).1;
      gauges_most = (range-bounds _ _ _ k.1.1.1).1;
    }

-- no element has more than seven tanks above its last
extra-few : (e : Element) → (e.kind ≡ tanks → (2 ≤ e.runoff) × (e.runoff ≤ 8)) → extra_tanks e ≤ 7
unfolding extra_tanks
extra-few e h = go (same_kind e.kind tanks) refl
  where
    go : (x : Bool) → same_kind e.kind tanks ≡ x → cond x (e.runoff - 1) 0 ≤ 7
    go true k = omega (arith, h (same-true _ _ k))
    go false k = omega arith

extra-most :
    (t : TableValues)
    → ((i : ℕ) → i < t.elements → (t.element i).kind ≡ tanks → (2 ≤ (t.element i).runoff) × ((t.element i).runoff ≤ 8))
    → (n : ℕ)
    → n ≤ t.elements
    → extra_before t n ≤ 7 * n
unfolding extra_before
extra-most t h zero l = omega arith
extra-most t h (suc n) l = omega (arith, extra-most t h n (omega arith), extra-few (t.element n) (h n l))

pub table-bounds : (bytes : List ℕ) → table_rules {A = Unit} bytes (accepted tt) ≡ accepted tt → AcceptedBounds (table_of bytes)
table-bounds bytes h =
    let t = table_of bytes in
    let k = rules-kept bytes h in
    let n = counts-bounds t k.header.counts in
    let accepted-element : (i : ℕ) → i < t.elements → AcceptedElement t.step t.elements i (t.element i) =
    λ i l. element-bounds _ t.element i t.step (all-at _ _ i l k.elements) (all-at _ _ i l k.downs) in
    record {
      step_least = n.step_least;
      leads_least = n.leads_least;
      leads_most = n.leads_most;
      elements_least = n.elements_least;
      elements_most = n.elements_most;
      extra_most = extra-most t (λ i l. (accepted-element i l).tanks) t.elements (omega arith);
      places_most = omega (arith, n.elements_most, extra-most t (λ i l. (accepted-element i l).tanks) t.elements (omega arith));
      gauges_most = n.gauges_most;
      element = accepted-element;
      gauge = λ g l. gauge-bounds _ _ t.gauge g (all-at _ _ g l k.gauges);
      rising = λ g l. gauge-rises _ _ t.gauge g (all-at _ _ (g + 1) l k.gauges);
    }

-- the fields of the header that the code reads
module _ (bytes : List ℕ) where
  -- rule 5 on the elements at the step and the count that were read
  pub elements-judged :
      {step n : ℕ} {fit : Bool}
      → step ≡ number16 bytes 5
      → n ≡ byte_at bytes 8
      → fit ≡ all_below (λ i. element_fits step (element_at bytes i)) n
      → fit ≡ elements_fit (table_of bytes)
  unfolding table_of
  elements-judged s n h = rw (← s, ← n) h

  -- rules 6 and 7 at the counts that were read
  pub downs-judged :
      {n : ℕ} {fit : Bool}
      → n ≡ byte_at bytes 8
      → fit ≡ all_below (down_fits n (element_at bytes)) n
      → fit ≡ downs_fit (table_of bytes)
  unfolding table_of
  downs-judged n h = rw (← n) h

  pub gauges-judged :
      {n m : ℕ} {fit : Bool}
      → n ≡ byte_at bytes 8
      → m ≡ byte_at bytes 9
      → fit ≡ all_below (gauge_fits n (element_at bytes) (gauge_at bytes n)) m
      → fit ≡ gauges_fit (table_of bytes)
  unfolding table_of
  gauges-judged n m h = rw (← n, ← m) h
