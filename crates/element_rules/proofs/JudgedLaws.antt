-- Laws of what rule 5 says of an element with its kind.
use Prim.Native.Nat.{ℕ, ◌-◌, ◌≤◌}
use mathlib.Core.Bool.{Bool, true, false, cond}
use mathlib.Core.Logic.{◌≢◌}
use mathlib.Core.Path.{◌≡◌, refl, sym, ◌∙◌}
use Rattle.std.specs.Prelude.{Option, Some, None}
use Rattle.fields.specs.Ranges.{in_range}
use Rattle.fields.proofs.RangeLaws.{all-four}
use Rattle.units.specs.Units.{C}
use Rattle.elements.specs.declared.Kind.{Kind}
use Rattle.elements.specs.declared.Element.{Element}
use Rattle.elements.specs.Kinds.{tanks, extra_tanks}
use Rattle.elements.specs.Rules.{kind_fits, element_fits}
use Rattle.elements.proofs.KindLaws.{no_other, eq-same, ne-same}
use Rattle.elements.proofs.ElementLaws.{KindBounds, kind-bounds}
use Rattle.element_rules.specs.Judged.{judged}

module _ (T : ℕ) (e : Element) where
  bounds : element_fits T e ≡ true → KindBounds T e
  unfolding element_fits
  bounds h =
      kind-bounds T e
      (all-four (kind_fits T e) (in_range e.first_discharge.0 0 C) (in_range e.first_variance.0 0 C)
      (in_range e.system_noise.0 0 100000000) h).0

  -- an element that keeps rule 5 is of some kind
  some-kind : element_fits T e ≡ true → e.kind ≢ None
  some-kind h n = no_other ((bounds h).single (λ t. cc)) (λ p. cc) (λ p. cc) (λ p. cc)

  -- by each case of the answer
  module _ {r : Option Kind} (is : r ≡ judged T e) where
    pub refused-said : r ≡ None → element_fits T e ≡ false
    unfolding judged
    refused-said n = go (element_fits T e) refl (sym is ∙ n)
      where
        go : (fits : Bool) → element_fits T e ≡ fits → cond fits e.kind None ≡ None → element_fits T e ≡ false
        go true h k = absurd (some-kind h k)
        go false h k = h

    pub kept-said : {kind : Kind} → r ≡ Some kind → (element_fits T e ≡ true) × (e.kind ≡ Some kind)
    unfolding judged
    kept-said {kind} s = go (element_fits T e) refl (sym is ∙ s)
      where
        go : (fits : Bool) → element_fits T e ≡ fits → cond fits e.kind None ≡ Some kind → (element_fits T e ≡ true) × (e.kind ≡ Some kind)
        go true h k = (h, k)
        go false h k = cc

    -- tanks above its last
    pub no-extra : {kind : Kind} → r ≡ Some kind → Some kind ≢ tanks → extra_tanks e ≡ 0
    unfolding extra_tanks
    no-extra s n = rw (ne-same e.kind tanks (λ t. n (sym (kept-said s).1 ∙ t)))

    pub extra-counted : r ≡ tanks → (extra_tanks e ≡ e.runoff - 1) × ((2 ≤ e.runoff) × (e.runoff ≤ 8))
    unfolding extra_tanks
    extra-counted s = let k = kept-said s in (rw (eq-same e.kind tanks k.1), (bounds k.0).tanks k.1)
