-- Two walks over one network by the same observations: where each element's own and old figures are at least as much water in the second
-- walk, its new figures are too.
use Rattle.rating.specs.declared.RatedReading.{RatedReading}
use Rattle.std.specs.Prelude.{Option, Some, None}
use Prim.Native.Nat.{ℕ, ◌<◌}
use mathlib.Core.Path.{◌≡◌}
use Rattle.method.specs.declared.Figures.{Figures}
use Rattle.method.specs.Inflow.{no_inflow, joined_inflow}
use Rattle.method.specs.AtLeast.{AtLeast}
use Rattle.method.proofs.OrderLaws.{as-much, more-joined, more-outflow, more-reach-inflow, more-routed, more-corrected}
use Rattle.elements.specs.declared.Element.{Element}
use Rattle.elements.proofs.KindLaws.{kind-both}
use Rattle.table.specs.Tables.{TableValues}
use Rattle.walk.specs.Walk.{new_cell, outflow}
use Rattle.walk.proofs.WalkLaws.{new-cell-kept}
use Rattle.element_step.specs.ElementStep.{corrected_by, moved, stored, element_step}
use Rattle.network.specs.Step.{weight_of, network_down, network_cell, network_outflow, above_of, new_figures}

more-corrected-by : (o : Option RatedReading) {x x* : Figures} → AtLeast x x* → AtLeast (corrected_by o x) (corrected_by o x*)
unfolding corrected_by
more-corrected-by None p = p
more-corrected-by (Some r) p = more-corrected r.noise.0 r.discharge.0 p

-- an element that stores water
more-stored :
    (H : ℕ) (e : Element) {o o* : Option RatedReading} {inflow inflow* old old* : Figures}
    → o ≡ o*
    → AtLeast inflow inflow*
    → AtLeast old old*
    → AtLeast (stored H e o inflow old) (stored H e o* inflow* old*)
unfolding stored moved
more-stored H e {o* = o*} same p q = rw (same) (more-corrected-by o* (more-routed H e.system_noise.0 p q))

module _
    (t : TableValues) (own own* : ℕ → Figures) (o o* : ℕ → (Option RatedReading)) (old old* : ℕ → Figures)
    (more-own : (i : ℕ) → i < t.elements → AtLeast (own i) (own* i))
    (same_seen : (i : ℕ) → i < t.elements → o i ≡ o* i)
    (more-old : (i : ℕ) → i < t.elements → AtLeast (old i) (old* i)) where
  pub more-new-figures : (i : ℕ) → i < t.elements → AtLeast (new_figures t own o old i) (new_figures t own* o* old* i)
  unfolding above_of new_figures new_cell outflow network_down network_outflow network_cell element_step
  more-new-figures =
      new-cell-kept (λ _. AtLeast) no_inflow joined_inflow no_inflow joined_inflow (λ _. as-much no_inflow) (λ _ a b a* b* p q. more-joined p q)
      (λ _. AtLeast) (network_down t) (network_cell t own o) network_outflow old (network_cell t own* o*) network_outflow old* t.elements cell
      (λ i l p. more-outflow (more-old i l) p)
    where
      cell :
          (i : ℕ)
          → i < t.elements
          → AtLeast (above_of t own o old i) (above_of t own* o* old* i)
          → AtLeast (new_figures t own o old i) (new_figures t own* o* old* i)
      cell i l p =
          let e = t.element i in
          let H = weight_of t i in
          kind-both AtLeast e.kind (λ _. more-stored H e (same_seen i l) (more-own i l) (more-old i l))
          (λ _. more-stored H e (same_seen i l) (more-reach-inflow p) (more-old i l)) (λ _. more-own i l) (λ _ _ _. as-much no_inflow)
