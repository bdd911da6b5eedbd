-- Two walks by inputs that differ at one gauge: cells are equal where its water does not come, and so is what drains into an element that
-- it does not reach, unless that is a dam.
use Rattle.rating.specs.declared.RatedReading.{RatedReading}
use Rattle.std.specs.Prelude.{Option}
use Prim.Native.Nat.{ℕ, ◌+◌, ◌<◌}
use mathlib.Core.Logic.{◌≢◌}
use mathlib.Core.Path.{◌≡◌, refl, sym, ap, subst}
use Rattle.method.specs.declared.Figures.{Figures}
use Rattle.method.specs.Inflow.{no_inflow, joined_inflow, old_and_new_outflow}
use Rattle.elements.specs.Kinds.{dam}
use Rattle.elements.proofs.KindLaws.{kind-both}
use Rattle.table.specs.Tables.{TableValues}
use Rattle.walk.specs.Walk.{new_cell, outflow}
use Rattle.walk.proofs.WalkLaws.{new-cell-kept}
use Rattle.element_step.specs.ElementStep.{element_step}
use Rattle.network.specs.Step.{network_down, network_cell, network_outflow, above_of, new_figures}
use Rattle.independence.specs.Independence.{Reached, below}

module _ (t : TableValues) (from : ℕ) where
  record SameSum (k : ℕ) (a b : Figures) : Type 0 where
    pub at : (i : ℕ) → k ≡ i + 1 → (t.element i).kind ≢ dam → (Reached t from k → ⊥) → a ≡ b

  record SameCell (i : ℕ) (a b : Figures) : Type 0 where
    pub at : (Reached t from (i + 1) → ⊥) → a ≡ b

  module _
      (own own* : ℕ → Figures) (o o* : ℕ → (Option RatedReading)) (old : ℕ → Figures)
      (same-own : (i : ℕ) → i < t.elements → own i ≡ own* i)
      (same_seen : (i : ℕ) → i < t.elements → (Reached t from (i + 1) → ⊥) → o i ≡ o* i) where
    pub same-figures :
        (i : ℕ) → i < t.elements → (Reached t from (i + 1) → ⊥) → new_figures t own o old i ≡ new_figures t own* o* old i
    unfolding above_of new_figures new_cell outflow network_down network_outflow network_cell element_step
    same-figures i l apart =
        (new-cell-kept SameSum no_inflow joined_inflow no_inflow joined_inflow (λ k. record { at = λ _ _ _ _. refl })
        (λ k a b a* b* p q. record { at = λ j e n r. rw (p.at j e n r, q.at j e n r) }) SameCell (network_down t) (network_cell t own o)
        network_outflow old (network_cell t own* o*) network_outflow old t.elements cell out i l).at apart
      where
        cell :
            (i : ℕ)
            → i < t.elements
            → SameSum (i + 1) (above_of t own o old i) (above_of t own* o* old i)
            → SameCell i (new_figures t own o old i) (new_figures t own* o* old i)
        cell i l g =
            record {
              at =
                  λ r.
                  kind-both (λ (a b : Figures). a ≡ b) (t.element i).kind (λ _. rw (same-own i l, same_seen i l r))
                  (λ k. rw (same_seen i l r, g.at i refl (λ d. cc) r)) (λ _. same-own i l) (λ _ _ _. refl);
            }

        out :
            (i : ℕ)
            → i < t.elements
            → SameCell i (new_figures t own o old i) (new_figures t own* o* old i)
            → SameSum (t.element i).down (old_and_new_outflow (old i) (new_figures t own o old i)) (old_and_new_outflow (old i) (new_figures t own* o* old i))
        out i l c =
            record {
              at =
                  λ k e n r.
                  ap (old_and_new_outflow (old i))
                  (c.at (λ (reached : Reached t from (i + 1)). r (subst (Reached t from) (sym e) (below reached e n))));
            }
