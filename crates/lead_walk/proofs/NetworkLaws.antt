-- The walk down the network, each element through all its leads: what the working space holds after i elements. A step is one lead.
use Rattle.rating.specs.declared.RatedReading.{RatedReading}
use Rattle.std.specs.Prelude.{Option}
use Prim.Native.Nat.{ℕ, zero, suc, ◌+◌, ◌*◌, ◌≤◌, ◌<◌}
use mathlib.Core.Bool.{Bool, true, false, cond}
use mathlib.Core.List.{List}
use mathlib.Core.Logic.{◌⊎◌, ◌≢◌, ⊎_elim}
use mathlib.Core.Path.{◌≡◌, refl, sym, ap, subst, ◌∙◌}
use native.Mathlib.Nat.{eq-or-lt_of_le}
use native.Mathlib.Omega.{arith}
use borrow.Author.Tests.{eqb-true, eqb-false}
use lib.Dec.{eqb}
use Rattle.sizes.specs.Sizes.{most_places}
use Rattle.units.proofs.UnderLaws.{Under}
use Rattle.method.specs.declared.Figures.{Figures}
use Rattle.method.specs.Figures.{FiguresFit}
use Rattle.method.specs.Inflow.{no_inflow, joined_inflow, old_and_new_outflow}
use Rattle.method.proofs.InflowLaws.{old-outflow-fits}
use Rattle.table.specs.Tables.{TableValues}
use Rattle.element_step.specs.ElementStep.{moved, stored, element_step, move_numbers, stored_numbers, element_numbers}
use Rattle.walk.specs.Walk.{drained, walked, new_cell, outflow}
use Rattle.walk.specs.Space.{Later, Turned}
use Rattle.walk.proofs.SpaceLaws.{held-begin, found, held_moved, held-again, sum-small}
use Rattle.network.specs.Step.{weight_of, network_down, network_cell, network_outflow, above_of, new_figures}
use Rattle.network.proofs.NumbersLaws.{cell_numbers, element-part, numbers-none, numbers_more}
use Rattle.answer_space.specs.Places.{figures_at, most_outflow, most_sum_before, FiguresBelow}
use Rattle.answer_space.proofs.PlacesLaws.{fits_below, below-most, joined-below, same-element}
use Rattle.one_lead.specs.declared.ElementInput.{ElementInput}
use Rattle.one_lead.specs.Leads.{own_at_lead, lead_step, lead_step_numbers}
use Rattle.lead_walk.specs.Leads.{figures_after, numbers_after}
use Rattle.lead_walk.specs.Worked.{drained_at, LeadsDone}
use Rattle.lead_walk.specs.Network.{Inlet, row, closed, opening}
use Rattle.lead_walk.specs.Network as network
use Rattle.lead_walk.proofs.LeadsLaws.{part_of, all-parts}

-- ---- how large a sum is

none_below : FiguresBelow no_inflow (0 * most_outflow)
unfolding no_inflow
none_below = record { discharge = omega arith; discharge_margin = omega arith; variance = omega arith; variance_margin = omega arith }

outflow-below : {old new : Figures} → FiguresFit old → FiguresFit new → FiguresBelow (old_and_new_outflow old new) most_outflow
unfolding old_and_new_outflow
outflow-below f g = joined-below (fits_below (old-outflow-fits f)) (fits_below g) (omega arith)

-- ---- the walk

-- what each element has of its own and its old figures by lead and element, observations by element; rows of w places, the first lead of a
-- row at `from`; the elements whose figures are kept, and their rows
module _
    (t : TableValues) (own : ℕ → ℕ → Figures) (o : ℕ → (Option RatedReading)) (old : ℕ → ℕ → Figures) (w from : ℕ) (Kept : ℕ → Type 0)
    (at : ℕ → ℕ) where
  -- with the names of the definitions at these
  abbrev row_at : ℕ → List Figures → ℕ → Figures
  row_at = network.row_at t own o old w from Kept at

  abbrev cell_at : ℕ → List Figures → ℕ → Figures
  cell_at = network.cell_at t own o old w from Kept at

  abbrev inlet_at : ℕ → List Figures → Inlet → Figures
  inlet_at = network.inlet_at t own o old w from Kept at

  abbrev sum_at : (ℕ → Inlet) → ℕ → List Figures → ℕ → Figures
  sum_at = network.sum_at t own o old w from Kept at

  abbrev pub new_at : ℕ → ℕ → Figures
  new_at = network.new_at t own o old w from Kept at

  abbrev pub numbers_at : ℕ → ℕ → List ℕ
  numbers_at = network.numbers_at t own o old w from Kept at

  abbrev HeldAt : (ℕ → Inlet) → ℕ → List Figures → ℕ → Type 0
  HeldAt = network.HeldAt t own o old w from Kept at

  abbrev pub Walked : (ℕ → Inlet) → ℕ → ℕ → List Figures → Type 0
  Walked = network.Walked t own o old w from Kept at

  empty-inlet : (l : ℕ) (space : List Figures) → ((p : ℕ) → figures_at space p ≡ no_inflow) → (x : Inlet) → inlet_at l space x ≡ no_inflow
  unfolding network.inlet_at
  empty-inlet l space none (row r) = none (r * w + from + l)
  empty-inlet l space none closed = refl

  pub walked-begin : (inlet : ℕ → Inlet) (leads : ℕ) (space : List Figures) → ((p : ℕ) → figures_at space p ≡ no_inflow) → Walked inlet leads 0 space
  walked-begin inlet leads space none =
      record {
        held =
            λ l m.
            held-begin Kept (cell_at l) (sum_at inlet l) no_inflow joined_inflow (network_down t) (network_cell t (own l) o) network_outflow (old l)
            space (λ k. empty-inlet l space none (inlet k));
        old_fits = λ l j m n. absurd (omega arith);
        fits = λ l j m n. absurd (omega arith);
        under = λ l m. numbers-none t (own l) o (old l);
      }

  -- the new figures of an element done that is kept, where they stand
  pub walked_at :
      (inlet : ℕ → Inlet) (leads i : ℕ) (space : List Figures)
      → Walked inlet leads i space
      → (l k : ℕ)
      → l < leads
      → k < i
      → Kept k
      → figures_at space (at k * w + from + l) ≡ new_at l k
  unfolding new_figures
  walked_at inlet leads i space h l k m n q = (h.held l m).done k n q

  -- other inlets, in another space: the sums that count are the same, and no figures kept have changed
  pub walked-moved :
      (inlet inlet* : ℕ → Inlet) (leads i : ℕ) (space space* : List Figures)
      → Walked inlet leads i space
      → ((l k : ℕ) → l < leads → (k ≡ 0) ⊎ (i < k) → sum_at inlet* l space* k ≡ sum_at inlet l space k)
      → ((l k : ℕ) → l < leads → k < i → Kept k → cell_at l space* k ≡ cell_at l space k)
      → Walked inlet* leads i space*
  walked-moved inlet inlet* leads i space space* h sums figures =
      record {
        held =
            λ l m.
            held_moved Kept (cell_at l) (sum_at inlet l) no_inflow joined_inflow (network_down t) (network_cell t (own l) o) network_outflow (old l)
            (sum_at inlet* l) (h.held l m) (λ k q. sums l k m q) (λ k n q. figures l k m n q);
        old_fits = h.old_fits;
        fits = h.fits;
        under = h.under;
      }

  -- the inlets of elements done do not count
  pub walked_same :
      (inlet inlet* : ℕ → Inlet) (leads i : ℕ) (space : List Figures)
      → Walked inlet leads i space
      → ((k : ℕ) → (k ≡ 0) ⊎ (i < k) → inlet* k ≡ inlet k)
      → Walked inlet* leads i space
  walked_same inlet inlet* leads i space h same =
      walked-moved inlet inlet* leads i space space h (λ l k m q. ap (inlet_at l space) (same k q)) (λ l k m n q. refl)

  -- the sums of number k are moved to row r, or begin there as nothing: in no other row that is in use anything changes
  pub walked-opened :
      (inlet : ℕ → Inlet) (leads i k r : ℕ) (space space* : List Figures)
      → Walked inlet leads i space
      → i < k
      → ((l : ℕ) → l < leads → row_at l space* r ≡ sum_at inlet l space k)
      → ((n q l : ℕ) → l < leads → (n ≡ 0) ⊎ (i < n) → n ≢ k → inlet n ≡ row q → row_at l space* q ≡ row_at l space q)
      → ((l n : ℕ) → l < leads → n < i → Kept n → cell_at l space* n ≡ cell_at l space n)
      → Walked (opening inlet k r) leads i space*
  unfolding opening network.inlet_at
  walked-opened inlet leads i k r space space* h later moved stays kept =
      walked-moved inlet (opening inlet k r) leads i space space* h
      (λ l n m q. go (eqb n k) refl l m q) kept
    where
      other : (n l : ℕ) → l < leads → (n ≡ 0) ⊎ (i < n) → n ≢ k → (x : Inlet) → inlet n ≡ x → inlet_at l space* x ≡ inlet_at l space x
      other n l m q apart (row p) e = stays n p l m q apart e
      other n l m q apart closed e = refl

      go : {n : ℕ} (b : Bool) → eqb n k ≡ b → (l : ℕ) → l < leads → (n ≡ 0) ⊎ (i < n) → inlet_at l space* (cond b (row r) (inlet n)) ≡ inlet_at l space (inlet n)
      go {n} true e l m q = moved l m ∙ ap (λ (j : ℕ). inlet_at l space (inlet j)) (sym (eqb-true n k e))
      go {n} false e l m q = other n l m q (eqb-false n k e) (inlet n) refl

  -- what drains into an element is small
  out-is :
      (l j : ℕ)
      → outflow no_inflow joined_inflow (network_down t) (network_cell t (own l) o) network_outflow (old l) j
      ≡ old_and_new_outflow (old l j) (new_at l j)
  unfolding outflow network_outflow new_figures
  out-is l j = refl

  row_is : (inlet : ℕ → Inlet) (l : ℕ) (space : List Figures) {k r : ℕ} → inlet k ≡ row r → sum_at inlet l space k ≡ row_at l space r
  unfolding network.inlet_at
  row_is inlet l space e = ap (inlet_at l space) e

  pub walked-small :
      (inlet : ℕ → Inlet) (leads i : ℕ) (space : List Figures)
      → Walked inlet leads i space
      → i < most_places
      → (d r : ℕ)
      → Later i d
      → inlet d ≡ row r
      → (l : ℕ)
      → l < leads
      → FiguresBelow (figures_at space (r * w + from + l)) most_sum_before
  walked-small inlet leads i space h few d r to stands l m =
      below-most
      (subst (λ (f : Figures). FiguresBelow f (i * most_outflow)) (sym sum_is)
      (sum-small (λ (k : ℕ) (f : Figures). FiguresBelow f (k * most_outflow)) (λ (f : Figures). FiguresBelow f most_outflow) no_inflow
      joined_inflow none_below (λ k f x h g. joined-below h g (omega arith)) (λ k f h. below-most h (omega arith)) (network_down t)
      (network_cell t (own l) o) network_outflow (old l) d i
      (λ j n. rw (out-is l j) (outflow-below (h.old_fits l j m n) (h.fits l j m n)))))
      (omega (arith, few))
    where
      sum_is :
          figures_at space (r * w + from + l)
          ≡ drained no_inflow joined_inflow d (walked no_inflow joined_inflow (network_down t) (network_cell t (own l) o) network_outflow (old l) i)
      sum_is =
          sym (row_is inlet l space stands)
          ∙ ⊎_elim (λ z. rw z (h.held l m).left) (λ n. (h.held l m).waiting d (omega arith)) to

  -- what the code takes of element i: all but where it drains, which the code knows by rows
  pub record InputOf (c : ElementInput) (i leads : ℕ) : Type 0 where
    pub kind : c.element.kind ≡ (t.element i).kind
    pub noise : c.element.system_noise ≡ (t.element i).system_noise
    pub weight : c.weight ≡ weight_of t i
    pub observation : c.observation ≡ o i
    pub own_part : (l : ℕ) → l < leads → own_at_lead c (c.first_lead + l) ≡ own l i

  -- the rows of a turn: element i has its sums in row `here`, where its figures come to stand, and drains into number d, whose sums stand
  -- in row `below`; no other row that is in use is one of the two
  pub record TurnRows (inlet : ℕ → Inlet) (i d here below : ℕ) : Type 0 where
    pub sums : inlet (i + 1) ≡ row here
    pub next : inlet d ≡ row below
    pub place : Kept i → at i ≡ here
    pub others : (k r : ℕ) → Later i k → k ≢ d → inlet k ≡ row r → (r ≢ here) × (r ≢ below)
    pub kept : (k : ℕ) → k < i → Kept k → (at k ≢ here) × (at k ≢ below)

  module _ (c : ElementInput) (i leads : ℕ) (of : InputOf c i leads) where
    step_same :
        (l : ℕ)
        → l < leads
        → (above before : Figures)
        → lead_step c (c.first_lead + l) above before ≡ network_cell t (own l) o i above before
    unfolding lead_step network_cell element_step stored moved
    step_same l m above before = rw (of.own_part l m, of.weight, of.kind, of.noise, of.observation)

    numbers-same :
        (l : ℕ)
        → l < leads
        → (above before : Figures)
        → lead_step_numbers c (c.first_lead + l) above before
        ≡ element_numbers (weight_of t i) (t.element i) (own l i) (o i) above before
    unfolding lead_step_numbers element_numbers stored_numbers move_numbers moved
    numbers-same l m above before = rw (of.own_part l m, of.weight, of.kind, of.noise, of.observation)

    module _
        (again : (l j : ℕ) → old (suc l) j ≡ new_at l j) (first : Figures) (is : first ≡ old 0 i) (before : List Figures)
        (inlet : ℕ → Inlet) (h : Walked inlet leads i before) (r : ℕ) (stands : inlet (i + 1) ≡ row r) where
      abbrev here : ℕ
      here = r * w + from

      above_same : (l : ℕ) → l < leads → drained_at before here l ≡ above_of t (own l) o (old l) i
      unfolding above_of
      above_same l m =
          sym (row_is inlet l before stands)
          ∙ found Kept (cell_at l) (sum_at inlet l) no_inflow joined_inflow (network_down t) (network_cell t (own l) o) network_outflow (old l) (h.held l m)

      cell-is : (l : ℕ) → new_at l i ≡ network_cell t (own l) o i (above_of t (own l) o (old l) i) (old l i)
      unfolding new_figures new_cell above_of
      cell-is l = refl

      after_same : (l : ℕ) → l ≤ leads → figures_after c first (drained_at before here) l ≡ old l i
      unfolding figures_after
      after_same zero m = is
      after_same (suc l) m =
          step_same l m _ _ ∙ (rw (above_same l m, after_same l (omega arith)) (sym (again l i ∙ cell-is l)))

      part_same :
          (l : ℕ)
          → l < leads
          → lead_step_numbers c (c.first_lead + l) (drained_at before here l) (figures_after c first (drained_at before here) l)
          ≡ cell_numbers t (own l) o (old l) i
      part_same l m = numbers-same l m _ _ ∙ rw (above_same l m, after_same l (omega arith))

      -- where no number of the network passes at any lead, none of this element does
      pub element-under :
          (n : ℕ) → i < n → ((l : ℕ) → l < leads → Under (numbers_at l n)) → Under (numbers_after c first (drained_at before here) leads)
      element-under n l u =
          all-parts c first _ leads (λ k m. subst Under (sym (part_same k m)) (element-part t _ _ _ i n l (u k m)))

      -- one element more
      module _
          (d below : ℕ) (down : d ≡ network_down t i) (wide : from + leads ≤ w) (rows : TurnRows inlet i d r below) (after : List Figures)
          (g : LeadsDone c first here (below * w + from) leads before after) where
        new_is : (l : ℕ) → l < leads → figures_after c first (drained_at before here) (suc l) ≡ new_at l i
        new_is l m = after_same (suc l) m ∙ again l i

        other_place : (k j l m : ℕ) → k ≢ j → l < leads → m < leads → k * w + from + l ≢ j * w + from + m
        other_place k j l m n p q e =
            n (same-element w k j (from + l) (from + m) (omega (arith, wide, p)) (omega (arith, wide, q)) (omega (arith, e)))

        -- a row other than the two that change
        stays : (l k : ℕ) → l < leads → (k ≢ r) × (k ≢ below) → row_at l after k ≡ row_at l before k
        stays l k m a =
            g.others (k * w + from + l) (λ j n. other_place k r l j a.0 m n) (λ j n. other_place k below l j a.1 m n)

        sums-stay : (l k : ℕ) → l < leads → Later i k → k ≢ d → (x : Inlet) → inlet k ≡ x → inlet_at l after x ≡ inlet_at l before x
        unfolding network.inlet_at
        sums-stay l k m a b (row q) e = stays l q m (rows.others k q a b e)
        sums-stay l k m a b closed e = refl

        added_is : (l : ℕ) → l < leads → sum_at inlet l after d ≡ joined_inflow (sum_at inlet l before d) (old_and_new_outflow (old l i) (new_at l i))
        added_is l m =
            row_is inlet l after rows.next
            ∙ (g.added l m ∙ rw (row_is inlet l before rows.next, after_same l (omega arith), new_is l m))

        turned :
            (l : ℕ)
            → l < leads
            → Turned Kept (cell_at l) (sum_at inlet l) joined_inflow before after i d (new_at l i)
            (outflow no_inflow joined_inflow (network_down t) (network_cell t (own l) o) network_outflow (old l) i)
        turned l m =
            record {
              here = λ q. ap (row_at l after) (rows.place q) ∙ (g.placed l m ∙ new_is l m);
              added = rw (out-is l i) (added_is l m);
              cells = λ k n q. stays l (at k) m (rows.kept k n q);
              sums = λ k a b. sums-stay l k m a b (inlet k) refl;
            }

        held_more : (l : ℕ) → l < leads → HeldAt inlet l after (i + 1)
        unfolding new_figures
        held_more l m =
            held-again Kept (cell_at l) (sum_at inlet l) no_inflow joined_inflow (network_down t) (network_cell t (own l) o) network_outflow (old l)
            (h.held l m)
            (subst (λ (k : ℕ). Turned Kept (cell_at l) (sum_at inlet l) joined_inflow before after i k (new_at l i) (outflow no_inflow joined_inflow (network_down t) (network_cell t (own l) o) network_outflow (old l) i)) down (turned l m))

        pub walked-again : Walked inlet leads (i + 1) after
        walked-again =
            record {
              held = held_more;
              old_fits =
                  λ l j m n.
                  ⊎_elim (λ e. rw e (subst FiguresFit (after_same l (omega arith)) (g.fits l (omega arith)))) (λ k. h.old_fits l j m k)
                  (eq-or-lt_of_le (omega arith));
              fits =
                  λ l j m n.
                  ⊎_elim (λ e. rw e (subst FiguresFit (new_is l m) (g.fits (suc l) m))) (λ k. h.fits l j m k) (eq-or-lt_of_le (omega arith));
              under =
                  λ l m.
                  numbers_more t (own l) o (old l) i (h.under l m) (subst Under (part_same l m) (part_of c first _ l leads m g.under));
            }
