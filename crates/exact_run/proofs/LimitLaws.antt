-- One step or lead of the network: where no reading has come in at or above an element, 16 × n × c becomes 16 × (n + 1) × c.
use Rattle.rating.specs.declared.RatedReading.{RatedReading}
use Rattle.std.specs.Prelude.{Option, None}
use Prim.Native.Nat.{ℕ, zero, suc, ◌+◌, ◌*◌, ◌≤◌, ◌<◌}
use mathlib.Core.Bool.{Bool, true, false, cond}
use mathlib.Core.List.{List}
use mathlib.Core.Logic.{◌⊎◌, ⊎_elim}
use mathlib.Core.Path.{◌≡◌, refl, sym, subst, ◌∙◌}
use borrow.Author.Tests.{eqb-true}
use native.Mathlib.Nat.{mul-le-mul, mul-le-mul_left, eq-or-lt_of_le}
use native.Mathlib.Numerals.{add-one}
use native.Mathlib.Omega.{arith}
use lib.Dec.{eqb}
use Rattle.sizes.specs.Sizes.{most_places, most_leads}
use Rattle.units.specs.Units.{C, S}
use Rattle.method.specs.declared.Figures.{Figures}
use Rattle.method.specs.Inflow.{no_inflow, joined_inflow, old_outflow, old_and_new_outflow, reach_inflow}
use Rattle.method.specs.Routing.{routed}
use Rattle.exact.proofs.Theorems.{routing-margin-growth}
use Rattle.elements.specs.Kinds.{basin, reach}
use Rattle.elements.proofs.KindLaws.{kind-cases}
use Rattle.table.specs.Tables.{TableValues}
use Rattle.table.specs.Bounds.{TableBounds}
use Rattle.walk.specs.Walk.{drained, walked, gathered, new_cell}
use Rattle.element_step.specs.ElementStep.{corrected_by, moved, stored, element_step}
use Rattle.network.specs.Step.{weight_of, network_down, network_cell, network_outflow, above_of, new_figures}
use Rattle.network.proofs.StepLaws.{weight-of-most}
use Rattle.exact_run.specs.Limit.{next, at_or_above, NoReading}
use Rattle.exact_run.proofs.AboveLaws.{total, same, one, total-longer, above_most, above-sum, no-reading-here, no-reading-above}

abbrev margin_of : Figures → ℕ
margin_of f = f.discharge_margin.0

-- the numbers of one move: d is how many are above the element
move-limit :
    (H n d : ℕ) (inflow old : Figures)
    → H ≤ S
    → suc n ≤ 10_000 + most_leads
    → suc d ≤ most_places
    → inflow.discharge.0 ≤ C
    → old.discharge.0 ≤ C
    → margin_of inflow ≤ 16 * suc n * d + 1
    → margin_of old ≤ 16 * n * suc d
    → (W : ℕ)
    → margin_of (routed H W inflow old) ≤ 16 * suc n * suc d
unfolding routed
move-limit H n d inflow old h ln ld vi vo mi mo W =
    omega (
      arith,
      routing-margin-growth H (16 * n * d + 16 * n + 16 * d + 1) inflow old h vi vo (omega (arith, mi)) (omega (arith, mo))
          (omega (arith, mul-le-mul ln ld)),
    )

not-corrected : (o : Option RatedReading) (x : Figures) → o ≡ None → corrected_by o x ≡ x
unfolding corrected_by
not-corrected o x e = rw e refl

still : (a b : Bool) → (a ≡ true → b ≡ true) → b ≡ false → a ≡ false
still true b f e = sym (f refl) ∙ e
still false b f e = refl

-- where no reading has come in by now, none had before
no-reading-before :
    (n : ℕ) (down : ℕ → ℕ) (has_reading has_reading' : ℕ → Bool) (i : ℕ)
    → ((k : ℕ) → has_reading k ≡ true → has_reading' k ≡ true)
    → NoReading n down has_reading' i
    → NoReading n down has_reading i
no-reading-before n down has_reading has_reading' i f q = record { none = λ k u v p. still (has_reading k) (has_reading' k) (f k) (q.none k u v p) }

module _
    (t : TableValues) (own : ℕ → Figures) (o : ℕ → (Option RatedReading)) (old : ℕ → Figures) (has_reading has_reading' : ℕ → Bool) (n : ℕ)
    (b : TableBounds t) (few : suc n ≤ 10_000 + most_leads)
    (old-fits : (i : ℕ) → i < t.elements → (old i).discharge.0 ≤ C)
    (own-fits : (i : ℕ) → i < t.elements → (t.element i).kind ≡ basin → (own i).discharge.0 ≤ C)
    (above-fits : (i : ℕ) → i < t.elements → (t.element i).kind ≡ reach → (reach_inflow (above_of t own o old i)).discharge.0 ≤ C)
    (own-margin : (i : ℕ) → i < t.elements → margin_of (own i) ≤ 1)
    (readings-stay : (k : ℕ) → has_reading k ≡ true → has_reading' k ≡ true)
    (not-observed : (i : ℕ) → i < t.elements → has_reading' (i + 1) ≡ false → o i ≡ None)
    (before :
    (i : ℕ)
    → i < t.elements
    → NoReading t.elements (network_down t) has_reading (i + 1)
    → margin_of (old i) ≤ 16 * n * at_or_above t.elements (network_down t) (i + 1)) where
  abbrev many : ℕ
  many = t.elements

  abbrev down : ℕ → ℕ
  down = network_down t

  abbrev WithoutReading : ℕ → Type 0
  WithoutReading k = NoReading many down has_reading' k

  down-most : (j : ℕ) → j < many → down j ≤ many
  unfolding network_down
  down-most j l = (b.element j l).down

  down-later : (j : ℕ) → j < many → (down j ≡ 0) ⊎ (j + 1 < down j)
  unfolding network_down
  down-later j l = (b.element j l).later

  -- the limit at element i
  abbrev Low : ℕ → Type 0
  Low i = WithoutReading (suc i) → margin_of (new_figures t own o old i) ≤ 16 * suc n * at_or_above many down (suc i)

  -- how many are above number k by way of the first i elements
  unfoldable above_by : ℕ → ℕ → ℕ
  above_by k i = total (λ j. same (next down j) k * at_or_above many down j) i

  abbrev done : ℕ → List (ℕ × Figures)
  done i = walked no_inflow joined_inflow down (network_cell t own o) network_outflow old i

  -- the limit before, where no reading has come in by now
  old-low : (i : ℕ) → i < many → WithoutReading (suc i) → margin_of (old i) ≤ 16 * n * at_or_above many down (suc i)
  old-low i l q =
      subst (λ (k : ℕ). NoReading many down has_reading k → margin_of (old i) ≤ 16 * n * at_or_above many down k) (add-one i)
      (before i l) (no-reading-before many down has_reading has_reading' (suc i) readings-stay q)

  -- the old and the new margins together are at most twice the new limits
  drained-low :
      (k : ℕ)
      → 1 ≤ k
      → k ≤ many
      → WithoutReading k
      → (i : ℕ)
      → i ≤ many
      → ((j : ℕ) → j < i → Low j)
      → margin_of (drained no_inflow joined_inflow k (done i)) ≤ 2 * (16 * suc n * above_by k i)
  unfolding drained walked network_outflow old_outflow old_and_new_outflow no_inflow joined_inflow above_by total same one next new_figures new_cell gathered
  drained-low k h l q zero m low = omega arith
  drained-low k h l q (suc i) m low =
      go (drained-low k h l q i (omega arith) (λ j u. low j (omega arith))) (eqb (down i) k) refl
    where
      go :
          margin_of (drained no_inflow joined_inflow k (done i)) ≤ 2 * (16 * suc n * above_by k i)
          → (drains : Bool)
          → eqb (down i) k ≡ drains
          → margin_of (cond drains (joined_inflow (drained no_inflow joined_inflow k (done i)) (old_and_new_outflow (old i) (new_figures t own o old i))) (drained no_inflow joined_inflow k (done i)))
          ≤ 2 * (16 * suc n * (above_by k i + cond drains 1 0 * at_or_above many down (suc i)))
      go so_far true e =
          let none = no-reading-above many down down-most down-later has_reading' (suc i) k h l (eqb-true (down i) k e) q in
          omega (arith, so_far, low i (omega arith) none, old-low i m none)
      go so_far false e = omega (arith, so_far)

  -- an element is itself at or above it
  fewer : (i : ℕ) → i < many → above_by (suc i) i + 1 ≤ at_or_above many down (suc i)
  unfolding above_by
  fewer i l =
      omega (
        arith,
        above-sum many down down-most down-later (suc i) (omega arith) l,
        total-longer (λ j. same (next down j) (suc i) * at_or_above many down j) i many (omega arith),
      )

  -- an element that stores an inflow with d elements above it
  stored_low :
      (i : ℕ)
      → i < many
      → WithoutReading (suc i)
      → (inflow : Figures)
      → inflow.discharge.0 ≤ C
      → ((d : ℕ) → at_or_above many down (suc i) ≡ suc d → margin_of inflow ≤ 16 * suc n * d + 1)
      → margin_of (stored (weight_of t i) (t.element i) (o i) inflow (old i)) ≤ 16 * suc n * at_or_above many down (suc i)
  unfolding stored moved
  stored_low i l q inflow fits above =
      subst (λ (x : Figures). margin_of x ≤ 16 * suc n * at_or_above many down (suc i))
      (sym (not-corrected (o i) _ (not-observed i l none)))
      (go (at_or_above many down (suc i)) refl)
    where
      none : has_reading' (i + 1) ≡ false
      none =
          subst (λ (k : ℕ). has_reading' k ≡ false) (sym (add-one i))
          (no-reading-here many down down-most down-later has_reading' (suc i) (omega arith) l q)

      go :
          (c : ℕ)
          → at_or_above many down (suc i) ≡ c
          → margin_of (routed (weight_of t i) (t.element i).system_noise.0 inflow (old i)) ≤ 16 * suc n * c
      go zero e = absurd (omega (arith, fewer i l))
      go (suc d) e =
          move-limit (weight_of t i) n d inflow (old i) (weight-of-most t i) few
          (omega (arith, above_most many down (suc i), b.elements_most)) fits (old-fits i l) (above d e)
          (subst (λ (c : ℕ). margin_of (old i) ≤ 16 * n * c) e (old-low i l q))
          (t.element i).system_noise.0

  -- each kind: a basin's own inflow has margin 1, a reach takes half of what is gathered, with 1 more, and a dam lets out its own
  cell-low : (i : ℕ) → i < many → ((j : ℕ) → j < i → Low j) → Low i
  unfolding new_figures new_cell network_cell element_step above_of gathered above_by no_inflow reach_inflow
  cell-low i l low q =
      kind-cases (λ (x : Figures). margin_of x ≤ 16 * suc n * at_or_above many down (suc i)) (t.element i).kind
      (λ k. stored_low i l q (own i) (own-fits i l k) (λ d e. omega (arith, own-margin i l)))
      (λ k. stored_low i l q (reach_inflow (above_of t own o old i)) (above-fits i l k) (λ d e. omega (arith, gathered-low d e)))
      (λ _. omega (arith, own-margin i l, mul-le-mul_left (16 * suc n) (fewer i l)))
      (λ _ _ _. omega arith)
    where
      at_most : (d : ℕ) → at_or_above many down (suc i) ≡ suc d → above_by (suc i) i ≤ d
      at_most d e = omega (arith, fewer i l)

      gathered-by : margin_of (above_of t own o old i) ≤ 2 * (16 * suc n * above_by (suc i) i)
      gathered-by =
          subst (λ (k : ℕ). margin_of (drained no_inflow joined_inflow k (done i)) ≤ 2 * (16 * suc n * above_by (suc i) i))
          (sym (add-one i)) (drained-low (suc i) (omega arith) l q i (omega arith) low)

      gathered-low : (d : ℕ) → at_or_above many down (suc i) ≡ suc d → margin_of (above_of t own o old i) ≤ 2 * (16 * suc n * d)
      gathered-low d e =
          omega (
            arith,
            gathered-by,
            mul-le-mul_left (16 * suc n) (at_most d e),
          )

  all-low : (m : ℕ) → m ≤ many → (j : ℕ) → j < m → Low j
  all-low zero l j h = absurd (omega arith)
  all-low (suc m) l j h =
      ⊎_elim (λ e. subst Low (sym e) (cell-low m l (all-low m (omega arith))))
      (λ u. all-low m (omega arith) j u) (eq-or-lt_of_le (omega arith))

  -- one step or lead adds at most 16 for each element at or above
  pub limit-step :
      (i : ℕ)
      → i < t.elements
      → NoReading t.elements (network_down t) has_reading' (i + 1)
      → (new_figures t own o old i).discharge_margin.0 ≤ 16 * suc n * at_or_above t.elements (network_down t) (i + 1)
  limit-step i l =
      subst (λ (k : ℕ). WithoutReading k → margin_of (new_figures t own o old i) ≤ 16 * suc n * at_or_above many down k)
      (sym (add-one i)) (all-low many (omega arith) i l)
