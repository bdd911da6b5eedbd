-- What an accepted trial has written: the figures that the step gives each element.
use Prim.Native.Nat.{ℕ, zero, suc, ◌+◌, ◌*◌, ◌<◌}
use mathlib.Core.List.{List, [], ◌∷◌, ◌++◌, append_assoc}
use mathlib.Core.Logic.{⊎_elim}
use mathlib.Core.Path.{◌≡◌, refl, sym, ap, subst, ◌∙◌}
use native.Mathlib.Nat.{eq-or-lt_of_le, add-zero}
use native.Mathlib.Omega.{arith}
use lib.ListN.{length, get_or, drop}
use lib.Seq.{get_or-append-add}
use Rattle.sizes.specs.Sizes.{state_numbers}
use Rattle.refusal.specs.Answers.{Answer, accepted, refused}
use Rattle.refusal.proofs.RuleLaws.{not-both}
use Rattle.units.specs.Units.{grains, thousandths}
use Rattle.method.specs.declared.Figures.{Figures}
use Rattle.table.specs.Bounds.{AcceptedBounds}
use Rattle.table.specs.InUse.{table_in}
use Rattle.table.proofs.HeldLaws.{accepted-table}
use Rattle.table.proofs.TableLaws.{table_kept}
use Rattle.record.specs.Records.{input_at}
use Rattle.cells.specs.Cells.{last_cell, cells}
use Rattle.cells.proofs.CellLaws.{last-place, last-in-use}
use Rattle.state.specs.States.{State, figures_of}
use Rattle.network.specs.Step.{step_figures, stepped}
use Rattle.network.specs.Answer.{listed}
use Rattle.method.specs.Figures.{layout}
use Rattle.network.specs.Lent.{count_written, lent_after}
use Rattle.network.proofs.StepLaws.{stepped-figures}
use Rattle.method.proofs.LayoutLaws.{layout-append, layout-length}
use Rattle.network.proofs.LayoutLaws.{listed-length}
use Rattle.entries.specs.Entries.{step_answer}
use Rattle.entries.specs.Trials.{trial_answer}
use Rattle.entries.proofs.NextLaws.{stepping-on}
use Rattle.entries.proofs.TrialLaws.{TrialOfStep, trial-accepted, state-figures}
use Rattle.independence.specs.Independence.{AcceptedTrial}

-- ---- figures laid out one after the other, read again

-- the four numbers at a place
unfoldable pub figures_read : List ℕ → ℕ → Figures
figures_read numbers p =
    record {
      discharge = grains (get_or numbers (4 * p) 0);
      discharge_margin = grains (get_or numbers (4 * p + 1) 0);
      variance = thousandths (get_or numbers (4 * p + 2) 0);
      variance_margin = thousandths (get_or numbers (4 * p + 3) 0);
    }

-- those after n others
last-figures : (before rest : List ℕ) (f : Figures) (n : ℕ) → length before ≡ 4 * n → figures_read (before ++ (layout (f ∷ []) ++ rest)) n ≡ f
unfolding figures_read layout
last-figures before rest f n long = rw (first, number 1, number 2, number 3)
  where
    number : (k : ℕ) → get_or (before ++ (layout (f ∷ []) ++ rest)) (4 * n + k) 0 ≡ get_or (layout (f ∷ []) ++ rest) k 0
    number k = rw (← long) (get_or-append-add before (layout (f ∷ []) ++ rest) k 0)

    first : get_or (before ++ (layout (f ∷ []) ++ rest)) (4 * n) 0 ≡ f.discharge.0
    first = ap (λ (k : ℕ). get_or (before ++ (layout (f ∷ []) ++ rest)) k 0) (sym (add-zero (4 * n))) ∙ number 0

figures-laid : (f : ℕ → Figures) (n i : ℕ) → i < n → (rest : List ℕ) → figures_read (layout (listed f n) ++ rest) i ≡ f i
unfolding listed
figures-laid f zero i l rest = absurd (omega arith)
figures-laid f (suc n) i l rest =
    ap (λ (numbers : List ℕ). figures_read numbers i)
    (ap (λ (numbers : List ℕ). numbers ++ rest) (layout-append (listed f n) (f n ∷ [])) ∙ append_assoc (layout (listed f n)) _ _)
    ∙ ⊎_elim
    (λ e. rw e (last-figures (layout (listed f n)) rest (f n) n (layout-length (listed f n) ∙ ap (λ (k : ℕ). 4 * k) (listed-length f n))))
    (λ m. figures-laid f n i m (layout (f n ∷ []) ++ rest)) (eq-or-lt_of_le (omega arith))

-- ---- an accepted trial

module _ (table bytes : List ℕ) (s : State) (whole : length s ≡ state_numbers) {lent written : List ℕ} (h : AcceptedTrial table bytes s lent written) where
  pub trial-bounds : AcceptedBounds (table_in table)
  unfolding count_written step_answer
  trial-bounds = go (trial_answer table bytes s (length lent)) refl h.answered.count
    where
      go :
          (answer : Answer (List Figures))
          → trial_answer table bytes s (length lent) ≡ answer
          → accepted h.count ≡ count_written answer
          → AcceptedBounds (table_in table)
      go (accepted fs) e c = (accepted-table table (table_kept table _ (trial-accepted table bytes s (length lent) fs e).stepped).0).bounds
      go (refused n) e c = absurd (not-both refl c)

  -- the step is accepted too, and its figures are written
  shown_by :
      {fs : List Figures} (o : TrialOfStep table bytes s (length lent) fs) (i : ℕ)
      → i < (table_in table).elements
      → figures_read (layout fs ++ drop (length (layout fs)) lent) i ≡ step_figures (table_in table) (input_at (cells (table_in table)) bytes) s (last_cell (table_in table) i)
  unfolding step_answer cells
  shown_by {fs} o i l =
      let t = table_in table in
      let k = table_kept table _ o.stepped in
      let next = (stepping-on t bytes s o.next k.1).1 in
      ap (λ (figures : List Figures). figures_read (layout figures ++ drop (length (layout fs)) lent) i) (o.figures ∙ state-figures t o.next)
      ∙ (figures-laid (figures_of o.next) t.elements i l _
      ∙ (ap (λ (n : State). figures_of n i) next
      ∙ subst (λ (p : ℕ). figures_of (stepped t (input_at (cells t) bytes) s) p ≡ step_figures t (input_at (cells t) bytes) s (last_cell t i)) (last-place t i l)
      (stepped-figures t (input_at (cells t) bytes) s whole (accepted-table table k.0).bounds.places_most (last_cell t i) (last-in-use t i l))))

  pub trial-shows :
      (i : ℕ) → i < (table_in table).elements → figures_read written i ≡ step_figures (table_in table) (input_at (cells (table_in table)) bytes) s (last_cell (table_in table) i)
  unfolding count_written lent_after
  trial-shows i l = go (trial_answer table bytes s (length lent)) refl h.answered.count h.answered.numbers
    where
      go :
          (answer : Answer (List Figures))
          → trial_answer table bytes s (length lent) ≡ answer
          → accepted h.count ≡ count_written answer
          → written ≡ lent_after answer lent
          → figures_read written i ≡ step_figures (table_in table) (input_at (cells (table_in table)) bytes) s (last_cell (table_in table) i)
      go (accepted fs) e c w =
          ap (λ (numbers : List ℕ). figures_read numbers i) w ∙ shown_by (trial-accepted table bytes s (length lent) fs e) i l
      go (refused n) e c w = absurd (not-both refl c)
