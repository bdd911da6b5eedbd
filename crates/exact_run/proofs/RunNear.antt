-- A start makes the two states agree, and an accepted step keeps them so.
use Prim.{Unit}
use Prim.Native.Nat.{ℕ, ◌+◌, ◌<◌}
use mathlib.Core.List.{List}
use mathlib.Core.Path.{◌≡◌, sym, ap, subst, ◌∙◌}
use lib.ListN.{length}
use Rattle.sizes.specs.Sizes.{state_numbers}
use Rattle.refusal.specs.Answers.{accepted}
use Rattle.method.specs.declared.Figures.{Figures}
use Rattle.exact.specs.Exact.{ExactFigures}
use Rattle.exact.specs.Margins.{Follows}
use Rattle.exact.proofs.Theorems.{first-near}
use Rattle.elements.specs.Kinds.{basin, dam}
use Rattle.elements.proofs.KindLaws.{by-basin, by-dam}
use Rattle.table.specs.Tables.{TableValues}
use Rattle.table.specs.Bounds.{TableBounds}
use Rattle.record.specs.Records.{Input, input_rain, input_at}
use Rattle.record.specs.Rules.{record_rules}
use Rattle.state.specs.declared.Rains.{Rains}
use Rattle.cells.specs.Cells.{cells}
use Rattle.state.specs.States.{State, cell_figures, cell_rains}
use Rattle.state.specs.Start.{first_figures, started}
use Rattle.state.proofs.StateLaws.{started-steps, started-figures, started-rains}
use Rattle.element_step.specs.ElementStep.{released, own_of}
use Rattle.element_step.specs.Rains.{shifted_rains, rains_after}
use Rattle.network.specs.Step.{observed_in, step_own, step_figures, stepped}
use Rattle.network.proofs.StepLaws.{dam-lets-out, stepped-steps, stepped-figures, stepped-rains}
use Rattle.exact_run.specs.ExactForecast.{ExactState}
use Rattle.exact_run.specs.ExactRun.{exact_started, exact_stepped}
use Rattle.exact_run.proofs.StepNear.{step-near}
use Rattle.exact_run.proofs.RecordNear.{observation-near, own-near}
use Rattle.exact_run.proofs.ForecastNear.{Agrees}
use Rattle.std.specs.Prelude.{Option}
use Rattle.elements.specs.declared.Kind.{Kind}

-- figures known by another name
follows-as : {f g : Figures} {x : ExactFigures} → f ≡ g → Follows g x → Follows f x
follows-as {f} {g} {x} e h = subst (λ (y : Figures). Follows y x) (sym e) h

-- the rains of a basin after a step
basin-rains : (kind : Option Kind) (rain : ℕ) (r : Rains) → kind ≡ basin → rains_after kind rain r ≡ shifted_rains rain r
unfolding rains_after
basin-rains kind rain r k = by-basin kind _ _ _ _ k

module _ (t : TableValues) (s : State) (b : TableBounds (cells t)) (full : length s ≡ state_numbers) where
  -- after a start
  pub start-agrees : Agrees t (started t s) (exact_started (cells t))
  unfolding exact_started first_figures
  start-agrees =
      record {
        steps = started-steps t s full b.elements_most;
        rains = λ i l k. started-rains t s full b.elements_most i l k;
        figures = λ i l.
            follows-as (started-figures t s full b.elements_most i l)
            (record { discharge = first-near _; variance = first-near _ });
        held = λ i l k. ap (λ (f : Figures). f.discharge_margin.0) (started-figures t s full b.elements_most i l);
      }

  -- after an accepted step
  module _
      (bytes : List ℕ) (x : ExactState) (kept : record_rules {A = Unit} (cells t) bytes (accepted tt) ≡ accepted tt)
      (a : Agrees t s x) where
    abbrev input : ℕ → Input
    input = input_at (cells t) bytes

    rains-agree :
        (i : ℕ)
        → i < (cells t).elements
        → ((cells t).element i).kind ≡ basin
        → cell_rains t (stepped t input s) i ≡ rains_after ((cells t).element i).kind (input_rain (cells t) bytes i) (x.rains i)
    unfolding input_at
    rains-agree i l k =
        stepped-rains t input s full b.elements_most i l k
        ∙ (ap (shifted_rains (input_rain (cells t) bytes i)) (a.rains i l k) ∙ sym (basin-rains ((cells t).element i).kind _ _ k))

    -- what a dam lets out has no margin
    no-margin : (i : ℕ) → ((cells t).element i).kind ≡ dam → (step_figures t input s i).discharge_margin.0 ≡ 0
    unfolding step_figures step_own own_of released
    no-margin i k =
        ap (λ (f : Figures). f.discharge_margin.0)
        (dam-lets-out (cells t) (step_own (cells t) input) (observed_in input) (cell_figures t s) i k ∙ by-dam ((cells t).element i).kind _ _ _ _ k)

    pub step-agrees : Agrees t (stepped t input s) (exact_stepped (cells t) bytes x)
    unfolding exact_stepped step_figures
    step-agrees =
        record {
          steps = stepped-steps t input s full b.elements_most ∙ ap (λ (n : ℕ). n + 1) a.steps;
          rains = rains-agree;
          figures = λ i l.
              follows-as (stepped-figures t input s full b.elements_most i l)
              (step-near (cells t) (step_own (cells t) input) (observed_in input) (cell_figures t s) _ _ x.figures b (λ k _. own-near (cells t) bytes b kept k)
              (λ k _. observation-near (cells t) bytes b kept k) a.figures i l);
          held = λ i l k.
              ap (λ (f : Figures). f.discharge_margin.0) (stepped-figures t input s full b.elements_most i l) ∙ no-margin i k;
        }
