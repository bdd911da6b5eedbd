-- Document 01, The run in fractions: "A start sets them as the cabinet's, a step moves them".
use Rattle.std.specs.Prelude.{ℕ, ◌+◌, List}
use Rattle.exact.specs.Fraction.{whole}
use Rattle.table.specs.Tables.{TableValues}
use Rattle.record.specs.Records.{input_rain}
use Rattle.state.specs.States.{no_rains}
use Rattle.element_step.specs.Rains.{rains_after}
use Rattle.exact_run.specs.ExactStep.{exact_own, exact_observation_in, exact_new_figures}
use Rattle.exact_run.specs.ExactForecast.{ExactState}

unfoldable pub exact_started : TableValues → ExactState
exact_started t =
    record {
      steps = 0;
      rains = λ i. no_rains;
      figures = λ i. record { discharge = whole (t.element i).first_discharge.0; variance = whole (t.element i).first_variance.0 };
    }

unfoldable pub exact_stepped : TableValues → List ℕ → ExactState → ExactState
exact_stepped t bytes x =
    record {
      steps = x.steps + 1;
      rains = λ i. rains_after (t.element i).kind (input_rain t bytes i) (x.rains i);
      figures = exact_new_figures t (exact_own t bytes) (exact_observation_in t bytes) x.figures;
    }
