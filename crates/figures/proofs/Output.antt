-- The whole output of document 01's example, and the two storms of M-106, by computation.
use Prim.Native.Nat.{ℕ, zero, suc, ◌≤◌, ◌<◌}
use mathlib.Core.Path.{◌≡◌, refl}
use native.Mathlib.Omega.{arith}
use Rattle.claim.specs.CabinetRun.{
  is_reading,
  has_reading_after,
  is_refused,
  state_handed,
  step_handed,
  forecast_handed,
  has_reading_by,
  next_state,
  outcome,
  cabinet_run,
  start_outcome,
}
use Rattle.claim.specs.Calls.{state_places, forecast_places, paired}
use Rattle.claim.specs.Claim.{none, more, outcomes}
use Rattle.element_step.specs.ElementStep.{released, own_of, corrected_by, moved, stored, element_step, observation_numbers, move_numbers, stored_numbers, element_numbers}
use Rattle.element_step.specs.Rains.{shifted_rains}
use Rattle.elements.specs.Elements.{element_at}
use Rattle.elements.specs.Rules.{lag_fits, basin_fits, reach_fits, dam_fits, tanks_fit, kind_fits, element_fits, down_fits}
use Rattle.entries.specs.Entries.{start_answer, step_rules, step_on_answer, step_answer, forecast_on_answer, forecast_answer}
use Rattle.fields.specs.Ranges.{all_below}
use Rattle.gauges.specs.Gauges.{offset_of, piece_at, curve_at, table_version, gauge_size, beta_at, gauge_from, gauge_place, gauge_at}
use Rattle.gauges.specs.Looks.{look_by, look_on}
use Rattle.gauges.specs.Rules.{offset_fits, offset_zero, piece_of, top_before, piece_in_use_fits, piece_unused, piece_fits, curve_fits, element_before, not_on_dam, beta_fits, gauge_fits}
use Rattle.lines.specs.Printed.{joined, line_from, element_lines, answer_lines, refusal_line}
use Rattle.method.specs.Correction.{gain, gain_margin, corrected_discharge, corrected_variance, corrected, correction_numbers}
use Rattle.method.specs.Inflow.{step_inflow, no_inflow, joined_inflow, old_outflow, old_and_new_outflow, reach_inflow, mean_rain_inflow, forecast_inflow, inflow_numbers}
use Rattle.method.specs.Routing.{routed_discharge, old_variance_part, inflow_variance_part, routed_variance, routed, variance_numbers, routing_numbers}
use Rattle.network.specs.Answer.{listed, by_element_and_lead, forecast_figures, space_fits, leads_answer}
use Rattle.network.specs.Forecast.{rain_count, rain_sum, lead_inflow, forecast_own, lead_figures, lead_numbers}
use Rattle.method.specs.Figures.{layout}
use Rattle.network.specs.Step.{weight_of, network_down, network_cell, network_outflow, above_of, new_figures, network_numbers, step_own, observed_in, no_observation, step_figures, step_put, stepped, step_numbers}
use Rattle.rating.specs.Noise.{deviation, noise_of, with_noise}
use Rattle.rating.specs.Rating.{pieces_of, piece_for, depth, discharge_at, on_piece, rated}
use Rattle.record.specs.Records.{version_of, gauge_bytes, rain_at, release_at, stage_at, reading_of, reading_by, reading_at, rate_answer, observation_of, accepted_observation, observation_at, at_element, rain_of, release_of, input_rain, input_release, input_observation, input_at}
use Rattle.table.specs.KindCounts.{count_before, extra_before}
use Rattle.cells.specs.Cells.{last_cell, element_among, element_of, tank_of, draining_into, inlet_of, last_of, cell_at, gauge_of, cells, cell_place}
use Rattle.elements.specs.Kinds.{kind_of, same_kind, by_kind, basin_of, dam_of, extra_tanks}
use Rattle.record.specs.Rules.{rain_fits, release_fits, stage_fits, stages_kept, floats_kept, is_accepted, reading_fits, record_rules}
use Rattle.record.specs.Rules as record-rules
use Rattle.program.specs.Program.{record_bytes, rest_after, records_text, run_text, program}
use Rattle.program.specs.Records.{figures_lines, refusal_printed, forecast_printed, step_printed, record_printed}
use Rattle.state.specs.Rules.{figures_fit, rains_fit, place_fits, elements_fit, state_fits, steps_left}
use Rattle.state.specs.Rules as state-rules
use Rattle.state.specs.Start.{first_figures, first_put, started}
use Rattle.state.specs.States.{figures_of, rains_of, place_of, put_figures, put_rains, put_place, changed}
use Rattle.table.specs.InUse.{below, in_use, table_in}
use Rattle.table.specs.Rules.{counts_fit, size_fits, table_rules}
use Rattle.table.specs.Rules as table-rules
use Rattle.table.specs.Tables.{table_of}
use Rattle.table_input.specs.Start.{table_part, empty_state, input_answer}
use Rattle.text.specs.Decimal.{digits_within, decimal}
use Rattle.text.specs.Lines.{line}
use Rattle.units.specs.Ceiling.{some_passes, under_ceiling}
use Rattle.walk.specs.Walk.{drained, walked, gathered, new_cell}
use Rattle.weighting.specs.Blend.{weighted_mean, gap_of, blended}
use Rattle.weighting.specs.Weight.{turned, weight}
use Rattle.more_rain.specs.MoreRain.{MoreRain, records_of, NotRefused, AcceptedWhole}
use Rattle.state.specs.Answers.{state_after}
use Rattle.figures.specs.Starred.{one_basin, example_input, example_output}
use Rattle.figures.specs.TwoStorms.{rain_record, TwoStormsDiffer}

-- one basin, no dam, no gauge
twice-the-rain : MoreRain (table_in (one_basin 0)) (rain_record 100) (rain_record 200)
unfolding table_of element_at below in_use table_in kind_of by_kind basin_of dam_of count_before rain_at
twice-the-rain = record { rains = rains; releases = λ k l. absurd (omega (arith, l)); readings = λ g l. absurd (omega (arith, l)) }
  where
    rains : (k : ℕ) → k < 1 → rain_at (rain_record 100) k ≤ rain_at (rain_record 200) k
    rains zero l = omega arith
    rains (suc k) l = absurd (omega arith)

-- both, by one line of all that is to be worked out
worked-out : (program example_input ≡ example_output) × TwoStormsDiffer
unfolding last_cell element_among element_of tank_of draining_into inlet_of last_of cell_at gauge_of cells cell_place extra_before extra_tanks tanks_fit released own_of corrected_by moved stored element_step observation_numbers move_numbers stored_numbers element_numbers shifted_rains element_at kind_of same_kind by_kind lag_fits basin_fits reach_fits dam_fits kind_fits element_fits down_fits start_answer step_rules step_on_answer step_answer forecast_on_answer forecast_answer all_below offset_of piece_at curve_at table_version gauge_size beta_at gauge_from gauge_place gauge_at offset_fits offset_zero piece_of top_before piece_in_use_fits piece_unused piece_fits curve_fits element_before not_on_dam beta_fits gauge_fits joined line_from element_lines answer_lines refusal_line gain gain_margin corrected_discharge corrected_variance corrected correction_numbers step_inflow no_inflow joined_inflow old_outflow old_and_new_outflow reach_inflow mean_rain_inflow forecast_inflow inflow_numbers routed_discharge old_variance_part inflow_variance_part routed_variance routed variance_numbers routing_numbers listed by_element_and_lead forecast_figures space_fits leads_answer rain_count rain_sum lead_inflow forecast_own lead_figures lead_numbers layout weight_of network_down network_cell network_outflow above_of new_figures network_numbers step_own observed_in no_observation step_figures step_put stepped step_numbers piece_for depth discharge_at on_piece rated basin_of dam_of count_before version_of gauge_bytes rain_at release_at stage_at reading_of reading_by reading_at pieces_of look_by look_on deviation noise_of with_noise rate_answer observation_of accepted_observation observation_at at_element rain_of release_of input_rain input_release input_observation input_at record-rules.length_fits record-rules.version_fits rain_fits release_fits stage_fits stages_kept floats_kept is_accepted reading_fits record_rules record_bytes rest_after records_text run_text program figures_lines refusal_printed forecast_printed step_printed record_printed figures_fit rains_fit place_fits elements_fit state-rules.tanks_fit state_fits steps_left first_figures first_put started figures_of rains_of place_of put_figures put_rains put_place changed below in_use table_in table-rules.length_fits table-rules.version_fits counts_fit size_fits table_rules table_of table_part empty_state input_answer digits_within decimal line some_passes under_ceiling drained walked gathered new_cell weighted_mean gap_of blended turned weight state_places forecast_places paired is_reading has_reading_after is_refused state_handed step_handed forecast_handed has_reading_by next_state outcome cabinet_run start_outcome outcomes state_after records_of NotRefused AcceptedWhole
worked-out = (
  refl,
  record {
    full = refl;
    fresh = refl;
    storms =
        record {
          first_accepted = more refl (more tt none);
          second_accepted = more refl (more tt none);
          records = more twice-the-rain none;
        };
    less-rain = refl;
    more-rain = refl;
    variances = refl;
  },
)

pub whole-output : program example_input ≡ example_output
whole-output = worked-out.0

pub two-storms-differ : TwoStormsDiffer
two-storms-differ = worked-out.1
