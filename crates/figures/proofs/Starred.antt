-- The starred figures hold, each by computation.
use mathlib.Core.Path.{refl}
use Rattle.weighting.specs.Weight.{turned, weight}
use Rattle.weighting.specs.Blend.{weighted_mean, gap_of, blended}
use Rattle.rating.specs.Rating.{piece_for, depth, discharge_at, on_piece, rated}
use Rattle.method.specs.Correction.{gain, gain_margin, corrected_discharge, corrected_variance, corrected}
use Rattle.fields.specs.Ranges.{all_below}
use Rattle.elements.specs.Elements.{element_at}
use Rattle.elements.specs.Kinds.{kind_of, same_kind, by_kind}
use Rattle.elements.specs.Rules.{lag_fits, basin_fits, reach_fits, dam_fits, kind_fits, element_fits, down_fits}
use Rattle.gauges.specs.Gauges.{table_version, gauge_size}
use Rattle.table.specs.Tables.{table_of}
use Rattle.table.specs.Rules.{length_fits, version_fits, counts_fit, size_fits, table_rules}
use Rattle.entries.specs.Entries.{start_answer}
use Rattle.figures.specs.Starred.{Starred}
use Rattle.figures.proofs.Output.{whole-output}

pub starred : Starred
unfolding turned weight weighted_mean gap_of blended piece_for depth discharge_at on_piece rated gain gain_margin corrected_discharge corrected_variance corrected all_below element_at kind_of same_kind by_kind lag_fits basin_fits reach_fits dam_fits kind_fits element_fits down_fits table_version gauge_size table_of length_fits version_fits counts_fit size_fits table_rules start_answer
starred =
    record {
      weight-of-an-hour = refl;
      weight-of-a-minute = refl;
      even-blend = refl;
      gain-of-a-reading = refl;
      correction = refl;
      correction-without-variance = refl;
      stage-1500 = refl;
      stage-500 = refl;
      stage-499 = refl;
      stage-below-top = λ a₁ a₂ b₁ b₂. refl;
      stage-at-top = λ a₁ a₂ b₁ b₂. refl;
      down-to-itself = λ s. refl;
      whole-output = whole-output;
    }
