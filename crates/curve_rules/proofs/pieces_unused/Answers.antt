-- `pieces_unused` meets its contract.
use Rattle.std.proofs.lemmas.Iterator.{YieldsList-from_range}
use Rattle.std.proofs.lemmas.Iterator.Search.{all_from_yields_List}
use Rattle.std.proofs.Common.{rules, tests, ◌+◌, ◌-◌, ◌*◌}
use mathlib.Core.Path.{refl, ◌∙◌}
use Rattle.gauges.specs.Gauges.{piece_at}
use Rattle.gauges.specs.Rules.{piece_unused}
use Rattle.curve_rules.proofs.CurveLaws.{unused-decide}
use Rattle.curve_rules.proofs.pieces_unused.Goals as goal

pub returns : goal.returns
returns c =
    let all = all_from_yields_List (λ j. piece_unused (piece_at c.args.table.now (c.args.at + 6 + 8 * j))) _ _ c.all.result c.all.ensures.ran
    (YieldsList-from_range c.args.count 5 (5 - c.args.count) (cc) refl) (λ x b q k. search (rules, tests)) in
    all ∙ unused-decide _ _ c.requires.0 c.requires.1
