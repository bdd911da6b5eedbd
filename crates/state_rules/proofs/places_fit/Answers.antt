-- `places_fit` meets its contract.
use mathlib.Core.Path.{ap, ◌∙◌}
use native.Mathlib.Omega.{arith}
use Rattle.std.proofs.Common.{rules, tests}
use Rattle.std.proofs.lemmas.Iterator.{YieldsList-from_range}
use Rattle.std.proofs.lemmas.Iterator.Search.{all_from_yields_List}
use Rattle.fields.specs.Ranges.{all_below}
use Rattle.fields.proofs.RangeLaws.{all-first, all_same}
use Rattle.elements.specs.Elements.{element_at}
use Rattle.table.specs.InUse.{table_in}
use Rattle.table.proofs.InUseLaws.{element-read}
use Rattle.state.specs.States.{place_of}
use Rattle.state.specs.Rules.{place_fits}
use Rattle.state_rules.proofs.places_fit.Goals as goal

pub returns : goal.returns
returns c =
    let n = c.args.n in
    let t = table_in c.args.table.now in
    let at = place_of c.args.state.now in
    let all = all_from_yields_List (λ i. place_fits (element_at c.args.table.now i).kind (at i)) _ _ c.all.result c.all.ensures.ran
    (YieldsList-from_range 0 n n (cc) (omega arith)) (λ x b q k. search (rules, tests)) in
    let same = all_same (λ i. place_fits (element_at c.args.table.now i).kind (at i)) (λ i. place_fits (t.element i).kind (at i)) n
    (λ k l. rw (element-read c.args.table.now k (omega (arith, c.requires.1)))) in
    all ∙ (all-first _ n ∙ (same ∙ ap (all_below (λ i. place_fits (t.element i).kind (at i))) c.requires.1))
