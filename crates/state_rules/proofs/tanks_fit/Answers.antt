-- `tanks_fit` meets its contract.
use Prim.Native.Nat.{◌+◌}
use mathlib.Core.Path.{◌∙◌}
use native.Mathlib.Omega.{arith}
use Rattle.std.proofs.Common.{rules, tests}
use Rattle.std.proofs.lemmas.Iterator.{YieldsList-from_range}
use Rattle.std.proofs.lemmas.Iterator.Search.{all_from_yields_List}
use Rattle.fields.proofs.RangeLaws.{all-first}
use Rattle.state.specs.States.{figures_of}
use Rattle.state.specs.Rules.{figures_fit}
use Rattle.state_rules.proofs.tanks_fit.Goals as goal

pub returns : goal.returns
returns c =
    all_from_yields_List (λ x. figures_fit (figures_of c.args.state.now (c.args.n + x))) _ _ c.all.result c.all.ensures.ran
    (YieldsList-from_range 0 c.args.extra c.args.extra (cc) (omega arith)) (λ x b q k. search (rules, tests))
    ∙ all-first _ _
