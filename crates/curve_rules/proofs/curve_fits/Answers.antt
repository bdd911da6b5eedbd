-- `curve_fits` meets its contract.
use Prim.Native.Nat.{ℕ, ◌+◌}
use mathlib.Core.Bool.{true}
use mathlib.Core.List.{List}
use mathlib.Core.Path.{◌≡◌, sym}
use Rattle.fields.specs.Bytes.{byte_at}
use Rattle.fields.specs.Ranges.{in_range}
use Rattle.fields.proofs.RangeLaws.{range-bounds}
use Rattle.gauges.specs.Gauges.{curve_at}
use Rattle.gauges.specs.Places.{GaugeThere}
use Rattle.curve_rules.specs.Judged.{Counted}
use Rattle.curve_rules.proofs.CurveLaws.{count-out}
use Rattle.curve_rules.proofs.curve_fits.Goals as goal

counted :
    (table : List ℕ) (at : ℕ) {count : ℕ}
    → GaugeThere table at
    → count ≡ byte_at table (at + 1)
    → true ≡ in_range count 1 5
    → Counted table at count
unfolding curve_at
counted table at {count} there is h =
    let k = range-bounds count 1 5 (sym h) in
    record { there = there; least = k.0; most = k.1; counted = is }

pub returns-then-not-in_range : goal.returns-then-not-in_range
unfolding curve_at
returns-then-not-in_range c = count-out (curve_at c.args.table.now c.args.at) (rw (← c.wide-pieces.ensures.0) (sym c.if-not-in_range.ensures))

pub pieces_in_use_fit-requires : goal.pieces_in_use_fit-requires
pieces_in_use_fit-requires c = counted _ _ c.requires c.wide-pieces.ensures.0 c.if-not-in_range.ensures

pub pieces_unused-requires : goal.pieces_unused-requires
pieces_unused-requires c = (counted _ _ c.requires c.wide-pieces.ensures.0 c.if-not-in_range.ensures, c.pieces_in_use_fit.ensures.kept c.if-pieces_in_use_fit.true)
