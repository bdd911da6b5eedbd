-- `start_on` meets its contract.
use mathlib.Core.Path.{refl}
use native.Mathlib.Omega.{arith}
use Rattle.std.proofs.lemmas.Result.{err_from_is_err_and}
use Rattle.table.proofs.HeldLaws.{table-accepted}
use Rattle.table_input.proofs.StartsLaws.{start-accepted, start-refused}
use Rattle.table_input.proofs.start_on.Goals as goal

pub start_on-requires : goal.start_on-requires
start_on-requires c =
    let k = table-accepted _ _ c.in_ok-counts.ensures in (k.counted.counted.table, k.counted.counted.held.elements)

pub put_weights-requires : goal.put_weights-requires
put_weights-requires c =
    let k = table-accepted _ _ c.in_ok-counts.ensures in (
      record { table = k.counted.counted.table; step = k.counted.counted.held.step; elements = k.counted.counted.held.elements },
      omega (arith, k.counted.counted.held.elements, k.counted.counted.table.bounds.elements_most, c.requires),
    )

pub returns-in_err-counts : goal.returns-in_err-counts
returns-in_err-counts c =
    let p = err_from_is_err_and c.from_residual.result c.from_residual.ensures.1 in
    rw (p.1, p.2) (start-refused _ c.args.state.now c.in_err-counts.ensures, refl)

pub returns : goal.returns
returns c =
    let k = table-accepted _ _ c.in_ok-counts.ensures in
    record {
      answered = start-accepted _ _ k.kept c.start_on.ensures;
      fits = record { counted = k.counted; weights = c.put_weights.ensures };
    }
