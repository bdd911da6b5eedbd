-- `forecast_in` meets its contract.
use Prim.Native.Nat.{ℕ, ◌+◌, ◌*◌, ◌≤◌, min}
use mathlib.Core.List.{List}
use mathlib.Core.Path.{◌≡◌, ◌∙◌}
use native.Mathlib.Omega.{arith}
use lib.ListN.{length, take}
use lib.Seq.{length-take-le}
use Rattle.method.specs.declared.Figures.{Figures}
use Rattle.sizes.specs.Sizes.{forecast_places}
use Rattle.table.specs.KindCounts.{extra_count}
use Rattle.table.specs.InUse.{table_in}
use Rattle.state.specs.States.{State}
use Rattle.network_leads.specs.Worked.{space_size}
use Rattle.leads.specs.Held.{ForecastGiven}
use Rattle.leads.proofs.AnswerLaws.{given, with-weights, answer-size, space-size, held-accepted, held-refused}
use Rattle.leads.proofs.forecast_in.Goals as goal

-- the part of the space that is worked in
part-long :
    {room : ℕ} (space : List Figures)
    → room ≤ forecast_places
    → length space ≡ forecast_places
    → length (take room space) ≡ room
part-long space most size = length-take-le _ space (omega (arith, most, size))

-- the size of that part
part-size :
    {bytes : List ℕ} {n L T extra room : ℕ} {s : State}
    → ForecastGiven bytes n L T s
    → (space : List Figures)
    → extra ≡ extra_count (table_in bytes)
    → room ≡ (n + 1 + min extra 7) * (L + 1)
    → room ≤ forecast_places
    → length space ≡ forecast_places
    → length (take room space) ≡ space_size (table_in bytes)
part-size g space e r most size = part-long space most size ∙ space-size g e r

pub work_leads-requires : goal.work_leads-requires
work_leads-requires c =
    let p = c.requires in
    let r = c.space_places-room.ensures in (
      with-weights (given p.0.counted p.1.0) p.0.weights,
      record {
        room = omega (arith, c.clear.auto.space, part-size (given p.0.counted p.1.0) c.args.space.now p.0.counted.extra r.0 r.1 p.1.1);
        empty = c.clear.ensures;
      },
    )

pub returns-in_err-work_leads : goal.returns-in_err-work_leads
returns-in_err-work_leads c =
    let p = c.requires in
    let r = c.space_places-room.ensures in
    held-refused _ _ p.0.counted.counted.table.bounds _ _
    (omega (arith, c.work_leads.auto.space, c.clear.auto.space, part-size (given p.0.counted p.1.0) c.args.space.now p.0.counted.extra r.0 r.1 p.1.1))
    c.work_leads.ensures _ c.in_err-work_leads.was c.from_residual.ensures.1

pub returns : goal.returns
returns c =
    let p = c.requires in
    let r = c.space_places-room.ensures in
    held-accepted _ _ p.0.counted.counted.table.bounds _ _
    (omega (arith, c.work_leads.auto.space, c.clear.auto.space, part-size (given p.0.counted p.1.0) c.args.space.now p.0.counted.extra r.0 r.1 p.1.1))
    c.work_leads.ensures (answer-size (given p.0.counted p.1.0) c.answer_numbers.ensures.0) c.in_ok-work_leads.was
