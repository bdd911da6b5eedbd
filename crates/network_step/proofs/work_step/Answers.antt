-- `work_step` meets its contract.
use Rattle.method.specs.declared.Figures.{Figures}
use Rattle.std.proofs.Common.{rules}
use Prim.Native.Nat.{ℕ}
use mathlib.Core.List.{List}
use mathlib.Core.Path.{◌≡◌, refl}
use native.Mathlib.Omega.{arith}
use lib.ListN.{length}
use Rattle.table.specs.declared.Counts.{Counts}
use Rattle.table.specs.Tables.{table_of}
use Rattle.table.specs.Decoded.{CountsHeld}
use Rattle.table.specs.InUse.{table_in}
use Rattle.table.specs.Bounds.{CountedTable}
use Rattle.table.proofs.HeldLaws.{counts-in-use}
use Rattle.state.specs.States.{State}
use Rattle.network_step.specs.declared.Reached.{Reached}
use Rattle.network_step.specs.Held.{StepReady, place_count, Cleared, TanksMet, TanksTurn}
use Rattle.network_step.proofs.StepLaws.{begun-reached, stepping-done, step-refused, run-met, run-done, run-passed, past-element, past-reached, tank-most, gauges-few}
use Rattle.network_step.proofs.work_step.Goals as goal

module _
    {table weight bytes observed : List ℕ} {start : List Figures} {s : State} {basins : ℕ} {counts : Counts}
    (h : StepReady table basins weight bytes observed s × Cleared (place_count (table_in table)) start) (c : CountsHeld counts (table_of table)) where
  -- the header's counts
  header : CountedTable table counts.elements counts.gauges
  header = let k = counts-in-use table c in record { table = h.0.accepts; elements = k.elements; gauges = k.gauges }

  -- a run that ends before an element of tanks
  turn :
      {from met : Reached} {space : List Figures}
      → length space ≡ length start
      → TanksMet (table_in table) bytes s from met space
      → TanksTurn table counts.elements counts.gauges met weight observed s space basins bytes
  turn size met =
      record {
        run = record { ready = h.0; counts = header; room = omega (arith, h.1.room, size); reached = met.reached };
        used = met.used;
        kind = met.kind;
      }

pub loop-run-init : goal.loop-run-init
loop-run-init c =
    (refl, begun-reached _ _ _ _ c.requires.1.none (counts-in-use _ c.counts_of-counts.ensures).elements c.begun-from.ensures)

pub work_run-requires : goal.work_run-requires
work_run-requires c =
    record {
      ready = c.requires.0;
      counts = header c.requires c.counts_of-counts.ensures;
      room = omega (arith, c.requires.1.room, c.loop-run.invariant.0);
      reached = c.loop-run.invariant.1;
    }

pub returns-in_err-run : goal.returns-in_err-run
returns-in_err-run c = step-refused _ _ _ _ _ _ c.from_residual.ensures.1 (run-passed _ _ _ _ _ c.in_err-run.was c.work_run.ensures)

pub returns-in_default : goal.returns-in_default
returns-in_default c = stepping-done _ _ _ _ (run-done _ _ _ _ c.in_ok-run.was (search rules) c.work_run.ensures)

pub work_tanks-requires : goal.work_tanks-requires
work_tanks-requires c =
    record {
      basins = c.args.basins;
      bytes = c.args.bytes.now;
      turn = turn c.requires c.counts_of-counts.ensures (omega (arith, c.work_run.auto.space, c.loop-run.invariant.0)) (run-met _ _ _ c.in_ok-run.was c.in-Some.is c.work_run.ensures);
    }

pub returns-in_err-work_tanks : goal.returns-in_err-work_tanks
returns-in_err-work_tanks c =
    let q = turn c.requires c.counts_of-counts.ensures (omega (arith, c.work_run.auto.space, c.loop-run.invariant.0)) (run-met _ _ _ c.in_ok-run.was c.in-Some.is c.work_run.ensures) in
    step-refused _ _ _ _ _ _ c.from_residual-in_err-work_tanks.ensures.1 ((c.work_tanks.ensures.by _ _ q).passes _ c.in_err-work_tanks.was)

pub past_tanks-from-requires : goal.past_tanks-from-requires
past_tanks-from-requires c =
    let q = turn c.requires c.counts_of-counts.ensures (omega (arith, c.work_run.auto.space, c.loop-run.invariant.0)) (run-met _ _ _ c.in_ok-run.was c.in-Some.is c.work_run.ensures) in
    let b = q.run.ready.accepts.bounds in
    record {
      counts = q.run.counts;
      used = q.used;
      kind = q.kind;
      tank_few = tank-most _ _ _ b q.run.reached;
      gauges_few = gauges-few _ _ _ b q.run.reached;
    }

pub loop-run-smaller : goal.loop-run-smaller
loop-run-smaller c =
    let met = run-met _ _ _ c.in_ok-run.was c.in-Some.is c.work_run.ensures in
    omega (arith, past-element _ _ c.past_tanks-from.ensures, met.later, met.used, (header c.requires c.counts_of-counts.ensures).elements)

pub loop-run-preserved : goal.loop-run-preserved
loop-run-preserved c =
    let q = turn c.requires c.counts_of-counts.ensures (omega (arith, c.work_run.auto.space, c.loop-run.invariant.0)) (run-met _ _ _ c.in_ok-run.was c.in-Some.is c.work_run.ensures) in (
      omega (arith, c.work_tanks.auto.space, c.work_run.auto.space, c.loop-run.invariant.0),
      past-reached _ _ _ q.used q.kind q.run.reached c.past_tanks-from.ensures ((c.work_tanks.ensures.by _ _ q).done c.in_ok-work_tanks.was),
    )
