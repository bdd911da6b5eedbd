-- `step_lent` meets its contract.
use Prim.Native.Nat.{ℕ, ◌+◌, ◌*◌}
use mathlib.Core.List.{List, []}
use mathlib.Core.Path.{◌≡◌, refl, sym, ap}
use native.Mathlib.Omega.{arith}
use lib.ListN.{length, take}
use lib.Seq.{length-take-le}
use Rattle.method.specs.declared.Figures.{Figures}
use Rattle.table.specs.declared.Counts.{Counts}
use Rattle.state.specs.States.{State}
use Prim.{Unit}
use Rattle.std.specs.Prelude.{Result}
use Rattle.refusal.specs.declared.Refusal.{Refusal}
use Rattle.table.specs.InUse.{table_in}
use Rattle.record_step.specs.Judged.{RecordWorked, WriteGiven, LentGiven}
use Rattle.record_step.proofs.StepLaws.{passed-as, refused-before, after-judged, written-refused, elements-ready, both-written, write-given, work-ready, river-given, few-places}
use Rattle.record_step.proofs.step_lent.Goals as goal

-- the part of the space that is worked in
part-long :
    {table weight : List ℕ} {space : List Figures} {counts : Counts} {s : State}
    → LentGiven table counts weight space s
    → length (take (counts.elements + counts.extra + 1) space) ≡ counts.elements + counts.extra + 1
part-long {space = space} h =
    length-take-le _ space (omega (arith, h.room, few-places (river-given h.weighed.counted h.fits)))

pub returns-in_err-judge_step : goal.returns-in_err-judge_step
returns-in_err-judge_step c =
    let told = c.in_err-judge_step.was in
    rw (passed-as _ _ _ told c.from_residual.ensures.1) at (written-refused _ _ _ {space = []} (refused-before _ _ _ c.judge_step.ensures told) refl told)

pub slice_bounds-part-end-2 : goal.slice_bounds-part-end-2
slice_bounds-part-end-2 c = sym (part-long c.requires)

pub work_step-requires : goal.work_step-requires
work_step-requires c =
    let p = c.requires in
    let known = p.weighed.counted.counted in (
      work-ready known.table known.basins p.weighed.weights p.fits c.judge_step.ensures c.in_ok-judge_step.was
          (omega (arith, c.judge_step.auto, known.table.bounds.gauges_most)),
      record { room = omega (arith, c.clear.auto, part-long c.requires, known.held.elements, p.weighed.counted.extra); none = c.clear.ensures.at },
    )

-- 16
pub returns-in_err-work_step : goal.returns-in_err-work_step
returns-in_err-work_step c =
    let held = c.requires.weighed.counted.counted.held in
    rw (passed-as _ _ _ c.in_err-work_step.was c.from_residual-in_err-work_step.ensures.1) at
    (written-refused _ _ _ (after-judged _ _ _ c.judge_step.ensures c.in_ok-judge_step.was (omega (arith, held.elements)) c.work_step.ensures)
    (ap (λ (n : ℕ). 4 * n) held.elements) c.in_err-work_step.was)

-- what writing the state relies on
given :
    {table weight bytes : List ℕ} {space worked : List Figures} {counts : Counts} {s : State} {v : Result Unit Refusal}
    → LentGiven table counts weight space s
    → length worked ≡ length (take (counts.elements + counts.extra + 1) space)
    → RecordWorked v worked (table_in table) bytes s (4 * counts.elements)
    → WriteGiven v table counts.elements counts.extra bytes worked s
given h size w = write-given (river-given h.weighed.counted h.fits) (omega (arith, size, part-long h)) w

pub write_tanks-requires : goal.write_tanks-requires
write_tanks-requires c =
    let g = river-given c.requires.weighed.counted c.requires.fits in
    record {
      few = omega (arith, g.elements, g.extra_all, g.accepts.bounds.places_most);
      room = omega (arith, c.work_step.auto, c.clear.auto, part-long c.requires);
    }

pub write_state-requires : goal.write_state-requires
write_state-requires c =
    let held = c.requires.weighed.counted.counted.held in
    elements-ready
    (given c.requires (omega (arith, c.work_step.auto, c.clear.auto))
    (after-judged _ _ _ c.judge_step.ensures c.in_ok-judge_step.was (omega (arith, held.elements)) c.work_step.ensures))
    c.in_ok-work_step.was c.write_tanks.ensures

pub returns : goal.returns
returns c =
    let held = c.requires.weighed.counted.counted.held in
    both-written
    (given c.requires (omega (arith, c.work_step.auto, c.clear.auto))
    (after-judged _ _ _ c.judge_step.ensures c.in_ok-judge_step.was (omega (arith, held.elements)) c.work_step.ensures))
    c.in_ok-work_step.was c.write_tanks.ensures c.write_state.ensures
