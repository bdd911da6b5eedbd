-- `work_run` meets its contract.
use Prim.Native.Nat.{ℕ, ◌<◌}
use mathlib.Core.Bool.{Bool, false}
use mathlib.Core.List.{List}
use lib.ListN.{length}
use mathlib.Core.Path.{◌≡◌, refl, sym, ap, ◌∙◌}
use native.Mathlib.Omega.{arith}
use Rattle.method.specs.declared.Figures.{Figures}
use Rattle.elements.specs.declared.Element.{Element}
use Rattle.elements.specs.Elements.{element_at}
use Rattle.elements.specs.Kinds.{tanks, same_kind}
use Rattle.elements.proofs.KindLaws.{same-true, same-false}
use Rattle.table.specs.Bounds.{CountedTable}
use Rattle.table.specs.InUse.{table_in}
use Rattle.table.proofs.InUseLaws.{element-read}
use Rattle.table.proofs.HeldLaws.{element-there}
use Rattle.rating.specs.declared.RatedReading.{RatedReading}
use Rattle.std.specs.Prelude.{Option}
use Rattle.record.specs.Decoded.{observation_here}
use Rattle.record.specs.GaugeOrder.{gauge_here}
use Rattle.record.proofs.GaugeOrderLaws.{gauges-most, here-used, observation-found}
use Rattle.state.specs.States.{State}
use Rattle.element_weights.proofs.WeightsLaws.{weight-held}
use Rattle.network_step.specs.declared.Passed.{Passed}
use Rattle.network_step.specs.declared.Reached.{Reached}
use Rattle.network_step.specs.Held.{RunReady, ReachedIn, RunEnded}
use Rattle.network_step.proofs.StepLaws.{OneTurn, outflow-ready, input-ready, work-ready, one-refused, one-more, passed-on, reached-again, met-tanks, reached-all, run-refused}
use Rattle.network_step.proofs.work_run.Goals as goal

-- an element of the loop is in use
used : {table : List ℕ} {n m i : ℕ} → CountedTable table n m → i < n → i < (table_in table).elements
used h l = omega (arith, l, h.elements)

-- what is known at its turn, where it is one cell
turn :
    {table weight bytes observed : List ℕ} {space start : List Figures} {s : State} {n m basins i tank g here : ℕ} {from : Reached} {passed : Passed} {ob : Option RatedReading} {met : Bool}
    → RunReady table n m basins from weight bytes observed s start
    → length space ≡ length start
    → ReachedIn (table_in table) bytes s (record { element = i; tank = tank; passed = passed; gauges = g }) space
    → i < n
    → here ≡ gauge_here (table_in table) g i
    → ob ≡ observation_here observed here g
    → met ≡ same_kind (element_at table i).kind tanks
    → met ≡ false
    → OneTurn table bytes s weight basins i passed ob space
turn h size r l here ob kind other =
    let p = h.ready in
    let b = p.accepts.bounds in
    record {
      accepts = p.accepts;
      state = p.state;
      kept = p.kept;
      counted = p.counted;
      used = used h.counts l;
      single = same-false _ _ (sym kind ∙ other);
      come_past = r.passed;
      seen = ob ∙ observation-found _ b.gauge b.rising _ p.held _ r.gauges here;
      weighed = weight-held p.weights _ (used h.counts l);
      walked = r.walked;
      room = omega (arith, h.room, size);
    }

pub loop-i-init : goal.loop-i-init
loop-i-init c = (omega arith, (refl, c.requires.reached))

pub observation_here-observation-requires : goal.observation_here-observation-requires
observation_here-observation-requires c =
    λ e. omega (arith, here-used _ _ _ c.gauge_here-here.ensures.0 e, c.requires.ready.room)

pub is_tanks-requires : goal.is_tanks-requires
is_tanks-requires c = element-there _ c.requires.ready.accepts (used c.requires.counts c.loop-i-test.true)

pub returns-then-is_tanks : goal.returns-then-is_tanks
unfolding RunEnded
returns-then-is_tanks c =
    let l = used c.requires.counts c.loop-i-test.true in
    met-tanks _ _ _ refl l c.loop-i.invariant.0
    (ap (λ (e : Element). e.kind) (element-read _ _ l) ∙ same-true _ _ (sym c.is_tanks.ensures ∙ c.if-is_tanks.true)) c.loop-i.invariant.1.1

pub add_old_outflow-requires : goal.add_old_outflow-requires
add_old_outflow-requires c =
    let inv = c.loop-i.invariant.1 in
    outflow-ready
    (turn c.requires inv.0 inv.1 c.loop-i-test.true c.gauge_here-here.ensures.0 c.observation_here-observation.ensures c.is_tanks.ensures c.if-is_tanks.false)

pub step_input-taken-requires : goal.step_input-taken-requires
step_input-taken-requires c =
    let inv = c.loop-i.invariant.1 in
    input-ready
    (turn c.requires inv.0 inv.1 c.loop-i-test.true c.gauge_here-here.ensures.0 c.observation_here-observation.ensures c.is_tanks.ensures c.if-is_tanks.false)

pub work_step-worked-requires : goal.work_step-worked-requires
work_step-worked-requires c =
    let inv = c.loop-i.invariant.1 in
    work-ready
    (turn c.requires inv.0 inv.1 c.loop-i-test.true c.gauge_here-here.ensures.0 c.observation_here-observation.ensures c.is_tanks.ensures c.if-is_tanks.false)
    c.step_input-taken.ensures c.figures_of-before.ensures c.add_old_outflow.ensures

pub returns-in_err-worked : goal.returns-in_err-worked
returns-in_err-worked c =
    let inv = c.loop-i.invariant.1 in
    run-refused _ _ _ _ _ _ _ c.from_residual.ensures.1
    (one-refused
    (turn c.requires inv.0 inv.1 c.loop-i-test.true c.gauge_here-here.ensures.0 c.observation_here-observation.ensures c.is_tanks.ensures c.if-is_tanks.false)
    c.step_input-taken.ensures c.figures_of-before.ensures c.add_old_outflow.ensures c.work_step-worked.ensures c.in_err-worked.was)

pub overflow_add-g : goal.overflow_add-g
overflow_add-g c =
    omega (arith, gauges-most (table_in c.args.table.now) c.loop-i.i, c.loop-i.invariant.1.1.gauges, c.requires.ready.accepts.bounds.gauges_most, c.gauge_here-here.ensures.1)

pub loop-i-preserved : goal.loop-i-preserved
loop-i-preserved c =
    let inv = c.loop-i.invariant in
    let k =
    turn c.requires inv.1.0 inv.1.1 c.loop-i-test.true c.gauge_here-here.ensures.0 c.observation_here-observation.ensures c.is_tanks.ensures c.if-is_tanks.false in (
      omega (arith, inv.0),
      (
        omega (arith, c.work_step-worked.auto.space, inv.1.0),
        reached-again _ _ _ k.used
            (λ e. k.single (ap (λ (x : Element). x.kind) (sym (element-read _ _ k.used)) ∙ e)) inv.1.1
            (passed-on k c.step_input-taken.ensures c.figures_of-before.ensures c.add_old_outflow.ensures c.work_step-worked.ensures)
            c.gauge_here-here.ensures.0
            (one-more k c.step_input-taken.ensures c.figures_of-before.ensures c.add_old_outflow.ensures c.work_step-worked.ensures c.in_ok-worked.was),
      ),
    )

pub returns : goal.returns
unfolding RunEnded
returns c = reached-all _ _ _ (omega (arith, c.loop-i-test.false, c.requires.counts.elements)) c.loop-i.invariant.1.1
