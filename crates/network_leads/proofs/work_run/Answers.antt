-- `work_run` meets its contract.
use mathlib.Core.Path.{refl}
use native.Mathlib.Omega.{arith}
use Rattle.answer_space.specs.Places.{put}
use Rattle.network_leads.proofs.TurnLaws.{run-tanks, run-turn, run-passed, run-again, below-most, turn-ready, turn-refused}
use Rattle.network_leads.proofs.work_run.Goals as goal

pub returns-then-is_tanks : goal.returns-then-is_tanks
returns-then-is_tanks c =
    run-tanks c.requires.0 c.requires.1 c.loop-i.invariant c.loop-i-test.true c.is_tanks.ensures c.if-is_tanks.true

pub overflow_mul-below : goal.overflow_mul-below
unfolding put
overflow_mul-below c =
    let turn = run-turn c.requires.0 c.requires.1 c.loop-i.invariant c.loop-i-test.true c.is_tanks.ensures c.if-is_tanks.false
    c.figures_of-first.ensures refl c.rain_count-count.ensures.0 c.lead_input-input.ensures in
    omega (arith, below-most c.requires.0 turn)

pub overflow_add-below : goal.overflow_add-below
unfolding put
overflow_add-below c =
    let turn = run-turn c.requires.0 c.requires.1 c.loop-i.invariant c.loop-i-test.true c.is_tanks.ensures c.if-is_tanks.false
    c.figures_of-first.ensures refl c.rain_count-count.ensures.0 c.lead_input-input.ensures in
    omega (arith, below-most c.requires.0 turn)

pub work_element-requires : goal.work_element-requires
unfolding put
work_element-requires c =
    turn-ready c.requires.0
    (run-turn c.requires.0 c.requires.1 c.loop-i.invariant c.loop-i-test.true c.is_tanks.ensures c.if-is_tanks.false
    c.figures_of-first.ensures refl c.rain_count-count.ensures.0 c.lead_input-input.ensures)

pub returns-in_err-work_element : goal.returns-in_err-work_element
unfolding put
returns-in_err-work_element c =
    let turn = run-turn c.requires.0 c.requires.1 c.loop-i.invariant c.loop-i-test.true c.is_tanks.ensures c.if-is_tanks.false
    c.figures_of-first.ensures refl c.rain_count-count.ensures.0 c.lead_input-input.ensures in
    run-passed c.requires.0 c.requires.1 c.loop-i.invariant _ _ _
    (turn-refused c.requires.0 turn _ _ c.work_element.ensures c.in_err-work_element.was) c.from_residual.ensures.1

pub loop-i-preserved : goal.loop-i-preserved
unfolding put
loop-i-preserved c =
    let turn = run-turn c.requires.0 c.requires.1 c.loop-i.invariant c.loop-i-test.true c.is_tanks.ensures c.if-is_tanks.false
    c.figures_of-first.ensures refl c.rain_count-count.ensures.0 c.lead_input-input.ensures in
    run-again c.requires.0 c.requires.1 c.loop-i.invariant turn c.work_element.ensures c.in_ok-work_element.was c.work_element.auto.space
