-- `show` meets its contract.
use Rattle.std.proofs.Common.{rules}
use Rattle.units.proofs.AnswerLaws.{unit-known}
use Rattle.units.specs.Units.{grains}
use Rattle.units.specs.Ceiling.{under_ceiling, some_passes}
use Rattle.display.specs.Display.{shown, show_answer}
use Rattle.display.proofs.show.Goals as goal

pub returns-in_err-discharge : goal.returns-in_err-discharge
unfolding under_ceiling some_passes show_answer shown
returns-in_err-discharge c = let e = c.in_err-discharge.ensures in search rules

pub returns-in_err-margin : goal.returns-in_err-margin
unfolding under_ceiling some_passes show_answer shown
returns-in_err-margin c = let d = c.in_ok-discharge.ensures in let e = c.in_err-margin.ensures in search rules

pub cubic_metres-requires : goal.cubic_metres-requires
cubic_metres-requires c = let d = unit-known grains _ c.in_ok-discharge.was c.new.ensures in rw d.1 d.0

pub cubic_metres-requires-2 : goal.cubic_metres-requires-2
cubic_metres-requires-2 c = let d = unit-known grains _ c.in_ok-margin.was c.new-2.ensures in rw d.1 d.0

pub returns : goal.returns
unfolding under_ceiling some_passes show_answer shown
returns c =
    let d = c.in_ok-discharge.ensures in let e = c.in_ok-margin.ensures in search rules
