-- `copy_out` meets its contract.
use native.Mathlib.Omega.{arith}
use Rattle.table.specs.InUse.{table_in}
use Rattle.leads.proofs.AnswerLaws.{answer-size, answer-start, part_fits, not-copied, copied}
use Rattle.leads.proofs.copy_out.Goals as goal

pub returns-in_err-worked : goal.returns-in_err-worked
returns-in_err-worked c =
    not-copied _ _ _ c.requires.0.answer c.work_leads-worked.ensures _ c.in_err-worked.was c.from_residual.ensures.1

pub lay_out-requires : goal.lay_out-requires
lay_out-requires c =
    let p = c.requires.0 in
    part_fits (table_in c.args.table.now) c.work_leads-worked.new.space (omega (arith, c.work_leads-worked.auto, p.space)) p.given.elements (answer-start p.given)
    p.answer

pub returns : goal.returns
returns c =
    let p = c.requires.0 in
    copied _ _ _ p.answer c.work_leads-worked.ensures (omega (arith, c.work_leads-worked.auto, p.space)) p.given.elements (answer-start p.given)
    (answer-size p.given c.answer_numbers-needed.ensures.0) c.lay_out.ensures c.in_ok-worked.was
