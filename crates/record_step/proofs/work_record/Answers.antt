-- `work_record` meets its contract.
use native.Mathlib.Omega.{arith}
use Rattle.record_step.proofs.StepLaws.{passed-as, refused-before, space-short, after-judged, work-ready}
use Rattle.record_step.proofs.work_record.Goals as goal

pub returns-in_err-judge_step : goal.returns-in_err-judge_step
returns-in_err-judge_step c =
    rw (passed-as _ _ _ c.in_err-judge_step.was c.from_residual.ensures.1) at (refused-before _ _ _ c.judge_step.ensures {lent = c.args.lent} {space = c.args.space.now} c.in_err-judge_step.was)

pub returns-then-lent-counts : goal.returns-then-lent-counts
returns-then-lent-counts c =
    space-short _ _ _ c.judge_step.ensures c.in_ok-judge_step.was (omega (arith, c.if-lent-counts.true, c.counts_with-counts.ensures.held.elements))

pub work_step-requires : goal.work_step-requires
work_step-requires c =
    let p = c.requires in (
      work-ready p.0.counted.0 p.0.counted.1.0 c.put_weights.ensures p.0.fits c.judge_step.ensures c.in_ok-judge_step.was
          (omega (arith, c.judge_step.auto, p.0.room)),
      p.1,
    )

pub returns : goal.returns
returns c =
    after-judged _ _ _ c.judge_step.ensures c.in_ok-judge_step.was
    (omega (arith, c.if-lent-counts.false, c.counts_with-counts.ensures.held.elements)) c.work_step.ensures
