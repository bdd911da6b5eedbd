-- The loop of `lay_out`.
use Rattle.answer_space.proofs.LayLaws.{LaidSoFar}
use Rattle.answer_space.proofs.lay_out.Given as goal

abbrev pub invariant-loop-i : goal.invariant-loop-i
invariant-loop-i l = LaidSoFar l.figures l.initial.out l.i l.out
