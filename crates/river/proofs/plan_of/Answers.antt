-- `plan_of` meets its contract.
use Prim.Native.Nat.{◌+◌, ◌*◌, ◌≤◌}
use native.Mathlib.Nat.{mul-le-mul}
use native.Mathlib.Omega.{arith}
use Rattle.sizes.specs.Sizes.{most_leads, answer_numbers}
use Rattle.river.specs.Replies.{plan_of}
use Rattle.river.proofs.plan_of.Goals as goal

most : (c : goal.Start) → 4 * c.args.counts.elements * (c.args.counts.leads + 1) ≤ answer_numbers
most c =
    let short : c.args.counts.leads + 1 ≤ most_leads + 1 = omega (arith, c.requires.leads) in
    omega (arith, mul-le-mul c.requires.elements short)

pub overflow_add-result : goal.overflow_add-result
overflow_add-result c = omega (arith, c.requires.places)

pub overflow_mul-result-5 : goal.overflow_mul-result-5
overflow_mul-result-5 c = omega (arith, most c)

pub returns : goal.returns
unfolding plan_of
returns c = record { of = λ t h b d x. rw (h.elements, h.leads, h.gauges, h.step, b, d, x) }
