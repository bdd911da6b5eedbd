-- `DigitFours::new` meets its contract.
use Rattle.std.proofs.Common.{rules}
use Rattle.text.proofs.FoursLaws.{all-fours}
use Rattle.text.proofs.DigitFours.new.Goals as goal

pub invariant_of-result : goal.invariant_of-result
invariant_of-result c = record { digits = all-fours _ 10000 c.from_fn.ensures.items.long (λ k h. let a = c.from_fn.ensures.items.at k 0 h in search rules) }
