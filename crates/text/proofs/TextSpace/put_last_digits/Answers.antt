-- `put_last_digits` meets its contract.
use native.Mathlib.Omega.{arith}
use Rattle.text.proofs.DecimalLaws.{length-last_digits, last-bytes}
use Rattle.text.proofs.FoursLaws.{word_at}
use Rattle.text.proofs.PlacesLaws.{text-same}
use Rattle.text.proofs.TextSpace.put_last_digits.Goals as goal

pub returns : goal.returns
returns g c =
    let n = g.row.N in
    let p = text-same (last-bytes n c.args.v _ _ c.requires.few c.requires.small (word_at _ _ c.args.fours.now.digits c.requires.small).0 c.to_le_bytes-four.ensures) c.put_bytes.ensures in
    (p, omega (arith, p.put.ends, length-last_digits n c.args.v))
