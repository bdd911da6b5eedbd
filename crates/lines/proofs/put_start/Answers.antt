-- `put_start` meets its contract.
use Prim.Native.Nat.{◌+◌}
use mathlib.Core.Path.{refl}
use native.Mathlib.Omega.{arith}
use lib.ListN.{take}
use lib.Seq.{length-take-le, take-take}
use Rattle.std.proofs.lemmas.Simd.{take_more_put_chunk, length-put_chunk}
use Rattle.text.specs.Places.{Put}
use Rattle.text.proofs.PlacesLaws.{put-fewer, put_same}
use Rattle.lines.proofs.put_start.Goals as goal

pub returns : goal.returns
returns c =
    let text = c.args.text.now in
    let start = c.args.start.now in
    let k = length-take-le 32 start (omega (arith, c.requires.0)) in
    let put : Put text.bytes.now text.at (take 32 start) _ (text.at + 32) =
    record { holds = take_more_put_chunk text.at text.bytes.now (take 32 start) _ (omega arith) (omega (arith, c.requires.1.1)); ends = omega arith } in
    record {
      put = put_same (take-take c.args.size 32 start c.requires.1.0) (put-fewer c.args.size put (omega (arith, c.requires.1.1)) (omega (arith, c.requires.1.0)));
      same = refl;
      room = length-put_chunk text.at text.bytes.now (take 32 start);
    }
