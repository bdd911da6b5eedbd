-- Laws of where a record ends.
use Prim.Native.Nat.{ℕ, ◌+◌, ◌≤◌, min}
use mathlib.Core.Bool.{Bool, true, false}
use mathlib.Core.List.{List}
use mathlib.Core.Path.{◌≡◌, refl, sym, ap, ◌∙◌}
use borrow.Author.Tests.{leb-true, leb-false}
use native.Mathlib.Omega.{arith}
use native.Mathlib.Nat.{le_refl, min-eq_left, min-eq_right}
use lib.Dec.{leb}
use lib.ListN.{length, take, drop, drop_of_length-le}
use lib.Seq.{take_all}
use Rattle.fields.specs.Bytes.{number16}
use Rattle.program.specs.Program.{record_bytes, rest_after}
use Rattle.input_parts.specs.Parts.{RecordEnd}

pub record-end : (rest : List ℕ) (n : ℕ) → n ≡ number16 rest 0 → RecordEnd rest (min (length rest) (n + 2))
unfolding record_bytes rest_after
record-end rest n e = go (leb (n + 2) (length rest)) refl
  where
    go : (x : Bool) → leb (n + 2) (length rest) ≡ x → RecordEnd rest (min (length rest) (n + 2))
    go true h =
        let there = leb-true (n + 2) (length rest) h in
        rw (min-eq_right there)
        (record { bytes = ap (λ k. take (k + 2) rest) (sym e); after = ap (λ k. drop (k + 2) rest) (sym e); within = there })
    go false h =
        let short : length rest ≤ n + 2 = omega (arith, leb-false (n + 2) (length rest) h) in
        let few : length rest ≤ number16 rest 0 + 2 = omega arith in
        let all : length rest ≤ length rest = le_refl _ in
        rw (min-eq_left short)
        (record {
          bytes = take_all _ rest few ∙ sym (take_all _ rest all);
          after = drop_of_length-le rest few ∙ sym (drop_of_length-le rest all);
          within = all;
        })
