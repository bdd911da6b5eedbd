-- The discharge that a rating curve gives is within 1 of the curve's fraction.
use Prim.Native.Nat.{ℕ, ◌*◌, ◌/◌}
use mathlib.Core.Bool.{Bool, true, false, cond}
use mathlib.Core.List.{List}
use mathlib.Core.Path.{◌≡◌, refl}
use native.Mathlib.Omega.{arith}
use lib.Dec.{ltb}
use Rattle.refusal.specs.Answers.{Answer, accepted, refused, and_then}
use Rattle.units.specs.Units.{C, grains}
use Rattle.units.specs.declared.Discharge.{Discharge}
use Rattle.rating.specs.declared.Piece.{Piece}
use Rattle.weighting.specs.Estimates.{estimate}
use Rattle.rating.specs.Rating.{piece_for, depth, discharge_at, on_piece, rated}
use Rattle.exact.specs.Fraction.{Fraction}
use Rattle.exact.specs.Exact.{exact_rated}
use Rattle.exact.specs.Margins.{Tracks}
use Rattle.exact.proofs.Tracking.{floor-tracks}

-- an answer in fractions is accepted, and z with margin 1 tracks it
pub record Answered (z : Discharge) (answer : Answer Fraction) : Type 0 where
  pub exact : Fraction
  pub same : answer ≡ accepted exact
  pub near : Tracks (estimate z.0 1) exact

never : {A : Type 0} {z : A} {n : ℕ} → refused n ≡ accepted z → ⊥
never e = let no_way : ◌≡◌ {A = ℕ} 0 1 = cc in omega arith

-- a second answer that is worked out from a first
after :
    {A : Type 0} {z : Discharge} {f : A → Answer Discharge} {f* : A → Answer Fraction} (answer : Answer A)
    → ((a : A) → f a ≡ accepted z → Answered z (f* a))
    → and_then answer f ≡ accepted z
    → Answered z (and_then answer f*)
after (accepted a) step e = step a e
after (refused n) step e = absurd (never e)

-- rule 14 or not
judged :
    {q : ℕ} {x : Fraction} {z : Discharge} (b : Bool)
    → Tracks (estimate q 1) x
    → cond b (refused 14) (accepted (grains q)) ≡ accepted z
    → Answered z (accepted x)
judged true t e = absurd (never e)
judged {q} {x} {z} false t e = let same : z.0 ≡ q = cc in record { exact = x; same = refl; near = rw same t }

at-depth :
    (a d : ℕ) {x : Fraction} {z : Discharge}
    → Tracks (estimate (a * (d * d) / 1000) 1) x
    → discharge_at a d ≡ accepted z
    → Answered z (accepted x)
unfolding discharge_at
at-depth a d t e = judged (ltb C (a * (d * d) / 1000)) t e

pub rated-tracks :
    (h : ℕ) (pieces : List Piece) {z : Discharge} → rated h pieces ≡ accepted z → Answered z (exact_rated h pieces)
unfolding rated on_piece exact_rated
rated-tracks h pieces e =
    after (piece_for h pieces)
    (λ p. after (depth h p.offset) (λ d. at-depth p.factor d (floor-tracks (omega arith)))) e
