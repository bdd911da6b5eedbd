-- Laws of decimal digits.
use Prim.Native.Nat.{ℕ, zero, suc, ◌+◌, ◌-◌, ◌*◌, ◌/◌, ◌%◌, ◌^◌, ◌≤◌, ◌<◌}
use mathlib.Core.Bool.{Bool, true, false, cond}
use lib.Dec.{ltb}
use borrow.Author.Tests.{lt-ltb, le-ltb}
use native.Mathlib.Nat.{mod-eq_of_lt, pow-suc}
use mathlib.Core.List.{List, [], ◌∷◌, ◌++◌, append_assoc}
use mathlib.Core.Path.{◌≡◌, refl, sym, ap, ◌∙◌}
use native.Mathlib.Omega.{arith}
use lib.ListN.{length, take, drop, get_or, length-append, drop_of_length-le}
use Rattle.std.specs.Int.{w32, to_le_bytes}
use lib.Seq.{take_all}
use native.Mathlib.Numerals.{unary_clauses}
use Rattle.std.proofs.lemmas.List.{drop-append-le}
use Rattle.std.proofs.lemmas.Nat.{le_bytes_4}
use Rattle.text.specs.Decimal.{digits_within, decimal, last_digits}
use Rattle.text.specs.Fours.{four_of}

within-either : (most n : ℕ) (b : Bool) (shorter : List ℕ) → length shorter ≤ most
    → length (cond b ((48 + n) ∷ []) (shorter ++ (48 + n % 10) ∷ [])) ≤ suc most
within-either most n true shorter h = omega arith
within-either most n false shorter h = rw length-append (omega arith)

within-short : (most n : ℕ) → length (digits_within most n) ≤ most
unfolding digits_within
within-short zero n = omega arith
within-short (suc most) n = within-either most n (ltb n 10) (digits_within most (n / 10)) (within-short most (n / 10))

pub decimal-short : (n : ℕ) → length (decimal n) ≤ 20
unfolding decimal
decimal-short n = within-short 20 n

-- room for one more digit than a number can have changes nothing
one_more : (most n : ℕ) → n < 10 ^ suc most → digits_within (suc most) n ≡ digits_within (suc (suc most)) n
unfolding digits_within
one_more zero n h = rw (lt-ltb n 10 (omega (arith, h)))
one_more (suc most) n h =
    let p = 10 ^ suc most in
    let h' : n < p * 10 = rw (pow-suc 10 (suc most)) at h in
    ap (λ ds. cond (ltb n 10) ((48 + n) ∷ []) (ds ++ (48 + n % 10) ∷ [])) (one_more most (n / 10) (omega arith))

more-digits : (n most : ℕ) → 10 ≤ n → digits_within (suc most) n ≡ digits_within most (n / 10) ++ (48 + n % 10) ∷ []
unfolding digits_within
more-digits n most h = rw (le-ltb n 10)

-- a number of one digit
pub decimal-1 : (n : ℕ) → n < 10 → (48 + n) ∷ [] ≡ decimal n
unfolding decimal digits_within
decimal-1 n h = rw (lt-ltb n 10)

-- a number of more than one digit: those before the last one, and this
pub decimal-more : (n : ℕ) → 10 ≤ n → n < 100000000000000000000 → decimal (n / 10) ++ (48 + n % 10) ∷ [] ≡ decimal n
unfolding decimal
decimal-more n h small =
    sym (more-digits n 19 h ∙ ap (λ ds. ds ++ (48 + n % 10) ∷ []) (one_more 18 (n / 10) (omega arith)))

pub length-1 : (n : ℕ) → n < 10 → length (decimal n) ≡ 1
length-1 n h = ap length (sym (decimal-1 n h))

pub length_more : (n : ℕ) → 10 ≤ n → n < 100000000000000000000 → length (decimal n) ≡ length (decimal (n / 10)) + 1
length_more n h small = ap length (sym (decimal-more n h small)) ∙ length-append (decimal (n / 10)) ((48 + n % 10) ∷ [])

-- numbers of two digits to four
last_more : (count n : ℕ) → 10 ≤ n → n < 10000 → last_digits count (n / 10) ≡ decimal (n / 10) → last_digits (suc count) n ≡ decimal n
unfolding last_digits
last_more count n h small e = ap (λ ds. ds ++ (48 + n % 10) ∷ []) e ∙ decimal-more n h (omega arith)

last-1 : (n : ℕ) → n < 10 → last_digits 1 n ≡ decimal n
unfolding last_digits
last-1 n h = rw mod-eq_of_lt (decimal-1 n h)

pub decimal-2 : (n : ℕ) → 10 ≤ n → n < 100 → last_digits 2 n ≡ decimal n
decimal-2 n h k = last_more 1 n h (omega arith) (last-1 (n / 10) (omega arith))

pub decimal-3 : (n : ℕ) → 100 ≤ n → n < 1000 → last_digits 3 n ≡ decimal n
decimal-3 n h k = last_more 2 n (omega arith) (omega arith) (decimal-2 (n / 10) (omega arith) (omega arith))

pub decimal-4 : (n : ℕ) → 1000 ≤ n → n < 10000 → last_digits 4 n ≡ decimal n
decimal-4 n h k = last_more 3 n (omega arith) k (decimal-3 (n / 10) (omega arith) (omega arith))

-- the last four digits
last-four :
    (n : ℕ) → last_digits 4 (n % 10000) ≡ (48 + n / 10 / 10 / 10 % 10) ∷ (48 + n / 10 / 10 % 10) ∷ (48 + n / 10 % 10) ∷ (48 + n % 10) ∷ []
unfolding last_digits
last-four n =
    let a : n % 10000 / 10 / 10 / 10 % 10 ≡ n / 10 / 10 / 10 % 10 = omega arith in
    let b : n % 10000 / 10 / 10 % 10 ≡ n / 10 / 10 % 10 = omega arith in
    let c : n % 10000 / 10 % 10 ≡ n / 10 % 10 = omega arith in
    let d : n % 10000 % 10 ≡ n % 10 = omega arith in
    rw (a, b, c, d)

-- a number of more than four digits: those before the last four, and these, with zeros where they stand
pub decimal-four : (n : ℕ) → 10000 ≤ n → n < 1000000000000 → decimal (n / 10000) ++ last_digits 4 (n % 10000) ≡ decimal n
decimal-four n h small =
    let e : n / 10000 ≡ n / 10 / 10 / 10 / 10 = omega arith in
    rw (
      last-four,
      e,
      ← decimal-more n (omega arith) (omega arith),
      ← decimal-more (n / 10) (omega arith) (omega arith),
      ← decimal-more (n / 10 / 10) (omega arith) (omega arith),
      ← decimal-more (n / 10 / 10 / 10) (omega arith) (omega arith),
    )
    (simp append_assoc)

pub length-last_digits : (count n : ℕ) → length (last_digits count n) ≡ count
unfolding last_digits
length-last_digits zero n = refl
length-last_digits (suc count) n = rw (length-append, length-last_digits count (n / 10)) (omega arith)

-- fewer of the last digits
drop-last_digits : (fewer count n : ℕ) → drop fewer (last_digits (fewer + count) n) ≡ last_digits count n
unfolding last_digits
drop-last_digits fewer zero n = simp unary_clauses (drop_of_length-le (last_digits fewer n) (omega (arith, length-last_digits fewer n)))
drop-last_digits fewer (suc count) n =
    simp unary_clauses (drop-append-le fewer (last_digits (fewer + count) (n / 10)) ((48 + n % 10) ∷ []) (omega (arith, length-last_digits (fewer + count) (n / 10)))
    ∙ ap (λ ds. ds ++ (48 + n % 10) ∷ []) (drop-last_digits fewer count (n / 10)))

bytes-small : (a b c d i : ℕ) → a < 256 → b < 256 → c < 256 → d < 256 → get_or (a ∷ b ∷ c ∷ d ∷ []) i 0 < 256
bytes-small a b c d zero p q r s = p
bytes-small a b c d (suc zero) p q r s = q
bytes-small a b c d (suc (suc zero)) p q r s = r
bytes-small a b c d (suc (suc (suc zero))) p q r s = s
bytes-small a b c d (suc (suc (suc (suc i)))) p q r s = omega arith

-- the bytes of a word of four digits
four-bytes : (n : ℕ) → n < 10000 → to_le_bytes w32 (four_of n) ≡ last_digits 4 n
unfolding last_digits
four-bytes n h =
    le_bytes_4 (last_digits 4 n) (four_of n) refl
    (λ i. bytes-small _ _ _ _ i (omega arith) (omega arith) (omega arith) (omega arith))
    (omega arith)

pub last-bytes :
    (count n word : ℕ) (bytes : List ℕ)
    → count ≤ 4
    → n < 10000
    → word ≡ four_of n
    → bytes ≡ to_le_bytes w32 word
    → take (4 - (4 - count)) (drop (4 - count) bytes) ≡ last_digits count n
last-bytes count n word bytes few h is b =
    let e : 4 - (4 - count) ≡ count = omega arith in
    let p : 4 - count + count ≡ 4 = omega arith in
    let q : drop (4 - count) bytes ≡ last_digits count n =
    ap (drop (4 - count)) (b ∙ ap (to_le_bytes w32) is ∙ four-bytes n h ∙ ap (λ k. last_digits k n) (sym p)) ∙ drop-last_digits (4 - count) count n in
    rw (e, q) (take_all count (last_digits count n) (omega (arith, length-last_digits count n)))
