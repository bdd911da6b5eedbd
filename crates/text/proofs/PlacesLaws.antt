-- Laws of bytes put at a place.
use Prim.Native.Nat.{ℕ, ◌+◌, ◌≤◌, ◌<◌}
use mathlib.Core.List.{List, [], ◌∷◌, ◌++◌, append_assoc, append-nil}
use mathlib.Core.Path.{◌≡◌, refl, sym, ap, subst, ◌∙◌}
use native.Mathlib.Nat.{add_assoc}
use native.Mathlib.Numerals.{add-one}
use native.Mathlib.Omega.{arith}
use lib.ListN.{length, take, set, length-append}
use lib.Seq.{take-suc-set, take-take, take-append-add, take_at, length-take-le}
use Rattle.text.specs.declared.TextSpace.{TextSpace}
use Rattle.text.specs.Places.{Put, TextPut}

pub put-nothing : (l : List ℕ) (at : ℕ) → Put l at [] l at
put-nothing l at = record { holds = sym (append-nil (take at l)); ends = omega arith }

pub put_same : {l : List ℕ} {at : ℕ} {a b m : List ℕ} {i : ℕ} → a ≡ b → Put l at a m i → Put l at b m i
put_same {l} {at} {a} {b} {m} {i} e p = subst (λ x. Put l at x m i) e p

pub put-ends : {l : List ℕ} {at : ℕ} {a m : List ℕ} {i j : ℕ} → Put l at a m i → i ≡ j → Put l at a m j
put-ends {l} {at} {a} {m} {i} {j} p e = subst (λ k. Put l at a m k) e p

-- bytes put, and others after them
pub put_then : {l : List ℕ} {at : ℕ} {a b m n : List ℕ} {i j : ℕ} → Put l at a m i → Put m i b n j → Put l at (a ++ b) n j
put_then {l} {at} {a} {b} p q =
    record {
      holds = q.holds ∙ ap (λ x. x ++ b) p.holds ∙ append_assoc (take at l) a b;
      ends =
          q.ends ∙ ap (λ k. k + length b) p.ends ∙ add_assoc at (length a) (length b)
          ∙ ap (λ k. at + k) (sym (length-append a b));
    }

-- a byte stored
pub put_one : (l : List ℕ) (at b : ℕ) → at < length l → Put l at (b ∷ []) (set l at b) (at + 1)
put_one l at b h = record { holds = rw add-one (take-suc-set l at b h); ends = refl }

-- a byte stored after others
pub put_byte : {l : List ℕ} {at : ℕ} {a m : List ℕ} {i : ℕ} (b : ℕ) → Put l at a m i → i < length m → Put l at (a ++ b ∷ []) (set m i b) (i + 1)
put_byte {m = m} {i} b p h = put_then p (put_one m i b h)

-- two bytes stored
pub put_two : (l : List ℕ) (at a b : ℕ) → at + 1 < length (set l at a) → at < length l → Put l at (a ∷ b ∷ []) (set (set l at a) (at + 1) b) (at + 2)
put_two l at a b h k = put-ends (put_byte b (put_one l at a k) h) (omega arith)

-- the first of the bytes that were put
pub put-fewer : (count : ℕ) {l : List ℕ} {at : ℕ} {bytes m : List ℕ} {i : ℕ} → Put l at bytes m i → at ≤ length l → count ≤ length bytes
    → Put l at (take count bytes) m (at + count)
put-fewer count {l} {at} {bytes} {m} {i} p before few =
    let start : length (take at l) ≡ at = length-take-le at l before in
    record {
      holds =
          sym (take-take (at + count) i m (omega (arith, p.ends)))
          ∙ ap (take (at + count)) p.holds
          ∙ subst (λ k. take (k + count) (take at l ++ bytes) ≡ take at l ++ take count bytes) start (take-append-add (take at l) bytes count);
      ends = ap (λ k. at + k) (sym (length-take-le count bytes few));
    }

-- what stood before the place stays
pub put-before : {l : List ℕ} {at : ℕ} {a m : List ℕ} {i : ℕ} → Put l at a m i → at ≤ length l → take at m ≡ take at l
put-before {l} {at} {a} {m} {i} p h =
    sym (take-take at i m (omega (arith, p.ends))) ∙ ap (take at) p.holds ∙ take_at (take at l) a at (length-take-le at l h)

-- ---- the same of a space that holds its place

pub text-nothing : (s : TextSpace) → TextPut s [] s
text-nothing s = record { put = put-nothing s.bytes.now s.at; same = refl; room = refl }

pub text-same : {a b : List ℕ} {s t : TextSpace} → a ≡ b → TextPut s a t → TextPut s b t
text-same {s = s} {t = t} e p = subst (λ x. TextPut s x t) e p

pub text-then : {a b : List ℕ} {s t u : TextSpace} → TextPut s a t → TextPut t b u → TextPut s (a ++ b) u
text-then p q = record { put = put_then p.put q.put; same = q.same ∙ p.same; room = q.room ∙ p.room }

-- a space of a function's own, made of another and put back
pub text-lent :
    {bytes : List ℕ} {s r own after : TextSpace}
    → TextPut own bytes after
    → own.bytes.now ≡ s.bytes.now
    → own.at ≡ s.at
    → r.bytes.now ≡ after.bytes.now
    → r.bytes.ghost_name ≡ s.bytes.ghost_name
    → r.at ≡ after.at
    → TextPut s bytes r
text-lent {bytes} {s} {r} {own} {after} p was start now same end =
    record {
      put = rw (← was, ← start, now, end) p.put;
      same = same;
      room = ap length now ∙ p.room ∙ ap length was;
    }
