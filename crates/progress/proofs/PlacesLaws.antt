-- Laws of what is held, by where it lies.
use Prim.Native.Nat.{ℕ, ◌+◌, ◌-◌, ◌≤◌, ◌<◌}
use mathlib.Core.Bool.{false}
use mathlib.Core.List.{List, ◌++◌}
use mathlib.Core.Path.{◌≡◌, sym, ap, ◌∙◌}
use native.Mathlib.Omega.{arith}
use native.Mathlib.Nat.{add-zero, zero-add}
use borrow.Author.Tests.{ne_eqb}
use lib.ListN.{length, take, drop, length-drop}
use lib.Seq.{drop-drop, length-take-le, take-add, drop-append-le}
use Rattle.std.specs.List.{copy_within}
use Rattle.std.proofs.lemmas.Slice.{between_is}
use Rattle.std.proofs.lemmas.List.Edits.{take-paste}
use Rattle.state.specs.States.{State}
use Rattle.program_run.specs.Machine.{given, closed}
use Rattle.progress.specs.declared.Progress.{Progress}
use Rattle.progress.specs.Places.{held_in, in_front, after_read, MovedFront, ReadIn}

-- ---- the bytes from one place to another

-- they depend on the bytes before the second place alone
pub window_same :
    (from have : ℕ) (l m : List ℕ) → take have l ≡ take have m → take (have - from) (drop from l) ≡ take (have - from) (drop from m)
window_same from have l m e = between_is l from have ∙ ap (drop from) e ∙ sym (between_is m from have)

-- some of them used
pub window-later :
    (from have k : ℕ) (l : List ℕ) → take (have - (from + k)) (drop (from + k) l) ≡ drop k (take (have - from) (drop from l))
window-later from have k l =
    between_is l (from + k) have ∙ sym (drop-drop k from (take have l)) ∙ ap (drop k) (sym (between_is l from have))

-- more of them read
pub window_more :
    (from have got : ℕ) (before after : List ℕ)
    → from ≤ have
    → have ≤ length after
    → take have after ≡ take have before
    → take (have + got - from) (drop from after) ≡ take (have - from) (drop from before) ++ take got (drop have after)
window_more from have got before after order inside e =
    let start : length (take have after) ≡ have = length-take-le have after inside in
    between_is after from (have + got)
    ∙ ap (drop from) (take-add have got after)
    ∙ drop-append-le from (take have after) (take got (drop have after)) (omega (arith, start))
    ∙ ap (λ (l : List ℕ). l ++ take got (drop have after)) (sym (between_is after from have) ∙ window_same from have after before e)

-- ---- what is held

module _ (p : Progress) (before after table : List ℕ) (state : State) (out : List ℕ) (kept : take p.have after ≡ take p.have before) where
  read-piece :
      (got : ℕ)
      → 0 < got
      → p.over ≡ false
      → p.from ≤ p.have
      → p.have + got ≤ length after
      → held_in (after_read p got) after table state out
      ≡ given (held_in p before table state out) (take got (drop p.have after))
  unfolding held_in given
  read-piece got some more order whole =
      rw (ne_eqb got 0 (λ z. omega arith), window_more p.from p.have got before after order (omega arith) kept, more)

  read-end : held_in (after_read p 0) after table state out ≡ closed (held_in p before table state out)
  unfolding held_in closed
  read-end = rw (add-zero p.have, window_same p.from p.have after before kept)

pub read-in : (p r : Progress) (got : ℕ) → r ≡ after_read p got → ReadIn p got r
read-in p r got e =
    record {
      same = e;
      piece = λ before after table state out some more order whole kept. rw e (read-piece p before after table state out kept got some more order whole);
      end = λ before after table state out none kept. rw (e, none) (read-end p before after table state out kept);
    }

pub moved-front-held :
    (p r : Progress) (before after : List ℕ)
    → p.from ≤ p.have
    → p.have ≤ length before
    → r ≡ in_front p
    → after ≡ copy_within before p.from p.have 0
    → MovedFront p before r after
unfolding held_in
moved-front-held p r before after order inside e moved =
    let n = p.have - p.from in
    let all : n - 0 ≡ n = omega arith in
    let bytes : take n after ≡ take n (drop p.from before) =
    ap (take n) moved
    ∙ ap (λ k. take k (copy_within before p.from p.have 0)) (sym (zero-add n))
    ∙ take-paste before 0 (drop p.from before) n (omega arith) (omega (arith, length-drop p.from before)) in
    record { same = e; held = λ table state out. simp (e, all, bytes) }
