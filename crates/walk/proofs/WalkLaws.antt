-- Two walks over the same downs: a relation of cells that the cell rule keeps, with a relation of sums that letting out and adding
-- keep, is kept by the walk. The relation of cells may differ from element to element (counted from 0), that of sums with the number that
-- they drain into.
use Prim.Native.Nat.{ℕ, zero, suc, ◌+◌, ◌≤◌, ◌<◌}
use mathlib.Core.Bool.{Bool, true, false, cond}
use mathlib.Core.List.{List, [], ◌∷◌}
use mathlib.Core.Path.{◌≡◌, refl, subst}
use borrow.Author.Tests.{eqb-true}
use native.Mathlib.Omega.{arith}
use lib.Dec.{eqb}
use Rattle.walk.specs.Walk.{drained, walked, gathered, new_cell, outflow}

-- elements done in two walks: the same numbers, and what they let out related
pub data Related {B B* : Type 0} (S : ℕ → B → B* → Type 0) : List (ℕ × B) → List (ℕ × B*) → Type 0 where
  none_done : Related S [] []
  one_more :
      {d : ℕ} {b : B} {b* : B*} {l : List (ℕ × B)} {m : List (ℕ × B*)}
      → S d b b*
      → Related S l m
      → Related S ((d, b) ∷ l) ((d, b*) ∷ m)

module _
    {B B* : Type 0} (S : ℕ → B → B* → Type 0) (none : B) (plus : B → B → B) (none* : B*) (plus* : B* → B* → B*)
    (none_kept : (k : ℕ) → S k none none*)
    (plus-kept : (k : ℕ) (a b : B) (a* b* : B*) → S k a a* → S k b b* → S k (plus a b) (plus* a* b*)) where
  -- a part that drains into number k or into another
  either-kept :
      (k d : ℕ) (t : Bool) (a b : B) (a* b* : B*)
      → eqb d k ≡ t
      → S k a a*
      → S d b b*
      → S k (cond t (plus a b) a) (cond t (plus* a* b*) a*)
  either-kept k d true a b a* b* e p q = plus-kept k a b a* b* p (subst (λ (n : ℕ). S n b b*) (eqb-true d k e) q)
  either-kept k d false a b a* b* e p q = p

  -- sums of related parts are related
  pub drained-kept :
      (k : ℕ) {l : List (ℕ × B)} {m : List (ℕ × B*)} → Related S l m → S k (drained none plus k l) (drained none* plus* k m)
  unfolding drained
  drained-kept k none_done = none_kept k
  drained-kept k (one_more {d = d} p r) = either-kept k d (eqb d k) _ _ _ _ refl (drained-kept k r) p

  module _
      {A A* : Type 0} (R : ℕ → A → A* → Type 0) (down : ℕ → ℕ) (cell : ℕ → B → A → A) (let_out : ℕ → A → A → B) (old : ℕ → A)
      (cell* : ℕ → B* → A* → A*) (let_out* : ℕ → A* → A* → B*) (old* : ℕ → A*) (n : ℕ)
      (cell-kept :
      (i : ℕ)
      → i < n
      → S (i + 1) (gathered none plus down cell let_out old i) (gathered none* plus* down cell* let_out* old* i)
      → R i (new_cell none plus down cell let_out old i) (new_cell none* plus* down cell* let_out* old* i))
      (out-kept :
      (i : ℕ)
      → i < n
      → R i (new_cell none plus down cell let_out old i) (new_cell none* plus* down cell* let_out* old* i)
      → S (down i) (outflow none plus down cell let_out old i) (outflow none* plus* down cell* let_out* old* i)) where
    pub walked-kept :
        (i : ℕ) → i ≤ n → Related S (walked none plus down cell let_out old i) (walked none* plus* down cell* let_out* old* i)
    unfolding walked new_cell gathered outflow
    walked-kept zero l = none_done
    walked-kept (suc i) l =
        let r = walked-kept i (omega arith) in one_more (out-kept i l (cell-kept i l (drained-kept (i + 1) r))) r

    -- what drains into an element, and its new cell
    pub gathered-kept :
        (i : ℕ) → i ≤ n → S (i + 1) (gathered none plus down cell let_out old i) (gathered none* plus* down cell* let_out* old* i)
    unfolding gathered
    gathered-kept i l = drained-kept (i + 1) (walked-kept i l)

    pub new-cell-kept :
        (i : ℕ) → i < n → R i (new_cell none plus down cell let_out old i) (new_cell none* plus* down cell* let_out* old* i)
    new-cell-kept i l = cell-kept i l (gathered-kept i (omega arith))
