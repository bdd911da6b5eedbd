-- The working space after each turn, and how large its sums are.
use Prim.Native.Nat.{ℕ, zero, suc, ◌+◌, ◌<◌}
use mathlib.Core.Bool.{Bool, true, false, cond}
use mathlib.Core.Logic.{◌⊎◌, inl, inr, ⊎_elim}
use mathlib.Core.Path.{◌≡◌, refl, sym, ap, subst, ◌∙◌}
use native.Mathlib.Nat.{eq-or-lt_of_le}
use native.Mathlib.Numerals.{add-one}
use native.Mathlib.Omega.{arith}
use borrow.Author.Tests.{eqb-true, eqb-false}
use lib.Dec.{eqb}
use Rattle.walk.specs.Walk.{drained, walked, gathered, new_cell, outflow}
use Rattle.walk.specs.Space.{Later, Turned, Held}

module _
    {W A B : Type 0} (Kept : ℕ → Type 0) (cell_at : W → ℕ → A) (sum_at : W → ℕ → B) (none : B) (plus : B → B → B) (down : ℕ → ℕ)
    (cell : ℕ → B → A → A) (let_out : ℕ → A → A → B) (old : ℕ → A) where
  abbrev sum_of : ℕ → ℕ → B
  sum_of k i = drained none plus k (walked none plus down cell let_out old i)

  abbrev new_of : ℕ → A
  new_of = new_cell none plus down cell let_out old

  abbrev out_of : ℕ → B
  out_of = outflow none plus down cell let_out old

  abbrev HeldAt : W → ℕ → Type 0
  HeldAt = Held Kept cell_at sum_at none plus down cell let_out old

  pub held-begin : (space : W) → ((k : ℕ) → sum_at space k ≡ none) → HeldAt space 0
  unfolding drained walked
  held-begin space e = record { left = e 0; waiting = λ k l. e k; done = λ k l _. absurd (omega arith) }

  -- what element i finds waiting
  pub found : {space : W} {i : ℕ} → HeldAt space i → sum_at space (i + 1) ≡ gathered none plus down cell let_out old i
  unfolding gathered
  found {space} {i} h = h.waiting (i + 1) (omega arith)

  -- the sums that count are read another way, in another space, in which no kept cell has changed
  pub held_moved :
      (sum_at* : W → ℕ → B) {space space* : W} {i : ℕ}
      → HeldAt space i
      → ((k : ℕ) → (k ≡ 0) ⊎ (i < k) → sum_at* space* k ≡ sum_at space k)
      → ((k : ℕ) → k < i → Kept k → cell_at space* k ≡ cell_at space k)
      → Held Kept cell_at sum_at* none plus down cell let_out old space* i
  held_moved sum_at* h sums cells =
      record {
        left = sums 0 (inl refl) ∙ h.left;
        waiting = λ k l. sums k (inr l) ∙ h.waiting k l;
        done = λ k l q. cells k l q ∙ h.done k l q;
      }

  module _
      {before after : W} {i : ℕ} (h : HeldAt before i)
      (t : Turned Kept cell_at sum_at plus before after i (down i) (new_of i) (out_of i)) where
    -- the sum of a number whose turn has not come
    summed : (k : ℕ) → Later i k → sum_at before k ≡ sum_of k i → sum_at after k ≡ sum_of k (suc i)
    unfolding drained walked outflow new_cell gathered
    summed k other e = go (eqb (down i) k) refl
      where
        go : (b : Bool) → eqb (down i) k ≡ b → sum_at after k ≡ cond b (plus (sum_of k i) (out_of i)) (sum_of k i)
        go true q =
            let d = eqb-true (down i) k q in
            subst (λ (j : ℕ). sum_at after j ≡ plus (sum_at before j) (out_of i)) d t.added
            ∙ ap (λ (x : B). plus x (out_of i)) e
        go false q = t.sums k other (λ d. eqb-false (down i) k q (sym d)) ∙ e

    -- one element more
    pub held-again : HeldAt after (i + 1)
    held-again =
        record {
          left = rw add-one (summed 0 (inl refl) h.left);
          waiting = λ k l. rw add-one (summed k (inr (omega arith)) (h.waiting k (omega arith)));
          done = λ k l q. ⊎_elim (λ e. newest k e q) (λ m. t.cells k m q ∙ h.done k m q) (eq-or-lt_of_le (omega arith));
        }
      where
        newest : (k : ℕ) → k ≡ i → Kept k → cell_at after k ≡ new_of k
        newest k e q = rw e (t.here (subst Kept e q))

-- sums are small where each part is: Small m b says that b is no more than m parts
module _
    {A B : Type 0} (Small : ℕ → B → Type 0) (Part : B → Type 0) (none : B) (plus : B → B → B) (none-small : Small 0 none)
    (part-more : (m : ℕ) (a b : B) → Small m a → Part b → Small (suc m) (plus a b))
    (small-more : (m : ℕ) (a : B) → Small m a → Small (suc m) a) (down : ℕ → ℕ) (cell : ℕ → B → A → A)
    (let_out : ℕ → A → A → B) (old : ℕ → A) where
  either-small : (b : Bool) (m : ℕ) (x y : B) → Small m x → Part y → Small (suc m) (cond b (plus x y) x)
  either-small true m x y s p = part-more m x y s p
  either-small false m x y s p = small-more m x s

  pub sum-small :
      (k i : ℕ)
      → ((j : ℕ) → j < i → Part (outflow none plus down cell let_out old j))
      → Small i (drained none plus k (walked none plus down cell let_out old i))
  unfolding drained walked outflow new_cell gathered
  sum-small k zero p = none-small
  sum-small k (suc i) p =
      either-small (eqb (down i) k) i _ _ (sum-small k i (λ j l. p j (omega arith))) (p i (omega arith))
