-- Document 01, One step: "element 1 to N", each after those that drain into it. One definition for any kind of cell.
use Rattle.std.specs.Prelude.{ℕ, zero, suc, ◌+◌, cond, List, [], ◌∷◌, eqb}

-- "the sums .. of all elements draining into it, 0 if none": of the elements done, each with the number that it drains into and what it
-- lets out, those that drain into element number k
unfoldable pub drained : {B : Type 0} → B → (B → B → B) → ℕ → List (ℕ × B) → B
drained none plus k [] = none
drained none plus k (d ∷ done) = cond (eqb d.0 k) (plus (drained none plus k done) d.1) (drained none plus k done)

-- down: the number that element i (counted from 0) drains into; cell: its new cell from what drains into it and its old cell;
-- let_out: what it lets out, of its old and its new cell
module _
    {A B : Type 0} (none : B) (plus : B → B → B) (down : ℕ → ℕ) (cell : ℕ → B → A → A) (let_out : ℕ → A → A → B)
    (old : ℕ → A) where
  -- the first i elements done, the latest first
  unfoldable pub walked : ℕ → List (ℕ × B)
  walked zero = []
  walked (suc i) =
      let done : List (ℕ × B) = walked i in
      (down i, let_out i (old i) (cell i (drained none plus (i + 1) done) (old i))) ∷ done

  -- what drains into element i, its new cell, and what it lets out
  unfoldable pub gathered : ℕ → B
  gathered i = drained none plus (i + 1) (walked i)

  unfoldable pub new_cell : ℕ → A
  new_cell i = cell i (gathered i) (old i)

  unfoldable pub outflow : ℕ → B
  outflow i = let_out i (old i) (new_cell i)
