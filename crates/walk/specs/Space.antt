-- Serves the code: its working space holds the sum of what drains into element number k until its turn, and from then on its new cell,
-- of those elements whose cells are kept. Number 0 has what leaves the river. For any space that can be read as cells, by element, and as
-- sums, by number.
use Rattle.std.specs.Prelude.{ℕ, ◌+◌, ◌<◌, ◌⊎◌, ◌≢◌, ◌≡◌}
use Rattle.walk.specs.Walk.{drained, walked, new_cell}

-- a number that element i may drain into: out of the river, or a later element
abbrev pub Later : ℕ → ℕ → Type 0
Later i d = (d ≡ 0) ⊎ (i + 1 < d)

module _ {W A B : Type 0} (Kept : ℕ → Type 0) (cell_at : W → ℕ → A) (sum_at : W → ℕ → B) where
  -- what the turn of element i does to a space: its new cell is there, where it is kept, and what it lets out is added at number d
  pub record Turned (plus : B → B → B) (before after : W) (i d : ℕ) (new : A) (out : B) : Type 0 where
    pub here : Kept i → cell_at after i ≡ new
    pub added : sum_at after d ≡ plus (sum_at before d) out
    pub cells : (k : ℕ) → k < i → Kept k → cell_at after k ≡ cell_at before k
    pub sums : (k : ℕ) → Later i k → k ≢ d → sum_at after k ≡ sum_at before k

  -- the space after the first i elements
  pub record Held
      (none : B) (plus : B → B → B) (down : ℕ → ℕ) (cell : ℕ → B → A → A) (let_out : ℕ → A → A → B) (old : ℕ → A)
      (space : W) (i : ℕ)
      : Type 0 where
    pub left : sum_at space 0 ≡ drained none plus 0 (walked none plus down cell let_out old i)
    pub waiting : (k : ℕ) → i < k → sum_at space k ≡ drained none plus k (walked none plus down cell let_out old i)
    pub done : (k : ℕ) → k < i → Kept k → cell_at space k ≡ new_cell none plus down cell let_out old k
