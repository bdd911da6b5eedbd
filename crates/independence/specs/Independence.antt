-- Document 02, M-102: "two accepted trials from one state that differ in one gauge's reading, or in its being a gap, agree at every element
-- that this gauge's water does not reach." Gauges are counted from 0; elements too, unless they go by their numbers, from 1.
use Rattle.std.specs.Prelude.{ℕ, ◌+◌, ◌*◌, ◌<◌, List, ◌≢◌, ◌≡◌, length, get_or, Ok}
use Rattle.elements.specs.Kinds.{dam}
use Rattle.table.specs.Tables.{TableValues}
use Rattle.table.specs.KindCounts.{basin_count, dam_count}
use Rattle.record.specs.Records.{rain_at, release_at, reading_at}
use Rattle.state.specs.States.{State}
use Rattle.network.specs.Lent.{Lent}
use Rattle.entries.specs.Trials.{trial_answer}

-- "accepted trials": what the contract of `trial` says of a table, a record, a state and lent numbers, which it has written
pub record AcceptedTrial (table bytes : List ℕ) (s : State) (lent written : List ℕ) : Type 0 where
  pub count : ℕ
  pub answered : Lent (Ok count) written (trial_answer table bytes s (length lent)) lent

-- "that differ in one gauge's reading, or in its being a gap": equal rains, equal releases, and equal readings, stages or gaps, at every
-- gauge but g
pub record DifferAt (t : TableValues) (g : ℕ) (one other : List ℕ) : Type 0 where
  pub rains : (k : ℕ) → k < basin_count t → rain_at one k ≡ rain_at other k
  pub releases : (k : ℕ) → k < dam_count t → release_at one (basin_count t) k ≡ release_at other (basin_count t) k
  pub readings : (k : ℕ) → k < t.gauges → k ≢ g → reading_at t one k ≡ reading_at t other k

-- the numbers of the elements that water from element number `from` reaches: this element, and from each the one that it drains into; M-100:
-- "water draining into [a dam] ends there"
pub data Reached (t : TableValues) (from : ℕ) : ℕ → Type 0 where
  here : Reached t from from
  below : {i k : ℕ} → Reached t from (i + 1) → (t.element i).down ≡ k + 1 → (t.element k).kind ≢ dam → Reached t from (k + 1)

-- "agree": the four numbers of element i, as a trial writes them
pub record Agree (one other : List ℕ) (i : ℕ) : Type 0 where
  pub discharge : get_or one (4 * i) 0 ≡ get_or other (4 * i) 0
  pub discharge_margin : get_or one (4 * i + 1) 0 ≡ get_or other (4 * i + 1) 0
  pub variance : get_or one (4 * i + 2) 0 ≡ get_or other (4 * i + 2) 0
  pub variance_margin : get_or one (4 * i + 3) 0 ≡ get_or other (4 * i + 3) 0

-- "at every element that this gauge's water does not reach"
unfoldable pub AgreeApart : TableValues → ℕ → List ℕ → List ℕ → Type 0
AgreeApart t g one other = (i : ℕ) → i < t.elements → (Reached t (t.gauge g).element (i + 1) → ⊥) → Agree one other i
