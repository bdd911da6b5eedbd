-- Document 02, M-106: more rain, at least as much water.
use Prim.Native.Nat.{ℕ, zero, suc, ◌≤◌}
use mathlib.Core.Bool.{false}
use mathlib.Core.List.{List}
use mathlib.Core.Path.{◌≡◌, sym, ap, ◌∙◌}
use native.Mathlib.Omega.{arith}
use lib.ListN.{length}
use Rattle.sizes.specs.Sizes.{most_places, state_numbers}
use Rattle.refusal.specs.Answers.{accepted}
use Rattle.method.specs.declared.Figures.{Figures}
use Rattle.table.specs.Tables.{TableValues}
use Rattle.table.specs.InUse.{table_in}
use Rattle.cells.specs.Cells.{last_cell, cells}
use Rattle.cells.proofs.CellLaws.{last-in-use}
use Rattle.cells.proofs.BoundsLaws.{cells-bounds}
use Rattle.state.specs.States.{State}
use Rattle.state.proofs.StateLaws.{started-length}
use Rattle.entries.specs.Entries.{start_answer}
use Rattle.claim.specs.Calls.{Call, Place}
use Rattle.claim.specs.CabinetRun.{start_outcome}
use Rattle.claim.specs.Claim.{Pairwise, none, more, outcomes}
use Rattle.claim.proofs.AcceptedLaws.{starting}
use Rattle.more_rain.specs.MoreRain.{MoreRain, records_of, AcceptedWhole, TwoStorms, EachHandedOut, WhereBoth, AtLeastAsMuchWater}
use Rattle.more_rain.proofs.StateLaws.{MoreWater, same_start, more-stepped, more-at-lead}
use Rattle.more_rain.proofs.HandedLaws.{state_at, AtItsPlace, each-follows, state-placed, run-placed}

module _ (t : TableValues) (few : (cells t).elements ≤ most_places) where
  -- the states after the same number of records
  states-more :
      (k : ℕ) {s s* : State} {records records* : List (List ℕ)}
      → MoreWater t s s*
      → Pairwise (MoreRain t) records records*
      → MoreWater t (state_at t s records k) (state_at t s* records* k)
  unfolding state_at
  states-more zero m rest = m
  states-more (suc k) m none = m
  states-more (suc k) m (more r rest) = states-more k (more-stepped t few m _ _ r) rest

  -- what both hand out at one place
  where-both :
      (s : State) (records records* : List (List ℕ))
      → length s ≡ state_numbers
      → Pairwise (MoreRain t) records records*
      → (one other : Place × Figures)
      → AtItsPlace t s records one
      → AtItsPlace t s records* other
      → WhereBoth one other
  unfolding WhereBoth
  where-both s records records* full storms one other p q same =
      let place = sym p.place ∙ (same ∙ q.place) in
      let done : p.done ≡ q.done = omega (arith, ap (λ (x : Place). x.steps) place) in
      let element : p.element ≡ q.element = omega (arith, ap (λ (x : Place). x.element) place) in
      rw (p.figures, q.figures, done, element, same)
      (more-at-lead t few (states-more q.done (same_start t s full) storms) other.0.lead (last_cell t q.element) (last-in-use t q.element q.inside))

-- each figure of a list whose steps are accepted, the start's own first
all_placed :
    (table : List ℕ) (s : State)
    → (cells (table_in table)).elements ≤ most_places
    → length s ≡ state_numbers
    → (calls : List Call)
    → AcceptedWhole table s calls
    → EachHandedOut (AtItsPlace (table_in table) s (records_of calls)) (outcomes table s calls)
unfolding AcceptedWhole outcomes start_outcome
all_placed table s few full calls h =
    more (state-placed (table_in table) s (records_of calls)) (run-placed table few s (λ k. false) full calls h)

-- "from one fresh start", on any state: any numbers, as many as a state has
pub more-rain :
    (table : List ℕ) (any s : State)
    → length any ≡ state_numbers
    → start_answer table any ≡ accepted s
    → (first second : List Call)
    → TwoStorms table s first second
    → AtLeastAsMuchWater table s first second
unfolding AtLeastAsMuchWater
more-rain table any s full start first second storms =
    let begun = starting table any s start in
    let t = table_in table in
    let few = (cells-bounds t begun.bounds).elements_most in
    let whole = ap length begun.state ∙ started-length t any full few in
    each-follows
    (λ one p.
    each-follows (λ other q. where-both t few s (records_of first) (records_of second) whole storms.records one other p q)
    (all_placed table s few whole second storms.second_accepted))
    (all_placed table s few whole first storms.first_accepted)
