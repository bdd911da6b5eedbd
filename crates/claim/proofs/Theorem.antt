-- The mission's third property, whole.
use Prim.Native.Nat.{ℕ}
use mathlib.Core.Bool.{Bool, false}
use mathlib.Core.List.{List, [], ◌∷◌, map}
use mathlib.Core.Path.{◌≡◌, sym, subst}
use lib.ListN.{length}
use Rattle.sizes.specs.Sizes.{state_numbers}
use Rattle.refusal.specs.Answers.{accepted}
use Rattle.exact.specs.Exact.{ExactFigures}
use Rattle.table.specs.Tables.{TableValues}
use Rattle.table.specs.InUse.{table_in}
use Rattle.table.specs.Bounds.{AcceptedBounds}
use Rattle.cells.specs.Cells.{cells}
use Rattle.state.specs.States.{State}
use Rattle.state.specs.Start.{started}
use Rattle.entries.specs.Entries.{start_answer}
use Rattle.exact_run.specs.ExactForecast.{ExactState}
use Rattle.exact_run.specs.ExactRun.{exact_started}
use Rattle.claim.specs.Calls.{Call, Place, paired}
use Rattle.claim.specs.CabinetRun.{Outcome, cabinet_run, start_outcome}
use Rattle.claim.specs.FractionRun.{fraction_run}
use Rattle.claim.specs.Claim.{Pairwise, All, none, more, WithinMargins, UnderLimit, outcomes, fractions, Claim}
use Rattle.claim.proofs.AcceptedLaws.{starting}
use Rattle.claim.proofs.TogetherLaws.{Together, start-together}
use Rattle.claim.proofs.CallLaws.{state-keeps, call-keeps}

-- all calls, from two runs that stand together
module _ (table : List ℕ) (b : AcceptedBounds (table_in table)) where
  -- each hands out figures within their margins
  run-near :
      (calls : List Call) (s : State) (x : ExactState) (has_reading : ℕ → Bool)
      → Together (table_in table) s x has_reading
      → Pairwise (λ (o : Outcome) (y : List (Place × ExactFigures)). Pairwise WithinMargins o.handed y)
      (cabinet_run table s has_reading calls)
      (fraction_run (table_in table) x (paired calls (map (λ (o : Outcome). o.was_refused) (cabinet_run table s has_reading calls))))
  unfolding cabinet_run fraction_run paired
  run-near [] s x has_reading h = none
  run-near (call ∷ calls) s x has_reading h =
      let k = call-keeps table s x has_reading b h call in more k.near (run-near calls _ _ _ k.after)

  -- and under the limit
  run-limit :
      (calls : List Call) (s : State) (x : ExactState) (has_reading : ℕ → Bool)
      → Together (table_in table) s x has_reading
      → All (λ (o : Outcome). All (UnderLimit (table_in table) o.has_reading) o.handed) (cabinet_run table s has_reading calls)
  unfolding cabinet_run
  run-limit [] s x has_reading h = none
  run-limit (call ∷ calls) s x has_reading h =
      let k = call-keeps table s x has_reading b h call in more k.limit (run-limit calls _ _ _ k.after)

-- the two runs stand together after the start
after-start :
    (t : TableValues) (any s : State)
    → AcceptedBounds t
    → length any ≡ state_numbers
    → s ≡ started t any
    → Together t s (exact_started (cells t)) (λ k. false)
after-start t any s b full e =
    subst (λ (n : State). Together t n (exact_started (cells t)) (λ k. false)) (sym e) (start-together t any b full)

-- "Before the mission's list stands one accepted start, on any state": any numbers, as many as a state has
pub the-claim :
    (table : List ℕ) (any s : State)
    → length any ≡ state_numbers
    → start_answer table any ≡ accepted s
    → (calls : List Call)
    → Claim table s calls
unfolding outcomes fractions start_outcome
the-claim table any s full start calls =
    let begun = starting table any s start in
    let t = table_in table in
    let together = after-start t any s begun.bounds full begun.state in
    let first = state-keeps t s (exact_started (cells t)) (λ k. false) begun.bounds together in
    record {
      near = more first.near (run-near table begun.bounds calls s (exact_started (cells t)) (λ k. false) together);
      limit = more first.limit (run-limit table begun.bounds calls s (exact_started (cells t)) (λ k. false) together);
    }
