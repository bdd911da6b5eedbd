-- Laws of the table that the input begins with.
use Rattle.std.specs.Prelude.{Result, Ok, Err}
use Prim.{Unit}
use Prim.Native.Nat.{ℕ, ◌+◌, ◌≤◌, ◌<◌, min}
use mathlib.Core.Bool.{Bool, true, false}
use mathlib.Core.List.{List}
use mathlib.Core.Path.{◌≡◌, refl, sym, ap, ◌∙◌}
use native.Mathlib.Omega.{arith}
use native.Mathlib.Nat.{le_refl, min-eq_left, min-eq_right}
use borrow.Author.Tests.{leb-true, leb-false, le-leb, lt-leb}
use lib.Dec.{leb}
use lib.ListN.{length, take, drop, length-take, drop_of_length-le}
use lib.Seq.{take_all, length-take-le}
use Rattle.sizes.specs.Sizes.{state_numbers, table_bytes}
use Rattle.refusal.specs.Answers.{Answer, accepted, refused}
use Rattle.refusal.specs.declared.Refusal.{Refusal}
use Rattle.refusal.proofs.RuleLaws.{not-both, rule-kept}
use Rattle.fields.specs.Bytes.{number32}
use Rattle.table.specs.declared.Counts.{Counts}
use Rattle.table.specs.Rules.{length_fits, table_rules}
use Rattle.table.specs.Bounds.{TableBounds}
use Rattle.table.specs.InUse.{table_in}
use Rattle.cells.specs.Cells.{cells}
use Rattle.cells.proofs.BoundsLaws.{cells-bounds}
use Rattle.table.proofs.TableLaws.{rules-accepted, rules-refused}
use Rattle.state.specs.States.{State}
use Rattle.state.specs.Start.{started}
use Rattle.state.specs.Rules.{state_fits}
use Rattle.state.proofs.StateLaws.{started-length}
use Rattle.entries.specs.Entries.{start_answer}
use Rattle.entries.proofs.NextLaws.{started-fits}
use Rattle.table_input.specs.Start.{table_part, input_answer}
use Rattle.table_input.specs.Starts.{TableEnd, StartedOn, InputAccepted, InputStarted}

-- ---- where the table ends

-- no byte at all is refused 1
nothing : (input : List ℕ) (s : State) → start_answer (take 0 input) s ≡ refused 1
unfolding start_answer table_rules length_fits
nothing input s = refl

pub too_long : (input : List ℕ) (n : ℕ) → n ≡ number32 input 0 → table_bytes < n + 4 → TableEnd input 0
unfolding input_answer
too_long input n e h =
    let l : leb (number32 input 0 + 4) table_bytes ≡ false = lt-leb (number32 input 0 + 4) table_bytes (omega arith) in
    record {
      within = omega arith;
      judged = λ s. rw l (sym (nothing input s));
      bytes = λ t. absurd (let z : ◌≡◌ {A = ℕ} 0 1 = cc in omega arith);
      after = λ t. absurd (let z : ◌≡◌ {A = ℕ} 0 1 = cc in omega arith);
    }

ends_at :
    (input : List ℕ) (size : ℕ)
    → number32 input 0 + 4 ≤ table_bytes
    → size ≤ length input
    → take size input ≡ table_part input
    → drop size input ≡ drop (number32 input 0 + 4) input
    → TableEnd input size
unfolding input_answer
ends_at input size few within t d =
    record { within = within; judged = λ s. rw (le-leb _ _ few, t); bytes = λ l. t; after = λ l. d }

pub table-end :
    (input : List ℕ) (n : ℕ) → n ≡ number32 input 0 → n + 4 ≤ table_bytes → TableEnd input (min (length input) (n + 4))
unfolding table_part
table-end input n e few = go (leb (n + 4) (length input)) refl
  where
    go : (x : Bool) → leb (n + 4) (length input) ≡ x → TableEnd input (min (length input) (n + 4))
    go true h =
        let there = leb-true (n + 4) (length input) h in
        rw (min-eq_right there) (ends_at input (n + 4) (omega arith) there (ap (λ k. take (k + 4) input) e) (ap (λ k. drop (k + 4) input) e))
    go false h =
        let short : length input ≤ number32 input 0 + 4 = omega (arith, leb-false (n + 4) (length input) h) in
        let all : length input ≤ length input = le_refl _ in
        let less : length input ≤ n + 4 = omega (arith, leb-false (n + 4) (length input) h) in
        rw (min-eq_left less)
        (ends_at input (length input) (omega arith) all (take_all _ input all ∙ sym (take_all _ input short))
        (drop_of_length-le input all ∙ sym (drop_of_length-le input short)))

-- ---- the start on it

module _ (bytes : List ℕ) (s : State) where
  pub start-accepted :
      {after : State} → table_rules {A = Unit} bytes (accepted tt) ≡ accepted tt → after ≡ started (table_in bytes) s → start_answer bytes s ≡ accepted after
  unfolding start_answer
  start-accepted k h = rw h (rules-accepted bytes _ k)

  pub start-refused : {k : ℕ} → table_rules {A = Unit} bytes (accepted tt) ≡ refused k → start_answer bytes s ≡ refused k
  unfolding start_answer
  start-refused r = rules-refused bytes _ r

module _ (input : List ℕ) (s after : State) (found : input_answer input s ≡ accepted after) where
  -- an accepted table is not too long
  not-long : leb (number32 input 0 + 4) table_bytes ≡ true
  unfolding input_answer
  not-long = (rule-kept 1 (leb (number32 input 0 + 4) table_bytes) _ found).0

  started-part : start_answer (table_part input) s ≡ accepted after
  unfolding input_answer
  started-part = (rule-kept 1 (leb (number32 input 0 + 4) table_bytes) _ found).1

-- what an accepted start tells: the table's rules let it through, and the state is theirs
started-as :
    (bytes : List ℕ) (s after : State)
    → start_answer bytes s ≡ accepted after
    → (table_rules {A = Unit} bytes (accepted tt) ≡ accepted tt) × (after ≡ started (table_in bytes) s)
unfolding start_answer
started-as bytes s after h = go (table_rules {A = Unit} bytes (accepted tt)) refl
  where
    go :
        (rules : Answer Unit)
        → table_rules {A = Unit} bytes (accepted tt) ≡ rules
        → (table_rules {A = Unit} bytes (accepted tt) ≡ accepted tt) × (after ≡ started (table_in bytes) s)
    go (accepted u) r = let k = rules-accepted bytes (accepted (started (table_in bytes) s)) r in (r, cc)
    go (refused k) r = absurd (not-both h (rules-refused bytes (accepted (started (table_in bytes) s)) r))

pub started-input :
    (input : List ℕ) (size : ℕ) (s after : State) (counts : Result Counts Refusal) (weights : List ℕ)
    → TableEnd input size
    → StartedOn (take size input) s counts weights after
    → InputStarted input s counts size weights after
started-input input size s after (Ok counts) weights t o =
    let found = t.judged s ∙ o.answered in
    record {
      answered = found;
      fits = o.fits;
      bytes = t.bytes (not-long input s after found);
      rest = t.after (not-long input s after found);
    }
started-input input size s after (Err k) weights t o = (t.judged s ∙ o.0, o.1)

-- what an accepted start leaves is a state that rule 8 accepts, and as long as before
module _
    (input : List ℕ) (s after : State) (counts : Counts) (size : ℕ) (weights : List ℕ) (full : length s ≡ state_numbers)
    (o : InputAccepted input s counts size weights after) where
  begun : (table_rules {A = Unit} (take size input) (accepted tt) ≡ accepted tt) × (after ≡ started (table_in (take size input)) s)
  begun = started-as (take size input) s after (rw o.bytes (started-part input s after o.answered))

  pub started-input-kept : table_rules {A = Unit} (take size input) (accepted tt) ≡ accepted tt
  started-input-kept = begun.0

  started-here : after ≡ started (table_in (take size input)) s
  started-here = begun.1

  -- an accepted table has at most as many bytes as the longest
  pub started-input-short : size ≤ length input → size ≤ table_bytes
  unfolding table_part
  started-input-short within =
      let few = leb-true (number32 input 0 + 4) table_bytes (not-long input s after o.answered) in
      let all = length-take-le size input within in
      let part = ap length o.bytes ∙ length-take (number32 input 0 + 4) input in
      omega (arith, few, all, part)

  started-bounds : TableBounds (cells (table_in (take size input)))
  started-bounds = cells-bounds _ o.fits.counted.counted.table.bounds

  pub started-input-fits : state_fits (table_in (take size input)) after ≡ true
  started-input-fits = rw started-here (started-fits (table_in (take size input)) s started-bounds full)

  pub started-input-length : length after ≡ state_numbers
  started-input-length =
      rw started-here (started-length (table_in (take size input)) s full started-bounds.elements_most)
