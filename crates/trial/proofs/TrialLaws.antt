-- The figures of a trial: those that the step would leave, laid out from the working space; its rules in checking order.
use Prim.{Unit}
use Rattle.std.specs.Prelude.{Result, Ok, Err, IsErrAnd}
use Rattle.refusal.specs.Answers.{accepted, rule, answer_of}
use Rattle.state_rules.proofs.JudgedLaws.{judged-refused}
use Prim.Native.Nat.{ℕ, zero, suc, ◌+◌, ◌*◌, ◌≤◌, ◌<◌}
use mathlib.Core.List.{List, ◌++◌}
use mathlib.Core.Path.{◌≡◌, refl, sym, ap, ◌∙◌}
use native.Mathlib.Nat.{mul-one}
use native.Mathlib.Omega.{arith}
use lib.ListN.{length, take, drop, length-drop}
use Rattle.sizes.specs.Sizes.{most_places}
use Rattle.refusal.specs.declared.Refusal.{Refusal}
use Rattle.table.specs.Tables.{TableValues}
use Rattle.table.specs.KindCounts.{extra_count}
use Rattle.table.specs.InUse.{table_in}
use Rattle.cells.specs.Cells.{cell_place, last_cell, cells}
use Rattle.cells.proofs.CellLaws.{last-most, last-place}
use Rattle.method.specs.declared.Figures.{Figures}
use Rattle.record.specs.Records.{input_at}
use Rattle.state.specs.States.{State}
use Rattle.state.specs.Rules.{state_fits}
use Rattle.network.specs.Step.{stepped}
use Rattle.network.specs.Forecast.{lead_figures}
use Rattle.method.specs.Figures.{layout}
use Rattle.network.proofs.StepLaws.{stepped-figures}
use Rattle.method.proofs.LayoutLaws.{layout-length}
use Rattle.network.proofs.LayoutLaws.{by-lead-length}
use Rattle.network.proofs.LentLaws.{lent-refused, figures-lent}
use Rattle.answer_space.specs.Places.{figures_at}
use Rattle.next_state.specs.Written.{FiguresHeld}
use Rattle.leads.proofs.LayoutLaws.{figures-after, answer-laid}
use Rattle.entries.specs.Entries.{step_rules}
use Rattle.entries.specs.Trials.{state_figures, tried_answer}
use Rattle.record_step.specs.Judged.{worked_answer, RiverGiven, RecordWorked}
use Rattle.record_step.proofs.StepLaws.{err-passed, worked-accepted, worked-refused}
use Rattle.trial.specs.Held.{TrialHeld}

-- so many tanks above the last of their elements
pub all-tanks :
    {table : List ℕ} {n extra basins dams : ℕ} {s : State}
    → RiverGiven table n extra basins dams s
    → RiverGiven table n (extra_count (table_in table)) basins dams s
all-tanks g =
    record {
      accepts = g.accepts;
      elements = g.elements;
      extra_all = refl;
      basins_all = g.basins_all;
      dams_all = g.dams_all;
      fits = g.fits;
    }

module _ (table bytes : List ℕ) (s : State) where
  abbrev t : TableValues
  t = table_in table

  abbrev next : State
  next = stepped t (input_at (cells t) bytes) s

  -- 8
  pub state-refused :
      (out : List ℕ) (v : Result Unit Refusal) (r : Result ℕ Refusal) (k : Refusal)
      → answer_of v ≡ rule {A = Unit} 8 (state_fits t s) (accepted tt)
      → v ≡ Err k
      → IsErrAnd r (λ (e : Refusal). e ≡ k)
      → TrialHeld r out table bytes s out
  unfolding step_rules
  state-refused out v r k h e p =
      let j = judged-refused t s (sym (ap answer_of e) ∙ h) in
      rw (err-passed r k p) (lent-refused out _ k (rw (j.0, j.1)))

  -- the other rules are the step's, with 15
  tried-as : (room : ℕ) → step_rules t bytes s (tried_answer t bytes s room) ≡ worked_answer t bytes s room (state_figures t next)
  unfolding tried_answer worked_answer
  tried-as room = refl

  module _ {v : Result Unit Refusal} {space : List Figures} (out : List ℕ) (w : RecordWorked v space t bytes s (length out)) where
    rules-refused : (k : Refusal) → v ≡ Err k → TrialHeld (Err k) out table bytes s out
    rules-refused k e =
        lent-refused out _ k (tried-as (length out) ∙ worked-refused t bytes s (length out) _ (sym w.decided ∙ ap answer_of e))

    module _ (few : t.elements + extra_count t ≤ most_places) (room : t.elements + 1 ≤ length space) where
      unfoldable figures : ℕ → ℕ → Figures
      figures i lead = lead_figures t next lead (last_cell t i)

      -- the figures stand after the place of what leaves the river, of tanks those of the last
      laid : FiguresHeld space t bytes s → take t.elements (drop 1 space) ≡ state_figures t next
      unfolding state_figures lead_figures cells figures
      laid h =
          ap (λ (k : ℕ). take k (drop 1 space)) (sym (mul-one t.elements))
          ∙ answer-laid (drop 1 space) figures t.elements 1 at (omega (arith, room, length-drop 1 space))
        where
          at : (i lead : ℕ) → i < t.elements → lead < 1 → figures_at (drop 1 space) (i * 1 + lead) ≡ figures i lead
          at i zero l m =
              let used : last_cell t i < t.elements + extra_count t = last-most t i l in
              let place : 1 + (i * 1 + 0) ≡ cell_place t (last_cell t i) + 1 = omega (arith, last-place t i l) in
              figures-after space 1 (i * 1 + 0)
              ∙ (ap (figures_at space) place
              ∙ (h.at (last_cell t i) used ∙ sym (stepped-figures t (input_at (cells t) bytes) s w.whole few (last_cell t i) used)))
          at i (suc lead) l m = absurd (omega arith)

      layout-size : length (layout (state_figures t next)) ≡ 4 * t.elements
      unfolding state_figures figures
      layout-size = layout-length _ ∙ same (by-lead-length figures t.elements 1)
        where
          same : {n : ℕ} → n ≡ t.elements * 1 → 4 * n ≡ 4 * t.elements
          same e = omega (arith, e)

      all-written :
          {n : ℕ} {after : List ℕ}
          → v ≡ (Ok tt)
          → n ≡ t.elements
          → after ≡ layout (take n (drop 1 space)) ++ drop (4 * n) out
          → TrialHeld (Ok (4 * n)) after table bytes s out
      all-written e is a =
          figures-lent out (tried-as (length out) ∙ worked-accepted t bytes s (length out) _ (sym w.decided ∙ ap answer_of e)) layout-size
          (rw (is, laid (w.held e)) at a) (ap (λ (k : ℕ). 4 * k) is)

  -- the answer by what was worked out
  module _ {n extra basins dams : ℕ} (g : RiverGiven table n extra basins dams s) (out : List ℕ) {v : Result Unit Refusal} {space : List Figures}
      (w : RecordWorked v space t bytes s (length out)) where
    pub figures-ready : n + 1 ≤ length space → v ≡ Ok tt → (n < length space) × (4 * n ≤ length out)
    figures-ready room e = (omega (arith, room), omega (arith, w.enough e, g.elements))

    pub trial-refused : (r : Result ℕ Refusal) (k : Refusal) → v ≡ Err k → IsErrAnd r (λ (e : Refusal). e ≡ k) → TrialHeld r out table bytes s out
    trial-refused r k e p = rw (err-passed r k p) (rules-refused out w k e)

    pub trial-accepted :
        {after : List ℕ}
        → n + 1 ≤ length space
        → v ≡ Ok tt
        → after ≡ layout (take n (drop 1 space)) ++ drop (4 * n) out
        → TrialHeld (Ok (4 * n)) after table bytes s out
    trial-accepted room e a = all-written out w g.accepts.bounds.places_most (omega (arith, room, g.elements)) e g.elements a
