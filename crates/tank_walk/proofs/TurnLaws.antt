-- The turn of an element at a step or in a forecast, tank by tank: its sums moved to the row of the first tank, one turn a tank, and its last
-- cell in its own row.
use Rattle.rating.specs.declared.RatedReading.{RatedReading}
use Prim.{Unit}
use Rattle.std.specs.Prelude.{Result, Ok, Err, Option}
use Rattle.refusal.specs.Answers.{answer_of}
use Prim.Native.Nat.{ℕ, suc, ◌+◌, ◌*◌, ◌≤◌, ◌<◌}
use mathlib.Core.Bool.{Bool, true, false, cond}
use mathlib.Core.List.{List}
use mathlib.Core.Logic.{◌⊎◌, inl, inr, ◌≢◌, ⊎_elim}
use mathlib.Core.Path.{◌≡◌, refl, sym, ap, subst, ◌∙◌}
use native.Mathlib.Nat.{eq-or-lt_of_le}
use native.Mathlib.Numerals.{add-one}
use native.Mathlib.Omega.{arith}
use borrow.Author.Tests.{eqb-true, eqb-false}
use lib.Dec.{eqb}
use Rattle.refusal.specs.declared.Refusal.{Refusal}
use Rattle.refusal.proofs.RuleLaws.{not-both}
use Rattle.units.proofs.UnderLaws.{Under, under-accepted}
use Rattle.method.specs.declared.Figures.{Figures}
use Rattle.elements.specs.declared.Element.{Element}
use Rattle.table.specs.Tables.{TableValues}
use Rattle.walk.specs.Space.{Later}
use Rattle.elements.specs.Kinds.{tanks, extra_tanks, same_kind}
use Rattle.table.specs.KindCounts.{extra_before}
use Rattle.cells.specs.Cells.{first_cell, last_cell, inlet_of, last_of, tank_of, draining_into, cells}
use Rattle.cells.proofs.CellLaws.{first_next, last-most, last-cell, inner-cell, cell-used, inlet-later}
use Rattle.network.specs.Step.{network_down}
use Rattle.answer_space.specs.Places.{figures_at}
use Rattle.answer_space.proofs.PlacesLaws.{same-element}
use Rattle.one_lead.specs.declared.ElementInput.{ElementInput}
use Rattle.lead_walk.specs.Leads.{numbers_after}
use Rattle.lead_walk.specs.Worked.{drained_at, LeadsDone}
use Rattle.lead_walk.specs.Network.{Inlet, row, closed, opening, inlet_at, Walked}
use Rattle.lead_walk.proofs.NetworkLaws.{new_at, InputOf, TurnRows, walked_same, numbers_at, element-under, walked-opened, walked-again}
use Rattle.tank_walk.specs.Tanks.{RowCleared, RowMoved, TanksWorked, done, refused, more}
use Rattle.tank_walk.specs.Rows.{resting}
use Rattle.tank_walk.proofs.RowLaws.{row_same, opened-here, opened-other, opened-same, tank_row, tank-last, tank-inner, tank-in, rest-first, rest-inner, rest-down, rest-row}

-- where cells drain
module _ (t : TableValues) where
  last-down : (i : ℕ) → i < t.elements → network_down (cells t) (last_cell t i) ≡ inlet_of t (t.element i).down
  unfolding network_down last_of tank_of draining_into
  last-down i l =
      ap (λ (e : Element). e.down) (cell-used t (last_cell t i) (last-most t i l) ∙ last-cell t i l) ∙ go (same_kind (t.element i).kind tanks)
    where
      go :
          (x : Bool)
          → (cond x (tank_of (t.element i) (inlet_of t (t.element i).down)) (draining_into (t.element i) (inlet_of t (t.element i).down))).down
          ≡ inlet_of t (t.element i).down
      go true = refl
      go false = refl

  inner-down : (i j : ℕ) → i < t.elements → j < extra_tanks (t.element i) → network_down (cells t) (first_cell t i + j) ≡ first_cell t i + j + 2
  unfolding network_down tank_of last_cell extra_before
  inner-down i j l m =
      ap (λ (e : Element). e.down)
      (cell-used t (first_cell t i + j) (omega (arith, m, last-most t i l))
      ∙ inner-cell t (tank-in t i j l (omega (arith, m))) (omega (arith, m)))

module _
    (t : TableValues) (own : ℕ → ℕ → Figures) (o : ℕ → (Option RatedReading)) (old : ℕ → ℕ → Figures) (w from leads : ℕ)
    (wide : from + leads ≤ w) (Kept : ℕ → Type 0) (at : ℕ → ℕ) where
  abbrev pub WalkedBy : (ℕ → Inlet) → ℕ → List Figures → Type 0
  WalkedBy inlet i space = Walked (cells t) own o old w from Kept at inlet leads i space

  abbrev pub Rests : ℕ → List Figures → Type 0
  Rests = WalkedBy (resting t)

  other_row : (k j l m : ℕ) → k ≢ j → l < leads → m < leads → k * w + from + l ≢ j * w + from + m
  other_row k j l m n p q e =
      n (same-element w k j (from + l) (from + m) (omega (arith, wide, p)) (omega (arith, wide, q)) (omega (arith, e)))

  -- rows of the cells that are kept: none of a cell before tank j of element i is the row of tank j, or that of an element below; a tank that is
  -- kept stands in its own
  pub record KeptRows (i scratch : ℕ) : Type 0 where
    pub beyond : t.elements < scratch
    pub apart :
        (j k : ℕ)
        → j ≤ extra_tanks (t.element i)
        → k < first_cell t i + j
        → Kept k
        → at k ≢ tank_row scratch (i + 1) (extra_tanks (t.element i)) j
    pub place :
        (j : ℕ)
        → j ≤ extra_tanks (t.element i)
        → Kept (first_cell t i + j)
        → at (first_cell t i + j) ≡ tank_row scratch (i + 1) (extra_tanks (t.element i)) j
    pub below : (k d : ℕ) → k < last_cell t i → Kept k → Later i d → d ≤ t.elements → at k ≢ d

  module _ (i : ℕ) (used : i < t.elements) (scratch : ℕ) (rows : KeptRows i scratch) where
    abbrev extra : ℕ
    extra = extra_tanks (t.element i)

    abbrev cell : ℕ → ℕ
    cell j = first_cell t i + j

    -- the row of tank j, and the inlets before its turn
    abbrev pub tank_at : ℕ → ℕ
    tank_at j = tank_row scratch (i + 1) extra j

    abbrev pub tank_inlet : ℕ → ℕ → Inlet
    tank_inlet j = opening (resting t) (cell j + 1) (tank_at j)

    -- before the turn of tank j each cell after it that water may come to waits in a row of the N elements, not in the element's
    record Waits (k r : ℕ) : Type 0 where
      pub few : r ≤ t.elements
      pub other : r ≢ i + 1
      pub is : k ≡ inlet_of t r

    waits : (j k r : ℕ) → (k ≡ 0) ⊎ (cell j + 1 < k) → resting t k ≡ row r → Waits k r
    unfolding inlet_of
    waits j k r later e =
        let h = rest-row t k r (omega (arith, used)) e in
        record { few = h.used; other = λ q. not_own (h.is ∙ ap (inlet_of t) (q ∙ add-one i)); is = h.is }
      where
        not_own : k ≡ first_cell t i + 1 → ⊥
        not_own q = ⊎_elim (λ z. omega (arith, z, q)) (λ l. omega (arith, l, q)) later

    -- rows of a tank
    tank-cases : (P : ℕ → Type 0) (j : ℕ) → j ≤ extra → (j < extra → P (scratch + j)) → (j ≡ extra → P (i + 1)) → P (tank_at j)
    tank-cases P j l inner last =
        ⊎_elim (λ e. subst P (sym (ap tank_at e ∙ tank-last scratch (i + 1) extra)) (last e))
        (λ m. subst P (sym (tank-inner scratch (i + 1) extra j m)) (inner m)) (eq-or-lt_of_le l)

    waits-apart : (j n k r : ℕ) → j ≤ extra → (k ≡ 0) ⊎ (cell n + 1 < k) → resting t k ≡ row r → r ≢ tank_at j
    waits-apart j n k r l later e =
        let h = waits n k r later e in
        tank-cases (λ p. r ≢ p) j l (λ m q. omega (arith, q, h.few, rows.beyond)) (λ m q. h.other q)

    next-apart : (j : ℕ) → j < extra → tank_at j ≢ tank_at (j + 1)
    next-apart j l =
        tank-cases (λ p. tank_at j ≢ p) (j + 1) (omega (arith, l))
        (λ m q. omega (arith, q, tank-inner scratch (i + 1) extra j l))
        (λ m q. omega (arith, q, used, rows.beyond, tank-inner scratch (i + 1) extra j l))

    -- ---- opening

    -- an element that is one cell
    pub open-one : {space : List Figures} → extra ≡ 0 → Rests (first_cell t i) space → WalkedBy (tank_inlet 0) (cell 0) space
    open-one {space} none h =
        let e : first_cell t i ≡ cell 0 = omega arith in
        subst (λ (c : ℕ). WalkedBy (tank_inlet 0) c space) e
        (walked_same (cells t) own o old w from Kept at (resting t) (tank_inlet 0) leads (first_cell t i) space h
        (λ k q. opened-same (resting t) (cell 0 + 1) (tank_at 0) stands k))
      where
        stands : resting t (cell 0 + 1) ≡ row (tank_at 0)
        stands =
            let e : cell 0 + 1 ≡ first_cell t i + 1 = omega arith in
            ap (resting t) e
            ∙ (rest-first t i used ∙ ap row (sym (ap tank_at (sym none) ∙ tank-last scratch (i + 1) extra)))

    -- an element of tanks: its sums are moved to the first scratch row
    pub open-tanks :
        {before after : List Figures}
        → 0 < extra
        → Rests (first_cell t i) before
        → RowMoved ((i + 1) * w + from) (scratch * w + from) leads before after
        → WalkedBy (tank_inlet 0) (cell 0) after
    unfolding inlet_at
    open-tanks {before} {after} some h m =
        let e : first_cell t i ≡ cell 0 = omega arith in
        subst (λ (c : ℕ). WalkedBy (tank_inlet 0) c after) e
        (walked-opened (cells t) own o old w from Kept at (resting t) leads (first_cell t i) (cell 0 + 1) (tank_at 0) before after h
        (omega arith)
        (λ l n. rw (at_first, stands) (m.moved l n))
        (λ k r l n later apart e. stays r l n (λ q. omega (arith, q, rows.beyond, (rest-row t k r (omega (arith, used)) e).used)))
        (λ l k n less last. stays (at k) l n (λ q. rows.apart 0 k (omega arith) (omega (arith, less)) last (q ∙ sym at_first))))
      where
        at_first : tank_at 0 ≡ scratch
        at_first = tank-inner scratch (i + 1) extra 0 some ∙ omega arith

        stands : resting t (cell 0 + 1) ≡ row (i + 1)
        stands = let e : cell 0 + 1 ≡ first_cell t i + 1 = omega arith in ap (resting t) e ∙ rest-first t i used

        stays : (r l : ℕ) → l < leads → r ≢ scratch → figures_at after (r * w + from + l) ≡ figures_at before (r * w + from + l)
        stays r l n apart = m.others _ (λ k q. other_row r scratch l k apart n q)

    -- ---- the turn of a tank

    module _ (j : ℕ) (less : j < extra) where
      -- the inlets at its turn
      abbrev turn_inlet : ℕ → Inlet
      turn_inlet = opening (tank_inlet j) (cell j + 2) (tank_at (j + 1))

      turn-own : turn_inlet (cell j + 1) ≡ row (tank_at j)
      turn-own =
          opened-other (tank_inlet j) (cell j + 2) (tank_at (j + 1)) (cell j + 1) (λ e. omega (arith, e))
          ∙ opened-here (resting t) (cell j + 1) (tank_at j)

      turn-later : (k : ℕ) → Later (cell j) k → k ≢ cell j + 2 → turn_inlet k ≡ resting t k
      turn-later k later apart =
          opened-other (tank_inlet j) (cell j + 2) (tank_at (j + 1)) k apart
          ∙ opened-other (resting t) (cell j + 1) (tank_at j) k (λ e. ⊎_elim (λ z. omega (arith, z, e)) (λ l. omega (arith, l, e)) later)

      turn-rows : TurnRows (cells t) own o old w from Kept at turn_inlet (cell j) (cell j + 2) (tank_at j) (tank_at (j + 1))
      unfolding last_cell extra_before
      turn-rows =
          record {
            sums = turn-own;
            next = opened-here (tank_inlet j) (cell j + 2) (tank_at (j + 1));
            place = λ e. rows.place j (omega (arith, less)) e;
            others =
                λ k r later apart e.
                let f : resting t k ≡ row r = sym (turn-later k later apart) ∙ e in (
                  waits-apart j j k r (omega (arith, less)) later f,
                  waits-apart (j + 1) j k r (omega (arith, less)) later f,
                );
            kept = λ k l last. (
              rows.apart j k (omega (arith, less)) l last,
              rows.apart (j + 1) k (omega (arith, less)) (omega (arith, l)) last,
            );
          }

      -- the row below has nothing in it
      open_next :
          {before after : List Figures}
          → WalkedBy (tank_inlet j) (cell j) before
          → RowCleared (tank_at (j + 1) * w + from) leads before after
          → WalkedBy turn_inlet (cell j) after
      unfolding inlet_at
      open_next {before} {after} h m =
          walked-opened (cells t) own o old w from Kept at (tank_inlet j) leads (cell j) (cell j + 2) (tank_at (j + 1)) before after h
          (omega arith)
          (λ l n. rw shut (m.cleared l n))
          (λ k r l n later apart e. stays r l n (other k r later apart e))
          (λ l k n q last. stays (at k) l n (rows.apart (j + 1) k (omega (arith, less)) (omega (arith, q)) last))
        where
          shut : tank_inlet j (cell j + 2) ≡ closed
          shut =
              opened-other (resting t) (cell j + 1) (tank_at j) (cell j + 2) (λ e. omega (arith, e)) ∙ rest-inner t i j used less

          stays : (r l : ℕ) → l < leads → r ≢ tank_at (j + 1) → figures_at after (r * w + from + l) ≡ figures_at before (r * w + from + l)
          stays r l n apart = m.others _ (λ k q. other_row r (tank_at (j + 1)) l k apart n q)

          far : (k r : ℕ) → (k ≡ 0) ⊎ (cell j < k) → k ≢ cell j + 1 → tank_inlet j k ≡ row r → r ≢ tank_at (j + 1)
          far k r later apart e =
              waits-apart (j + 1) j k r (omega (arith, less)) (⊎_elim (λ z. inl z) (λ l. inr (next l)) later)
              (sym (opened-other (resting t) (cell j + 1) (tank_at j) k apart) ∙ e)
            where
              next : cell j < k → cell j + 1 < k
              next l = ⊎_elim (λ q. absurd (apart (omega (arith, q)))) (λ m. omega (arith, m)) (eq-or-lt_of_le l)

          other : (k r : ℕ) → (k ≡ 0) ⊎ (cell j < k) → k ≢ cell j + 2 → tank_inlet j k ≡ row r → r ≢ tank_at (j + 1)
          other k r later apart e = go (eqb k (cell j + 1)) refl
            where
              go : (b : Bool) → eqb k (cell j + 1) ≡ b → r ≢ tank_at (j + 1)
              go true q =
                  let is : r ≡ tank_at j = row_same (sym e ∙ (ap (tank_inlet j) (eqb-true k (cell j + 1) q) ∙ opened-here (resting t) (cell j + 1) (tank_at j))) in
                  λ p. next-apart j less (sym is ∙ p)
              go false q = far k r later (eqb-false k (cell j + 1) q) e

      -- one tank more
      module _
          (again : (l k : ℕ) → old (suc l) k ≡ new_at (cells t) own o old w from Kept at l k) (c : ElementInput)
          (of : InputOf (cells t) own o old w from Kept at c (cell j) leads) (first : Figures) (is : first ≡ old 0 (cell j)) where
        pub tank-turn :
            {before cleared after : List Figures}
            → WalkedBy (tank_inlet j) (cell j) before
            → RowCleared (tank_at (j + 1) * w + from) leads before cleared
            → LeadsDone c first (tank_at j * w + from) (tank_at (j + 1) * w + from) leads cleared after
            → WalkedBy (tank_inlet (j + 1)) (cell (j + 1)) after
        tank-turn {before} {cleared} {after} h m g =
            let turned : WalkedBy turn_inlet (cell j + 1) after =
            walked-again (cells t) own o old w from Kept at c (cell j) leads of again first is cleared turn_inlet (open_next h m)
            (tank_at j) turn-own (cell j + 2) (tank_at (j + 1)) (sym (inner-down t i j used less)) wide turn-rows after g in
            let next : cell j + 1 ≡ cell (j + 1) = omega arith in
            subst (λ (n : ℕ). WalkedBy (tank_inlet (j + 1)) n after) next
            (walked_same (cells t) own o old w from Kept at turn_inlet (tank_inlet (j + 1)) leads (cell j + 1) after turned
            (λ k later. same k later))
          where
            same : (k : ℕ) → (k ≡ 0) ⊎ (cell j + 1 < k) → tank_inlet (j + 1) k ≡ turn_inlet k
            same k later = go (eqb k (cell j + 2)) refl
              where
                go : (b : Bool) → eqb k (cell j + 2) ≡ b → tank_inlet (j + 1) k ≡ turn_inlet k
                go true q =
                    let e = eqb-true k (cell j + 2) q in
                    let f : k ≡ cell (j + 1) + 1 = omega (arith, e) in
                    ap (tank_inlet (j + 1)) f ∙ (opened-here (resting t) (cell (j + 1) + 1) (tank_at (j + 1))
                    ∙ sym (ap turn_inlet e ∙ opened-here (tank_inlet j) (cell j + 2) (tank_at (j + 1))))
                go false q =
                    let n = eqb-false k (cell j + 2) q in
                    opened-other (resting t) (cell (j + 1) + 1) (tank_at (j + 1)) k (λ e. n (omega (arith, e))) ∙ sym (turn-later k later n)

    -- ---- the turn of the last cell

    module _ (to : Later i (t.element i).down) (there : (t.element i).down ≤ t.elements) where
      abbrev d : ℕ
      d = (t.element i).down

      abbrev last_inlet : ℕ → Inlet
      last_inlet = opening (resting t) (last_cell t i + 1) (i + 1)

      last-later : (k : ℕ) → Later (last_cell t i) k → last_inlet k ≡ resting t k
      last-later k later =
          opened-other (resting t) (last_cell t i + 1) (i + 1) k (λ e. ⊎_elim (λ z. omega (arith, z, e)) (λ l. omega (arith, l, e)) later)

      last-rows : TurnRows (cells t) own o old w from Kept at last_inlet (last_cell t i) (inlet_of t d) (i + 1) d
      unfolding last_cell extra_before
      last-rows =
          record {
            sums = opened-here (resting t) (last_cell t i + 1) (i + 1);
            next = last-later (inlet_of t d) (inlet-later t i d to) ∙ rest-down t d there;
            place = λ e. last-at e;
            others = λ k r later apart e. other k r later apart (sym (last-later k later) ∙ e);
            kept =
                λ k l q.
                (λ e. rows.apart extra k (omega arith) (omega (arith, l)) q (e ∙ sym (tank-last scratch (i + 1) extra)), rows.below k d l q to there);
          }
        where
          last-at : Kept (last_cell t i) → at (last_cell t i) ≡ i + 1
          last-at q =
              let e : cell extra ≡ last_cell t i = omega arith in
              subst (λ (c : ℕ). Kept c → at c ≡ i + 1) e (λ k. rows.place extra (omega arith) k ∙ tank-last scratch (i + 1) extra) q

          other : (k r : ℕ) → Later (last_cell t i) k → k ≢ inlet_of t d → resting t k ≡ row r → (r ≢ i + 1) × (r ≢ d)
          other k r later apart e =
              let h = rest-row t k r (omega (arith, used)) e in
              ((waits extra k r (⊎_elim (λ z. inl z) (λ l. inr (omega (arith, l))) later) e).other, λ q. apart (h.is ∙ ap (inlet_of t) q))

      -- all tanks are done but the last
      pub last-ready : {space : List Figures} → WalkedBy (tank_inlet extra) (cell extra) space → WalkedBy last_inlet (last_cell t i) space
      unfolding last_cell extra_before
      last-ready {space} h =
          let e : cell extra ≡ last_cell t i = omega arith in
          subst (λ (n : ℕ). WalkedBy (opening (resting t) (n + 1) (i + 1)) n space) e
          (subst (λ (r : ℕ). WalkedBy (opening (resting t) (cell extra + 1) r) (cell extra) space)
          (tank-last scratch (i + 1) extra) h)

      -- one element more
      pub last_turn :
          ((l k : ℕ) → old (suc l) k ≡ new_at (cells t) own o old w from Kept at l k)
          → (c : ElementInput)
          → InputOf (cells t) own o old w from Kept at c (last_cell t i) leads
          → (first : Figures)
          → first ≡ old 0 (last_cell t i)
          → {before after : List Figures}
          → WalkedBy last_inlet (last_cell t i) before
          → LeadsDone c first ((i + 1) * w + from) (d * w + from) leads before after
          → Rests (first_cell t (i + 1)) after
      last_turn again c of first is {before} {after} h g =
          let turned : WalkedBy last_inlet (last_cell t i + 1) after =
          walked-again (cells t) own o old w from Kept at c (last_cell t i) leads of again first is before last_inlet h
          (i + 1) (opened-here (resting t) (last_cell t i + 1) (i + 1)) (inlet_of t d) d (sym (last-down t i used)) wide last-rows after g in
          subst (λ (n : ℕ). Rests n after) (sym (first_next t i))
          (walked_same (cells t) own o old w from Kept at last_inlet (resting t) leads (last_cell t i + 1) after turned
          (λ k later. sym (last-later k later)))

    -- ---- the code's tanks, one after the other

    module _
        (again : (l k : ℕ) → old (suc l) k ≡ new_at (cells t) own o old w from Kept at l k) (c : ElementInput)
        (of : (j : ℕ) → j < extra → InputOf (cells t) own o old w from Kept at c (cell j) leads) (first : ℕ → Figures)
        (is : (j : ℕ) → j < extra → first j ≡ old 0 (cell j)) where
      abbrev pub TanksAt : ℕ → Result Unit Refusal → List Figures → List Figures → Type 0
      TanksAt = TanksWorked c first (λ j. tank_at j * w + from) leads extra

      pub tanks-walked :
          {j : ℕ} {r : Result Unit Refusal} {before after : List Figures}
          → TanksAt j r before after
          → r ≡ (Ok tt)
          → WalkedBy (tank_inlet j) (cell j) before
          → WalkedBy (tank_inlet extra) (cell extra) after
      tanks-walked {before = before} (done e) a h = subst (λ (n : ℕ). WalkedBy (tank_inlet n) (cell n) before) e h
      tanks-walked (refused l e m) a h = absurd (not-both (ap answer_of a) refl)
      tanks-walked {j} (more l e m rest) a h =
          tanks-walked rest a (tank-turn j l again c (of j l) (first j) (is j l) h m.row (m.worked.done e))

      -- 16 at one of them: some number of the network passes
      pub tanks-refused :
          {j : ℕ} {r : Result Unit Refusal} {k : Refusal} {before after : List Figures}
          → TanksAt j r before after
          → r ≡ Err k
          → WalkedBy (tank_inlet j) (cell j) before
          → ((l : ℕ) → l < leads → Under (numbers_at (cells t) own o old w from Kept at l (cells t).elements))
          → ⊥
      unfolding cells last_cell extra_before
      tanks-refused (done e) a h u = not-both refl (ap answer_of a)
      tanks-refused {j} (refused l e m) a h u =
          not-both (sym (under-accepted tt _ under)) (sym m.worked.verdict ∙ ap answer_of e)
        where
          under : Under (numbers_after c (first j) (drained_at m.middle (tank_at j * w + from)) leads)
          under =
              element-under (cells t) own o old w from Kept at c (cell j) leads (of j l) again (first j) (is j l) m.middle
              (turn_inlet j l) (open_next j l h m.row) (tank_at j) (turn-own j l) (cells t).elements (omega (arith, l, last-most t i used)) u
      tanks-refused {j} (more l e m rest) a h u =
          tanks-refused rest a (tank-turn j l again c (of j l) (first j) (is j l) h m.row (m.worked.done e)) u
