-- The leads of one element, one after the other.
use Prim.{Unit}
use Rattle.std.specs.Prelude.{Result, Ok, Err, IsErrAnd}
use Rattle.std.proofs.lemmas.Result.{err_from_is_err_and}
use Rattle.refusal.specs.Answers.{answer_of}
use Prim.Native.Nat.{ℕ, zero, suc, ◌+◌, ◌≤◌, ◌<◌}
use mathlib.Core.List.{List}
use mathlib.Core.Logic.{◌≢◌, ⊎_elim, inl, inr}
use mathlib.Core.Path.{◌≡◌, refl, sym, ap, subst, ◌∙◌}
use native.Mathlib.Nat.{add-zero, eq-or-lt_of_le}
use native.Mathlib.Decide.{dec_le}
use native.Mathlib.Numerals.{add-one}
use native.Mathlib.Omega.{arith}
use lib.ListN.{length}
use Rattle.refusal.specs.declared.Refusal.{Refusal}
use Rattle.refusal.proofs.RuleLaws.{not-both}
use Rattle.units.proofs.UnderLaws.{Under, none-under, parts-under, both_under, under-accepted, known_under, refused-whole}
use Rattle.units.proofs.CeilingLaws.{same-accepted, same-refused, passed-on}
use Rattle.method.specs.declared.Figures.{Figures}
use Rattle.method.specs.Figures.{FiguresFit}
use Rattle.method.specs.Inflow.{joined_inflow, old_outflow, old_and_new_outflow}
use Rattle.answer_space.specs.Places.{figures_at, added, most_sum_before}
use Rattle.one_lead.specs.declared.ElementInput.{ElementInput}
use Rattle.one_lead.specs.declared.Lead.{Lead}
use Rattle.one_lead.specs.Leads.{lead_step, lead_step_numbers}
use Rattle.one_lead.specs.Worked.{step_lead, LeadReady, LeadWorked}
use Rattle.one_lead.proofs.LeadLaws.{step-worked}
use Rattle.lead_walk.specs.Leads.{figures_after, numbers_after}
use Rattle.lead_walk.specs.Worked.{Apart, LeadPlaces, drained_at, LeadsDone, ElementWorked}

-- a lead, as the code has it
abbrev lead_at : ElementInput → ℕ → ℕ → ℕ → Lead
lead_at c here below m = record { number = c.first_lead + m; here = here + m; below = below + m }

-- the numbers of each lead, and of all
module _ (c : ElementInput) (first : Figures) (above : ℕ → Figures) where
  abbrev pub lead_part : ℕ → List ℕ
  lead_part l = lead_step_numbers c (c.first_lead + l) (above l) (figures_after c first above l)

  pub part_of : (l n : ℕ) → l < n → Under (numbers_after c first above n) → Under (lead_part l)
  unfolding numbers_after
  part_of l zero m u = absurd (omega arith)
  part_of l (suc n) m u =
      let p = parts-under (numbers_after c first above n) (lead_part n) u in
      ⊎_elim (λ e. subst (λ (k : ℕ). Under (lead_part k)) (sym e) p.1) (λ k. part_of l n k p.0)
      (eq-or-lt_of_le (omega arith))

  pub all-parts : (n : ℕ) → ((l : ℕ) → l < n → Under (lead_part l)) → Under (numbers_after c first above n)
  unfolding numbers_after
  all-parts zero h = none-under
  all-parts (suc n) h = both_under _ _ (all-parts n (λ l m. h l (omega arith))) (h n (omega arith))

module _ (c : ElementInput) (first : Figures) (here below : ℕ) (before : List Figures) where
  abbrev along : ℕ → Figures
  along = figures_after c first (drained_at before here)

  abbrev numbers : ℕ → List ℕ
  numbers = numbers_after c first (drained_at before here)

  -- no lead yet
  done-begin : FiguresFit first → LeadsDone c first here below 0 before before
  unfolding figures_after numbers_after
  done-begin fits =
      record {
        under = none-under;
        fits = λ l m. start l (omega arith);
        placed = λ l m. absurd (omega arith);
        added = λ l m. absurd (omega arith);
        others = λ p a b. refl;
      }
    where
      start : (l : ℕ) → l ≡ 0 → FiguresFit (along l)
      start l e = rw e fits

  first-is : first ≡ along 0
  unfolding figures_after
  first-is = refl

  -- one lead more, of m leads done out of `leads`
  module _
      (m leads : ℕ) (now : List Figures) (old : Figures) (h : LeadsDone c first here below m before now) (is : old ≡ along m)
      (less : m < leads) (apart : Apart here below leads) where
    -- the places of this lead are as before
    own-apart : (l : ℕ) → l < m → below + m ≢ here + l
    own-apart l k e = ⊎_elim (λ a. omega arith) (λ b. omega arith) apart

    here-apart : (l : ℕ) → l < m → here + m ≢ below + l
    here-apart l k e = ⊎_elim (λ a. omega arith) (λ b. omega arith) apart

    places-apart : below + m ≢ here + m
    places-apart e = ⊎_elim (λ a. omega arith) (λ b. omega arith) apart

    above-is : figures_at now (here + m) ≡ drained_at before here m
    above-is = h.others (here + m) (λ l k e. omega arith) here-apart

    below-is : figures_at now (below + m) ≡ figures_at before (below + m)
    below-is = h.others (below + m) own-apart (λ l k e. omega arith)

    -- what the lead works out is the next of the element's figures
    step_is : lead_step c (c.first_lead + m) (figures_at now (here + m)) old ≡ along (suc m)
    unfolding figures_after
    step_is = rw (above-is, is)

    numbers-are :
        lead_step_numbers c (c.first_lead + m) (figures_at now (here + m)) old ≡ lead_part c first (drained_at before here) m
    numbers-are = rw (above-is, is)

    module _ (r : Result Figures Refusal) (next : List Figures) (w : LeadWorked (old_and_new_outflow old) r c (lead_at c here below m) old now next) where
      -- it is refused, and with it the element
      element-refused :
          {s : Result Unit Refusal} {k : Refusal}
          → r ≡ Err k
          → IsErrAnd s (λ (e : Refusal). e ≡ k)
          → ElementWorked s c first here below leads before next
      element-refused {s} e passed =
          let p = err_from_is_err_and s passed in
          let a = sym (ap answer_of e) ∙ w.answer in
          rw (p.1, p.2) (record {
            verdict =
                passed-on _ _ a
                (sym (refused-whole tt _ (numbers leads) (λ u. rw numbers-are (part_of c first _ m leads less u)) (sym (same-refused _ tt _ a))));
            done = λ d. absurd (not-both (ap answer_of d) refl);
          })

      module _ (x : Figures) (e : r ≡ Ok x) where
        step-known : (x ≡ lead_step c (c.first_lead + m) (figures_at now (here + m)) old) × Under (lead_part c first (drained_at before here) m)
        step-known =
            let a = sym (ap answer_of e) ∙ w.answer in
            ((same-accepted _ first _ a).0, rw numbers-are at (known_under _ _ a))

        x-is : x ≡ along (suc m)
        x-is = step-known.0 ∙ step_is

        below-now : figures_at next (below + m) ≡ joined_inflow (figures_at before (below + m)) (old_and_new_outflow (along m) (along (suc m)))
        below-now = (w.kept x e).added ∙ rw (below-is, is, x-is)

        other-now : (p : ℕ) → p ≢ here + m → p ≢ below + m → figures_at next p ≡ figures_at now p
        other-now = (w.kept x e).others

        under_more : Under (numbers (suc m))
        unfolding numbers_after
        under_more = both_under _ _ h.under step-known.1

        placed-more : (l : ℕ) → l < suc m → figures_at next (here + l) ≡ along (suc l)
        placed-more l n =
            ⊎_elim (λ q. rw q ((w.kept x e).placed ∙ x-is))
            (λ k. other-now (here + l) (λ q. omega (arith, q, k)) (λ q. earlier l k q) ∙ h.placed l k) (eq-or-lt_of_le (omega arith))
          where
            earlier : (l : ℕ) → l < m → here + l ≢ below + m
            earlier l k q = ⊎_elim (λ a. omega arith) (λ b. omega arith) apart

        added_more :
            (l : ℕ)
            → l < suc m
            → figures_at next (below + l) ≡ joined_inflow (figures_at before (below + l)) (old_and_new_outflow (along l) (along (suc l)))
        added_more l n =
            ⊎_elim (λ q. rw q below-now)
            (λ k. other-now (below + l) (λ q. earlier l k q) (λ q. omega (arith, q, k)) ∙ h.added l k) (eq-or-lt_of_le (omega arith))
          where
            earlier : (l : ℕ) → l < m → below + l ≢ here + m
            earlier l k q = ⊎_elim (λ a. omega arith) (λ b. omega arith) apart

        done-again : LeadsDone c first here below (m + 1) before next
        done-again =
            subst (λ (n : ℕ). LeadsDone c first here below n before next) (sym (add-one m))
            (record {
              under = under_more;
              fits = λ l n. ⊎_elim (λ q. rw q (subst FiguresFit x-is (w.kept x e).fits)) (λ k. h.fits l (omega arith)) (eq-or-lt_of_le n);
              placed = placed-more;
              added = added_more;
              others = λ p a b. other-now p (a m (omega arith)) (b m (omega arith)) ∙ h.others p (λ l k. a l (omega arith)) (λ l k. b l (omega arith));
            })

        old-again : x ≡ along (m + 1)
        old-again = x-is ∙ ap along (sym (add-one m))

-- what the loop over an element's leads holds after k of them: the figures at the last of these, and the space
pub record LeadsSoFar
    (c : ElementInput) (first : Figures) (here below leads : ℕ) (before : List Figures) (k : ℕ) (now : List Figures) (old : Figures)
    : Type 0 where
  pub few : k ≤ leads
  pub size : length now ≡ length before
  pub is : old ≡ figures_after c first (drained_at before here) k
  pub done : LeadsDone c first here below k before now

pub leads-begin :
    (c : ElementInput) (first : Figures) (here below leads : ℕ) (before : List Figures)
    → FiguresFit first
    → LeadsSoFar c first here below leads before 0 before first
leads-begin c first here below leads before fits =
    record {
      few = omega arith;
      size = refl;
      is = first-is c first here below before;
      done = done-begin c first here below before fits;
    }

module _
    (c : ElementInput) (first : Figures) (here below leads : ℕ) (before : List Figures) (places : LeadPlaces here below leads before) (k : ℕ)
    (now : List Figures) (old : Figures) (h : LeadsSoFar c first here below leads before k now old) (less : k < leads) where
  module _ (r : Result Figures Refusal) (next : List Figures) (w : LeadWorked (old_and_new_outflow old) r c (lead_at c here below k) old now next) where
    -- it is refused, and with it the element
    pub leads-refused :
        {s : Result Unit Refusal} {n : Refusal}
        → r ≡ Err n
        → IsErrAnd s (λ (e : Refusal). e ≡ n)
        → ElementWorked s c first here below leads before next
    leads-refused e passed = element-refused c first here below before k leads now old h.done h.is less places.apart r next w e passed

    -- one lead more
    pub leads-again : {x : Figures} → r ≡ Ok x → LeadsSoFar c first here below leads before (k + 1) next x
    leads-again {x} e =
        record {
          few = omega (arith, less);
          size = (w.kept x e).size ∙ h.size;
          is = old-again c first here below before k leads now old h.done h.is less places.apart r next w x e;
          done = done-again c first here below before k leads now old h.done h.is less places.apart r next w x e;
        }

-- all leads are done
pub leads-done :
    {c : ElementInput} {first : Figures} {here below leads : ℕ} {before : List Figures} {k : ℕ} {now : List Figures} {old : Figures}
    → k ≡ leads
    → LeadsSoFar c first here below leads before k now old
    → LeadsDone c first here below leads before now
leads-done {c} {first} {here} {below} {leads} {before} {k} {now} e h =
    subst (λ (n : ℕ). LeadsDone c first here below n before now) e h.done

pub element-accepted :
    {c : ElementInput} {first : Figures} {here below leads : ℕ} {before after : List Figures}
    → LeadsDone c first here below leads before after
    → ElementWorked (Ok tt) c first here below leads before after
element-accepted g = record { verdict = under-accepted tt _ g.under; done = λ a. g }

-- a step is one lead, of number 0, whose old figures are added first: what its code has worked out
module _
    (c : ElementInput) (first : Figures) (here below : ℕ) (before space after : List Figures) (number : c.first_lead ≡ 0)
    (ready : LeadReady most_sum_before c (step_lead here below) first before) (is : space ≡ added before below (old_outflow first))
    (r : Result Figures Refusal) (w : LeadWorked (λ x. x) r c (step_lead here below) first space after) where
  begun : LeadsDone c first here below 0 before before
  begun = done-begin c first here below before ready.old

  apart : Apart here below 1
  apart = go (dec_le (here + 1) below) (dec_le (below + 1) here)
    where
      go : Dec (here + 1 ≤ below) → Dec (below + 1 ≤ here) → Apart here below 1
      go (yes h) d = inl h
      go (no h) (yes k) = inr k
      go (no h) (no k) = absurd (ready.apart (omega arith))

  worked : LeadWorked (old_and_new_outflow first) r c (lead_at c here below 0) first before after
  worked =
      subst (λ (lead : Lead). LeadWorked (old_and_new_outflow first) r c lead first before after) same
      (step-worked c (step_lead here below) first before ready (old_outflow first) refl space is w)
    where
      same : step_lead here below ≡ lead_at c here below 0
      same = rw (number, add-zero here, add-zero below)

  -- it is refused
  pub work-step-refused :
      {s : Result Unit Refusal} {k : Refusal}
      → r ≡ Err k
      → IsErrAnd s (λ (e : Refusal). e ≡ k)
      → ElementWorked s c first here below 1 before after
  work-step-refused e passed =
      element-refused _ _ _ _ _ _ 1 _ _ begun (first-is c first here below before) (omega arith) apart _ _ worked e passed

  -- it is done
  pub work-step-done : {x : Figures} → r ≡ Ok x → LeadsDone c first here below 1 before after
  work-step-done e =
      done-again _ _ _ _ _ _ 1 _ _ begun (first-is c first here below before) (omega arith) apart _ _ worked _ e
