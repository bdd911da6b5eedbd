-- What the code of one lead, or of a step, answers and leaves.
use Rattle.rating.specs.declared.RatedReading.{RatedReading}
use Rattle.std.specs.Prelude.{Result, Ok, Err, Option, IsErrAnd}
use Rattle.std.proofs.lemmas.Result.{err_from_is_err_and}
use Prim.Native.Nat.{ℕ, ◌<◌}
use mathlib.Core.List.{List}
use mathlib.Core.Logic.{◌≢◌}
use mathlib.Core.Path.{◌≡◌, refl, sym, ap, subst, ◌∙◌}
use native.Mathlib.Omega.{arith}
use lib.ListN.{length}
use Rattle.refusal.specs.declared.Refusal.{Refusal}
use Rattle.refusal.specs.Answers.{accepted, answer_of}
use Rattle.refusal.proofs.RuleLaws.{not-both}
use Rattle.units.specs.Ceiling.{under_ceiling}
use Rattle.method.specs.declared.Figures.{Figures}
use Rattle.method.specs.Figures.{FiguresFit, AnsweredFiguresFit}
use Rattle.method.specs.Inflow.{reach_inflow, joined_inflow, old_outflow, old_and_new_outflow}
use Rattle.method.proofs.InflowLaws.{old-then-new, new-then-old, old-outflow-fits}
use Rattle.elements.specs.Kinds.{dam}
use Rattle.element_step.specs.Bounds.{tank_element}
use Rattle.element_step.specs.ElementStep.{released}
use Rattle.element_step.specs.Answers.{stored_answer, element_answer}
use Rattle.element_step.proofs.StepLaws.{reach-answered, dam-answered, released-fit}
use Rattle.answer_space.specs.Places.{figures_at, put, added, put_and_added, most_sum, most_sum_before, FiguresBelow, PlacesReady}
use Rattle.answer_space.proofs.PlacesLaws.{put-length, put-here, put_other, fits_below, below-most, joined-below}
use Rattle.one_lead.specs.declared.ElementInput.{ElementInput}
use Rattle.one_lead.specs.declared.Lead.{Lead}
use Rattle.one_lead.specs.Leads.{lead_step, lead_step_numbers}
use Rattle.one_lead.specs.Worked.{step_lead, InputInRange, LeadReady, LeadKept, LeadWorked, DamWorked, tank_input, TankWorked}

-- ---- what is left in the space

-- ready for the new figures, with the old ones added already or not yet
ready_at :
    (c : ElementInput) (lead : Lead) (old : Figures) (before space : List Figures)
    → LeadReady most_sum_before c lead old before
    → length space ≡ length before
    → FiguresBelow (figures_at space lead.below) most_sum
    → LeadReady most_sum c lead old space
ready_at c lead old before space ready size small =
    record {
      in_range = ready.in_range;
      number = ready.number;
      here = rw size ready.here;
      below = rw size ready.below;
      apart = ready.apart;
      old = ready.old;
      small = small;
    }

-- the old figures added at the place below
module _
    (c : ElementInput) (lead : Lead) (old : Figures) (before : List Figures) (ready : LeadReady most_sum_before c lead old before) (out : Figures)
    (brought : out ≡ old_outflow old) where
  out-fits : FiguresFit out
  out-fits = rw brought (old-outflow-fits ready.old)

  pub old-ready : (lead.below < length before) × (FiguresBelow (figures_at before lead.below) most_sum × FiguresFit out)
  old-ready = (ready.below, (below-most ready.small (omega arith), out-fits))

  module _ (space : List Figures) (is : space ≡ added before lead.below out) where
    old-sum : figures_at space lead.below ≡ joined_inflow (figures_at before lead.below) out
    old-sum = rw is (put-here before lead.below _ ready.below)

    old-others : (p : ℕ) → p ≢ lead.below → figures_at space p ≡ figures_at before p
    old-others p n = rw is (put_other before lead.below _ p n)

    old-size : length space ≡ length before
    old-size = rw is (put-length before lead.below _)

    -- it is ready for the new ones
    pub new-ready : LeadReady most_sum c lead old space
    new-ready =
        ready_at c lead old before space ready old-size (rw old-sum (joined-below ready.small (fits_below out-fits) (omega arith)))

    -- and has them then
    pub both-kept : {x : Figures} {after : List Figures} → LeadKept x x lead space after → LeadKept x (old_and_new_outflow old x) lead before after
    both-kept {x} k =
        record {
          fits = k.fits;
          placed = k.placed;
          added = k.added ∙ rw (old-sum, brought) (old-then-new _ old x);
          others = λ p a b. k.others p a b ∙ old-others p b;
          size = k.size ∙ old-size;
        }

    -- so with a step, whose code adds the old ones first
    pub step-worked :
        {r : Result Figures Refusal} {after : List Figures}
        → LeadWorked (λ x. x) r c lead old space after
        → LeadWorked (old_and_new_outflow old) r c lead old before after
    step-worked w =
        record {
          answer = rw (old-others lead.here (λ e. ready.apart (sym e))) at w.answer;
          kept = λ x e. both-kept (w.kept x e);
        }

-- the new figures put at the element's place, and added at the place below
module _ (c : ElementInput) (lead : Lead) (old : Figures) (space : List Figures) (ready : LeadReady most_sum c lead old space) (x : Figures) (fits : FiguresFit x) where
  pub places-ready : PlacesReady space lead.here lead.below x
  places-ready =
      record { here_room = ready.here; below_room = ready.below; apart = ready.apart; small = ready.small; fits = fits }

  pub new-kept : {after : List Figures} → after ≡ put_and_added space lead.here lead.below x → LeadKept x x lead space after
  new-kept is =
      record {
        fits = fits;
        placed = rw is (put_other placed lead.below sum lead.here (λ e. ready.apart (sym e)) ∙ put-here space lead.here x ready.here);
        added = rw is (put-here placed lead.below sum (rw (put-length space lead.here x) ready.below));
        others = λ p a b. rw is (put_other placed lead.below sum p b ∙ put_other space lead.here x p a);
        size = rw is (put-length placed lead.below sum ∙ put-length space lead.here x);
      }
    where
      placed : List Figures
      placed = put space lead.here x

      sum : Figures
      sum = joined_inflow (figures_at space lead.below) x

-- so before the old ones are added
module _ (c : ElementInput) (lead : Lead) (old : Figures) (before : List Figures) (ready : LeadReady most_sum_before c lead old before) where
  pub ready-first : LeadReady most_sum c lead old before
  ready-first = ready_at c lead old before before ready refl (below-most ready.small (omega arith))

  -- which then follow
  module _ (x : Figures) (space : List Figures) (k : LeadKept x x lead before space) (out : Figures) (brought : out ≡ old_outflow old) where
    room : lead.below < length space
    room = rw k.size ready.below

    pub old-ready-last : (lead.below < length space) × (FiguresBelow (figures_at space lead.below) most_sum × FiguresFit out)
    old-ready-last =
        (room, (rw k.added (joined-below ready.small (fits_below k.fits) (omega arith)), rw brought (old-outflow-fits ready.old)))

    pub both-kept-last : {after : List Figures} → after ≡ added space lead.below out → LeadKept x (old_and_new_outflow old x) lead before after
    both-kept-last is =
        record {
          fits = k.fits;
          placed = rw is (put_other space lead.below _ lead.here (λ e. ready.apart (sym e)) ∙ k.placed);
          added = rw is (put-here space lead.below _ room ∙ rw (k.added, brought) (new-then-old _ old x));
          others = λ p a b. rw is (put_other space lead.below _ p b ∙ k.others p a b);
          size = rw is (put-length space lead.below _ ∙ k.size);
        }

-- ---- what is answered

-- the figures that drain in, as they were read, and what the element answered of them
module _
    (c : ElementInput) (lead : Lead) (old : Figures) (before : List Figures) (above : Figures) (r : Result Figures Refusal)
    (read : above ≡ figures_at before lead.here)
    (answered :
    (answer_of r
    ≡ element_answer c.weight c.element
    (record { own = c.own; lead = lead.number; above = above; observation = c.observation }) old)
    × AnsweredFiguresFit r) where
  known :
      answer_of r
      ≡ under_ceiling (lead_step_numbers c lead.number (figures_at before lead.here) old)
      (lead_step c lead.number (figures_at before lead.here) old)
  unfolding element_answer lead_step lead_step_numbers
  known = rw (← read) answered.0

  -- a refusal is passed on
  pub lead-refused :
      {let_out : Figures → Figures} {s : Result Figures Refusal} {k : Refusal} {after : List Figures}
      → r ≡ Err k
      → IsErrAnd s (λ (e : Refusal). e ≡ k)
      → LeadWorked let_out s c lead old before after
  lead-refused {s = s} e passed =
      let p = err_from_is_err_and s passed in
      rw (p.1, p.2) (record { answer = sym (ap answer_of e) ∙ known; kept = λ x a. absurd (not-both (ap answer_of a) refl) })

  module _ (x : Figures) (e : r ≡ Ok x) where
    pub lead-accepted :
        (let_out : Figures → Figures) {after : List Figures}
        → LeadKept x (let_out x) lead before after
        → LeadWorked let_out (Ok x) c lead old before after
    lead-accepted let_out {after} k =
        record {
          answer = sym (ap answer_of e) ∙ known;
          kept = λ y v. subst (λ (z : Figures). LeadKept z (let_out z) lead before after) (same v) k;
        }
      where
        same : {y : Figures} → ◌≡◌ {A = Result Figures Refusal} (Ok x) (Ok y) → x ≡ y
        same v = cc

-- the release of a dam is in its range
pub dam-fits :
    {c : ElementInput} {x : Figures} → InputInRange c → c.element.kind ≡ dam → x ≡ released c.element c.own → FiguresFit x
dam-fits r k is = rw is (released-fit _ _ (r.release k) r.element.system_noise)

-- a dam at a lead: its release, whatever drains in
module _ (c : ElementInput) (lead : Lead) (old : Figures) (before : List Figures) (k : c.element.kind ≡ dam) (in_range : InputInRange c) where
  answered :
      (accepted (released c.element c.own)
      ≡ element_answer c.weight c.element
      (record { own = c.own; lead = lead.number; above = figures_at before lead.here; observation = c.observation }) old)
      × FiguresFit (released c.element c.own)
  answered = dam-answered _ _ _ old k (in_range.release k) in_range.element.system_noise

  dam-lead :
      {after : List Figures}
      → LeadKept (released c.element c.own) (old_and_new_outflow old (released c.element c.own)) lead before after
      → LeadWorked (old_and_new_outflow old) (Ok (released c.element c.own)) c lead old before after
  unfolding AnsweredFiguresFit
  dam-lead kept =
      lead-accepted c lead old before _ (Ok (released c.element c.own)) refl answered _ refl (old_and_new_outflow old) kept

pub dam-worked :
    (c : ElementInput) (here below : ℕ) (old : Figures) (before : List Figures)
    → c.element.kind ≡ dam
    → InputInRange c
    → {x : Figures} {after : List Figures}
    → x ≡ released c.element c.own
    → LeadKept x (old_and_new_outflow old x) (step_lead here below) before after
    → DamWorked x c here below old before after
dam-worked c here below old before k in_range {after = after} is kept =
    subst (λ (x : Figures). LeadKept x (old_and_new_outflow old x) (step_lead here below) before after → DamWorked x c here below old before after)
    (sym is) made kept
  where
    made :
        LeadKept (released c.element c.own) (old_and_new_outflow old (released c.element c.own)) (step_lead here below) before after
        → DamWorked (released c.element c.own) c here below old before after
    made kept =
        record {
          at = λ number.
              dam-lead c (record { number = number; here = here; below = below }) old before k in_range
              (record { fits = kept.fits; placed = kept.placed; added = kept.added; others = kept.others; size = kept.size });
        }

-- a tank, a reach by itself
module _
    (noise weight : ℕ) (o : Option RatedReading) (here below : ℕ) (old : Figures) (before : List Figures) (above : Figures) (r : Result Figures Refusal)
    (read : above ≡ figures_at before here)
    (worked : (answer_of r ≡ stored_answer weight (tank_element noise) o (reach_inflow above) old) × AnsweredFiguresFit r) where
  tank-answered :
      (number : ℕ)
      → (answer_of r
      ≡ element_answer weight (tank_element noise) (record { own = 0; lead = number; above = above; observation = o }) old)
      × AnsweredFiguresFit r
  tank-answered number = (worked.0 ∙ reach-answered _ _ _ _ refl, worked.1)

  pub tank-refused :
      {s : Result Figures Refusal} {k : Refusal} {after : List Figures}
      → r ≡ Err k
      → IsErrAnd s (λ (e : Refusal). e ≡ k)
      → TankWorked s noise weight o here below old before after
  tank-refused is passed =
      record { at = λ number. lead-refused (tank_input noise weight o) _ old before above r read (tank-answered number) is passed }

  pub tank-accepted :
      (x : Figures) {after : List Figures}
      → r ≡ Ok x
      → LeadKept x (old_and_new_outflow old x) (step_lead here below) before after
      → TankWorked (Ok x) noise weight o here below old before after
  tank-accepted x is kept =
      record {
        at = λ number.
            lead-accepted (tank_input noise weight o) (record { number = number; here = here; below = below }) old before above r read
            (tank-answered number) x is (old_and_new_outflow old)
            (record { fits = kept.fits; placed = kept.placed; added = kept.added; others = kept.others; size = kept.size });
      }
