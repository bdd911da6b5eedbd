-- Laws of the step of one element: rule 16 on its inflow, its move and its correction, one after the other; each kind.
use Rattle.rating.specs.declared.RatedReading.{RatedReading}
use Rattle.std.specs.Prelude.{Option, None}
use Prim.Native.Nat.{ℕ, ◌≤◌}
use mathlib.Core.List.{append_assoc, append-nil}
use mathlib.Core.Path.{◌≡◌, sym, ◌∙◌}
use native.Mathlib.Omega.{arith}
use Rattle.refusal.specs.Answers.{Answer, accepted, refused}
use Rattle.units.specs.Units.{C}
use Rattle.units.proofs.CeilingLaws.{same-accepted, refused-append, accepted-append, passed-on}
use Rattle.units.proofs.UnderLaws.{under-accepted}
use Rattle.weighting.specs.declared.Estimate.{Estimate}
use Rattle.method.specs.declared.Figures.{Figures}
use Rattle.method.specs.Figures.{variance, figure_numbers, FiguresFit}
use Rattle.method.specs.Inflow.{reach_inflow, inflow_answer}
use Rattle.method.specs.Routing.{routed_discharge, routing_answer}
use Rattle.method.proofs.FiguresLaws.{figures-under}
use Rattle.routing.specs.Parts.{parts_answer, routed_answer}
use Rattle.routing.proofs.RoutingLaws.{move-answered}
use Rattle.inflow.specs.Basin.{basin_inflow}
use Rattle.elements.specs.declared.Element.{Element}
use Rattle.elements.specs.Kinds.{basin, reach, dam}
use Rattle.elements.proofs.KindLaws.{by-basin, by-reach, by-dam}
use Rattle.element_step.specs.declared.Intake.{Intake}
use Rattle.element_step.specs.ElementStep.{
  released,
  own_of,
  corrected_by,
  moved,
  stored,
  element_step,
  observation_numbers,
  move_numbers,
  stored_numbers,
  element_numbers,
}
use Rattle.element_step.specs.Bounds.{tank_element}
use Rattle.element_step.specs.Answers.{corrected_answer, moved_answer, stored_answer, own_at, element_answer}

-- a move with an inflow that was judged
module _ (H : ℕ) (e : Element) (inflow old : Figures) where
  -- the inflow refuses
  pub inflow-passes : {k : ℕ} → refused k ≡ inflow_answer inflow → refused k ≡ moved_answer H e inflow old
  unfolding moved_answer inflow_answer
  inflow-passes r = passed-on _ _ r (refused-append _ _ _ _ r)

  -- it does not: the move decides
  pub inflow-accepted :
      {x : Figures} {q : Estimate} {v : Answer Estimate} {answer : Answer Figures}
      → accepted x ≡ inflow_answer inflow
      → q ≡ routed_discharge H x old
      → v ≡ parts_answer H e.system_noise.0 (variance x) (variance old)
      → answer ≡ routed_answer q v
      → answer ≡ moved_answer H e inflow old
  unfolding moved_answer moved inflow_answer routing_answer
  inflow-accepted a d w f =
      let s = same-accepted _ inflow _ a in
      move-answered _ _ _ _ d w f ∙ rw s.0 (sym (accepted-append _ _ _ _ a))

-- a move that was judged, and then the correction
module _ (H : ℕ) (e : Element) (o : Option RatedReading) (inflow old : Figures) where
  -- the move refuses
  pub move-passes : {k : ℕ} → refused k ≡ moved_answer H e inflow old → refused k ≡ stored_answer H e o inflow old
  unfolding stored_answer stored_numbers move_numbers moved_answer
  move-passes r = passed-on _ _ r (rw (← append_assoc) (refused-append _ _ _ _ r))

  -- it does not: the correction decides
  pub move-accepted :
      {x : Figures} {after : Answer Figures}
      → accepted x ≡ moved_answer H e inflow old
      → after ≡ corrected_answer o x
      → after ≡ stored_answer H e o inflow old
  unfolding stored_answer stored_numbers stored move_numbers moved_answer corrected_answer
  move-accepted a k =
      let s = same-accepted _ old _ a in
      k ∙ rw (s.0, ← append_assoc) (sym (accepted-append _ _ _ _ a))

  -- where nothing is observed the move is all
  pub move-alone : o ≡ None → moved_answer H e inflow old ≡ stored_answer H e o inflow old
  unfolding stored_answer stored_numbers stored move_numbers moved_answer corrected_by observation_numbers
  move-alone n = rw (n, append-nil)

-- what each kind decides: the new figures, and the numbers of 16
module _ (H : ℕ) (e : Element) (own : Figures) (o : Option RatedReading) (above old : Figures) where
  basin-steps : e.kind ≡ basin → element_step H e own o above old ≡ stored H e o own old
  unfolding element_step
  basin-steps k = by-basin e.kind _ _ _ _ k

  basin-judged : e.kind ≡ basin → element_numbers H e own o above old ≡ stored_numbers H e o own old
  unfolding element_numbers
  basin-judged k = by-basin e.kind _ _ _ _ k

  reach-steps : e.kind ≡ reach → element_step H e own o above old ≡ stored H e o (reach_inflow above) old
  unfolding element_step
  reach-steps k = by-reach e.kind _ _ _ _ k

  reach-judged : e.kind ≡ reach → element_numbers H e own o above old ≡ stored_numbers H e o (reach_inflow above) old
  unfolding element_numbers
  reach-judged k = by-reach e.kind _ _ _ _ k

  dam-steps : e.kind ≡ dam → element_step H e own o above old ≡ own
  unfolding element_step
  dam-steps k = by-dam e.kind _ _ _ _ k

  dam-judged : e.kind ≡ dam → element_numbers H e own o above old ≡ figure_numbers own
  unfolding element_numbers
  dam-judged k = by-dam e.kind _ _ _ _ k

-- a dam's figures are in their ranges
pub released-fit : (e : Element) (release : ℕ) → release ≤ C → e.system_noise.0 ≤ C → FiguresFit (released e release)
unfolding released
released-fit e release q w = record { discharge = q; discharge_margin = omega arith; variance = w; variance_margin = omega arith }

-- so what it answers
module _ (H : ℕ) (e : Element) (intake : Intake) (old : Figures) where
  abbrev own : Figures
  own = own_at e intake.own intake.lead

  abbrev o : Option RatedReading
  o = intake.observation

  abbrev above : Figures
  above = intake.above

  own-basin : e.kind ≡ basin → own ≡ basin_inflow intake.own intake.lead e.rain_noise.0
  unfolding own_at own_of
  own-basin k = by-basin e.kind _ _ _ _ k

  own-dam : e.kind ≡ dam → own ≡ released e intake.own
  unfolding own_at own_of
  own-dam k = by-dam e.kind _ _ _ _ k

  pub basin-answered :
      e.kind ≡ basin
      → {lead : ℕ}
      → lead ≡ intake.lead
      → stored_answer H e o (basin_inflow intake.own lead e.rain_noise.0) old ≡ element_answer H e intake old
  unfolding element_answer stored_answer
  basin-answered k l = rw (l, basin-judged H e own o above old k, basin-steps H e own o above old k, own-basin k)

  -- of a reach the move looks at its system noise alone
  pub reach-answered :
      e.kind ≡ reach
      → stored_answer H (tank_element e.system_noise.0) o (reach_inflow intake.above) old ≡ element_answer H e intake old
  unfolding element_answer stored_answer stored_numbers move_numbers stored moved
  reach-answered k = rw (reach-judged H e own o above old k, reach-steps H e own o above old k)

  pub dam-answered :
      e.kind ≡ dam
      → intake.own ≤ C
      → e.system_noise.0 ≤ C
      → (accepted (released e intake.own) ≡ element_answer H e intake old) × FiguresFit (released e intake.own)
  unfolding element_answer
  dam-answered k q w =
      let fit = released-fit e intake.own q w in (
        rw (dam-judged H e own o above old k, dam-steps H e own o above old k, own-dam k) (under-accepted _ _ (figures-under _ fit)),
        fit,
      )
