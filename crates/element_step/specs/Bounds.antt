-- Serves the code: what the functions of one element may rely on.
use Rattle.std.specs.Prelude.{ℕ, ◌≤◌, ◌≡◌}
use Rattle.units.specs.Units.{C, S, grains, thousandths}
use Rattle.method.specs.declared.Figures.{Figures}
use Rattle.method.specs.Figures.{FiguresFit}
use Rattle.elements.specs.declared.Element.{Element}
use Rattle.elements.specs.Kinds.{reach, dam, IsKind}
use Rattle.record.specs.Decoded.{ObservationFits}
use Rattle.element_step.specs.declared.Intake.{Intake}

-- the ranges of an element that its move relies on
pub record ElementInRange (e : Element) : Type 0 where
  pub kind : IsKind e.kind
  pub system_noise : e.system_noise.0 ≤ C
  pub rain_noise : e.rain_noise.0 ≤ 100000000

-- and of its weight and its figures before
pub record MoveInRange (e : Element) (H : ℕ) (before : Figures) : Type 0 where
  pub element : ElementInRange e
  pub weight : H ≤ S
  pub old : FiguresFit before

-- and of what it takes in
pub record StepInRange (e : Element) (H : ℕ) (intake : Intake) (before : Figures) : Type 0 where
  pub move : MoveInRange e H before
  pub lead : intake.lead ≤ 12
  pub release : e.kind ≡ dam → intake.own ≤ C
  pub observation : ObservationFits intake.observation

-- what the move of a tank looks at: a reach with this system noise
abbrev pub tank_element : ℕ → Element
tank_element noise =
    record {
      kind = reach;
      down = 0;
      lag = 0;
      area = 0;
      runoff = 0;
      first_discharge = grains 0;
      first_variance = thousandths 0;
      system_noise = thousandths noise;
      rain_noise = thousandths 0;
    }

pub record TankInRange (noise H : ℕ) (before : Figures) : Type 0 where
  pub system_noise : noise ≤ C
  pub weight : H ≤ S
  pub old : FiguresFit before
