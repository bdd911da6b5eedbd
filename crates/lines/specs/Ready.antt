-- Serves the code: what the functions that put lines rely on, and what they leave. A line has seven numbers, each of at most 20 digits
-- and a byte after them: at most 147 bytes.
use Rattle.std.specs.Prelude.{ℕ, ◌+◌, ◌*◌, ◌≤◌, ◌<◌, List, ◌≡◌, length, take}
use Rattle.method.specs.declared.Figures.{Figures}
use Rattle.method.specs.Figures.{FiguresFit}
use Rattle.sizes.specs.Sizes.{most_elements}
use Rattle.text.specs.declared.TextSpace.{TextSpace}
use Rattle.text.specs.Places.{TextPut}
use Rattle.lines.specs.Ceiling.{FiguresUnderCeiling}

-- four figures
pub record FiguresReady (text : TextSpace) (four : Figures) : Type 0 where
  pub room : text.at + 84 ≤ length text.bytes.now
  pub under : FiguresFit four

-- a line, with a start of so many bytes
pub record LineReady
    (text : TextSpace) (start : List ℕ) (size lead : ℕ) (f : Figures)
    : Type 0 where
  pub room : text.at + 147 ≤ length text.bytes.now
  pub whole : length start ≡ 32
  pub few : size ≤ 32
  pub lead_few : lead < 100
  pub under : FiguresFit f

-- the lines of element i, with a start that says the step count already
pub record ElementReady
    (text : TextSpace) (figures : List Figures) (start : List ℕ) (size i leads : ℕ)
    : Type 0 where
  pub room : text.at + 147 * leads ≤ length text.bytes.now
  pub there : i * leads + leads ≤ length figures
  pub element : i < most_elements
  pub leads_few : leads ≤ 100
  pub whole : length start ≡ 32
  pub few : size ≤ 21
  pub under : FiguresUnderCeiling figures (i * leads + leads)

-- these lines put, and the step count still in the start
pub record ElementPut
    (before : TextSpace) (lines : List ℕ) (after : TextSpace) (leads size : ℕ) (start₀ start : List ℕ)
    : Type 0 where
  pub text : TextPut before lines after
  pub within : after.at ≤ before.at + 147 * leads
  pub kept : take size start ≡ take size start₀

-- the lines of so many elements
pub record LinesReady (text : TextSpace) (figures : List Figures) (elements leads : ℕ) : Type 0 where
  pub room : text.at + 147 * (elements * leads) ≤ length text.bytes.now
  pub there : elements * leads ≤ length figures
  pub elements_few : elements ≤ most_elements
  pub leads_few : leads ≤ 100
  pub under : FiguresUnderCeiling figures (elements * leads)
