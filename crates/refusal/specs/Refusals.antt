-- Document 01, Numbers for no, and document 02, M-100 and M-104: the number of each refusal, in checking order.
use Rattle.std.specs.Prelude.{ℕ}
use Rattle.refusal.specs.declared.Refusal.{Refusal}
use Rattle.refusal.specs.declared.Refusal.TheVariants.{
  TableLength,
  TableVersion,
  TableCounts,
  TableSize,
  ElementField,
  ElementDown,
  GaugeField,
  StateRange,
  StepLimit,
  RecordLength,
  RecordVersion,
  RainRange,
  ReleaseRange,
  StageRange,
  FloatRange,
  ReadingRange,
  AnswerSpace,
  AboveCeiling,
}

abbrev pub number : Refusal → ℕ
number TableLength = 1
number TableVersion = 2
number TableCounts = 3
number TableSize = 4
number ElementField = 5
number ElementDown = 6
number GaugeField = 7
number StateRange = 8
number StepLimit = 9
number RecordLength = 10
number RecordVersion = 11
number RainRange = 12
number ReleaseRange = 17
number StageRange = 13
number FloatRange = 18
number ReadingRange = 14
number AnswerSpace = 15
number AboveCeiling = 16
