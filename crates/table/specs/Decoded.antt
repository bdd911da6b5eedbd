-- What the code's counts say of the bytes that they were read from.
use Prim.{Unit}
use Rattle.std.specs.Prelude.{ℕ, List, ◌≡◌, Result, Ok, Err}
use Rattle.refusal.specs.declared.Refusal.{Refusal}
use Rattle.refusal.specs.Refusals.{number}
use Rattle.refusal.specs.Answers.{accepted, refused}
use Rattle.table.specs.declared.Counts.{Counts}
use Rattle.table.specs.Tables.{TableValues, table_of}
use Rattle.table.specs.KindCounts.{basin_count, dam_count, extra_count}
use Rattle.table.specs.Rules.{table_rules}

-- T, L, N and M
pub record CountsHeld (counts : Counts) (t : TableValues) : Type 0 where
  pub step : counts.step ≡ t.step
  pub leads : counts.leads ≡ t.leads
  pub elements : counts.elements ≡ t.elements
  pub gauges : counts.gauges ≡ t.gauges

-- rules 1 to 7 accept a table, and the counts are held, with basins, dams and extra tanks
pub record TableCounted (bytes : List ℕ) (counts : Counts) : Type 0 where
  pub kept : table_rules {A = Unit} bytes (accepted tt) ≡ accepted tt
  pub held : CountsHeld counts (table_of bytes)
  pub basins : counts.basins ≡ basin_count (table_of bytes)
  pub dams : counts.dams ≡ dam_count (table_of bytes)
  pub extra : counts.extra ≡ extra_count (table_of bytes)

-- or they refuse it
abbrev pub TableRead : List ℕ → Result Counts Refusal → Type 0
TableRead bytes (Ok counts) = TableCounted bytes counts
TableRead bytes (Err r) = table_rules {A = Unit} bytes (accepted tt) ≡ refused (number r)
