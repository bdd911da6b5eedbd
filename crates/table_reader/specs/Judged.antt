-- Only serves the code: what it finds of rules 5 and 6, and of basins, dams and extra tanks, while it looks along the elements.
use Prim.{Unit}
use Rattle.std.specs.Prelude.{ℕ, Bool, true, List, ◌≡◌, Result, Ok, Err}
use Rattle.refusal.specs.declared.Refusal.{Refusal}
use Rattle.refusal.specs.Refusals.{number}
use Rattle.refusal.specs.Answers.{accepted, refused, rule}
use Rattle.fields.specs.Ranges.{all_below}
use Rattle.elements.specs.Elements.{element_at}
use Rattle.elements.specs.Rules.{element_fits, down_fits}
use Rattle.table.specs.Tables.{table_of}
use Rattle.table.specs.KindCounts.{basins_before, dams_before, extra_before}
use Rattle.table_reader.specs.declared.KindCounts.{KindCounts}

-- the first n elements keep rules 5 and 6
abbrev pub elements_fit : List ℕ → ℕ → ℕ → Bool
elements_fit table step n = all_below (λ i. element_fits step (element_at table i)) n

abbrev pub downs_fit : List ℕ → ℕ → Bool
downs_fit table n = all_below (down_fits n (element_at table)) n

-- they do, and their kinds are counted
pub record KindsCounted (table : List ℕ) (step n : ℕ) (kinds : KindCounts) : Type 0 where
  pub fit : elements_fit table step n ≡ true
  pub later : downs_fit table n ≡ true
  pub basins : kinds.basins ≡ basins_before (table_of table) n
  pub dams : kinds.dams ≡ dams_before (table_of table) n
  pub extra : kinds.extra ≡ extra_before (table_of table) n

-- or the number of the first that they do not keep
abbrev pub Judged : List ℕ → ℕ → ℕ → Result KindCounts Refusal → Type 0
Judged table step n (Ok kinds) = KindsCounted table step n kinds
Judged table step n (Err r) = rule {A = Unit} 5 (elements_fit table step n) (rule 6 (downs_fit table n) (accepted tt)) ≡ refused (number r)
