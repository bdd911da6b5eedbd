-- Document 01, Numbers for no, 1 to 7, with the ranges of The table, and document 02, M-105.
use Rattle.std.specs.Prelude.{ℕ, ◌+◌, ◌*◌, Bool, ◌&&◌, ◌||◌, List, leb, eqb, length}
use Rattle.sizes.specs.Sizes.{most_elements, most_leads, most_gauges}
use Rattle.refusal.specs.Answers.{Answer, rule}
use Rattle.fields.specs.Bytes.{number32}
use Rattle.fields.specs.Ranges.{in_range, all_below}
use Rattle.elements.specs.Rules.{element_fits, down_fits}
use Rattle.gauges.specs.Gauges.{table_version, gauge_size}
use Rattle.gauges.specs.Rules.{gauge_fits}
use Rattle.table.specs.Tables.{TableValues, table_of}

-- 1: "The table has under 10 bytes or its length field is not the count of bytes after it."
unfoldable pub length_fits : List ℕ → Bool
length_fits bytes = leb 10 (length bytes) && eqb (number32 bytes 0 + 4) (length bytes)

-- 2: "The table's version is not 1."; M-105: "rule 2 admits 2"
unfoldable pub version_fits : List ℕ → Bool
version_fits bytes = eqb (table_version bytes) 1 || eqb (table_version bytes) 2

-- 3: "T, L, N or M is out of range.": "T 1 to 1,440; L 1 to 12; N 1 to 64; M 0 to 16"
unfoldable pub counts_fit : TableValues → Bool
counts_fit t =
    ((in_range t.step 1 1440 && in_range t.leads 1 most_leads) && in_range t.elements 1 most_elements)
    && in_range t.gauges 0 most_gauges

-- 4: "The length field is not 6 + 26 N + 46 M."; M-105: rule 4 follows "the longer gauge"
unfoldable pub size_fits : List ℕ → TableValues → Bool
size_fits bytes t = eqb (number32 bytes 0) (6 + 26 * t.elements + gauge_size bytes * t.gauges)

-- 5 to 7, each on all elements or gauges
abbrev pub elements_fit : TableValues → Bool
elements_fit t = all_below (λ i. element_fits t.step (t.element i)) t.elements

abbrev pub downs_fit : TableValues → Bool
downs_fit t = all_below (down_fits t.elements t.element) t.elements

abbrev pub gauges_fit : TableValues → Bool
gauges_fit t = all_below (gauge_fits t.elements t.element t.gauge) t.gauges

-- 1 to 7 in checking order; where all are kept, what follows them decides
unfoldable pub table_rules : {A : Type 0} → List ℕ → Answer A → Answer A
table_rules bytes rest =
    let t = table_of bytes in
    rule 1 (length_fits bytes)
    (rule 2 (version_fits bytes)
    (rule 3 (counts_fit t)
    (rule 4 (size_fits bytes t)
    (rule 5 (all_below (λ i. element_fits t.step (t.element i)) t.elements)
    (rule 6 (all_below (down_fits t.elements t.element) t.elements)
    (rule 7 (all_below (gauge_fits t.elements t.element t.gauge) t.gauges) rest))))))
