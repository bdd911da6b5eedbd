-- Laws of an accepted table that is read where it stands.
use Prim.{Unit}
use Prim.Native.Nat.{ℕ, ◌+◌, ◌*◌, ◌≤◌, ◌<◌}
use mathlib.Core.Bool.{true}
use mathlib.Core.List.{List}
use mathlib.Core.Logic.{⊎_elim, inl, inr}
use mathlib.Core.Path.{◌≡◌, sym, ◌∙◌}
use borrow.Author.Tests.{leb-true, eqb-true}
use native.Mathlib.Omega.{arith}
use lib.Dec.{leb, eqb}
use lib.ListN.{length}
use Rattle.refusal.specs.Answers.{accepted}
use Rattle.fields.specs.Bytes.{number32}
use Rattle.fields.proofs.RangeLaws.{both, either}
use Rattle.elements.specs.Elements.{element_at}
use Rattle.elements.specs.Kinds.{tanks, basin_of, dam_of}
use Rattle.elements.specs.Bounds.{AcceptedElement}
use Rattle.gauges.specs.Gauges.{table_version, gauge_size, gauge_place, gauge_at}
use Rattle.gauges.specs.Places.{Versioned, GaugePlaced}
use Rattle.gauges.specs.Bounds.{GaugeKnown}
use Rattle.gauges.proofs.GaugeLaws.{place-before, gauge-of-more}
use Rattle.table.specs.declared.Counts.{Counts}
use Rattle.table.specs.Tables.{table_of}
use Rattle.table.specs.Rules.{length_fits, version_fits, size_fits, table_rules}
use Rattle.table.specs.Decoded.{CountsHeld, TableCounted}
use Rattle.table.specs.Bounds.{AcceptedTable, Counted, CountedPlaces, CountedTable}
use Rattle.table.specs.InUse.{in_use, table_in}
use Rattle.table.proofs.InUseLaws.{element-read, gauge-read, extra-held, bounds-in-use}
use Rattle.table.proofs.TableLaws.{rules-kept, table-bounds}
use Rattle.table.proofs.CountLaws.{count-in-use}

-- the header's counts are those of the places in use
pub counts-in-use : (bytes : List ℕ) {counts : Counts} → CountsHeld counts (table_of bytes) → CountsHeld counts (table_in bytes)
unfolding table_in in_use
counts-in-use bytes h = record { step = h.step; leads = h.leads; elements = h.elements; gauges = h.gauges }

-- rules 1 and 4 together: the bytes are those of N elements and M gauges
module _ (bytes : List ℕ) where
  length-known : length_fits bytes ≡ true → (10 ≤ length bytes) × (number32 bytes 0 + 4 ≡ length bytes)
  unfolding length_fits
  length-known h =
      let k = both (leb 10 (length bytes)) (eqb (number32 bytes 0 + 4) (length bytes)) h in
      (leb-true _ _ k.0, eqb-true _ _ k.1)

  -- rule 1 leaves the header whole
  pub header-whole : length_fits bytes ≡ true → 10 ≤ length bytes
  header-whole h = (length-known h).0

  -- and rule 2 one of two versions
  pub versioned : length_fits bytes ≡ true → version_fits bytes ≡ true → Versioned bytes
  unfolding version_fits
  versioned h v =
      record {
        header = header-whole h;
        version = ⊎_elim (λ e. inl (eqb-true _ 1 e)) (λ e. inr (eqb-true _ 2 e)) (either (eqb (table_version bytes) 1) (eqb (table_version bytes) 2) v);
      }

  pub all_there :
      length_fits bytes ≡ true
      → size_fits bytes (table_of bytes) ≡ true
      → gauge_place bytes (table_of bytes).elements (table_of bytes).gauges ≤ length bytes
  unfolding size_fits gauge_place
  all_there h k =
      let size = eqb-true (number32 bytes 0) (6 + 26 * (table_of bytes).elements + gauge_size bytes * (table_of bytes).gauges) k in
      omega (arith, (length-known h).1)

  pub accepted-table : table_rules {A = Unit} bytes (accepted tt) ≡ accepted tt → AcceptedTable bytes
  unfolding table_in in_use gauge_place
  accepted-table h =
      let k = (rules-kept bytes h).header in
      record {
        versioned = versioned k.length k.version;
        bounds = bounds-in-use _ (table-bounds bytes h);
        elements = omega (arith, all_there k.length k.size);
        gauges = all_there k.length k.size;
      }

-- an element and a gauge in use: all their bytes are there, and they are in their ranges
module _ (bytes : List ℕ) (t : AcceptedTable bytes) where
  pub element-there : {i : ℕ} → i < (table_in bytes).elements → (i ≤ 1000) × (26 * i + 36 ≤ length bytes)
  element-there l = (omega (arith, t.bounds.elements_most), omega (arith, t.elements))

  gauge-there : {g : ℕ} → g < (table_in bytes).gauges → GaugePlaced bytes (table_in bytes).elements g
  gauge-there l =
      record {
        versioned = t.versioned;
        elements = t.bounds.elements_most;
        gauges = omega (arith, t.bounds.gauges_most);
        whole = omega (arith, place-before bytes t.versioned (table_in bytes).elements l, t.gauges);
      }

  pub element-bounds :
      {i : ℕ} → i < (table_in bytes).elements → AcceptedElement (table_in bytes).step (table_in bytes).elements i (element_at bytes i)
  element-bounds {i} l = rw (element-read bytes i l) at (t.bounds.element i l)

-- an element of tanks has 2 to 8
pub tanks-known :
    (bytes : List ℕ)
    → AcceptedTable bytes
    → {i : ℕ}
    → i < (table_in bytes).elements
    → (element_at bytes i).kind ≡ tanks
    → (2 ≤ (element_at bytes i).runoff) × ((element_at bytes i).runoff ≤ 8)
tanks-known bytes t l k = (element-bounds bytes t l).tanks k

-- the gauges of a table whose counts are known
module _ (bytes : List ℕ) {n m : ℕ} (t : CountedTable bytes n m) where
  pub gauge-held : (g : ℕ) → g < m → gauge_at bytes n g ≡ (table_in bytes).gauge g
  gauge-held g l = rw t.elements (sym (gauge-read bytes g (omega (arith, t.gauges))))

  pub gauge-in-use : (g : ℕ) → g < m → GaugePlaced bytes n g
  gauge-in-use g l = rw t.elements (gauge-there bytes t.table (omega (arith, t.gauges)))

  pub gauge-known : (g : ℕ) → g < m → GaugeKnown bytes n g
  gauge-known g l =
      let b = t.table.bounds in
      record {
        placed = gauge-in-use g l;
        bounds = gauge-of-more b.elements_most (rw (gauge-held g l) (b.gauge g (omega (arith, t.gauges))));
      }

-- the elements and gauges of a table with its counts
pub counted-table : (bytes : List ℕ) (counts : Counts) → Counted bytes counts → CountedTable bytes counts.elements counts.gauges
counted-table bytes counts c = record { table = c.table; elements = c.held.elements; gauges = c.held.gauges }

-- what an accepted table gives
pub record TableKnown (bytes : List ℕ) (read : Counts) : Type 0 where
  pub kept : table_rules {A = Unit} bytes (accepted tt) ≡ accepted tt
  pub counted : CountedPlaces bytes read

pub table-accepted : (bytes : List ℕ) (read : Counts) → TableCounted bytes read → TableKnown bytes read
unfolding table_in in_use
table-accepted bytes read h =
    record {
      kept = h.kept;
      counted = record {
        counted = record {
          table = accepted-table bytes h.kept;
          held = counts-in-use bytes h.held;
          basins = h.basins ∙ count-in-use basin_of bytes;
          dams = h.dams ∙ count-in-use dam_of bytes;
        };
        extra = h.extra ∙ extra-held (table_of bytes) (table_of bytes).elements (omega arith);
      };
    }
