-- Document 01, The table: "Then M gauges of 46 bytes"; document 02, M-105: "Table version 2 ends each gauge with two bytes".
use Rattle.std.specs.Prelude.{ℕ, ◌+◌, ◌-◌, ◌*◌, cond, List, [], ◌∷◌, ltb, eqb, replicate}
use Rattle.units.specs.Units.{thousandths}
use Rattle.rating.specs.declared.Offset.{Offset}
use Rattle.rating.specs.declared.Offset.TheVariants.{Plus, Minus}
use Rattle.rating.specs.declared.Piece.{Piece}
use Rattle.rating.specs.declared.Curve.{Curve}
use Rattle.rating.specs.Rating.{no_piece}
use Rattle.fields.specs.Bytes.{byte_at, number16, number32}
use Rattle.gauges.specs.declared.Gauge.{Gauge}

-- "b in mm (2, two's complement)"
unfoldable pub offset_of : ℕ → Offset
offset_of field = cond (ltb field 32768) (Plus field) (Minus (65536 - field))

-- a piece: "top in mm (2), a in 0.001 m³/s per m² (4), b"
unfoldable pub piece_at : List ℕ → ℕ → Piece
piece_at table at =
    record {
      top = record { 0 = number16 table at };
      factor = number32 table (at + 2);
      offset = offset_of (number16 table (at + 6));
    }

-- the curve of the gauge whose bytes start at a place: "pieces used (1) .. five pieces"
unfoldable pub curve_at : List ℕ → ℕ → Curve
curve_at table at =
    record {
      count = byte_at table (at + 1);
      pieces =
          piece_at table (at + 6)
          ∷ piece_at table (at + 14)
          ∷ piece_at table (at + 22)
          ∷ piece_at table (at + 30)
          ∷ piece_at table (at + 38)
          ∷ [];
    }

-- the version of a table
unfoldable pub table_version : List ℕ → ℕ
table_version table = byte_at table 4

-- the bytes of a gauge: 46 in version 1; M-105: two more in version 2
unfoldable pub gauge_size : List ℕ → ℕ
gauge_size table = cond (eqb (table_version table) 2) 48 46

-- M-105: "two bytes, β in thousandths", the last of a gauge; "version 1 means β 0"
unfoldable pub beta_at : List ℕ → ℕ → ℕ
beta_at table at = cond (eqb (table_version table) 2) (number16 table (at + 46)) 0

-- the gauge whose bytes start at a place: "element (1), pieces used (1), noise R (4), five pieces", and β
unfoldable pub gauge_from : List ℕ → ℕ → Gauge
gauge_from table at =
    record {
      element = byte_at table at;
      noise = thousandths (number32 table (at + 2));
      beta = beta_at table at;
      curve = curve_at table at;
    }

-- where gauge g of a table with n elements starts, counted from 0
unfoldable pub gauge_place : List ℕ → ℕ → ℕ → ℕ
gauge_place table n g = 26 * n + gauge_size table * g + 10

unfoldable pub gauge_at : List ℕ → ℕ → ℕ → Gauge
gauge_at table n g = gauge_from table (gauge_place table n g)

-- an unused place
abbrev pub no_gauge : Gauge
no_gauge = record { element = 0; noise = thousandths 0; beta = 0; curve = record { count = 0; pieces = replicate 5 no_piece } }
