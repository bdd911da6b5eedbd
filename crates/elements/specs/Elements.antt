-- Document 01, The table: "Then N elements of 26 bytes, numbered from 1".
use Rattle.std.specs.Prelude.{ℕ, ◌+◌, ◌*◌, List, None}
use Rattle.units.specs.Units.{grains, thousandths}
use Rattle.fields.specs.Bytes.{byte_at, number16, number32}
use Rattle.elements.specs.declared.Element.{Element}
use Rattle.elements.specs.Kinds.{kind_of}

-- element i, counted from 0: "kind (1; 1 basin, 2 reach), down (1; number drained into, 0 for an outlet), lag in minutes (2),
-- area in 0.01 km² (4), runoff f in thousandths (2), first discharge (4), first variance (4), system noise W (4), rain noise G (4)"
unfoldable pub element_at : List ℕ → ℕ → Element
element_at table i =
    let at = 26 * i + 10 in
    record {
      kind = kind_of (byte_at table at);
      down = byte_at table (at + 1);
      lag = number16 table (at + 2);
      area = number32 table (at + 4);
      runoff = number16 table (at + 8);
      first_discharge = grains (number32 table (at + 10));
      first_variance = thousandths (number32 table (at + 14));
      system_noise = thousandths (number32 table (at + 18));
      rain_noise = thousandths (number32 table (at + 22));
    }

-- an unused place
abbrev pub no_element : Element
no_element =
    record {
      kind = None;
      down = 0;
      lag = 0;
      area = 0;
      runoff = 0;
      first_discharge = grains 0;
      first_variance = thousandths 0;
      system_noise = thousandths 0;
      rain_noise = thousandths 0;
    }
