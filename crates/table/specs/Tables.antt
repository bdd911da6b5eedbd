-- Document 01, The table: what its bytes say; document 02, M-105: in version 1 or 2, the same values.
use Rattle.std.specs.Prelude.{ℕ, List}
use Rattle.fields.specs.Bytes.{byte_at, number16}
use Rattle.elements.specs.declared.Element.{Element}
use Rattle.elements.specs.Elements.{element_at}
use Rattle.gauges.specs.declared.Gauge.{Gauge}
use Rattle.gauges.specs.Gauges.{gauge_at}

pub record TableValues : Type 0 where
  -- T, L, N and M
  pub step : ℕ
  pub leads : ℕ
  pub elements : ℕ
  pub gauges : ℕ
  -- element and gauge i, counted from 0
  pub element : ℕ → Element
  pub gauge : ℕ → Gauge

-- "Ten bytes: length (4, the bytes after it), version (1, value 1), T step in minutes (2), L leads (1), N elements (1),
-- M gauges (1)." Elements and gauges follow, these by the version (`gauge_at`).
unfoldable pub table_of : List ℕ → TableValues
table_of bytes =
    record {
      step = number16 bytes 5;
      leads = byte_at bytes 7;
      elements = byte_at bytes 8;
      gauges = byte_at bytes 9;
      element = element_at bytes;
      gauge = gauge_at bytes (byte_at bytes 8);
    }
