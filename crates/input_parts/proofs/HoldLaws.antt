-- Laws of the tests whether the table or a record is held whole.
use Prim.Native.Nat.{ℕ, ◌+◌, ◌≤◌, ◌<◌}
use mathlib.Core.Bool.{Bool, true, false, not, cond}
use mathlib.Core.List.{List}
use mathlib.Core.Path.{◌≡◌, refl, sym, ap, ◌∙◌}
use native.Mathlib.Omega.{arith}
use borrow.Author.Tests.{leb-false, not-true, lt-ltb, le-ltb, le-leb, lt-leb}
use lib.Dec.{leb}
use lib.ListN.{length}
use Rattle.sizes.specs.Sizes.{table_bytes}
use Rattle.fields.specs.Bytes.{number16, number32}
use Rattle.program_run.specs.Machine.{table_held, record_held, lacking}
use Rattle.input_parts.specs.Parts.{Tells}

not-either : (b x y : Bool) → not (cond b x y) ≡ cond b (not x) (not y)
not-either true x y = refl
not-either false x y = refl

module _ (bytes : List ℕ) where
  pub record-told : (n : ℕ) → n ≡ number16 bytes 0 → n < 65536 → Tells (leb (n + 2) (length bytes)) (record_held bytes) false bytes
  unfolding record_held
  record-told n e small =
      record { same = ap (λ k. leb (k + 2) (length bytes)) e; few = λ f. omega (arith, leb-false (n + 2) (length bytes) f) }

  pub table-short : length bytes < 4 → Tells false (table_held bytes) false bytes
  unfolding table_held
  table-short h = record { same = rw (lt-leb 4 (length bytes) h); few = λ f. omega arith }

  module _ (n : ℕ) (e : n ≡ number32 bytes 0) (h : 4 ≤ length bytes) where
    pub table-long : table_bytes < n + 4 → Tells true (table_held bytes) false bytes
    unfolding table_held
    table-long long =
        record {
          same = rw (le-leb 4 (length bytes) h, lt-ltb table_bytes (number32 bytes 0 + 4) (omega arith));
          few = λ f. cc;
        }

    pub table-told : n + 4 ≤ table_bytes → Tells (leb (n + 4) (length bytes)) (table_held bytes) false bytes
    unfolding table_held
    table-told fits =
        record {
          same =
              rw (le-leb 4 (length bytes) h, le-ltb table_bytes (number32 bytes 0 + 4) (omega arith))
              (ap (λ k. leb (k + 4) (length bytes)) e);
          few = λ f. omega (arith, leb-false (n + 4) (length bytes) f);
        }

  -- and whether more is needed
  module _ (judged over : Bool) where
    pub over-told : over ≡ true → Tells false (lacking judged over bytes) true bytes
    unfolding lacking
    over-told e = record { same = rw e; few = λ f. cc }

    pub lacking-told :
        {t held : Bool}
        → over ≡ false
        → Tells t held false bytes
        → cond judged (record_held bytes) (table_held bytes) ≡ held
        → Tells (not t) (lacking judged over bytes) true bytes
    unfolding lacking
    lacking-told {t} e h k =
        record {
          same = rw e (ap not (h.same ∙ sym k) ∙ not-either judged (record_held bytes) (table_held bytes));
          few = λ f. h.few (not-true t f);
        }
