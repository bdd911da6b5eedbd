-- Laws of the numbers of basins and dams of a table.
use Prim.Native.Nat.{ℕ, zero, suc, ◌+◌, ◌≤◌, ◌<◌}
use mathlib.Core.List.{List}
use mathlib.Core.Path.{◌≡◌, refl, sym, ap, ◌∙◌}
use native.Mathlib.Decide.{le_ind}
use native.Mathlib.Numerals.{add-one}
use native.Mathlib.Omega.{arith}
use Rattle.elements.specs.Elements.{element_at}
use Rattle.elements.specs.Kinds.{basin, dam, basin_of, dam_of, extra_tanks}
use Rattle.elements.proofs.KindLaws.{basin-most, dam-most, basin-counts, dam-counts}
use Rattle.table.specs.Tables.{TableValues, table_of}
use Rattle.table.specs.KindCounts.{count_before, basins_before, dams_before, basin_count, dam_count, extra_before}
use Rattle.table.specs.InUse.{in_use, table_in}
use Rattle.table.proofs.InUseLaws.{element-read}
use Rattle.std.specs.Prelude.{Option}
use Rattle.elements.specs.declared.Kind.{Kind}

-- by what a kind counts
module _ (of : Option Kind → ℕ) (t : TableValues) where
  -- a loop that counts: where it begins, one element more, and the end
  pub count_none : 0 ≡ count_before of t 0
  unfolding count_before
  count_none = refl

  pub count-more :
      (i : ℕ) {b one : ℕ} {kind : Option Kind}
      → b ≡ count_before of t i
      → one ≡ of kind
      → kind ≡ (t.element i).kind
      → b + one ≡ count_before of t (i + 1)
  unfolding count_before
  count-more i h k e = rw (add-one, h, k, e)

  pub all-counted : {i b : ℕ} → i ≡ t.elements → b ≡ count_before of t i → b ≡ count_before of t t.elements
  all-counted e h = h ∙ ap (count_before of t) e

  -- no more than elements
  module _ (one : (kind : Option Kind) → of kind ≤ 1) where
    pub count_most : (i : ℕ) → count_before of t i ≤ i
    unfolding count_before
    count_most zero = omega arith
    count_most (suc i) = omega (arith, count_most i, one (t.element i).kind)

  -- a later element has no fewer before it
  count-rise : (i m : ℕ) → i ≤ m → count_before of t i ≤ count_before of t m
  unfolding count_before
  count-rise i m l = le_ind (λ k. count_before of t i ≤ count_before of t k) (omega arith) (λ k _ h. omega arith) m l

  -- one that counts is counted itself
  pub itself-counted : (i : ℕ) → i < t.elements → of (t.element i).kind ≡ 1 → count_before of t i < count_before of t t.elements
  itself-counted i l k =
      omega (arith, count-more i refl refl refl, k, count-rise (i + 1) t.elements (omega arith))

module _ (t : TableValues) where
  pub basins-most : (i : ℕ) → basins_before t i ≤ i
  basins-most = count_most basin_of t basin-most

  pub dams-most : (i : ℕ) → dams_before t i ≤ i
  dams-most = count_most dam_of t dam-most

  -- so the rain of a basin is among those that rule 12 judges, and the release of a dam among those of rule 17
  pub basin-counted : (i : ℕ) → i < t.elements → (t.element i).kind ≡ basin → basins_before t i < basin_count t
  basin-counted i l k = itself-counted basin_of t i l (basin-counts _ k).0

  pub dam-counted : (i : ℕ) → i < t.elements → (t.element i).kind ≡ dam → dams_before t i < dam_count t
  dam-counted i l k = itself-counted dam_of t i l (dam-counts _ k).1

-- the same of tanks above the last of their elements
module _ (t : TableValues) where
  pub extra-none : 0 ≡ extra_before t 0
  unfolding extra_before
  extra-none = refl

  pub extra-more :
      (i : ℕ) {x one : ℕ} → x ≡ extra_before t i → one ≡ extra_tanks (t.element i) → x + one ≡ extra_before t (i + 1)
  unfolding extra_before
  extra-more i h k = rw (add-one, h, k)

  pub extra-rise : (i m : ℕ) → i ≤ m → extra_before t i ≤ extra_before t m
  unfolding extra_before
  extra-rise i m l = le_ind (λ k. extra_before t i ≤ extra_before t k) (omega arith) (λ k _ h. omega arith) m l

-- as a loop over the bytes of a table counts them
pub extra-read :
    (bytes : List ℕ) (i : ℕ) {one : ℕ}
    → i < (table_in bytes).elements
    → one ≡ extra_tanks (element_at bytes i)
    → extra_before (table_in bytes) i + one ≡ extra_before (table_in bytes) (i + 1)
extra-read bytes i l h = extra-more (table_in bytes) i refl (h ∙ ap extra_tanks (sym (element-read bytes i l)))

-- only the places in use are counted
module _ (of : Option Kind → ℕ) (bytes : List ℕ) where
  count_held : (i : ℕ) → i ≤ (table_in bytes).elements → count_before of (table_of bytes) i ≡ count_before of (table_in bytes) i
  unfolding count_before table_of
  count_held zero l = refl
  count_held (suc i) l = rw (count_held i (omega arith), element-read bytes i (omega arith))

  pub count-in-use : count_before of (table_of bytes) (table_of bytes).elements ≡ count_before of (table_in bytes) (table_in bytes).elements
  unfolding table_in in_use
  count-in-use = count_held _ (omega arith)
