-- `read` meets its contract.
use Prim.{Unit}
use Prim.Native.Nat.{ℕ, ◌≤◌}
use mathlib.Core.Bool.{Bool, true, false}
use mathlib.Core.List.{List}
use mathlib.Core.Path.{◌≡◌, refl, ap, ◌∙◌}
use native.Mathlib.Omega.{arith}
use lib.ListN.{length}
use Rattle.sizes.specs.Sizes.{most_elements, most_gauges}
use Rattle.std.proofs.lemmas.Result.{err_from_is_err_and}
use Rattle.refusal.specs.Answers.{Answer, accepted, refused, rule}
use Rattle.refusal.proofs.RuleLaws.{not-both}
use Rattle.fields.specs.Ranges.{all_below}
use Rattle.elements.specs.Elements.{element_at}
use Rattle.elements.specs.Kinds.{basin_of, dam_of}
use Rattle.fields.proofs.RangeLaws.{kept, broken}
use Rattle.gauges.specs.Gauges.{gauge_place, gauge_at}
use Rattle.gauges.specs.Rules.{gauge_fits}
use Rattle.gauges.specs.Places.{Versioned}
use Rattle.table.specs.Tables.{table_of}
use Rattle.table.specs.KindCounts.{extra_before}
use Rattle.table.specs.Decoded.{CountsHeld}
use Rattle.table.specs.declared.Counts.{Counts}
use Rattle.table.specs.Rules.{table_rules}
use Rattle.table.proofs.TableLaws.{HeaderKept, header-left, counts-bounds, elements-judged, downs-judged, gauges-judged}
use Rattle.table.proofs.CountLaws.{all-counted}
use Rattle.table.proofs.HeldLaws.{header-whole, versioned, all_there}
use Rattle.table_reader.specs.Judged.{elements_fit, downs_fit}
use Rattle.table_reader.proofs.read.Goals as goal
use Rattle.table_reader.proofs.read.Goals.{After-counts_of-header}

-- where rules 1 to 4 are kept and the counts of the header are read
module _ {bytes : List ℕ} {counts : Counts} (h : HeaderKept bytes) (held : CountsHeld counts (table_of bytes)) where
  -- all elements and gauges are there
  there :
      Versioned bytes
      × ((counts.elements ≤ most_elements)
      × ((counts.gauges ≤ most_gauges) × (gauge_place bytes counts.elements counts.gauges ≤ length bytes)))
  there =
      let b = counts-bounds _ h.counts in
      rw (held.elements, held.gauges)
      (versioned _ h.length h.version, (b.elements_most, (b.gauges_most, all_there _ h.length h.size)))

  -- rules 5 and 6, and 7 after them, as they are worked out
  left : {gauges : Bool}
      → gauges ≡ all_below (gauge_fits counts.elements (element_at bytes) (gauge_at bytes counts.elements)) counts.gauges
      → table_rules {A = Unit} bytes (accepted tt)
      ≡ rule 5 (elements_fit bytes counts.step counts.elements) (rule 6 (downs_fit bytes counts.elements) (rule 7 gauges (accepted tt)))
  unfolding table_of
  left g =
      rw (elements-judged bytes held.step held.elements refl, downs-judged bytes held.elements refl, gauges-judged bytes held.elements held.gauges g)
      (header-left bytes _ h)

  -- the number of rule 5 or 6 is that of all the rules
  left-refused : {k : ℕ}
      → rule {A = Unit} 5 (elements_fit bytes counts.step counts.elements) (rule 6 (downs_fit bytes counts.elements) (accepted tt)) ≡ refused k
      → table_rules {A = Unit} bytes (accepted tt) ≡ refused k
  left-refused r = left refl ∙ go (elements_fit bytes counts.step counts.elements) (downs_fit bytes counts.elements) _ r
    where
      go :
          (elements downs : Bool) (rest : Answer Unit) {k : ℕ}
          → rule {A = Unit} 5 elements (rule 6 downs (accepted tt)) ≡ refused k
          → rule 5 elements (rule 6 downs rest) ≡ refused k
      go true true rest h = absurd (not-both refl h)
      go true false rest h = h
      go false downs rest h = h

pub returns-then-not-length_fits : goal.returns-then-not-length_fits
unfolding table_rules
returns-then-not-length_fits c = rw (broken c.length_fits.ensures c.if-not-length_fits.true)

pub version_fits-requires : goal.version_fits-requires
version_fits-requires c = header-whole _ (kept c.length_fits.ensures c.if-not-length_fits.false)

pub returns-then-not-version_fits : goal.returns-then-not-version_fits
unfolding table_rules
returns-then-not-version_fits c =
    rw (kept c.length_fits.ensures c.if-not-length_fits.false, broken c.version_fits.ensures c.if-not-version_fits.true)

pub counts_fit-requires : goal.counts_fit-requires
counts_fit-requires c = header-whole _ (kept c.length_fits.ensures c.if-not-length_fits.false)

pub returns-then-not-counts_fit : goal.returns-then-not-counts_fit
unfolding table_rules
returns-then-not-counts_fit c =
    rw (
      kept c.length_fits.ensures c.if-not-length_fits.false,
      kept c.version_fits.ensures c.if-not-version_fits.false,
      broken c.counts_fit.ensures c.if-not-counts_fit.true,
    )

pub size_fits-requires : goal.size_fits-requires
size_fits-requires c =
    versioned _ (kept c.length_fits.ensures c.if-not-length_fits.false) (kept c.version_fits.ensures c.if-not-version_fits.false)

pub returns-then-not-size_fits : goal.returns-then-not-size_fits
unfolding table_rules
returns-then-not-size_fits c =
    rw (
      kept c.length_fits.ensures c.if-not-length_fits.false,
      kept c.version_fits.ensures c.if-not-version_fits.false,
      kept c.counts_fit.ensures c.if-not-counts_fit.false,
      broken c.size_fits.ensures c.if-not-size_fits.true,
    )

pub counts_of-header-requires : goal.counts_of-header-requires
counts_of-header-requires c = header-whole _ (kept c.length_fits.ensures c.if-not-length_fits.false)

-- rules 1 to 4 are kept
header : (c : After-counts_of-header) → HeaderKept c.args.table.now
header c =
    record {
      length = kept c.length_fits.ensures c.if-not-length_fits.false;
      version = kept c.version_fits.ensures c.if-not-version_fits.false;
      counts = kept c.counts_fit.ensures c.if-not-counts_fit.false;
      size = kept c.size_fits.ensures c.if-not-size_fits.false;
    }

pub judge_elements-requires : goal.judge_elements-requires
unfolding gauge_place
judge_elements-requires c =
    let t = there (header c) c.counts_of-header.ensures in (t.1.0, omega (arith, t.1.1.1))

pub returns-in_err-kinds : goal.returns-in_err-kinds
returns-in_err-kinds c =
    let p = err_from_is_err_and c.from_residual.result c.from_residual.ensures.1 in
    rw (p.1, p.2) (left-refused (header (goal.at.returns-in_err-kinds c).After-counts_of-header) c.counts_of-header.ensures c.in_err-kinds.ensures)

pub gauges_fit-requires : goal.gauges_fit-requires
gauges_fit-requires c = there (header (goal.at.gauges_fit-requires c).After-counts_of-header) c.counts_of-header.ensures

pub returns-then-not-gauges_fit : goal.returns-then-not-gauges_fit
returns-then-not-gauges_fit c =
    let kinds = c.in_ok-kinds.ensures in
    left (header (goal.at.returns-then-not-gauges_fit c).After-counts_of-header) c.counts_of-header.ensures c.gauges_fit.ensures
    ∙ rw (kinds.fit, kinds.later, c.if-not-gauges_fit.true)

pub returns : goal.returns
returns c =
    let kinds = c.in_ok-kinds.ensures in
    let held = c.counts_of-header.ensures in
    record {
      kept =
          left (header (goal.at.returns c).After-counts_of-header) held c.gauges_fit.ensures
          ∙ rw (kinds.fit, kinds.later, c.if-not-gauges_fit.false);
      held = record { step = held.step; leads = held.leads; elements = held.elements; gauges = held.gauges };
      basins = all-counted basin_of _ held.elements kinds.basins;
      dams = all-counted dam_of _ held.elements kinds.dams;
      extra = kinds.extra ∙ ap (extra_before _) held.elements;
    }
