-- `judge_elements` meets its contract.
use Prim.Native.Nat.{ℕ, ◌+◌, ◌-◌, ◌≤◌}
use mathlib.Core.Bool.{Bool, true, false, ◌&&◌}
use mathlib.Core.Path.{◌≡◌, refl, sym, ap, ◌∙◌}
use native.Mathlib.Omega.{arith}
use Rattle.std.proofs.Common.{rules}
use Rattle.std.specs.Prelude.{Option, Some, None}
use Rattle.std.proofs.lemmas.Result.{err_from_is_err_and}
use Rattle.refusal.specs.declared.Refusal.TheVariants.{ElementField}
use Rattle.fields.specs.Ranges.{all_below}
use Rattle.fields.proofs.RangeLaws.{all_none, all_more, all-fails}
use Rattle.elements.specs.declared.Kind.{Kind}
use Rattle.elements.specs.declared.Kind.TheVariants.{Basin, Reach, Dam, Tanks}
use Rattle.elements.specs.declared.Element.{Element}
use Rattle.elements.specs.Elements.{element_at}
use Rattle.elements.specs.Kinds.{by_kind, basin_of, dam_of, extra_tanks}
use Rattle.elements.specs.Rules.{element_fits, down_fits}
use Rattle.element_rules.specs.Judged.{judged}
use Rattle.element_rules.proofs.JudgedLaws.{refused-said, kept-said, no-extra, extra-counted}
use Rattle.table.specs.Tables.{table_of}
use Rattle.table.proofs.CountLaws.{count_none, count-more, basins-most, dams-most, extra-none, extra-more}
use Rattle.table_reader.proofs.judge_elements.Goals as goal
use Rattle.table_reader.proofs.judge_elements.Goals.{in-Basin, in-Reach, in-Dam, in-Tanks, then-not-down_fits, else-not-down_fits}

-- an element that keeps rule 5, and what it adds to what is counted
record Adds (step : ℕ) (e : Element) (b d x : ℕ) : Type 0 where
  pub fits : element_fits step e ≡ true
  pub basins : b ≡ basin_of e.kind
  pub dams : d ≡ dam_of e.kind
  pub extra : x ≡ extra_tanks e
  pub few : x ≤ 7

-- what was counted before it, and with it
record Added (step : ℕ) (e : Element) (b d x b' d' x' : ℕ) : Type 0 where
  pub one : ℕ
  pub two : ℕ
  pub three : ℕ
  pub by : Adds step e one two three
  pub basins : b' ≡ b + one
  pub dams : d' ≡ d + two
  pub extra : x' ≡ x + three

-- by each kind
module _ (step : ℕ) (e : Element) {r : Option Kind} (is : r ≡ judged step e) where
  basin-adds : r ≡ Some Basin → Adds step e 1 0 0
  unfolding basin_of dam_of by_kind
  basin-adds s =
      let k = kept-said step e is s in
      record { fits = k.0; basins = rw k.1; dams = rw k.1; extra = sym (no-extra step e is s (λ t. cc)); few = omega arith }

  reach-adds : r ≡ Some Reach → Adds step e 0 0 0
  unfolding basin_of dam_of by_kind
  reach-adds s =
      let k = kept-said step e is s in
      record { fits = k.0; basins = rw k.1; dams = rw k.1; extra = sym (no-extra step e is s (λ t. cc)); few = omega arith }

  dam-adds : r ≡ Some Dam → Adds step e 0 1 0
  unfolding basin_of dam_of by_kind
  dam-adds s =
      let k = kept-said step e is s in
      record { fits = k.0; basins = rw k.1; dams = rw k.1; extra = sym (no-extra step e is s (λ t. cc)); few = omega arith }

  tanks-adds : r ≡ Some Tanks → Adds step e 0 0 (e.runoff - 1)
  unfolding basin_of dam_of by_kind
  tanks-adds s =
      let k = kept-said step e is s in
      let x = extra-counted step e is s in
      record { fits = k.0; basins = rw k.1; dams = rw k.1; extra = sym x.0; few = omega (arith, x.1) }

-- what rule 5 says of the element that was read
judged-is : (step : ℕ) {read at : Element} {r : Option Kind} → r ≡ judged step read → read ≡ at → r ≡ judged step at
judged-is step h e = h ∙ ap (judged step) e

pub loop-i-init : goal.loop-i-init
loop-i-init c = (
  (omega arith, (omega arith, (omega arith, omega arith))),
  (sym (all_none _), (all_none _, (count_none _ _, (count_none _ _, extra-none _)))),
)

pub returns-in_err-kind : goal.returns-in_err-kind
returns-in_err-kind c =
    let is = judged-is c.args.step c.judge_element.ensures c.element_at.ensures in
    let none : c.judge_element.result ≡ None = grind arith in
    let error : c.in_err-kind.field-0.0 ≡ ElementField = grind arith in
    let p = err_from_is_err_and c.from_residual.result c.from_residual.ensures.1 in
    rw (p.1, p.2, error, all-fails _ _ _ c.loop-i-test.true (refused-said _ _ is none))

pub extra_at-extra-requires : goal.extra_at-extra-requires
extra_at-extra-requires c =
    let is = judged-is c.args.step c.judge_element.ensures c.element_at.ensures in
    let some : c.judge_element.result ≡ Some c.in_ok-kind.kind = grind arith in
    (search rules, omega (arith, extra-counted _ _ is (rw c.in-Tanks.is at some)))

pub overflow_add-extra : goal.overflow_add-extra
overflow_add-extra c =
    let is = judged-is c.args.step c.judge_element.ensures c.element_at.ensures in
    let some : c.judge_element.result ≡ Some c.in_ok-kind.kind = grind arith in
    omega (arith, c.extra_at-extra.ensures, extra-counted _ _ is (rw c.in-Tanks.is at some))

joined-true : (all one : Bool) → one ≡ true → all ≡ (all && one)
joined-true true one e = sym e
joined-true false one e = refl

later :
    (c : goal.Joined-not-down_fits)
    → c.if-not-down_fits.later ≡ all_below (down_fits c.args.n (element_at c.args.table.now)) (c.loop-i.i + 1)
later c =
    elim c.if-not-down_fits.branch [
      | then-not-down_fits w ↦ w.later-is ∙ sym (all-fails _ _ _ (omega arith) (sym c.down_fits.ensures ∙ w.if-not-down_fits.true))
      | else-not-down_fits w ↦ w.later-is ∙ (joined-true _ _ w.if-not-down_fits.false ∙ all_more _ _ c.loop-i.invariant.1.1.0 c.down_fits.ensures)
    ]

pub loop-i-preserved : goal.loop-i-preserved
unfolding table_of
loop-i-preserved c =
    let e = element_at c.args.table.now c.loop-i.i in
    let is = judged-is c.args.step c.judge_element.ensures c.element_at.ensures in
    let some : c.judge_element.result ≡ Some c.in_ok-kind.kind = grind arith in
    let added : Added c.args.step e c.loop-i.basins c.loop-i.dams c.loop-i.extra c.match-kind.basins c.match-kind.dams c.match-kind.extra =
    elim c.match-kind.branch [
      | in-Basin w ↦ (let a = basin-adds _ _ is (rw w.in-Basin.is at some) in record { one = 1; two = 0; three = 0; by = a; basins = omega (arith, w.basins-is); dams = omega (arith, w.dams-is); extra = omega (arith, w.extra-is) })
      | in-Reach w ↦ (let a = reach-adds _ _ is (rw w.in-Reach.is at some) in record { one = 0; two = 0; three = 0; by = a; basins = omega (arith, w.basins-is); dams = omega (arith, w.dams-is); extra = omega (arith, w.extra-is) })
      | in-Dam w ↦ (let a = dam-adds _ _ is (rw w.in-Dam.is at some) in record { one = 0; two = 1; three = 0; by = a; basins = omega (arith, w.basins-is); dams = omega (arith, w.dams-is); extra = omega (arith, w.extra-is) })
      | in-Tanks w ↦ (let a = tanks-adds _ _ is (rw w.in-Tanks.is at some) in record { one = 0; two = 0; three = e.runoff - 1; by = a; basins = omega (arith, w.basins-is); dams = omega (arith, w.dams-is); extra = omega (arith, w.extra-is, w.extra_at-extra.ensures) })
    ] in
    let inv = c.loop-i.invariant in
    let values = table_of c.args.table.now in
    let i = c.loop-i.i in
    let basins = added.basins ∙ count-more basin_of values i inv.1.1.1.0 added.by.basins refl in
    let dams = added.dams ∙ count-more dam_of values i inv.1.1.1.1.0 added.by.dams refl in
    let extra = added.extra ∙ extra-more values i inv.1.1.1.1.1 added.by.extra in (
      (
        omega arith,
        (
          omega (arith, basins, basins-most values (i + 1)),
          (omega (arith, dams, dams-most values (i + 1)), omega (arith, added.extra, added.by.few, inv.0.1.1.1)),
        ),
      ),
      (
        sym (all_more _ _ (sym inv.1.0) (sym added.by.fits)),
        (later c, (basins, (dams, extra))),
      ),
    )
