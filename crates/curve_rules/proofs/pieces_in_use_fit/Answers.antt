-- `pieces_in_use_fit` meets its contract.
use Prim.Native.Nat.{◌<◌}
use mathlib.Core.Path.{◌≡◌, sym, ap, ◌∙◌}
use native.Mathlib.Omega.{arith}
use Rattle.fields.proofs.RangeLaws.{all_none}
use Rattle.gauges.specs.Gauges.{curve_at}
use Rattle.gauges.specs.Rules.{top_before}
use Rattle.gauges.proofs.GaugeLaws.{top-next}
use Rattle.curve_rules.proofs.CurveLaws.{use-judged, top-none, piece-kept, piece-broken, all-broken, last-broken}
use Rattle.curve_rules.proofs.pieces_in_use_fit.Goals as goal

pub loop-j-init : goal.loop-j-init
loop-j-init c = (omega arith, (sym (all_none _), top-none _))

pub overflow_add-at-in-loop-j : goal.overflow_add-at-in-loop-j
overflow_add-at-in-loop-j c = omega (arith, c.requires.there.small, c.requires.most)

pub piece_at-piece-requires : goal.piece_at-piece-requires
piece_at-piece-requires c = let t = c.requires in (omega (arith, t.there.small, t.most), omega (arith, t.there.whole, t.most))

pub returns-then-not-piece_in_use_fits : goal.returns-then-not-piece_in_use_fits
returns-then-not-piece_in_use_fits c =
    let judged = use-judged _ _ c.requires c.loop-j-test.true c.loop-j.invariant.1.1 c.piece_at-piece.ensures c.piece_in_use_fits.ensures in
    let l : c.loop-j.j < 5 = omega (arith, c.requires.most, c.loop-j-test.true) in
    let broken = all-broken _ (piece-broken _ _ _ l judged.0 c.if-not-piece_in_use_fits.true) in
    record { kept = λ e. absurd (cc); broken = λ _. broken }

pub loop-j-preserved : goal.loop-j-preserved
loop-j-preserved c =
    let judged = use-judged _ _ c.requires c.loop-j-test.true c.loop-j.invariant.1.1 c.piece_at-piece.ensures c.piece_in_use_fits.ensures in (
      omega (arith, c.loop-j-test.true),
      (
        piece-kept _ _ c.loop-j.invariant.1.0 judged.0 c.if-not-piece_in_use_fits.false,
        ap (λ p. p.top.0) judged.1 ∙ top-next _ _,
      ),
    )

pub returns : goal.returns
returns c =
    let e : c.loop-j.j ≡ (curve_at c.args.table.now c.args.at).count =
    omega (arith, c.requires.counted, c.loop-j-test.false, c.loop-j.invariant.0)
    in
    let inv = c.loop-j.invariant.1 in
    let top = inv.1 ∙ ap (top_before _) e in
    record {
      kept = λ h. record { pieces = rw e at inv.0; last = rw top at h };
      broken = λ h. last-broken _ (omega (arith, c.requires.least, c.requires.counted)) (rw top at h);
    }
