-- `forecast_on` meets its contract.
use Prim.Native.Nat.{ℕ, ◌+◌, ◌*◌, ◌≤◌, min}
use mathlib.Core.List.{List}
use mathlib.Core.Path.{◌≡◌}
use native.Mathlib.Omega.{arith}
use Rattle.table.specs.KindCounts.{extra_count}
use Rattle.table.specs.InUse.{table_in}
use Rattle.state.specs.States.{State}
use Rattle.network_leads.specs.Worked.{space_size}
use Rattle.leads.specs.Held.{ForecastGiven, CopyReady}
use Rattle.leads.proofs.AnswerLaws.{given, elements-few, answer-size, space-size, too_small}
use Rattle.leads.proofs.forecast_on.Goals as goal

module _ {bytes : List ℕ} {n L T : ℕ} {s : State} (g : ForecastGiven bytes n L T s) where
  -- a space that has room, and how many elements a river has that it has room for
  module _ {extra room : ℕ} (e : extra ≡ extra_count (table_in bytes)) (r : room ≡ (n + 1 + min extra 7) * (L + 1)) where
    roomy : {size : ℕ} → room ≤ size → space_size (table_in bytes) ≤ size
    roomy l = omega (arith, l, space-size g e r)

    few : {size : ℕ} → room ≤ size → 2 * ((table_in bytes).elements + 1) ≤ size
    few l = elements-few g (roomy l)

    ready :
        (own size : ℕ) {needed lent : ℕ}
        → needed ≡ 4 * n * (L + 1)
        → needed ≤ lent
        → room ≤ size
        → (table_in bytes).elements ≤ own
        → CopyReady bytes n L T s own size lent
    ready own size a fits l m =
        record {
          given = g;
          weights = m;
          space = roomy l;
          answer = omega (arith, fits, answer-size g a);
        }

pub returns-then-out-answer_numbers : goal.returns-then-out-answer_numbers
returns-then-out-answer_numbers c =
    too_small _ _ _
    (omega (arith, c.if-out-answer_numbers.true, answer-size (given c.requires.0 c.requires.1) c.answer_numbers.ensures.0))

pub in_space-requires : goal.in_space-requires
in_space-requires c =
    let g = given c.requires.0 c.requires.1 in
    let r = c.space_places-room.ensures.0 in
    let l = c.if-room-le-TINY_FORECAST_PLACES.true in (
      record { own_most = omega arith; room_most = omega arith },
      ready g c.requires.0.extra r _ _ c.answer_numbers.ensures.0 c.if-out-answer_numbers.false l (omega (arith, few g c.requires.0.extra r l)),
    )

pub in_space-requires-then-room-le-SMALL_FORECAST_PLACES : goal.in_space-requires-then-room-le-SMALL_FORECAST_PLACES
in_space-requires-then-room-le-SMALL_FORECAST_PLACES c =
    let g = given c.requires.0 c.requires.1 in
    let r = c.space_places-room.ensures.0 in
    let l = c.if-room-le-SMALL_FORECAST_PLACES.true in (
      record { own_most = omega arith; room_most = omega arith },
      ready g c.requires.0.extra r _ _ c.answer_numbers.ensures.0 c.if-out-answer_numbers.false l (omega (arith, few g c.requires.0.extra r l)),
    )

pub in_space-requires-then-room-le-MEDIUM_FORECAST_PLACES : goal.in_space-requires-then-room-le-MEDIUM_FORECAST_PLACES
in_space-requires-then-room-le-MEDIUM_FORECAST_PLACES c =
    let g = given c.requires.0 c.requires.1 in
    let l = c.if-room-le-MEDIUM_FORECAST_PLACES.true in (
      record { own_most = omega arith; room_most = omega arith },
      ready g c.requires.0.extra c.space_places-room.ensures.0 _ _ c.answer_numbers.ensures.0 c.if-out-answer_numbers.false l g.table.bounds.elements_most,
    )

pub in_largest_space-requires : goal.in_largest_space-requires
in_largest_space-requires c =
    let g = given c.requires.0 c.requires.1 in
    ready g c.requires.0.extra c.space_places-room.ensures.0 _ _ c.answer_numbers.ensures.0 c.if-out-answer_numbers.false
    c.space_places-room.ensures.1 g.table.bounds.elements_most
