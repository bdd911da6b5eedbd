-- The turn of one tank in the code, and the tanks one after the other: what the code relies on, and what is then known.
use Prim.{Unit}
use Rattle.std.specs.Prelude.{Result, Ok, Err, IsErrAnd, None}
use Rattle.std.proofs.lemmas.Result.{err_from_is_err_and}
use Prim.Native.Nat.{ℕ, ◌+◌, ◌*◌, ◌<◌}
use mathlib.Core.List.{List}
use mathlib.Core.Logic.{inr, inl}
use mathlib.Core.Path.{◌≡◌, refl, sym, ap, subst, ◌∙◌}
use borrow.Author.Tests.{eq-eqb, ne_eqb}
use native.Mathlib.Omega.{arith}
use lib.ListN.{length}
use Rattle.refusal.specs.declared.Refusal.{Refusal}
use Rattle.refusal.specs.Refusals.{number}
use Rattle.refusal.specs.Answers.{answer_of}
use Rattle.refusal.proofs.RuleLaws.{not-both}
use Rattle.units.proofs.CeilingLaws.{number-16}
use Rattle.method.specs.declared.Figures.{Figures}
use Rattle.method.specs.Inflow.{no_inflow}
use Rattle.record.specs.Decoded.{ObservationFits}
use Rattle.state.specs.States.{State, figures_of}
use Rattle.answer_space.specs.Places.{most_sum_before, FiguresBelow}
use Rattle.one_lead.specs.declared.ElementInput.{ElementInput}
use Rattle.one_lead.specs.Worked.{tank_input}
use Rattle.lead_walk.specs.Worked.{TankReady}
use Rattle.tank_walk.specs.declared.TankPlaces.{TankPlaces}
use Rattle.tank_walk.specs.Tanks.{tank_place, RowCleared, MoveReady, TankTurn, done, refused, more, TanksWorked, TanksThere, TankTurnReady, TankTurned, TanksReady, TanksAnswered}

-- the last stands at the element's own place, the others after one another
pub place-last : (p : TankPlaces) (extra : ℕ) → tank_place p extra extra ≡ p.own
unfolding tank_place
place-last p extra = rw (eq-eqb extra extra refl)

pub place-inner : (p : TankPlaces) (extra j : ℕ) → j < extra → tank_place p extra j ≡ p.first + j * p.width
unfolding tank_place
place-inner p extra j l = rw (ne_eqb j extra (λ e. omega arith))

none-small : FiguresBelow no_inflow most_sum_before
unfolding no_inflow
none-small = record { discharge = omega arith; discharge_margin = omega arith; variance = omega arith; variance_margin = omega arith }

-- the same places in a space as long
pub there-again : {p : TankPlaces} {extra : ℕ} {space next : List Figures} → TanksThere p extra space → length next ≡ length space → TanksThere p extra next
there-again g size =
    record {
      short = g.short;
      some = g.some;
      extra_few = g.extra_few;
      few = g.few;
      room = λ j l. rw size (g.room j l);
      apart = g.apart;
      moved = g.moved;
    }

module _
    {noise weight extra j : ℕ} {p : TankPlaces} {first : Figures} {before : List Figures}
    (g : TankTurnReady noise weight extra j p first before) where
  module _
      {a b : ℕ} (is-a : a ≡ tank_place p extra j) (is_b : b ≡ tank_place p extra (j + 1)) {middle : List Figures}
      (cleared : RowCleared b p.leads before middle) where
    pub turn-ready : length middle ≡ length before → TankReady (tank_input noise weight None) first a b p.leads middle
    unfolding ObservationFits
    turn-ready size =
        record {
          in_range = record {
            element = record { kind = inr (inl refl); system_noise = g.system_noise; rain_noise = omega arith };
            weight = g.weighed;
            first_lead = omega arith;
            release = λ k. omega arith;
            observation = tt;
          };
          fits = g.fits;
          places = record {
            short = g.there.short;
            here_room = omega (arith, size, is-a, g.there.room j (omega (arith, g.tank)));
            below_room = omega (arith, size, is_b, g.there.room (j + 1) (omega (arith, g.tank)));
            apart = rw (is-a, is_b) (g.there.apart j g.tank);
            small = λ l m. subst (λ (f : Figures). FiguresBelow f most_sum_before) (sym (cleared.cleared l m)) none-small;
          };
        }

-- ---- one after the other

-- what the loop over them holds before tank j: what is then worked out of the rest is so of all
pub record TanksSoFar (noise weight extra x : ℕ) (p : TankPlaces) (s : State) (before : List Figures) (j : ℕ) (now : List Figures) : Type 0 where
  pub ready : TanksReady noise weight extra x j p s now
  pub rest :
      (r : Result Unit Refusal) (after : List Figures)
      → TanksAnswered r noise weight extra x j p s now after
      → TanksAnswered r noise weight extra x 0 p s before after

module _ {noise weight extra x : ℕ} {p : TankPlaces} {s : State} {before : List Figures} where
  pub tanks-begin : TanksReady noise weight extra x 0 p s before → TanksSoFar noise weight extra x p s before 0 before
  tanks-begin ready = record { ready = ready; rest = λ r after w. w }

  module _ {j : ℕ} {now : List Figures} (h : TanksSoFar noise weight extra x p s before j now) where
    -- none is left
    pub tanks-ended : j ≡ extra → TanksAnswered (Ok tt) noise weight extra x 0 p s before now
    tanks-ended last = h.rest _ _ (done last)

    -- tank j is
    module _ (left : j < extra) {first : Figures} (old : first ≡ figures_of s (x + j)) where
      pub one-ready : TankTurnReady noise weight extra j p first now
      one-ready =
          let g = h.ready in
          rw old (record { there = g.there; tank = left; system_noise = g.system_noise; weighed = g.weighed; fits = g.fits j left })

      module _ {r : Result Unit Refusal} {next : List Figures} (t : TankTurned r noise weight extra j p first now next) where
        turn : TankTurn (tank_input noise weight None) (λ k. figures_of s (x + k)) (tank_place p extra) p.leads extra j r now next
        turn = record { middle = t.middle; row = t.row; worked = rw old at t.worked }

        -- its refusal is passed on
        pub tanks-passed :
            {answer : Result Unit Refusal} {k : Refusal}
            → r ≡ Err k
            → IsErrAnd answer (λ (e : Refusal). e ≡ k)
            → TanksAnswered answer noise weight extra x 0 p s before next
        tanks-passed {answer = answer} e passed =
            let q = err_from_is_err_and answer passed in
            h.rest _ _ (rw (q.1, q.2) (refused left e turn))

        -- the next is ready
        pub tanks-again : r ≡ Ok tt → length next ≡ length now → TanksSoFar noise weight extra x p s before (j + 1) next
        tanks-again e size =
            let g = h.ready in
            record {
              ready = record {
                there = there-again g.there size;
                places = g.places;
                tank = omega (arith, left);
                system_noise = g.system_noise;
                weighed = g.weighed;
                fits = g.fits;
              };
              rest = λ answer after w. h.rest answer after (more left e turn w);
            }

-- the tanks are refused by 16
pub tanks-16 :
    {c : ElementInput} {first : ℕ → Figures} {place : ℕ → ℕ} {leads extra j : ℕ} {r : Result Unit Refusal} {k : Refusal} {before after : List Figures}
    → TanksWorked c first place leads extra j r before after
    → r ≡ Err k
    → number k ≡ 16
tanks-16 (done e) a = absurd (not-both refl (ap answer_of a))
tanks-16 (refused l e m) a = number-16 _ _ (sym (ap answer_of a) ∙ (sym (ap answer_of e) ∙ m.worked.verdict))
tanks-16 (more l e m rest) a = tanks-16 rest a

-- ---- opening an element

module _ {noise weight extra x : ℕ} {p : TankPlaces} {s : State} {before : List Figures} (g : TanksReady noise weight extra x 0 p s before) where
  pub move-ready : MoveReady p.own p.first p.leads before
  move-ready =
      record {
        source_room = rw (place-last p extra) at (g.there.room extra (omega arith));
        place_room = omega (arith, g.there.room 0 (omega arith), place-inner p extra 0 g.there.some);
        apart = g.there.moved;
      }
