-- Laws of the elements: what rules 5 and 6 let callers rely on.
use Prim.Native.Nat.{ℕ, ◌+◌, ◌-◌, ◌≤◌, ◌<◌}
use mathlib.Core.Bool.{Bool, true, false, not, ◌&&◌, ◌||◌, cond, true≢false}
use mathlib.Core.Logic.{◌⊎◌, inl, inr, ◌≢◌, ⊎_elim}
use mathlib.Core.Path.{◌≡◌, refl, sym, ap, ◌∙◌}
use borrow.Author.Tests.{ltb-true, leb-true, eqb-true}
use native.Mathlib.Omega.{arith}
use lib.Dec.{ltb, leb, eqb}
use Rattle.units.specs.Units.{C}
use Rattle.fields.specs.Ranges.{in_range}
use Rattle.fields.proofs.RangeLaws.{both, all_three, all-four, either, joined_same, range-bounds}
use Rattle.elements.specs.declared.Element.{Element}
use Rattle.elements.specs.Rules.{lag_fits, basin_fits, reach_fits, dam_fits, tanks_fit, kind_fits, element_fits, down_fits}
use Rattle.elements.specs.Bounds.{AcceptedElement}
use Rattle.elements.specs.Kinds.{basin, reach, dam, tanks, byte_of, same_kind, by_kind, IsKind}
use Rattle.elements.proofs.KindLaws.{same-true, kind-cases}

-- what rule 5 asks of each kind
pub record KindBounds (T : ℕ) (e : Element) : Type 0 where
  pub single : e.kind ≢ tanks → IsKind e.kind
  pub tanks : e.kind ≡ tanks → (2 ≤ e.runoff) × (e.runoff ≤ 8)
  pub lag : e.kind ≢ dam → (T ≤ e.lag) × (e.lag ≤ 60000)
  pub no_lag : e.kind ≡ dam → e.lag ≡ 0
  pub area : e.area ≤ 400000
  pub runoff : e.runoff ≤ 1000
  pub rain_noise : e.rain_noise.0 ≤ 100000000

module _ (T : ℕ) (e : Element) where
  basin-bounds : e.kind ≡ basin → (lag_fits T e && basin_fits e) ≡ true → KindBounds T e
  unfolding lag_fits basin_fits
  basin-bounds k h =
      let l = both (in_range e.lag T 60000) _ h in
      let area = in_range e.area 1 400000 in
      let runoff = in_range e.runoff 0 1000 in
      let r = all_three area runoff (in_range e.rain_noise.0 0 100000000) l.1 in
      record {
        single = λ _. inl k;
        tanks = λ t. (let z = sym k ∙ t in absurd (omega (arith, ap byte_of z)));
        lag = λ _. range-bounds _ _ _ l.0;
        no_lag = λ d. (let z = sym k ∙ d in absurd (omega (arith, ap byte_of z)));
        area = (range-bounds _ _ _ r.0).1;
        runoff = (range-bounds _ _ _ r.1.0).1;
        rain_noise = (range-bounds _ _ _ r.1.1).1;
      }

  no-rain : reach_fits e ≡ true → (e.area ≡ 0) × ((e.runoff ≡ 0) × (e.rain_noise.0 ≡ 0))
  unfolding reach_fits
  no-rain h =
      let r = all_three (eqb e.area 0) (eqb e.runoff 0) (eqb e.rain_noise.0 0) h in
      (eqb-true _ _ r.0, (eqb-true _ _ r.1.0, eqb-true _ _ r.1.1))

  reach-bounds : e.kind ≡ reach → (lag_fits T e && reach_fits e) ≡ true → KindBounds T e
  unfolding lag_fits
  reach-bounds k h =
      let l = both (in_range e.lag T 60000) _ h in
      let r = no-rain l.1 in
      record {
        single = λ _. inr (inl k);
        tanks = λ t. (let z = sym k ∙ t in absurd (omega (arith, ap byte_of z)));
        lag = λ _. range-bounds _ _ _ l.0;
        no_lag = λ d. (let z = sym k ∙ d in absurd (omega (arith, ap byte_of z)));
        area = omega (arith, r.0);
        runoff = omega (arith, r.1.0);
        rain_noise = omega (arith, r.1.1);
      }

  dam-bounds : e.kind ≡ dam → dam_fits e ≡ true → KindBounds T e
  unfolding dam_fits
  dam-bounds k h =
      let l = both (eqb e.lag 0) _ h in
      let r = no-rain l.1 in
      record {
        single = λ _. inr (inr k);
        tanks = λ t. (let z = sym k ∙ t in absurd (omega (arith, ap byte_of z)));
        lag = λ n. absurd (n k);
        no_lag = λ _. eqb-true _ _ l.0;
        area = omega (arith, r.0);
        runoff = omega (arith, r.1.0);
        rain_noise = omega (arith, r.1.1);
      }

  tanks-bounds : e.kind ≡ tanks → (lag_fits T e && tanks_fit e) ≡ true → KindBounds T e
  unfolding lag_fits tanks_fit
  tanks-bounds k h =
      let l = both (in_range e.lag T 60000) _ h in
      let r = all_three (eqb e.area 0) (in_range e.runoff 2 8) (eqb e.rain_noise.0 0) l.1 in
      let count = range-bounds e.runoff 2 8 r.1.0 in
      record {
        single = λ n. absurd (n k);
        tanks = λ _. count;
        lag = λ _. range-bounds _ _ _ l.0;
        no_lag = λ d. (let z = sym k ∙ d in absurd (omega (arith, ap byte_of z)));
        area = omega (arith, eqb-true e.area 0 r.0);
        runoff = omega (arith, count);
        rain_noise = omega (arith, eqb-true e.rain_noise.0 0 r.1.1);
      }

  pub kind-bounds : kind_fits T e ≡ true → KindBounds T e
  unfolding kind_fits
  kind-bounds h = go (same_kind e.kind tanks) refl h
    where
      go :
          (x : Bool)
          → same_kind e.kind tanks ≡ x
          → cond x (lag_fits T e && tanks_fit e) (by_kind e.kind (lag_fits T e && basin_fits e) (lag_fits T e && reach_fits e) (dam_fits e) false) ≡ true
          → KindBounds T e
      go true k f = tanks-bounds (same-true _ _ k) f
      go false k f =
          kind-cases (λ (fits : Bool). fits ≡ true → KindBounds T e) e.kind basin-bounds reach-bounds dam-bounds
          (λ p q r n. absurd (true≢false (sym n))) f

-- what rule 6 asks
record DownBounds (n i down : ℕ) : Type 0 where
  pub most : down ≤ n
  pub later : (down ≡ 0) ⊎ (i + 1 < down)

module _ (n : ℕ) (element : ℕ → Element) (i : ℕ) where
  down-bounds : down_fits n element i ≡ true → DownBounds n i (element i).down
  unfolding down_fits
  down-bounds h =
      let d = (element i).down in
      let later = ltb (i + 1) d in
      let most = leb d n in
      let open-below = not (same_kind (element (d - 1)).kind basin) in
      ⊎_elim (λ k. let z = eqb-true d 0 k in record { most = omega arith; later = inl z })
      (λ k. let l = all_three later most open-below k in record { most = leb-true _ _ l.1.0; later = inr (ltb-true _ _ l.0) })
      (either (eqb d 0) ((later && most) && open-below) h)

  pub element-bounds : (T : ℕ) → element_fits T (element i) ≡ true → down_fits n element i ≡ true → AcceptedElement T n i (element i)
  unfolding element_fits
  element-bounds T h k =
      let e = element i in
      let discharge = in_range e.first_discharge.0 0 C in
      let variance = in_range e.first_variance.0 0 C in
      let a = all-four (kind_fits T e) discharge variance (in_range e.system_noise.0 0 100000000) h in
      let own = kind-bounds T e a.0 in
      let down = down-bounds k in
      record {
        single = own.single;
        tanks = own.tanks;
        down = down.most;
        later = down.later;
        lag = own.lag;
        no_lag = own.no_lag;
        area = own.area;
        runoff = own.runoff;
        first_discharge = (range-bounds _ _ _ a.1.0).1;
        first_variance = (range-bounds _ _ _ a.1.1.0).1;
        system_noise = (range-bounds _ _ _ a.1.1.1).1;
        rain_noise = own.rain_noise;
      }

-- rule 6 on an element looks at places in use alone
pub down-same :
    (n : ℕ) (one other : ℕ → Element)
    → ((i : ℕ) → i < n → one i ≡ other i)
    → (i : ℕ)
    → i < n
    → down_fits n one i ≡ down_fits n other i
unfolding down_fits
down-same n one other h i l =
    let down = (other i).down in
    rw (h i l)
    (ap (λ later. eqb down 0 || later)
    (joined_same (ltb (i + 1) down) (leb down n)
    (λ a b. rw (h (down - 1) (omega (arith, ltb-true (i + 1) down a, leb-true down n b))))))
