-- Those above the elements that drain into an element, and itself, are at or above it.
use Prim.Native.Nat.{ℕ, zero, suc, ◌+◌, ◌*◌, ◌≤◌, ◌<◌, max}
use mathlib.Core.Bool.{Bool, true, false, cond, ◌||◌}
use mathlib.Core.Logic.{◌⊎◌, inl, inr, ⊎_elim, ◌≢◌}
use mathlib.Core.Path.{◌≡◌, refl, sym, ap, subst, ◌∙◌}
use borrow.Author.Tests.{eqb-true, eqb-false}
use native.Mathlib.Nat.{mul-le-mul_left, eq-or-lt_of_le}
use native.Mathlib.Omega.{arith}
use lib.Dec.{eqb}
use Rattle.exact_run.specs.Limit.{next, leads_to, counted, at_or_above, NoReading}

-- f 1 + .. + f n
unfoldable pub total : (ℕ → ℕ) → ℕ → ℕ
total f zero = 0
total f (suc n) = total f n + f (suc n)

-- 1 where it holds, and otherwise 0
unfoldable pub one : Bool → ℕ
one b = cond b 1 0

unfoldable pub same : ℕ → ℕ → ℕ
same a b = one (eqb a b)

pub same_cases : (a b : ℕ) (P : ℕ → Type 0) → (a ≡ b → P 1) → (a ≢ b → P 0) → P (same a b)
unfolding same one
same_cases a b P f g = go (eqb a b) refl
  where
    go : (t : Bool) → eqb a b ≡ t → P (cond t 1 0)
    go true e = f (eqb-true a b e)
    go false e = g (eqb-false a b e)

one-most : (b : Bool) → one b ≤ 1
unfolding one
one-most true = omega arith
one-most false = omega arith

pub one-true : (b : Bool) → 1 ≤ one b → b ≡ true
unfolding one
one-true true h = refl
one-true false h = absurd (omega arith)

one-either : (a b : Bool) → one (a || b) ≡ max (one a) (one b)
unfolding one
one-either true true = refl
one-either true false = refl
one-either false true = refl
one-either false false = refl

total-le : (f g : ℕ → ℕ) (n : ℕ) → ((k : ℕ) → 1 ≤ k → k ≤ n → f k ≤ g k) → total f n ≤ total g n
unfolding total
total-le f g zero h = omega arith
total-le f g (suc n) h =
    omega (arith, total-le f g n (λ k l m. h k l (omega arith)), h (suc n) (omega arith) (omega arith))

-- a longer sum is no smaller
pub total-longer : (f : ℕ → ℕ) (m n : ℕ) → m ≤ n → total f m ≤ total f n
unfolding total
total-longer f m zero h = let e : 0 ≡ m = omega arith in subst (λ (k : ℕ). total f k ≤ 0) e (omega arith)
total-longer f m (suc n) h =
    ⊎_elim (λ e. subst (λ (k : ℕ). total f m ≤ total f k) e (omega arith))
    (λ l. omega (arith, total-longer f m n (omega arith))) (eq-or-lt_of_le h)

total-add : (f g : ℕ → ℕ) (n : ℕ) → total (λ k. f k + g k) n ≡ total f n + total g n
unfolding total
total-add f g zero = omega arith
total-add f g (suc n) = omega (arith, total-add f g n)

total-zero : (n : ℕ) → total (λ k. 0) n ≡ 0
unfolding total
total-zero zero = refl
total-zero (suc n) = omega (arith, total-zero n)

total-mul : (c : ℕ) (f : ℕ → ℕ) (n : ℕ) → total (λ k. c * f k) n ≡ c * total f n
unfolding total
total-mul c f zero = omega arith
total-mul c f (suc n) = omega (arith, total-mul c f n)

total-swap : (f : ℕ → ℕ → ℕ) (n m : ℕ) → total (λ j. total (f j) m) n ≡ total (λ k. total (λ j. f j k) n) m
unfolding total
total-swap f zero m = sym (total-zero m)
total-swap f (suc n) m =
    ap (λ (t : ℕ). t + total (f (suc n)) m) (total-swap f n m) ∙ sym (total-add (λ k. total (λ j. f j k) n) (f (suc n)) m)

-- of the terms at one place there is at most one
total-one : (k : ℕ) (g : ℕ → ℕ) (n : ℕ) → total (λ j. g j * same k j) n ≤ g k
unfolding total
total-one k g zero = omega arith
total-one k g (suc n) =
    same_cases k (suc n) (λ t. total (λ j. g j * same k j) n + g (suc n) * t ≤ g k) (λ e. here e)
    (λ e. omega (arith, total-one k g n))
  where
    past : (m : ℕ) → m < k → total (λ j. g j * same k j) m ≤ 0
    past zero h = omega arith
    past (suc m) h =
        same_cases k (suc m) (λ t. total (λ j. g j * same k j) m + g (suc m) * t ≤ 0) (λ e. absurd (omega arith))
        (λ e. omega (arith, past m (omega arith)))

    here : k ≡ suc n → total (λ j. g j * same k j) n + g (suc n) * 1 ≤ g k
    here e = subst (λ (t : ℕ). total (λ j. g j * same k j) n + g t * 1 ≤ g k) e (omega (arith, past n (omega arith)))

total-hit : (i n : ℕ) → 1 ≤ i → i ≤ n → 1 ≤ total (λ k. same k i) n
unfolding total
total-hit i zero h l = absurd (omega arith)
total-hit i (suc n) h l =
    same_cases (suc n) i (λ t. 1 ≤ total (λ k. same k i) n + t) (λ e. omega arith)
    (λ e. omega (arith, total-hit i n h (omega arith)))

counted-total : (such : ℕ → Bool) (n : ℕ) → counted such n ≡ total (λ k. one (such k)) n
unfolding counted total one
counted-total such zero = refl
counted-total such (suc n) = omega (arith, counted-total such n)

counted-most : (such : ℕ → Bool) (n : ℕ) → counted such n ≤ n
unfolding counted one
counted-most such zero = omega arith
counted-most such (suc n) = omega (arith, counted-most such n, one-most (such (suc n)))

-- no more than all n
pub above_most : (n : ℕ) (down : ℕ → ℕ) (i : ℕ) → at_or_above n down i ≤ n
unfolding at_or_above
above_most n down i = counted-most (leads_to down i n) n

-- rule 6, for n elements: every down is 0 or a later element
module _
    (n : ℕ) (down : ℕ → ℕ) (most : (j : ℕ) → j < n → down j ≤ n)
    (later : (j : ℕ) → j < n → (down j ≡ 0) ⊎ (j + 1 < down j)) where
  next-most : (k : ℕ) → k ≤ n → next down k ≤ n
  unfolding next
  next-most zero h = omega arith
  next-most (suc k) h = most k (omega arith)

  next-later : (k : ℕ) → k ≤ n → (next down k ≡ 0) ⊎ (k < next down k)
  unfolding next
  next-later zero h = inl refl
  next-later (suc k) h = ⊎_elim (λ e. inl e) (λ l. inr (omega arith)) (later k (omega arith))

  -- 1 where the down numbers lead from k to i in at most f turns, and otherwise 0
  unfoldable leads : ℕ → ℕ → ℕ → ℕ
  leads f k i = one (leads_to down i f k)

  leads-start : (k i : ℕ) → leads 0 k i ≡ same k i
  unfolding leads leads_to same
  leads-start k i = refl

  leads-turn : (f k i : ℕ) → leads (suc f) k i ≡ max (same k i) (leads f (next down k) i)
  unfolding leads leads_to same
  leads-turn f k i = one-either (eqb k i) (leads_to down i f (next down k))

  differ : (a b : ℕ) → a ≢ b → same a b ≡ 0
  differ a b h = same_cases a b (λ t. t ≡ 0) (λ e. absurd (h e)) (λ e. refl)

  equal : (a : ℕ) → same a a ≡ 1
  equal a = same_cases a a (λ t. t ≡ 1) (λ e. refl) (λ e. absurd (e refl))

  -- nothing leads on from 0
  from-none : (f i : ℕ) → 1 ≤ i → leads f 0 i ≡ 0
  unfolding next
  from-none zero i h = omega (arith, leads-start 0 i, differ 0 i (omega arith))
  from-none (suc f) i h = omega (arith, leads-turn f 0 i, differ 0 i (omega arith), from-none f i h)

  -- nothing leads back
  past : (f k i : ℕ) → 1 ≤ i → i < k → k ≤ n → leads f k i ≡ 0
  past zero k i h l m = omega (arith, leads-start k i, differ k i (omega arith))
  past (suc f) k i h l m =
      omega (
        arith,
        leads-turn f k i,
        differ k i (omega arith),
        ⊎_elim (λ e. subst (λ (t : ℕ). leads f t i ≡ 0) (sym e) (from-none f i h))
            (λ u. past f (next down k) i h (omega arith) (next-most k m)) (next-later k m),
      )

  -- from i no down number leads back to it
  once : (f k i : ℕ) → 1 ≤ i → k ≤ n → same k i + leads f (next down k) i ≤ leads (suc f) k i
  once f k i h m =
      rw (leads-turn f k i) (same_cases k i (λ t. t + leads f (next down k) i ≤ max t (leads f (next down k) i))
      (λ e. omega (arith, back e (next-later k m))) (λ e. omega arith))
    where
      back : k ≡ i → (next down k ≡ 0) ⊎ (k < next down k) → leads f (next down k) i ≡ 0
      back e (inl z) = subst (λ (t : ℕ). leads f t i ≡ 0) (sym z) (from-none f i h)
      back e (inr l) = past f (next down k) i h (omega arith) (next-most k m)

  split : (f k j : ℕ) → leads (suc f) k j ≤ same k j + leads f (next down k) j
  split f k j = omega (arith, leads-turn f k j)

  -- n turns are enough
  enough : (f k i : ℕ) → 1 ≤ i → k ≤ n → i ≤ f + k → leads (suc f) k i ≤ leads f k i
  enough zero k i h m l =
      omega (
        arith,
        leads-turn 0 k i,
        leads-start k i,
        ⊎_elim (λ e. subst (λ (t : ℕ). leads 0 t i ≡ 0) (sym e) (from-none 0 i h))
            (λ u. past 0 (next down k) i h (omega arith) (next-most k m)) (next-later k m),
      )
  enough (suc f) k i h m l =
      omega (
        arith,
        leads-turn (suc f) k i,
        leads-turn f k i,
        ⊎_elim (λ e. subst (λ (t : ℕ). leads (suc f) t i ≤ leads f t i) (sym e) (omega (arith, from-none (suc f) i h)))
            (λ u. enough f (next down k) i h (next-most k m) (omega arith)) (next-later k m),
      )

  -- the way from k to i goes through one of those that drain into i at most
  through :
      (f k i : ℕ)
      → 1 ≤ i
      → k ≤ n
      → total (λ j. same (next down j) i * leads f k j) n + same k i ≤ leads (suc f) k i
  through zero k i h m =
      omega (
        arith,
        total-le (λ j. same (next down j) i * leads 0 k j) (λ j. same (next down j) i * same k j) n
            (λ j u v. omega (arith, ap (λ (t : ℕ). same (next down j) i * t) (leads-start k j))),
        total-one k (λ j. same (next down j) i) n,
        leads-start (next down k) i,
        once 0 k i h m,
      )
  through (suc f) k i h m =
      omega (
        arith,
        total-one k (λ j. same (next down j) i) n,
        once (suc f) k i h m,
        through f (next down k) i h (next-most k m),
        total-le (λ j. same (next down j) i * leads (suc f) k j)
            (λ j. same (next down j) i * same k j + same (next down j) i * leads f (next down k) j) n
            (λ j u v. omega (arith, mul-le-mul_left (same (next down j) i) (split f k j))),
        total-add (λ j. same (next down j) i * same k j) (λ j. same (next down j) i * leads f (next down k) j) n,
      )

  above-total : (i : ℕ) → at_or_above n down i ≡ total (λ k. leads n k i) n
  unfolding at_or_above leads
  above-total i = counted-total (leads_to down i n) n

  -- those above the elements that drain into i, and i itself, are at or above i
  pub above-sum :
      (i : ℕ)
      → 1 ≤ i
      → i ≤ n
      → total (λ j. same (next down j) i * at_or_above n down j) n + 1 ≤ at_or_above n down i
  above-sum i h l =
      omega (
        arith,
        above-total i,
        total-hit i n h l,
        total-le (λ j. same (next down j) i * at_or_above n down j) (λ j. total (λ k. same (next down j) i * leads n k j) n) n
            (λ j u v. omega (arith, ap (λ (t : ℕ). same (next down j) i * t) (above-total j), total-mul (same (next down j) i) (λ k. leads n k j) n)),
        total-swap (λ j k. same (next down j) i * leads n k j) n n,
        total-add (λ k. total (λ j. same (next down j) i * leads n k j) n) (λ k. same k i) n,
        total-le (λ k. total (λ j. same (next down j) i * leads n k j) n + same k i) (λ k. leads n k i) n
            (λ k u v. omega (arith, through n k i h v, enough n k i h v (omega arith))),
      )

  -- an element is at or above itself
  itself : (f i : ℕ) → 1 ≤ leads f i i
  itself zero i = omega (arith, leads-start i i, equal i)
  itself (suc f) i = omega (arith, leads-turn f i i, equal i)

  -- what leads to j leads to the element that j drains into
  here : (f k j i : ℕ) → next down j ≡ i → same k j ≤ leads f (next down k) i
  here f k j i e =
      same_cases k j (λ t. t ≤ leads f (next down k) i)
      (λ p. subst (λ (t : ℕ). 1 ≤ leads f t i) (sym (ap (next down) p ∙ e)) (itself f i)) (λ p. omega arith)

  onward : (f k j i : ℕ) → next down j ≡ i → leads f k j ≤ leads (suc f) k i
  onward zero k j i e = omega (arith, leads-start k j, leads-turn 0 k i, here 0 k j i e)
  onward (suc f) k j i e =
      omega (
        arith,
        leads-turn f k j,
        leads-turn (suc f) k i,
        onward f (next down k) j i e,
        here (suc f) k j i e,
      )

  module _ (has_reading : ℕ → Bool) where
    -- where none has come in at or above an element, none has at it, nor at or above one that drains into it
    pub no-reading-here : (i : ℕ) → 1 ≤ i → i ≤ n → NoReading n down has_reading i → has_reading i ≡ false
    unfolding leads
    no-reading-here i h l q = q.none i h l (one-true (leads_to down i n i) (itself n i))

    pub no-reading-above :
        (j i : ℕ) → 1 ≤ i → i ≤ n → next down j ≡ i → NoReading n down has_reading i → NoReading n down has_reading j
    unfolding leads one
    no-reading-above j i h l e q = record {
      none = λ k u v p. q.none k u v (one-true (leads_to down i n k)
          (omega (arith, onward n k j i e, enough n k i h v (omega arith), ap one p)));
    }
