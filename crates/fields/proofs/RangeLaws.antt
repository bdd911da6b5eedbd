-- Laws of the tests that the rules are made of.
use Prim.Native.Nat.{ℕ, zero, suc, ◌+◌, ◌≤◌, ◌<◌}
use mathlib.Core.Bool.{Bool, true, false, cond, ◌&&◌, ◌||◌, and-true, and_assoc}
use mathlib.Core.Logic.{◌⊎◌, inl, inr, ⊎_elim}
use mathlib.Core.Path.{◌≡◌, refl, sym, ◌∙◌}
use borrow.Author.Tests.{leb-true}
use native.Mathlib.Nat.{eq-or-lt_of_le}
use native.Mathlib.Numerals.{add-one}
use native.Mathlib.Omega.{arith}
use lib.Dec.{leb}
use Rattle.std.specs.List.{list_all, range_with_len}
use Rattle.fields.specs.Ranges.{in_range, all_below}

-- tests that hold together
pub both : (a b : Bool) → (a && b) ≡ true → (a ≡ true) × (b ≡ true)
both true b h = (refl, h)
both false b h = (h, cc)

pub all_three : (a b c : Bool) → ((a && b) && c) ≡ true → (a ≡ true) × ((b ≡ true) × (c ≡ true))
all_three a b c h =
    let k = both (a && b) c h in
    let l = both a b k.0 in
    (l.0, (l.1, k.1))

pub all-four :
    (a b c d : Bool) → (((a && b) && c) && d) ≡ true → (a ≡ true) × ((b ≡ true) × ((c ≡ true) × (d ≡ true)))
all-four a b c d h =
    let k = both ((a && b) && c) d h in
    let l = all_three a b c k.0 in
    (l.0, (l.1.0, (l.1.1, k.1)))

all-five :
    (a b c d e : Bool)
    → ((((a && b) && c) && d) && e) ≡ true
    → (a ≡ true) × ((b ≡ true) × ((c ≡ true) × ((d ≡ true) × (e ≡ true))))
all-five a b c d e h =
    let k = both (((a && b) && c) && d) e h in
    let l = all-four a b c d k.0 in
    (l.0, (l.1.0, (l.1.1.0, (l.1.1.1, k.1))))

pub all-six :
    (a b c d e f : Bool)
    → (((((a && b) && c) && d) && e) && f) ≡ true
    → (a ≡ true) × ((b ≡ true) × ((c ≡ true) × ((d ≡ true) × ((e ≡ true) × (f ≡ true)))))
all-six a b c d e f h =
    let k = both ((((a && b) && c) && d) && e) f h in
    let l = all-five a b c d e k.0 in
    (l.0, (l.1.0, (l.1.1.0, (l.1.1.1.0, (l.1.1.1.1, k.1)))))

-- one of two tests that hold, and which of two a condition chooses
pub either : (a b : Bool) → (a || b) ≡ true → (a ≡ true) ⊎ (b ≡ true)
either true b h = inl refl
either false b h = inr h

pub cond_cases :
    {A : Type 0} (b : Bool) (x y z : A) → cond b x y ≡ z → ((b ≡ true) × (x ≡ z)) ⊎ ((b ≡ false) × (y ≡ z))
cond_cases true x y z h = inl (refl, h)
cond_cases false x y z h = inr (refl, h)

-- what a range says, and when it holds
pub range-bounds : (x low high : ℕ) → in_range x low high ≡ true → (low ≤ x) × (x ≤ high)
range-bounds x low high h =
    let k = both (leb low x) (leb x high) h in
    (leb-true _ _ k.0, leb-true _ _ k.1)

module _ (test : ℕ → Bool) where
  -- what holds of all below n holds of each
  pub all-at : (n k : ℕ) → k < n → all_below test n ≡ true → test k ≡ true
  unfolding all_below
  all-at zero k l h = absurd (omega arith)
  all-at (suc n) k l h =
      let b = both (all_below test n) (test n) h in
      ⊎_elim (λ e. rw e b.1) (λ m. all-at n k m b.0) (eq-or-lt_of_le (omega arith))

  -- and what holds of each holds of all
  pub all-below : (n : ℕ) → ((k : ℕ) → k < n → test k ≡ true) → all_below test n ≡ true
  unfolding all_below
  all-below zero h = refl
  all-below (suc n) h = rw (all-below n (λ k l. h k (omega arith)), h n (omega arith))

  -- what fails of one fails of all
  pub all-fails : (n k : ℕ) → k < n → test k ≡ false → all_below test n ≡ false
  all-fails n k l h = go (all_below test n) refl
    where
      go : (all : Bool) → all_below test n ≡ all → all ≡ false
      go true e = sym (all-at n k l e) ∙ h
      go false e = refl

  -- a loop over 0, .., n - 1 that joins the tests: where it begins, and one turn more
  pub all_none : true ≡ all_below test 0
  unfolding all_below
  all_none = refl

  pub all_more : (n : ℕ) {all one : Bool} → all ≡ all_below test n → one ≡ test n → (all && one) ≡ all_below test (n + 1)
  unfolding all_below
  all_more n h k = rw (add-one, h, k)

-- `all` over the numbers from a on by a test that agrees there, after the tests below a
module _ (test one : ℕ → Bool) where
  pub all-range :
      (a n : ℕ)
      → ((k : ℕ) → a ≤ k → k < a + n → one k ≡ test k)
      → (all_below test a && list_all one (range_with_len a n)) ≡ all_below test (a + n)
  unfolding all_below
  all-range a zero h = let e : a + 0 ≡ a = omega arith in rw (e, and-true (all_below test a))
  all-range a (suc n) h =
      let more = all_more test a {all = all_below test a} refl (h a (omega arith) (omega arith)) in
      let next : a + 1 + n ≡ a + suc n = omega arith in
      let rest = all-range (a + 1) n (λ k l m. h k (omega arith) (omega arith)) in
      rw (← and_assoc (all_below test a) (one a), more, rest, next)

-- `all` over the numbers from 0 on
pub all-first : (test : ℕ → Bool) (n : ℕ) → list_all test (range_with_len 0 n) ≡ all_below test n
unfolding all_below
all-first test n = let e : 0 + n ≡ n = omega arith in rw e at (all-range test test 0 n (λ k l m. refl))

-- tests that agree below n
pub all_same : (one other : ℕ → Bool) (n : ℕ) → ((k : ℕ) → k < n → one k ≡ other k) → all_below one n ≡ all_below other n
unfolding all_below
all_same one other zero h = refl
all_same one other (suc n) h = rw (all_same one other n (λ k l. h k (omega arith)), h n (omega arith))

-- what is asked once two tests hold
pub joined_same : (a b : Bool) {x y : Bool} → (a ≡ true → b ≡ true → x ≡ y) → ((a && b) && x) ≡ ((a && b) && y)
joined_same true true h = h refl refl
joined_same true false h = refl
joined_same false b h = refl

-- a test that the code worked out and found kept, or broken
pub kept : {fit test : Bool} → fit ≡ test → fit ≡ true → test ≡ true
kept e h = sym e ∙ h

pub broken : {fit test : Bool} → fit ≡ test → fit ≡ false → test ≡ false
broken e h = sym e ∙ h
