-- Laws of what a kind decides.
use Prim.Native.Nat.{ℕ, ◌≤◌}
use mathlib.Core.Bool.{true, false}
use mathlib.Core.Logic.{◌≢◌, ⊎_elim}
use mathlib.Core.Path.{◌≡◌, refl, sym, ap, ◌∙◌}
use borrow.Author.Tests.{eqb-true, eqb-false, ne_eqb, eq-eqb}
use native.Mathlib.Omega.{arith}
use Rattle.std.specs.Prelude.{Option, Some, None}
use Rattle.elements.specs.declared.Kind.{Kind}
use Rattle.elements.specs.declared.Kind.TheVariants.{Basin, Reach, Dam, Tanks}
use Rattle.elements.specs.Kinds.{basin, reach, dam, tanks, byte_of, kind_of, same_kind, by_kind, basin_of, dam_of, IsKind}

-- the byte of a kind says it, so that kinds with one byte are the same
byte-says : (kind : Option Kind) → kind_of (byte_of kind) ≡ kind
unfolding kind_of
byte-says (Some Basin) = refl
byte-says (Some Reach) = refl
byte-says (Some Dam) = refl
byte-says (Some Tanks) = refl
byte-says None = refl

one-byte : {one other : Option Kind} → byte_of one ≡ byte_of other → one ≡ other
one-byte {one} {other} e = sym (byte-says one) ∙ (ap kind_of e ∙ byte-says other)

-- whether two are the same
module _ (one other : Option Kind) where
  pub same-true : same_kind one other ≡ true → one ≡ other
  unfolding same_kind
  same-true e = one-byte (eqb-true _ _ e)

  pub same-false : same_kind one other ≡ false → one ≢ other
  unfolding same_kind
  same-false e n = eqb-false _ _ e (ap byte_of n)

  pub ne-same : one ≢ other → same_kind one other ≡ false
  unfolding same_kind
  ne-same n = ne_eqb _ _ (λ e. n (one-byte e))

  pub eq-same : one ≡ other → same_kind one other ≡ true
  unfolding same_kind
  eq-same e = eq-eqb _ _ (ap byte_of e)

-- each case of it
module _ {A : Type 0} (kind : Option Kind) (a b c d : A) where
  pub by-basin : kind ≡ basin → by_kind kind a b c d ≡ a
  unfolding by_kind
  by-basin e = rw e

  pub by-reach : kind ≡ reach → by_kind kind a b c d ≡ b
  unfolding by_kind
  by-reach e = rw e

  pub by-dam : kind ≡ dam → by_kind kind a b c d ≡ c
  unfolding by_kind
  by-dam e = rw e

  pub by-none : kind ≢ basin → kind ≢ reach → kind ≢ dam → by_kind kind a b c d ≡ d
  unfolding by_kind
  by-none p q r = go kind p q r
    where
      go : (k : Option Kind) → k ≢ basin → k ≢ reach → k ≢ dam → by_kind k a b c d ≡ d
      go (Some Basin) p q r = absurd (p refl)
      go (Some Reach) p q r = absurd (q refl)
      go (Some Dam) p q r = absurd (r refl)
      go (Some Tanks) p q r = refl
      go None p q r = refl

  -- tanks are none of the three
  pub by-tanks : kind ≡ tanks → by_kind kind a b c d ≡ d
  unfolding by_kind
  by-tanks e = rw e

-- a kind that is a basin, a reach or a dam is one of them
pub no_other : {kind : Option Kind} → IsKind kind → kind ≢ basin → kind ≢ reach → kind ≢ dam → ⊥
no_other is p q r = ⊎_elim p (λ k. ⊎_elim q r k) is

-- two decisions by one kind stand in a relation where they do in each case
pub kind-both :
    {A B : Type 0} (R : A → B → Type 0) (kind : Option Kind) {a b c d : A} {a' b' c' d' : B}
    → (kind ≡ basin → R a a')
    → (kind ≡ reach → R b b')
    → (kind ≡ dam → R c c')
    → (kind ≢ basin → kind ≢ reach → kind ≢ dam → R d d')
    → R (by_kind kind a b c d) (by_kind kind a' b' c' d')
unfolding by_kind
kind-both R (Some Basin) p q r s = p refl
kind-both R (Some Reach) p q r s = q refl
kind-both R (Some Dam) p q r s = r refl
kind-both R (Some Tanks) p q r s = s (λ e. cc) (λ e. cc) (λ e. cc)
kind-both R None p q r s = s (λ e. cc) (λ e. cc) (λ e. cc)

-- what holds in each case holds of what the kind decides
pub kind-cases :
    {A : Type 0} (P : A → Type 0) (kind : Option Kind) {a b c d : A}
    → (kind ≡ basin → P a)
    → (kind ≡ reach → P b)
    → (kind ≡ dam → P c)
    → (kind ≢ basin → kind ≢ reach → kind ≢ dam → P d)
    → P (by_kind kind a b c d)
kind-cases {A} P kind p q r s =
    kind-both {A = A} {B = ℕ} (λ (x : A) (_ : ℕ). P x) kind {a' = 0} {b' = 0} {c' = 0} {d' = 0} p q r s

-- an element is one basin or none, one dam or none
pub basin-most : (kind : Option Kind) → basin_of kind ≤ 1
unfolding basin_of
basin-most kind =
    kind-cases (λ (n : ℕ). n ≤ 1) kind (λ _. omega arith) (λ _. omega arith) (λ _. omega arith) (λ _ _ _. omega arith)

pub dam-most : (kind : Option Kind) → dam_of kind ≤ 1
unfolding dam_of
dam-most kind =
    kind-cases (λ (n : ℕ). n ≤ 1) kind (λ _. omega arith) (λ _. omega arith) (λ _. omega arith) (λ _ _ _. omega arith)

-- what each kind counts as
module _ (kind : Option Kind) where
  pub basin-counts : kind ≡ basin → (basin_of kind ≡ 1) × (dam_of kind ≡ 0)
  unfolding basin_of dam_of
  basin-counts k = (by-basin kind _ _ _ _ k, by-basin kind _ _ _ _ k)

  pub reach-counts : kind ≡ reach → (basin_of kind ≡ 0) × (dam_of kind ≡ 0)
  unfolding basin_of dam_of
  reach-counts k = (by-reach kind _ _ _ _ k, by-reach kind _ _ _ _ k)

  pub dam-counts : kind ≡ dam → (basin_of kind ≡ 0) × (dam_of kind ≡ 1)
  unfolding basin_of dam_of
  dam-counts k = (by-dam kind _ _ _ _ k, by-dam kind _ _ _ _ k)

  pub none-counts : kind ≢ basin → kind ≢ reach → kind ≢ dam → (basin_of kind ≡ 0) × (dam_of kind ≡ 0)
  unfolding basin_of dam_of
  none-counts p q r = (by-none kind _ _ _ _ p q r, by-none kind _ _ _ _ p q r)
