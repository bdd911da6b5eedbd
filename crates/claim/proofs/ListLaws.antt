-- Laws of lists side by side, and of lists by element and lead: what holds at each place holds of the lists.
use Prim.Native.Nat.{ℕ, zero, suc, ◌<◌}
use mathlib.Core.List.{List, [], ◌∷◌, ◌++◌}
use mathlib.Core.Path.{◌≡◌, refl, sym, ap, ◌∙◌}
use native.Mathlib.Omega.{arith}
use lib.ListN.{length}
use Rattle.network.specs.Answer.{listed, by_element_and_lead}
use Rattle.network.proofs.LayoutLaws.{listed-length, by-lead-length}
use Rattle.claim.specs.Calls.{paired}
use Rattle.claim.specs.Claim.{Pairwise, All, none, more}

-- what relates the members at each place relates the lists
module _ {A B : Type 0} (R : A → B → Type 0) where
  pairwise_append :
      {xs us : List A} {ys vs : List B} → Pairwise R xs ys → Pairwise R us vs → Pairwise R (xs ++ us) (ys ++ vs)
  pairwise_append none q = q
  pairwise_append (more r p) q = more r (pairwise_append p q)

  pub pairwise-listed :
      (f : ℕ → A) (g : ℕ → B) (n : ℕ) → ((i : ℕ) → i < n → R (f i) (g i)) → Pairwise R (listed f n) (listed g n)
  unfolding listed
  pairwise-listed f g zero h = none
  pairwise-listed f g (suc n) h =
      pairwise_append (pairwise-listed f g n (λ i l. h i (omega arith))) (more (h n (omega arith)) none)

  pub pairwise-by-lead :
      (f : ℕ → ℕ → A) (g : ℕ → ℕ → B) (n w : ℕ)
      → ((i lead : ℕ) → i < n → lead < w → R (f i lead) (g i lead))
      → Pairwise R (by_element_and_lead f n w) (by_element_and_lead g n w)
  unfolding by_element_and_lead
  pairwise-by-lead f g zero w h = none
  pairwise-by-lead f g (suc n) w h =
      pairwise_append (pairwise-by-lead f g n w (λ i lead l m. h i lead (omega arith) m))
      (pairwise-listed (f n) (g n) w (λ lead m. h n lead (omega arith) m))

-- what holds at each place holds of all
module _ {A : Type 0} (P : A → Type 0) where
  all_append : {xs ys : List A} → All P xs → All P ys → All P (xs ++ ys)
  all_append none q = q
  all_append (more p rest) q = more p (all_append rest q)

  pub all_listed : (f : ℕ → A) (n : ℕ) → ((i : ℕ) → i < n → P (f i)) → All P (listed f n)
  unfolding listed
  all_listed f zero h = none
  all_listed f (suc n) h = all_append (all_listed f n (λ i l. h i (omega arith))) (more (h n (omega arith)) none)

  pub all-by-lead :
      (f : ℕ → ℕ → A) (n w : ℕ)
      → ((i lead : ℕ) → i < n → lead < w → P (f i lead))
      → All P (by_element_and_lead f n w)
  unfolding by_element_and_lead
  all-by-lead f zero w h = none
  all-by-lead f (suc n) w h =
      all_append (all-by-lead f n w (λ i lead l m. h i lead (omega arith) m))
      (all_listed (f n) w (λ lead m. h n lead (omega arith) m))

-- lists made place by place, side by side
module _ {A B : Type 0} where
  paired-append :
      (xs us : List A) (ys vs : List B)
      → length xs ≡ length ys
      → paired (xs ++ us) (ys ++ vs) ≡ paired xs ys ++ paired us vs
  unfolding paired
  paired-append [] us [] vs e = refl
  paired-append [] us (y ∷ ys) vs e = absurd (omega arith)
  paired-append (x ∷ xs) us [] vs e = absurd (omega arith)
  paired-append (x ∷ xs) us (y ∷ ys) vs e = ap (λ (l : List (A × B)). (x, y) ∷ l) (paired-append xs us ys vs (omega arith))

  pub paired-listed : (f : ℕ → A) (g : ℕ → B) (n : ℕ) → paired (listed f n) (listed g n) ≡ listed (λ i. (f i, g i)) n
  unfolding listed paired
  paired-listed f g zero = refl
  paired-listed f g (suc n) =
      paired-append (listed f n) (f n ∷ []) (listed g n) (g n ∷ []) (listed-length f n ∙ sym (listed-length g n))
      ∙ ap (λ (l : List (A × B)). l ++ (f n, g n) ∷ []) (paired-listed f g n)

  pub paired-by-lead :
      (f : ℕ → ℕ → A) (g : ℕ → ℕ → B) (n w : ℕ)
      → paired (by_element_and_lead f n w) (by_element_and_lead g n w) ≡ by_element_and_lead (λ i lead. (f i lead, g i lead)) n w
  unfolding by_element_and_lead paired
  paired-by-lead f g zero w = refl
  paired-by-lead f g (suc n) w =
      paired-append (by_element_and_lead f n w) (listed (f n) w) (by_element_and_lead g n w) (listed (g n) w)
      (by-lead-length f n w ∙ sym (by-lead-length g n w))
      ∙ rw (paired-by-lead f g n w, paired-listed (f n) (g n) w)

-- what holds at each place, of lists side by side
module _ {A B D E : Type 0} (R : A × B → D × E → Type 0) where
  pub near-listed :
      (f : ℕ → A) (g : ℕ → B) (p : ℕ → D) (q : ℕ → E) (n : ℕ)
      → ((i : ℕ) → i < n → R (f i, g i) (p i, q i))
      → Pairwise R (paired (listed f n) (listed g n)) (paired (listed p n) (listed q n))
  near-listed f g p q n h = rw (paired-listed f g n, paired-listed p q n) (pairwise-listed R _ _ n h)

  pub near-by-lead :
      (f : ℕ → ℕ → A) (g : ℕ → ℕ → B) (p : ℕ → ℕ → D) (q : ℕ → ℕ → E) (n w : ℕ)
      → ((i lead : ℕ) → i < n → lead < w → R (f i lead, g i lead) (p i lead, q i lead))
      → Pairwise R (paired (by_element_and_lead f n w) (by_element_and_lead g n w)) (paired (by_element_and_lead p n w) (by_element_and_lead q n w))
  near-by-lead f g p q n w h = rw (paired-by-lead f g n w, paired-by-lead p q n w) (pairwise-by-lead R _ _ n w h)

module _ {A B : Type 0} (P : A × B → Type 0) where
  pub every-listed :
      (f : ℕ → A) (g : ℕ → B) (n : ℕ)
      → ((i : ℕ) → i < n → P (f i, g i))
      → All P (paired (listed f n) (listed g n))
  every-listed f g n h = rw (paired-listed f g n) (all_listed P _ n h)

  pub every-by-lead :
      (f : ℕ → ℕ → A) (g : ℕ → ℕ → B) (n w : ℕ)
      → ((i lead : ℕ) → i < n → lead < w → P (f i lead, g i lead))
      → All P (paired (by_element_and_lead f n w) (by_element_and_lead g n w))
  every-by-lead f g n w h = rw (paired-by-lead f g n w) (all-by-lead P _ n w h)
