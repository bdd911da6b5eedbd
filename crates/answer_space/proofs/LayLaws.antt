-- Figures laid out as numbers, one after the other.
use Prim.Native.Nat.{ℕ, ◌+◌, ◌*◌, ◌≤◌, ◌<◌}
use mathlib.Core.List.{List, [], ◌∷◌, ◌++◌, append_assoc}
use mathlib.Core.Path.{◌≡◌, refl, sym, ap, ◌∙◌}
use native.Mathlib.Numerals.{unary_clauses}
use native.Mathlib.Omega.{arith}
use lib.ListN.{length, get_or, set, take, drop}
use Rattle.std.proofs.lemmas.List.{take_more, take_all, drop_more}
use lib.Seq.{length-take-le}
use Rattle.method.specs.declared.Figures.{Figures}
use Rattle.method.specs.Figures.{layout}
use Rattle.method.specs.Inflow.{no_inflow}
use Rattle.method.proofs.LayoutLaws.{layout-append, layout-length}

-- the first i of them are there, and what lies after them is as before
abbrev pub LaidSoFar : List Figures → List ℕ → ℕ → List ℕ → Type 0
LaidSoFar fs before i now = now ≡ layout (take i fs) ++ drop (4 * i) before

put-four :
    (ys : List ℕ) (a b c d : ℕ) (rest : List ℕ) (w x y z : ℕ)
    → set (set (set (set (ys ++ a ∷ b ∷ c ∷ d ∷ rest) (length ys) w) (length ys + 1) x) (length ys + 2) y) (length ys + 3) z
    ≡ ys ++ w ∷ x ∷ y ∷ z ∷ rest
put-four [] a b c d rest w x y z = refl
put-four (v ∷ ys) a b c d rest w x y z =
    let more = ap (λ (l : List ℕ). v ∷ l) (put-four ys a b c d rest w x y z) in simp unary_clauses (simp unary_clauses at more)

four-more :
    (xs : List ℕ) (n : ℕ)
    → n + 3 < length xs
    → drop n xs ≡ get_or xs n 0 ∷ get_or xs (n + 1) 0 ∷ get_or xs (n + 2) 0 ∷ get_or xs (n + 3) 0 ∷ drop (n + 4) xs
four-more xs n room =
    drop_more xs n 0 (omega arith)
    ∙ ap (λ (l : List ℕ). get_or xs n 0 ∷ l) (drop_more xs (n + 1) 0 (omega arith)
    ∙ ap (λ (l : List ℕ). get_or xs (n + 1) 0 ∷ l) (next 1 ∙ (drop_more xs (n + 2) 0 (omega arith)
    ∙ ap (λ (l : List ℕ). get_or xs (n + 2) 0 ∷ l) (next 2 ∙ (drop_more xs (n + 3) 0 (omega arith)
    ∙ ap (λ (l : List ℕ). get_or xs (n + 3) 0 ∷ l) (next 3))))))
  where
    next : (k : ℕ) → drop (n + k + 1) xs ≡ drop (n + (k + 1)) xs
    next k = ap (λ (j : ℕ). drop j xs) (omega arith)

module _ (fs : List Figures) (before : List ℕ) (room : 4 * length fs ≤ length before) where
  -- one more
  pub laid-more :
      {i : ℕ} {now : List ℕ}
      → i < length fs
      → LaidSoFar fs before i now
      → LaidSoFar fs before (i + 1)
      (set (set (set (set now (4 * i) (get_or fs i no_inflow).discharge.0) (4 * i + 1) (get_or fs i no_inflow).discharge_margin.0) (4 * i + 2) (get_or fs i no_inflow).variance.0)
      (4 * i + 3) (get_or fs i no_inflow).variance_margin.0)
  unfolding layout
  laid-more {i} {now} less is = put ∙ more
    where
      f : Figures
      f = get_or fs i no_inflow

      ys : List ℕ
      ys = layout (take i fs)

      long : length ys ≡ 4 * i
      long = layout-length (take i fs) ∙ ap (λ (k : ℕ). 4 * k) (length-take-le i fs (omega (arith, less)))

      four : 4 * (i + 1) ≡ 4 * i + 4
      four = omega arith

      rest : List ℕ
      rest = f.discharge.0 ∷ f.discharge_margin.0 ∷ f.variance.0 ∷ f.variance_margin.0 ∷ drop (4 * i + 4) before

      put :
          set (set (set (set now (4 * i) f.discharge.0) (4 * i + 1) f.discharge_margin.0) (4 * i + 2) f.variance.0) (4 * i + 3)
          f.variance_margin.0
          ≡ ys ++ rest
      put =
          rw (is, four-more before (4 * i) (omega (arith, less, room)), ← long)
          (put-four ys _ _ _ _ _ f.discharge.0 f.discharge_margin.0 f.variance.0 f.variance_margin.0)

      more : ys ++ rest ≡ layout (take (i + 1) fs) ++ drop (4 * (i + 1)) before
      more = rw (four, take_more fs i no_inflow less, layout-append (take i fs) (f ∷ [])) (sym (append_assoc ys _ _))

  -- all of them
  pub all-laid : {i : ℕ} {now : List ℕ} → i ≡ length fs → LaidSoFar fs before i now → now ≡ layout fs ++ drop (4 * length fs) before
  all-laid {i} e is = is ∙ rw (e, take_all (length fs) fs (omega arith))
