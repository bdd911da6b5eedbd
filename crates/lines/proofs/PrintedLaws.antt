-- Laws of what is printed.
use Prim.Native.Nat.{ℕ, zero, suc, ◌+◌, ◌*◌, ◌≤◌, ◌<◌}
use mathlib.Core.List.{List, [], ◌∷◌, ◌++◌, append_assoc}
use mathlib.Core.Path.{◌≡◌, refl, ap, ◌∙◌}
use native.Mathlib.Nat.{mul-le-mul_right}
use native.Mathlib.Numerals.{add-one}
use native.Mathlib.Omega.{arith}
use lib.ListN.{length, take, get_or, get_or-append}
use Rattle.method.specs.declared.Figures.{Figures}
use Rattle.method.specs.Figures.{figure_numbers}
use Rattle.method.specs.Inflow.{no_inflow}
use Rattle.text.specs.Decimal.{decimal}
use Rattle.text.specs.Lines.{line}
use Rattle.text.specs.declared.TextSpace.{TextSpace}
use Rattle.text.specs.Places.{TextPut}
use Rattle.text.proofs.LineLaws.{line-then}
use Rattle.text.proofs.PlacesLaws.{put-before, text-then, text-same, text-nothing}
use Rattle.lines.specs.Ceiling.{FiguresUnderCeiling}
use Rattle.lines.specs.Printed.{joined, line_from, element_lines, answer_lines, refused_word, refusal_line}
use Rattle.lines.specs.Ready.{ElementPut}
use Rattle.lines.specs.Starts.{line_after, lines_after}

-- the three parts of a refusal's line
pub refusal-put :
    (steps number : ℕ) {s t u v : TextSpace}
    → TextPut s (decimal steps ++ 32 ∷ []) t
    → TextPut t refused_word u
    → TextPut u (decimal number ++ 10 ∷ []) v
    → TextPut s (refusal_line steps number) v
unfolding refusal_line
refusal-put steps number p q r =
    text-same (append_assoc (decimal steps) (32 ∷ []) (refused_word ++ (decimal number ++ 10 ∷ []))) (text-then p (text-then q r))

-- what a function gives for k more numbers, after what it gives for those before
pub joined-more :
    (f : ℕ → List ℕ) (k : ℕ) {s t u : TextSpace} → TextPut s (joined f k) t → TextPut t (f k) u → TextPut s (joined f (k + 1)) u
unfolding joined
joined-more f k p q = rw add-one (text-then p q)

pub joined-none : (f : ℕ → List ℕ) (s : TextSpace) → TextPut s (joined f 0) s
unfolding joined
joined-none f s = text-nothing s

pub joined-all : (f : ℕ → List ℕ) (k n : ℕ) {s t : TextSpace} → k ≡ n → TextPut s (joined f k) t → TextPut s (joined f n) t
joined-all f k n e p = text-same (ap (joined f) e) p

-- a row of a table of n rows ends within it
pub rows-within : (i n leads : ℕ) → i < n → i * leads + leads ≤ n * leads
rows-within i n leads h = omega (arith, mul-le-mul_right leads h)

pub joined_same : (f g : ℕ → List ℕ) (n : ℕ) → ((k : ℕ) → k < n → f k ≡ g k) → joined f n ≡ joined g n
unfolding joined
joined_same f g zero h = refl
joined_same f g (suc n) h = rw (joined_same f g n (λ k l. h k (omega arith)), h n (omega arith))

-- the four figures end a line
pub figures-put :
    (f : Figures) {s t u v w : TextSpace}
    → TextPut s (decimal f.discharge.0 ++ 32 ∷ []) t
    → TextPut t (decimal f.discharge_margin.0 ++ 32 ∷ []) u
    → TextPut u (decimal f.variance.0 ++ 32 ∷ []) v
    → TextPut v (decimal f.variance_margin.0 ++ 10 ∷ []) w
    → TextPut s (line (figure_numbers f)) w
unfolding line
figures-put f a b c d = text-same (simp append_assoc) (text-then a (text-then b (text-then c d)))

-- each of the first figures is under the ceiling, where more of them are
pub fewer-under : (figures : List Figures) (few many : ℕ) → few ≤ many → FiguresUnderCeiling figures many → FiguresUnderCeiling figures few
fewer-under figures few many h u = record { at = λ k l. u.at k (omega arith) }

-- the start of a line, its lead and its figures
pub line-put :
    (start : List ℕ) (lead : ℕ) (f : Figures) {s t u v : TextSpace}
    → TextPut s start t
    → TextPut t (decimal lead ++ 32 ∷ []) u
    → TextPut u (line (figure_numbers f)) v
    → TextPut s (line_after start lead f) v
unfolding line_after
line-put start lead f p q r = text-then p (text-same (line-then lead _ _) (text-then q r))

-- the lines of an element, whose start took what was put into it
pub element-put :
    (line_of : List ℕ → ℕ → List ℕ) (lead leads : ℕ) {s t before after : TextSpace} {text start : List ℕ}
    → TextPut s text t
    → s.at ≤ length s.bytes.now
    → start ≡ t.bytes.now
    → TextPut before (joined (line_of (take t.at start)) lead) after
    → lead ≡ leads
    → after.at ≤ before.at + 147 * lead
    → ElementPut before (joined (line_of (take s.at s.bytes.now ++ text)) leads) after leads s.at s.bytes.now start
element-put line_of lead leads {s} {t} {text = text} {start = start} p inside is lines all few =
    let e : take t.at start ≡ take s.at s.bytes.now ++ text = ap (take t.at) is ∙ p.put.holds in
    record {
      text = joined-all _ _ _ all (text-same (ap (λ x. joined (line_of x) lead) e) lines);
      within = omega (arith, few, all);
      kept = ap (take s.at) is ∙ put-before p.put inside;
    }

-- a line that starts with the step count and the element
line-starts :
    (steps i lead : ℕ) (f : Figures)
    → line_after ((decimal steps ++ 32 ∷ []) ++ (decimal (i + 1) ++ 32 ∷ [])) lead f ≡ line_from steps i lead f
unfolding line_after line_from
line-starts steps i lead f =
    append_assoc (decimal steps ++ 32 ∷ []) (decimal (i + 1) ++ 32 ∷ []) (line (lead ∷ figure_numbers f))
    ∙ ap (λ l. (decimal steps ++ 32 ∷ []) ++ l) (line-then (i + 1) lead (figure_numbers f))
    ∙ line-then steps (i + 1) (lead ∷ figure_numbers f)

pub lines_start :
    (steps i leads : ℕ) (figures : List Figures) (start : List ℕ)
    → start ≡ decimal steps ++ 32 ∷ []
    → lines_after (start ++ (decimal (i + 1) ++ 32 ∷ [])) leads figures i ≡ element_lines steps leads figures i
unfolding lines_after element_lines
lines_start steps i leads figures start e =
    rw e (joined_same _ _ leads (λ lead h. line-starts steps i lead (get_or figures (i * leads + lead) no_inflow)))

-- figures after those of the answer are not printed
module _ (steps leads elements : ℕ) (figures behind : List Figures) (enough : elements * leads ≤ length figures) where
  line_before :
      (i lead at : ℕ)
      → at < length figures
      → line_from steps i lead (get_or (figures ++ behind) at no_inflow) ≡ line_from steps i lead (get_or figures at no_inflow)
  line_before i lead at h = ap (line_from steps i lead) (get_or-append figures behind no_inflow at h)

  element-before : (i : ℕ) → i < elements → element_lines steps leads (figures ++ behind) i ≡ element_lines steps leads figures i
  unfolding element_lines
  element-before i h =
      joined_same _ _ leads (λ lead l. line_before i lead (i * leads + lead) (omega (arith, rows-within i elements leads h)))

  pub lines-before : answer_lines steps leads (figures ++ behind) elements ≡ answer_lines steps leads figures elements
  unfolding answer_lines
  lines-before = joined_same _ _ elements element-before
