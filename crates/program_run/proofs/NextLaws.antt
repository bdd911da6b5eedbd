-- Laws of the next thing: what each one says of what is held.
use Prim.Native.Nat.{ℕ, ◌-◌}
use mathlib.Core.Bool.{Bool, true, false, cond, true≢false, false≢true}
use mathlib.Core.List.{List, [], ◌∷◌}
use mathlib.Core.Path.{◌≡◌, refl, ap}
use native.Mathlib.Omega.{arith}
use borrow.Author.Tests.{eqb-true}
use lib.Dec.{ltb, eqb}
use lib.ListN.{length}
use Rattle.sizes.specs.Sizes.{text_bytes, text_buffer}
use Rattle.program_run.specs.Machine.{Held, wants_more, lacking, ended, goes_out, text_due, Next, write, end, read, answer, next}

-- the four by number
abbrev kind : Next → ℕ
kind (write text) = 0
kind end = 1
kind read = 2
kind answer = 3

-- the next thing by its three tests
chosen : Bool → Bool → Bool → List ℕ → Next
chosen due ended wants text = cond due (write text) (cond ended end (cond wants read answer))

write-chosen :
    (due ended wants : Bool) (own text : List ℕ) → chosen due ended wants own ≡ write text → (due ≡ true) × (text ≡ own)
unfolding chosen
write-chosen true ended wants own text h = (refl, cc)
write-chosen false true wants own text h = absurd (omega (arith, ap kind h))
write-chosen false false true own text h = absurd (omega (arith, ap kind h))
write-chosen false false false own text h = absurd (omega (arith, ap kind h))

end-chosen : (due ended wants : Bool) (own : List ℕ) → chosen due ended wants own ≡ end → (due ≡ false) × (ended ≡ true)
unfolding chosen
end-chosen true ended wants own h = absurd (omega (arith, ap kind h))
end-chosen false true wants own h = (refl, refl)
end-chosen false false true own h = absurd (omega (arith, ap kind h))
end-chosen false false false own h = absurd (omega (arith, ap kind h))

read-chosen : (due ended wants : Bool) (own : List ℕ) → chosen due ended wants own ≡ read → (due ≡ false) × (wants ≡ true)
unfolding chosen
read-chosen true ended wants own h = absurd (omega (arith, ap kind h))
read-chosen false true wants own h = absurd (omega (arith, ap kind h))
read-chosen false false true own h = (refl, refl)
read-chosen false false false own h = absurd (omega (arith, ap kind h))

answer-chosen :
    (due ended wants : Bool) (own : List ℕ) → chosen due ended wants own ≡ answer → (ended ≡ false) × (wants ≡ false)
unfolding chosen
answer-chosen true ended wants own h = absurd (omega (arith, ap kind h))
answer-chosen false true wants own h = absurd (omega (arith, ap kind h))
answer-chosen false false true own h = absurd (omega (arith, ap kind h))
answer-chosen false false false own h = (refl, refl)

-- text that goes out is not empty, and none is left at the end or where input is asked for
some-due : (ended wants empty few : Bool) → cond empty false (cond ended true (cond wants true few)) ≡ true → empty ≡ false
some-due ended wants true few h = absurd (false≢true h)
some-due ended wants false few h = refl

none-due :
    (ended wants empty few : Bool)
    → cond ended true wants ≡ true
    → cond empty false (cond ended true (cond wants true few)) ≡ false
    → empty ≡ true
none-due ended wants true few w h = refl
none-due true wants false few w h = absurd (true≢false h)
none-due false true false few w h = absurd (true≢false h)
none-due false false false few w h = absurd (false≢true w)

no_text : (text : List ℕ) → length text ≡ 0 → text ≡ []
no_text [] h = refl
no_text (b ∷ rest) h = absurd (omega arith)

-- input is asked for only before its end
not-over : (judged over : Bool) (unused : List ℕ) → lacking judged over unused ≡ true → over ≡ false
unfolding lacking
not-over judged true unused h = absurd (false≢true h)
not-over judged false unused h = refl

-- ---- the four

pub write-next : (h : Held) (text : List ℕ) → next h ≡ write text → (text ≡ h.text) × (eqb (length h.text) 0 ≡ false)
unfolding next chosen text_due goes_out
write-next h text n =
    let c = write-chosen (text_due h) (ended h) (wants_more h) h.text text n in
    (c.1, some-due (ended h) (wants_more h) (eqb (length h.text) 0) _ c.0)

-- where no text goes out though the run has ended or more input is needed, there is none
no-text-held : (h : Held) → cond (ended h) true (wants_more h) ≡ true → text_due h ≡ false → h.text ≡ []
unfolding text_due goes_out
no-text-held h w d =
    no_text h.text
    (eqb-true _ _
    (none-due (ended h) (wants_more h) (eqb (length h.text) 0) (ltb (text_buffer - text_bytes) (length h.text)) w d))

pub end-next : (h : Held) → next h ≡ end → (h.text ≡ []) × (ended h ≡ true)
unfolding next chosen
end-next h n =
    let c = end-chosen (text_due h) (ended h) (wants_more h) h.text n in (no-text-held h (rw c.1) c.0, c.1)

pub read_next : (h : Held) → next h ≡ read → (h.text ≡ []) × (wants_more h ≡ true)
unfolding next chosen
read_next h n =
    let c = read-chosen (text_due h) (ended h) (wants_more h) h.text n in
    (no-text-held h (or-true (ended h) (wants_more h) c.1) c.0, c.1)
  where
    or-true : (a b : Bool) → b ≡ true → cond a true b ≡ true
    or-true true b e = refl
    or-true false b e = e

-- and the input has not ended
pub read-open : (h : Held) → next h ≡ read → h.over ≡ false
unfolding wants_more
read-open h n = not-over h.judged h.over h.unused (read_next h n).1

pub answer-next : (h : Held) → next h ≡ answer → (ended h ≡ false) × (wants_more h ≡ false)
unfolding next chosen
answer-next h n = answer-chosen (text_due h) (ended h) (wants_more h) h.text n
