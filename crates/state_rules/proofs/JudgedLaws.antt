-- Laws of what `judge_state` answers.
use Prim.{Unit}
use Prim.Native.Nat.{ℕ}
use mathlib.Core.Bool.{Bool, true, false}
use mathlib.Core.Path.{◌≡◌, refl, sym}
use Rattle.refusal.specs.Answers.{accepted, refused, rule}
use Rattle.refusal.proofs.RuleLaws.{not-both, rule-kept}
use Rattle.table.specs.Tables.{TableValues}
use Rattle.state.specs.States.{State}
use Rattle.state.specs.Rules.{state_fits}

module _ (t : TableValues) (s : State) where
  -- it accepts a state that keeps rule 8
  pub judged-kept : accepted tt ≡ rule {A = Unit} 8 (state_fits t s) (accepted tt) → state_fits t s ≡ true
  judged-kept h = (rule-kept _ _ _ (sym h)).0

  -- and refuses another by this rule's number
  pub judged-refused : {k : ℕ} → refused k ≡ rule {A = Unit} 8 (state_fits t s) (accepted tt) → (state_fits t s ≡ false) × (k ≡ 8)
  judged-refused {k} = go (state_fits t s)
    where
      go : (fits : Bool) → refused k ≡ rule {A = Unit} 8 fits (accepted tt) → (fits ≡ false) × (k ≡ 8)
      go true h = absurd (not-both refl (sym h))
      go false h = (refl, cc)
