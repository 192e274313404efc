-- An event by its cases. Assumes nothing.
use mathlib.Core.Path.{◌≡◌, refl, sym}
use mathlib.Core.Bool.{true, false}
use mathlib.Core.List.{List}
use Prim.Native.Nat.{ℕ}
use native.Mathlib.Omega.{arith}
use Rattle.std.specs.Prelude.{Ok, Err, is_ok}
use Rattle.theory.specs.Logic.{unless◌answer◌then◌}
use Rattle.theory.proofs.Tests.{by_cases, unless-cases, never}
use Rattle.protocol.specs.declared.EventRefusal.TheVariants.{NotSound, NoMember, NoPart, WrongLength, BadSetup, BadQueueSize, WrongMark}
use Rattle.protocol.specs.Answers.{EventAnswer, event_number}
use Rattle.card.specs.Layout.{is_member}
use Rattle.card.specs.Sound.{is_sound}
use Rattle.events.specs.Events.{member_answer, if_done, on_member}

-- what holds of a refusal, which leaves the card, and of what is done holds of both
pub if-done-cases : (P : EventAnswer × List ℕ → Type 0) (a : EventAnswer) (next : EventAnswer × List ℕ) (c : List ℕ)
    → (is_ok a ≡ false → P (a, c)) → (is_ok a ≡ true → P next) → P (if_done a next c)
unfolding if_done
if-done-cases P (Ok x) next c f g = g refl
if-done-cases P (Err e) next c f g = f refl

-- on what is done
pub if-done-on : {A : Type 0} (a : EventAnswer) (next : EventAnswer × A) (lent : A) → is_ok a ≡ true → if_done a next lent ≡ next
unfolding if_done
if-done-on (Ok x) next lent d = refl
if-done-on (Err e) next lent d = never d

-- on a refusal
pub if-done-off : {A : Type 0} (a : EventAnswer) (next : EventAnswer × A) (lent : A) → is_ok a ≡ false → if_done a next lent ≡ (a, lent)
unfolding if_done
if-done-off (Ok x) next lent d = never (sym d)
if-done-off (Err e) next lent d = refl

-- a number of an answer that is 0 is that of what is done
pub number-zero : (a : EventAnswer) → is_ok a ≡ false → event_number a ≡ 0 → ⊥
number-zero (Ok x) e n = never (sym e)
number-zero (Err NotSound) e n = absurd (omega arith)
number-zero (Err NoMember) e n = absurd (omega arith)
number-zero (Err NoPart) e n = absurd (omega arith)
number-zero (Err WrongLength) e n = absurd (omega arith)
number-zero (Err BadSetup) e n = absurd (omega arith)
number-zero (Err BadQueueSize) e n = absurd (omega arith)
number-zero (Err WrongMark) e n = absurd (omega arith)

module _ (c : List ℕ) (m : ℕ) (next : EventAnswer × List ℕ) where
  pub on-unsound : is_sound c ≡ false → on_member c m next ≡ (Err NotSound, c)
  unfolding on_member if_done member_answer unless◌answer◌then◌
  on-unsound e = rw e

  pub on-sound : is_sound c ≡ true → on_member c m next ≡ (unless is_member c m answer (Err NoMember, c) then next)
  unfolding on_member if_done member_answer unless◌answer◌then◌
  on-sound e = rw e (by_cases (is_member c m) (λ t. rw t) (λ t. rw t))

  pub on-member-cases : (P : EventAnswer × List ℕ → Type 0) → ((a : EventAnswer) → is_ok a ≡ false → P (a, c))
      → (is_sound c ≡ true → is_member c m ≡ true → P next) → P (on_member c m next)
  on-member-cases P f g =
      by_cases (is_sound c)
      (λ s. rw (on-sound s) (unless-cases P (is_member c m) (Err NoMember, c) next (λ t. f (Err NoMember) refl) (g s)))
      (λ s. rw (on-unsound s) (f (Err NotSound) refl))
