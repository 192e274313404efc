-- An event's answer as its number, and that of a call that only reads. Assumes nothing.
use mathlib.Core.Path.{◌≡◌, ap}
use mathlib.Core.List.{List}
use Prim.Native.Nat.{ℕ}
use Rattle.protocol.specs.Answers.{EventAnswer, event_number}
use Rattle.events.specs.Events.{numbered}
use Rattle.loads.specs.Loads.{numbered_of}

pub as_number : (a : EventAnswer) (n : ℕ) (d : List ℕ) (x : EventAnswer × List ℕ) → ◌≡◌ {A = EventAnswer × List ℕ} (a, d) x
    → n ≡ event_number a → ◌≡◌ {A = ℕ × List ℕ} (n, d) (numbered x)
as_number a n d x e h = rw h (ap numbered e)

pub as-number-told : (A : Type 0) (a : EventAnswer) (n : ℕ) (d : A) (x : EventAnswer × A) → ◌≡◌ {A = EventAnswer × A} (a, d) x
    → n ≡ event_number a → ◌≡◌ {A = ℕ × A} (n, d) (numbered_of x)
as-number-told A a n d x e h = rw h (ap numbered_of e)
