-- What is asked of a card, and the list of a request. Assumes nothing.
use Rattle.std.specs.Prelude.{Result}
use Rattle.protocol.specs.declared.Refusal.{Refusal}
use mathlib.Core.Path.{◌≡◌, ◌∙◌}
use mathlib.Core.Bool.{Bool}
use mathlib.Core.List.{List}
use Prim.Native.Nat.{ℕ, ◌+◌, ◌-◌, ◌≤◌, ◌<◌}
use native.Mathlib.Omega.{arith}
use lib.Dec.{leb}
use lib.ListN.{length, take, drop, drop_of_length-le}
use Rattle.theory.specs.Logic.{when◌then◌else◌, unless◌answer◌then◌, ◌and◌, within}
use Rattle.theory.proofs.Tests.{by_cases}
use Rattle.card.specs.declared.Setup.{Setup}
use Rattle.card.specs.Layout.{setup_of, in_use_of, is_marked}
use Rattle.frame.specs.declared.Ask.{Ask}
use Rattle.frame.specs.Frame.{data_at, target_of}
use Rattle.frame.specs.Ask.{ask_of}
use Rattle.admin.specs.Command.{ask_in}

-- a request that is too short asks nothing, whatever is marked
target-asked : (members ids in_use m : ℕ) (c r : List ℕ) → m ≡ (when leb data_at (length r) then target_of r else 0)
    → ask_of members ids in_use (is_marked c m) r ≡ ask_of members ids in_use (is_marked c (target_of r)) r
unfolding ask_of within ◌and◌ when◌then◌else◌ unless◌answer◌then◌
target-asked members ids in_use m c r e = rw e (by_cases (leb data_at (length r)) (λ t. rw t) (λ t. rw t))

pub is-asked : (c r : List ℕ) (s : Setup) (u m : ℕ) (t : Bool) (a : Result Ask Refusal) → s ≡ setup_of c → u ≡ in_use_of c
    → m ≡ (when leb data_at (length r) then target_of r else 0) → t ≡ is_marked c m
    → a ≡ ask_of s.members (s.gets + s.sets) u t r → a ≡ ask_in c r
unfolding ask_in
is-asked c r s u m t a e f g k h = h ∙ rw (e, f, k) (target-asked _ _ _ m c r g)

-- the part of a slice from a place past its end
pub past_the_end : (l : List ℕ) (at : ℕ) → length l < at → take (length l - length l) (drop (length l) l) ≡ drop at l
past_the_end l at h =
    let k : length l - length l ≡ 0 = omega arith in
    let j : length l ≤ at = omega arith in
    rw (k, drop_of_length-le l j)
