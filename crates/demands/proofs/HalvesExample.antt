-- The hypotheses of the claims of request 10 can be met: a member with an object, before and after it is handed back. Assumes
-- nothing.
use mathlib.Core.Path.{◌≡◌, refl}
use mathlib.Core.Bool.{true, false}
use mathlib.Core.List.{List, [], ◌∷◌}
use Prim.Native.Nat.{ℕ}
use Rattle.theory.specs.Machine.{run}
use Rattle.card.specs.Layout.{in_use_of, is_member, is_marked}
use Rattle.card.specs.Sound.{is_sound}
use Rattle.frame.specs.Frame.{opcode_of}
use Rattle.frame.specs.Ask.{usable}
use Rattle.host.specs.Request.{get_all}
use Rattle.demands.specs.Calls.{hand_back, step, names}
use Rattle.demands.specs.Examples.{example_card, send, objects_live}
use Rattle.demands.specs.Halves.{DoesReset, Between, StoredAlike, Idle}
use Rattle.demands.proofs.Model.{model}
use Rattle.demands.proofs.Halves.{two-halves}
use Rattle.demands.proofs.Between.{marked-refused, marked-idle, stores-work}

before : List ℕ
before = run step example_card objects_live

pub after : List ℕ
after = (step before (hand_back 1)).0

example : Unit {0}
unfolding model before after
example = tt

sound-before : is_sound before ≡ true
unfolding example
sound-before = refl

here-before : is_member before 1 ≡ true
unfolding example
here-before = refl

not-marked : is_marked before 1 ≡ false
unfolding example
not-marked = refl

resets : DoesReset before 1 9
resets = two-halves before 1 9 sound-before here-before not-marked

-- a device status is stored
stores : StoredAlike before 1 0x103 0 (5 ∷ [])
stores = stores-work before 1 sound-before here-before not-marked 0x103 0 (5 ∷ [])

pub sound-after : is_sound after ≡ true
unfolding example
sound-after = refl

pub is-marked : is_marked after 1 ≡ true
unfolding example
is-marked = refl

refused-between : Between after 1
refused-between = marked-refused after 1 sound-after is-marked

idle-between : Idle after 1
idle-between = marked-idle after 1 sound-after is-marked

-- a capture names it, and is in use
names-it : names 1 (send (get_all 1 0)) ≡ true
unfolding example
names-it = refl

in-use : usable (in_use_of after) (opcode_of (get_all 1 0)) ≡ true
unfolding example
in-use = refl
