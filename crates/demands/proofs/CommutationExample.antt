-- The hypotheses of commutation can be met: two commands that each change their member. Assumes nothing.
use mathlib.Core.Path.{◌≡◌, refl}
use mathlib.Core.Logic.{◌≢◌}
use mathlib.Core.Bool.{true}
use mathlib.Core.List.{List, [], ◌∷◌, ◌++◌}
use Prim.Native.Nat.{ℕ, ◌+◌}
use native.Mathlib.Omega.{arith}
use lib.ListN.{get_or}
use Rattle.theory.specs.Machine.{replies, Swappable}
use Rattle.member.specs.Record.{objects_at}
use Rattle.card.specs.Layout.{record_at}
use Rattle.demands.specs.Calls.{Call, step, names}
use Rattle.host.specs.Request.{get_all}
use Rattle.demands.specs.Examples.{example_card, send, use_list, create, set_mode, succeeds, gives, nine_parts}
use Rattle.demands.proofs.Model.{model}
use Rattle.demands.proofs.Commutation.{commutation}

-- member 1 gets an object, member 2 is stopped
abbrev first : Call
first = create 0 0

abbrev second : Call
second = set_mode 2 1

abbrev before : List Call
before = use_list 0x3fc03 ∷ []

abbrev later : List Call
later = send (get_all 1 0) ∷ []

-- ---- each hypothesis ----

apart : ◌≢◌ {A = ℕ} 1 2
apart = omega arith

names-first : names 1 first ≡ true
unfolding model
names-first = refl

names-second : names 2 second ≡ true
unfolding model
names-second = refl

-- ---- both change the card, and the claim at them ----

abbrev used : List ℕ
used = (step example_card (use_list 0x3fc03)).0

first-changes : get_or (step used first).0 (record_at 1 + objects_at) 0 ≢ get_or used (record_at 1 + objects_at) 0
unfolding model
first-changes = omega arith

second-changes : get_or (step used second).0 (record_at 2) 0 ≢ get_or used (record_at 2) 0
unfolding model
second-changes = omega arith

change-places : Swappable step example_card before first second later
change-places = commutation example_card 1 2 apart first second names-first names-second before later

all-replies : replies step example_card (before ++ first ∷ second ∷ later) ≡ succeeds ∷ succeeds ∷ succeeds ∷ gives nine_parts ∷ []
unfolding model
all-replies = refl
