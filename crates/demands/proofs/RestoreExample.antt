-- The hypotheses of the claims on a restore in fragments can be met: a stopped member with a set object, and a list cut in
-- two ways. And the worked examples. Assumes nothing.
use mathlib.Core.Path.{◌≡◌, refl}
use mathlib.Core.Logic.{◌≢◌}
use mathlib.Core.Bool.{true, false}
use mathlib.Core.List.{List, [], ◌∷◌, ◌++◌}
use Prim.Native.Nat.{ℕ, ◌+◌, ◌≤◌}
use native.Mathlib.Omega.{arith}
use lib.ListN.{length, get_or, take, drop, replicate}
use Rattle.theory.specs.Machine.{replies, run}
use Rattle.member.specs.Record.{values_at, holding_size}
use Rattle.card.specs.Layout.{record_at, is_member, is_marked}
use Rattle.card.specs.Sound.{is_sound}
use Rattle.staging.specs.Staging.{held_in, is_open, held_bytes, begin_of}
use Rattle.staging.specs.Claims.{SetsParts, joined, fed, restored}
use Rattle.staging.proofs.SetsParts.{finish-is-parts-set}
use Rattle.staging.proofs.Cut.{holds-joined, cut-anywhere}
use Rattle.demands.specs.Calls.{hand_back, wipe, card_reset, restore_begin, restore_feed, restore_finish, restore_drop, refused, step}
use Rattle.demands.specs.Examples.{example_card, set_mode, objects_live, status_part}
use Rattle.demands.specs.Restores.{answers, restore_examples, RestoreExamplesHold}
use Rattle.demands.proofs.Model.{model}

-- member 1 has get object 0 and set object 1 and is stopped
target : List ℕ
target = run step example_card (objects_live ++ set_mode 1 1 ∷ [])

-- the device status, in three fragments and in one
three : List (List ℕ)
three = take 3 status_part ∷ [] ∷ drop 3 status_part ∷ []

one : List (List ℕ)
one = status_part ∷ []

-- it is fed and not set yet
begun : List ℕ
begun = run step target (restore_begin 1 ∷ restore_feed 1 status_part ∷ [])

example : Unit {0}
unfolding model target three one begun
example = tt

-- ---- cut anywhere, and held joined: each hypothesis, and the claims ----

sound-target : is_sound target ≡ true
unfolding example
sound-target = refl

member-here : is_member target 1 ≡ true
unfolding example
member-here = refl

nothing-open : held_in target 1 ≡ 0
unfolding example
nothing-open = refl

not-marked : is_marked target 1 ≡ false
unfolding example
not-marked = refl

same-joined : joined three ≡ joined one
unfolding example
same-joined = refl

few-joined : length (joined three) ≤ holding_size
unfolding example
few-joined = omega arith

cut-differently : length three ≢ length one
unfolding example
cut-differently = omega arith

same-restored : restored target 1 1 three ≡ restored target 1 1 one
same-restored = cut-anywhere target 1 1 sound-target member-here nothing-open three one same-joined few-joined

joined-held : held_bytes (fed 1 (begin_of target 1).1 three) 1 ≡ joined three
joined-held = holds-joined target 1 sound-target member-here not-marked nothing-open three few-joined

-- the device status is set: it stands behind the features of the device and the driver and 12 bytes of configuration
status-at : ℕ
status-at = record_at 1 + values_at + 44

status-set : get_or (restored target 1 1 three).1 status-at 0 ≡ 5
unfolding example status-at
status-set = refl

-- ---- finish is parts set: each hypothesis, and the claim ----

sound-begun : is_sound begun ≡ true
unfolding example
sound-begun = refl

member-begun : is_member begun 1 ≡ true
unfolding example
member-begun = refl

is-begun : is_open begun 1 ≡ true
unfolding example
is-begun = refl

finish-sets : SetsParts begun 1 1 8
finish-sets = finish-is-parts-set begun 1 1 8 sound-begun member-begun is-begun (omega arith) (omega arith)

-- ---- refusals ----

-- 17 bytes are held, and 1,008 more are too many
refused-feed : refused (step begun (restore_feed 1 (replicate 1008 0))).1 ≡ true
unfolding example
refused-feed = refl

-- through a get object
refused-finish : refused (step begun (restore_finish 1 0)).1 ≡ true
unfolding example
refused-finish = refl

-- ---- resets that are done ----

done-back : refused (step begun (hand_back 1)).1 ≡ false
unfolding example
done-back = refl

done-wipe : refused (step (step begun (hand_back 1)).0 (wipe 1 0)).1 ≡ false
unfolding example
done-wipe = refl

done-reset : refused (step begun (card_reset 0)).1 ≡ false
unfolding example
done-reset = refl

-- ---- every answer, in one sequence ----

all-answers : replies step target
    (restore_begin 3 ∷ restore_feed 1 (replicate 1025 0) ∷ restore_finish 1 9 ∷ restore_drop 1
    ∷ restore_begin 1 ∷ restore_begin 1 ∷ restore_feed 1 (replicate 1024 0) ∷ restore_feed 1 [] ∷ restore_finish 1 1
    ∷ restore_begin 1 ∷ restore_feed 1 (replicate 1025 0) ∷ restore_drop 1
    ∷ restore_begin 1 ∷ restore_drop 1
    ∷ restore_begin 1 ∷ restore_finish 1 9 ∷ restore_begin 1 ∷ restore_finish 1 1 ∷ [])
    ≡ answers 22 5 ∷ answers 6 1 ∷ answers 6 1 ∷ answers 6 1
    ∷ answers 0 0 ∷ answers 17 1 ∷ answers 0 0 ∷ answers 0 0 ∷ answers 22 3
    ∷ answers 0 0 ∷ answers 22 1 ∷ answers 6 1
    ∷ answers 0 0 ∷ answers 0 0
    ∷ answers 0 0 ∷ answers 22 3 ∷ answers 0 0 ∷ answers 0 0 ∷ []
unfolding example
all-answers = refl

-- ---- the worked examples ----

pub restore-examples-hold : RestoreExamplesHold
unfolding model restore_examples
restore-examples-hold = record { table = refl; unsound = refl }
