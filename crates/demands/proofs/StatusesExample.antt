-- The hypotheses of the status table can be met, and each of its rows is the first that applies to some command.
-- Assumes nothing.
use mathlib.Core.Path.{◌≡◌, refl}
use mathlib.Core.Bool.{true}
use mathlib.Core.List.{List, [], ◌∷◌, ◌++◌, map}
use Prim.Native.Nat.{ℕ, suc}
use native.Mathlib.Omega.{arith}
use Rattle.theory.specs.Logic.{when◌then◌else◌}
use Rattle.theory.specs.Machine.{run}
use Rattle.card.specs.Sound.{is_sound}
use Rattle.demands.specs.Calls.{Call, command, hand_back, wipe, card_reset, card_store, restore_begin, restore_feed, restore_finish, restore_drop, message, step}
use Rattle.host.specs.Request.{request, get_all, set_parts}
use Rattle.demands.specs.Examples.{example_card, send, use_list, set_mode, create, destroy, metadata, all_used, objects_live}
use Rattle.demands.specs.Statuses.{Row, first_of, rows, FirstRowAnswers}
use Rattle.demands.proofs.Model.{model}
use Rattle.demands.proofs.Statuses.{statuses}

sound : is_sound example_card ≡ true
unfolding model
sound = refl

-- opcode 0x0a is not in use on a fresh card
answers : FirstRowAnswers example_card (request 0x0a 1 0 []) 8
answers = statuses example_card (request 0x0a 1 0 []) 8 sound (omega arith)

first-row : first_of (rows example_card (request 0x0a 1 0 []) 8) ≡ (22, 2)
unfolding model
first-row = refl

-- the place of the first row that applies
place : List Row → ℕ
place [] = 0
place (x ∷ xs) = when x.applies then 0 else suc (place xs)

place_for : List ℕ → Call → ℕ
place_for c (command r room) = place (rows c r room)
place_for c (hand_back m) = 0
place_for c (wipe m g) = 0
place_for c (card_reset g) = 0
place_for c (card_store m t s value) = 0
place_for c (restore_begin m) = 0
place_for c (restore_feed m x) = 0
place_for c (restore_finish m id) = 0
place_for c (restore_drop m) = 0
place_for c (message x room) = 0

-- calls that lead to a command, and the command
abbrev Case : Type 0
Case = List Call × Call

cases : List Case
cases =
    ([], send [])  -- 2: no request
    ∷ ([], send (request 0xffff 2 0 []))  -- 3
    ∷ ([], send (request 0x0a 1 0 []))  -- 4: not in use
    ∷ (all_used, set_mode 3 1)  -- 5: of two members
    ∷ (use_list 0x3fc03 ∷ hand_back 1 ∷ [], set_mode 1 2)  -- marked
    ∷ (all_used, set_mode 1 2)  -- 7: a mode bit
    ∷ (objects_live, create 0 0)  -- 8: a live id
    ∷ (all_used, destroy 0)  -- no live id
    ∷ (use_list 0x3fc03 ∷ create 0 0 ∷ [], create 1 0)  -- two get objects of one
    ∷ (objects_live, metadata 1 0)  -- through a set object
    ∷ (objects_live, send (set_parts 1 1 []))  -- 9: running
    ∷ (objects_live ++ set_mode 1 1 ∷ [], send (set_parts 1 1 (0 ∷ [])))  -- 10: a cut header
    ∷ (objects_live, command (get_all 1 0) 8)  -- 11: room for the head alone
    ∷ (objects_live, send (get_all 1 0))  -- 12
    ∷ []

every-row-applies : map (λ (x : Case). place_for (run step example_card x.0) x.1) cases
    ≡ 0 ∷ 1 ∷ 2 ∷ 3 ∷ 4 ∷ 5 ∷ 6 ∷ 7 ∷ 8 ∷ 9 ∷ 10 ∷ 11 ∷ 12 ∷ 13 ∷ []
unfolding model place place_for cases
every-row-applies = refl
