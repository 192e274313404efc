-- REQUEST 10, SPEC 13.10: a reset in two halves. What is claimed of it, and worked examples, on the card of Examples.antt and in
-- its form. Assumes nothing.
use Rattle.std.specs.Prelude.{◌≡◌, true, false, List, [], ◌∷◌, ◌++◌, map, ℕ, ◌+◌, ◌*◌, ◌≤◌, replicate, None, Err}
use Rattle.protocol.specs.declared.Refusal.TheVariants.{Marked}
use Rattle.protocol.specs.declared.Mode.TheVariants.{Stopped}
use Rattle.frame.specs.Frame.{opcode_of}
use Rattle.frame.specs.Ask.{usable}
use Rattle.member.specs.Objects.{lookup_of}
use Rattle.card.specs.Layout.{in_use_of, is_member, member_in, is_marked}
use Rattle.card.specs.Sound.{is_sound}
use Rattle.events.specs.Events.{reset_member}
use Rattle.reply.specs.Reply.{head_of}
use Rattle.host.specs.Request.{get_all}
use Rattle.demands.specs.Calls.{hand_back, wipe, card_reset, card_store, restore_begin, restore_feed, restore_drop, message, answered, step, command, restore_finish, written, responded, names}
use Rattle.demands.specs.Messages.{read_from, write_to, four_bytes, bus_outcome, has_read}
use Rattle.demands.specs.Examples.{example_card, send, use_list, create, set_mode, all_used, objects_live, refuses, gives, succeeds, nine_parts, Example, example, replies_to}

-- The two in a row do what member reset did: on a sound card, for a member that is not marked, both answer 0 and leave
-- the card that `reset_member` gives. Example: ../proofs/HalvesExample.antt
pub record DoesReset (c : List ℕ) (m generation : ℕ) : Type 0 where
  pub hands_back : (step c (hand_back m)).1 ≡ answered 0
  pub wipes : step (step c (hand_back m)).0 (wipe m generation) ≡ ((reset_member c m generation).1, answered 0)

abbrev pub TwoHalves : Type 0
TwoHalves =
    (c : List ℕ) (m generation : ℕ) → is_sound c ≡ true → is_member c m ≡ true → is_marked c m ≡ false → DoesReset c m generation

-- Between them a command that names m, and whose opcode is in use, answers 11/7 in any buffer of 8 bytes or more, and a
-- call of SPEC 13.6 for m answers 11/7; a message that names m gets the bus outcome; the card stays. Example:
-- ../proofs/HalvesExample.antt
abbrev pub refuses_marked : ℕ
refuses_marked = 11 + 65536 * 7

pub record Between (c : List ℕ) (m : ℕ) : Type 0 where
  pub commands : (r : List ℕ) (room : ℕ) → names m (command r room) ≡ true → usable (in_use_of c) (opcode_of r) ≡ true → 8 ≤ room
      → step c (command r room) ≡ (c, written (head_of (Err Marked)))
  pub begins : step c (restore_begin m) ≡ (c, answered refuses_marked)
  pub feeds : (x : List ℕ) → step c (restore_feed m x) ≡ (c, answered refuses_marked)
  pub finishes : (id : ℕ) → step c (restore_finish m id) ≡ (c, answered refuses_marked)
  pub drops : step c (restore_drop m) ≡ (c, answered refuses_marked)
  pub messages : (x : List ℕ) (room : ℕ) → names m (message x room) ≡ true → step c (message x room) ≡ (c, responded [])

abbrev pub MarkedRefused : Type 0
MarkedRefused = (c : List ℕ) (m : ℕ) → is_sound c ≡ true → is_marked c m ≡ true → Between c m

-- Card stores still work: one for m is answered as before the hand back, and leaves the card that a hand back after it leaves.
-- Example: ../proofs/HalvesExample.antt
pub record StoredAlike (c : List ℕ) (m t s : ℕ) (value : List ℕ) : Type 0 where
  pub answer : (step (step c (hand_back m)).0 (card_store m t s value)).1 ≡ (step c (card_store m t s value)).1
  pub card : (step (step c (hand_back m)).0 (card_store m t s value)).0 ≡ (step (step c (card_store m t s value)).0 (hand_back m)).0

abbrev pub StoresWork : Type 0
StoresWork =
    (c : List ℕ) (m : ℕ) → is_sound c ≡ true → is_member c m ≡ true → is_marked c m ≡ false → (t s : ℕ) (value : List ℕ) → StoredAlike c m t s value

-- A marked member of a sound card is stopped, with no live object and no holding place. Example: ../proofs/HalvesExample.antt
pub record Idle (c : List ℕ) (m : ℕ) : Type 0 where
  pub stopped : (member_in c m).mode ≡ Stopped
  pub no_object : (id : ℕ) → lookup_of (member_in c m) id ≡ None
  pub no_place : (member_in c m).held ≡ 0

abbrev pub MarkedIdle : Type 0
MarkedIdle = (c : List ℕ) (m : ℕ) → is_sound c ≡ true → is_marked c m ≡ true → Idle c m

-- ---- worked examples ----

unfoldable pub halves_examples : List Example
halves_examples =
    -- H1 no member 3; a wipe of a member that is not marked, and a hand back of one that is, answer 6
    example [] (hand_back 3 ∷ wipe 3 0 ∷ wipe 1 0 ∷ hand_back 1 ∷ hand_back 1 ∷ wipe 1 0 ∷ wipe 1 0 ∷ [])
    (answered 1 ∷ answered 1 ∷ answered 6 ∷ answered 0 ∷ answered 6 ∷ answered 0 ∷ answered 6 ∷ [])
    -- H2 marked: 11/7, ahead of a bad field and of an object that is gone; 22/2 for an opcode that is not in use, 22/5 for no member,
    -- and list use are as ever, and so is the other member
    ∷ example (objects_live ++ hand_back 1 ∷ [])
    (set_mode 1 1 ∷ set_mode 1 2 ∷ send (get_all 1 0) ∷ create 0 0 ∷ set_mode 3 1 ∷ set_mode 2 1 ∷ use_list 3 ∷ set_mode 1 1 ∷ [])
    (refuses 11 7 ∷ refuses 11 7 ∷ refuses 11 7 ∷ refuses 11 7 ∷ refuses 22 5 ∷ succeeds ∷ succeeds ∷ refuses 22 2 ∷ [])
    -- H3 a restore that was begun is ended; its calls answer 11/7 until the wipe, and then nothing is begun
    ∷ example (restore_begin 1 ∷ restore_feed 1 (1 ∷ []) ∷ hand_back 1 ∷ [])
    (restore_begin 1 ∷ restore_feed 1 (1 ∷ []) ∷ restore_drop 1 ∷ wipe 1 0 ∷ restore_drop 1 ∷ [])
    (answered (11 + 65536 * 7) ∷ answered (11 + 65536 * 7) ∷ answered (11 + 65536 * 7) ∷ answered 0 ∷ answered (6 + 65536 * 1) ∷ [])
    -- H4 a card store works in between; the wipe leaves nothing of it
    ∷ example (all_used ++ hand_back 1 ∷ [])
    (card_store 1 0x104 0 (0 ∷ 1 ∷ replicate 30 0xaa) ∷ wipe 1 9 ∷ create 0 0 ∷ send (get_all 1 0) ∷ [])
    (answered 0 ∷ answered 0 ∷ succeeds ∷ gives nine_parts ∷ [])
    -- H5 a reset of the whole card wipes a marked member too
    ∷ example (hand_back 1 ∷ []) (card_reset 5 ∷ use_list 0x3fc03 ∷ create 0 0 ∷ wipe 1 0 ∷ [])
    (answered 0 ∷ succeeds ∷ succeeds ∷ answered 6 ∷ [])
    -- H6 a message for a marked member gets the bus outcome, one for the other member is answered; the wipe gives the generation
    ∷ example (message (write_to 0 0 0 four_bytes) 32 ∷ hand_back 1 ∷ [])
    (message (read_from 0 0 4) 32 ∷ message (read_from 1 0 1) 32 ∷ wipe 1 7 ∷ message (read_from 0 0 4) 32 ∷ [])
    (bus_outcome ∷ has_read 1 0 0 (0 ∷ []) ∷ answered 0 ∷ has_read 0 7 0 (replicate 4 0) ∷ [])
    ∷ []

abbrev pub HalvesExamplesHold : Type 0
HalvesExamplesHold = map (replies_to step example_card) halves_examples ≡ map (λ (e : Example). e.expected) halves_examples
