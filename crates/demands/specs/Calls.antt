-- The calls of a sequence and one step of the card: SPEC 8. Assumes nothing.
use Rattle.std.specs.Prelude.{Bool, true, false, not, List, [], ◌∷◌, ℕ, eqb, length}
use Rattle.theory.specs.Logic.{◌and◌, within}
use Rattle.wire.specs.Le.{number}
use Rattle.protocol.specs.Answers.{EventAnswer, event_number}
use Rattle.protocol.specs.Opcodes.{names_member}
use Rattle.events.specs.Events.{hand_back as hand_back_of, wipe as wipe_of, reset_card, store}
use Rattle.frame.specs.Frame.{opcode_of, group_of, target_of}
use Rattle.admin.specs.Command.{respond}
use Rattle.staging.specs.Staging.{begin_of, feed_of, finish_of, drop_of}
use Rattle.message.specs.Format.{length_of}
use Rattle.message.specs.Access.{whole_of, speaks_for}
use Rattle.message.specs.Message.{answer_of}

-- SPEC 8.1: commands, hand backs, wipes, resets of the whole card and card stores, with any arguments. A command is the
-- bytes of its request and the length of its reply buffer, whose bytes do not count
pub data Call : Type 0 where
  command : List ℕ → ℕ → Call
  -- the two halves of a member reset, 02, request 10; a wipe and a card reset are given the generation to start from
  hand_back : ℕ → Call
  wipe : ℕ → ℕ → Call
  card_reset : ℕ → Call
  card_store : ℕ → ℕ → ℕ → List ℕ → Call
  -- restore in fragments, SPEC 13.6: the reply is the answer
  restore_begin : ℕ → Call
  restore_feed : ℕ → List ℕ → Call
  restore_finish : ℕ → ℕ → Call
  restore_drop : ℕ → Call
  -- a message, SPEC 13.3: its bytes and the length of its reply buffer
  message : List ℕ → ℕ → Call

-- what a command wrote, and so how much; what a card event answered; the response to a message, which has no bytes in the bus
-- outcome (02's term)
pub data Reply : Type 0 where
  written : List ℕ → Reply
  answered : ℕ → Reply
  responded : List ℕ → Reply

-- a call is refused if nothing is written, or its status or answer is not 0; a message, if it gets no response, or one of
-- length 0, as a no-op does
unfoldable pub refused : Reply → Bool
refused (written []) = true
refused (written (b ∷ bs)) = not (eqb (number 0 2 (b ∷ bs)) 0)
refused (answered n) = not (eqb n 0)
refused (responded bs) = eqb (length_of bs) 0

-- the card after a call and the reply to it, of what a command gives, an event, a restore in fragments and a message
abbrev pub of_command : List ℕ × List ℕ → List ℕ × Reply
of_command x = (x.0, written x.1)

abbrev pub of_event : EventAnswer × List ℕ → List ℕ × Reply
of_event x = (x.1, answered (event_number x.0))

abbrev pub of_restore : ℕ × List ℕ → List ℕ × Reply
of_restore x = (x.1, answered x.0)

abbrev pub of_message : List ℕ × List ℕ → List ℕ × Reply
of_message x = (x.0, responded x.1)

-- one call on a card
unfoldable pub step : List ℕ → Call → List ℕ × Reply
step c (command r room) = of_command (respond c r room)
step c (hand_back m) = of_event (hand_back_of c m)
step c (wipe m generation) = of_event (wipe_of c m generation)
step c (card_reset generation) = of_event (reset_card c generation)
step c (card_store m t s value) = of_event (store c m t s value)
step c (restore_begin m) = of_restore (begin_of c m)
step c (restore_feed m x) = of_restore (feed_of c m x)
step c (restore_finish m id) = of_restore (finish_of c m id)
step c (restore_drop m) = of_restore (drop_of c m)
step c (message x room) = of_message (answer_of c x room)

-- a call names m (01's term), SPEC 8.2: a command whose request is whole, of the group type 1 and for member m; a card
-- store for m; a call of SPEC 13.6 that is for m; a whole read or write request to device number m - 1, in a buffer of any
-- length. Whether it is refused does not matter
unfoldable pub names : ℕ → Call → Bool
names m (command r room) =
    within 24 4096 (length r) and eqb (group_of r) 1 and names_member (opcode_of r) and eqb (target_of r) m
names m (hand_back k) = false
names m (wipe k generation) = false
names m (card_reset generation) = false
names m (card_store k t s value) = eqb k m
names m (restore_begin k) = eqb k m
names m (restore_feed k x) = eqb k m
names m (restore_finish k id) = eqb k m
names m (restore_drop k) = eqb k m
names m (message x room) = speaks_for m (whole_of x)

-- a reset of m, SPEC 8.3, by the call and its reply: a wipe of m that answers 0, or a reset of the whole card
pub data Resets (m : ℕ) : Call → Reply → Type 0 where
  of_wipe : {generation : ℕ} → Resets m (wipe m generation) (answered 0)
  of_card : {generation : ℕ} {reply : Reply} → Resets m (card_reset generation) reply
