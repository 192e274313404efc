-- WHERE SEQUENCES AND EXPORTED FUNCTIONS MEET: what the contract of a function that changes a card gives is the step of that call.
-- The right side of each equation is a call of SPEC 8.1; the left side is made of what the contract in kajurnat/src cites. Assumes
-- nothing.
use Rattle.std.specs.Prelude.{◌≡◌, List, ℕ, length, take}
use Rattle.events.specs.Events.{numbered, hand_back as hand_back_of, wipe as wipe_of, reset_card, store}
use Rattle.admin.specs.Command.{command_of}
use Rattle.staging.specs.Staging.{begin_of, feed_of, finish_of, drop_of}
use Rattle.message.specs.Message.{message_of}
use Rattle.demands.specs.Calls.{command, hand_back, wipe, card_reset, card_store, restore_begin, restore_feed, restore_finish, restore_drop, message, Reply, written, answered, responded, step}

-- the bytes that a function reports as written, of the buffer that it leaves
abbrev pub bytes_written : ℕ × (List ℕ × List ℕ) → List ℕ
bytes_written y = take y.0 y.1.1

-- the card after a function that answers a number, and the number as the reply
abbrev pub as_step : ℕ × List ℕ → List ℕ × Reply
as_step y = (y.1, answered y.0)

pub record ExportsStep : Type 0 where
  -- kajurnat_command, with the buffer b; the bytes of b that are not written stay: Delivers
  pub commands : (c r b : List ℕ) → ◌≡◌ {A = List ℕ × Reply} ((command_of c r b).1.0, written (bytes_written (command_of c r b))) (step c (command r (length b)))
  -- kajurnat_hand_back, kajurnat_wipe, kajurnat_reset_card, kajurnat_store
  pub hand_backs : (c : List ℕ) (m : ℕ) → as_step (numbered (hand_back_of c m)) ≡ step c (hand_back m)
  pub wipes : (c : List ℕ) (m generation : ℕ) → as_step (numbered (wipe_of c m generation)) ≡ step c (wipe m generation)
  pub card_resets : (c : List ℕ) (generation : ℕ) → as_step (numbered (reset_card c generation)) ≡ step c (card_reset generation)
  pub card_stores : (c : List ℕ) (m t s : ℕ) (value : List ℕ) → as_step (numbered (store c m t s value)) ≡ step c (card_store m t s value)
  -- kajurnat_restore_begin, kajurnat_restore_feed, kajurnat_restore_finish, kajurnat_restore_drop
  pub begins : (c : List ℕ) (m : ℕ) → as_step (begin_of c m) ≡ step c (restore_begin m)
  pub feeds : (c : List ℕ) (m : ℕ) (x : List ℕ) → as_step (feed_of c m x) ≡ step c (restore_feed m x)
  pub finishes : (c : List ℕ) (m id : ℕ) → as_step (finish_of c m id) ≡ step c (restore_finish m id)
  pub drops : (c : List ℕ) (m : ℕ) → as_step (drop_of c m) ≡ step c (restore_drop m)
  -- kajurnat_message, with the buffer b
  pub messages : (c x b : List ℕ) → ◌≡◌ {A = List ℕ × Reply} ((message_of c x b).1.0, responded (bytes_written (message_of c x b))) (step c (message x (length b)))
