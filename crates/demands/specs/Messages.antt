-- REQUEST 3, SPEC 13.3: configuration by message. What is claimed of it, and worked examples, on the card of Examples.antt and in
-- its form. The hypotheses are met in ../proofs/MessageExample.antt. Assumes nothing.
use Rattle.std.specs.Prelude.{◌≡◌, true, false, List, [], ◌∷◌, ◌++◌, map, ℕ, ◌+◌, ◌≤◌, length, drop, replicate}
use Rattle.wire.specs.Le.{bytes}
use Rattle.card.specs.Layout.{setup_of, in_use_of, is_member, member_in, holding_in, configuration_in, generation_in}
use Rattle.message.specs.Format.{length_of}
use Rattle.message.specs.Message.{answer_of, message_of}
use Rattle.demands.specs.Calls.{Call, command, hand_back, wipe, card_reset, card_store, restore_begin, restore_feed, restore_finish, restore_drop, message, Reply, answered, responded, step, names}
use Rattle.demands.specs.Examples.{example_card, Example, example, replies_to}

-- ---- the claims ----

-- What a message leaves is the card and the response that `answer_of` gives for the buffer's length: the response lies within
-- the buffer, as many bytes as are reported, and the rest of the buffer is left as it was
pub record Responds (c x b : List ℕ) : Type 0 where
  pub card : (message_of c x b).1.0 ≡ (answer_of c x (length b)).0
  pub reported : (message_of c x b).0 ≡ length (answer_of c x (length b)).1
  pub within : (message_of c x b).0 ≤ length b
  pub buffer : (message_of c x b).1.1 ≡ (answer_of c x (length b)).1 ++ drop (message_of c x b).0 b

abbrev pub Responded : Type 0
Responded = (c x b : List ℕ) → Responds c x b

-- Where there is no response, the bus outcome, nothing is written and nothing changes, and after an answer of length 0 the card
-- is as it was. Examples: no-response, no-data
pub record NothingApplied : Type 0 where
  pub bus_outcome : (c x b : List ℕ) → (message_of c x b).0 ≡ 0 → message_of c x b ≡ (0, (c, b))
  pub length_zero : (c x b : List ℕ) → length_of (answer_of c x (length b)).1 ≡ 0 → (message_of c x b).1.0 ≡ c

-- A message touches the configuration and the generation of the member that it names, and nothing else: no setup, no list in
-- use, no member's mode, objects, parts or holding place, and no other member's configuration. Examples: member-here, names-other
pub record SameButConfiguration (c d : List ℕ) (m : ℕ) : Type 0 where
  pub setup : setup_of d ≡ setup_of c
  pub in_use : in_use_of d ≡ in_use_of c
  pub member : member_in d m ≡ member_in c m
  pub holding : holding_in d m ≡ holding_in c m

pub record SameConfiguration (c d : List ℕ) (m : ℕ) : Type 0 where
  pub configuration : configuration_in d m ≡ configuration_in c m
  pub generation : generation_in d m ≡ generation_in c m

pub record OnlyConfiguration : Type 0 where
  pub own : (c : List ℕ) (m : ℕ) → is_member c m ≡ true → (x : List ℕ) (room : ℕ) → SameButConfiguration c (step c (message x room)).0 m
  pub others : (c : List ℕ) (m : ℕ) → is_member c m ≡ true → (x : List ℕ) (room : ℕ) → names m (message x room) ≡ false
      → SameConfiguration c (step c (message x room)).0 m

-- No command, card store, hand back or call of a restore touches a configuration, whomever it is for: messages, wipes and resets
-- of the card alone do. Example: member-here
pub record KeepsConfiguration (c : List ℕ) (m : ℕ) : Type 0 where
  pub commands : (r : List ℕ) (room : ℕ) → SameConfiguration c (step c (command r room)).0 m
  pub card_stores : (k t s : ℕ) (value : List ℕ) → SameConfiguration c (step c (card_store k t s value)).0 m
  pub hand_backs : (k : ℕ) → SameConfiguration c (step c (hand_back k)).0 m
  pub begins : (k : ℕ) → SameConfiguration c (step c (restore_begin k)).0 m
  pub feeds : (k : ℕ) (x : List ℕ) → SameConfiguration c (step c (restore_feed k x)).0 m
  pub finishes : (k id : ℕ) → SameConfiguration c (step c (restore_finish k id)).0 m
  pub drops : (k : ℕ) → SameConfiguration c (step c (restore_drop k)).0 m

abbrev pub ConfigurationKept : Type 0
ConfigurationKept = (c : List ℕ) (m : ℕ) → is_member c m ≡ true → KeepsConfiguration c m

-- ---- the worked examples ----

-- type, msg_id, dev_num, the token 0x1234, msg_size
abbrev pub head : ℕ → ℕ → ℕ → ℕ → List ℕ
head kind id d size = kind ∷ id ∷ (bytes 2 d ++ (0x34 ∷ 0x12 ∷ bytes 2 size))

-- GET_CONFIG and SET_CONFIG to device number d, of so many bytes from an offset
abbrev pub read_from : ℕ → ℕ → ℕ → List ℕ
read_from d offset n = head 0 0x05 d 16 ++ (bytes 4 offset ++ bytes 4 n)

abbrev pub fields : ℕ → ℕ → List ℕ → List ℕ
fields generation offset bs = bytes 4 generation ++ (bytes 4 offset ++ (bytes 4 (length bs) ++ bs))

abbrev pub write_to : ℕ → ℕ → ℕ → List ℕ → List ℕ
write_to d generation offset bs = head 0 0x06 d (20 + length bs) ++ fields generation offset bs

-- in a buffer of 32 bytes, which has room for every response
abbrev pub send : List ℕ → Call
send x = message x 32

-- the responses, and the bus outcome
abbrev pub has_read : ℕ → ℕ → ℕ → List ℕ → Reply
has_read d generation offset bs = responded (head 1 0x05 d (20 + length bs) ++ fields generation offset bs)

abbrev pub has_written : ℕ → ℕ → ℕ → List ℕ → Reply
has_written d generation offset bs = responded (head 1 0x06 d (20 + length bs) ++ fields generation offset bs)

abbrev pub bus_outcome : Reply
bus_outcome = responded []

abbrev pub four_bytes : List ℕ
four_bytes = 0xaa ∷ 0xbb ∷ 0xcc ∷ 0xdd ∷ []

unfoldable pub message_examples : List Example
message_examples =
    -- M1 a read of all 12 bytes of member 1, fresh, byte for byte
    example []
    (send (0x00 ∷ 0x05 ∷ 0x00 ∷ 0x00 ∷ 0x34 ∷ 0x12 ∷ 0x10 ∷ 0x00 ∷ 0 ∷ 0 ∷ 0 ∷ 0 ∷ 0x0c ∷ 0 ∷ 0 ∷ 0 ∷ []) ∷ [])
    (responded (0x01 ∷ 0x05 ∷ 0x00 ∷ 0x00 ∷ 0x34 ∷ 0x12 ∷ 0x20 ∷ 0x00 ∷ 0 ∷ 0 ∷ 0 ∷ 0 ∷ 0 ∷ 0 ∷ 0 ∷ 0 ∷ 0x0c ∷ 0 ∷ 0 ∷ 0 ∷ replicate 12 0) ∷ [])
    -- M2 a write to device number 1, which is member 2: applied, its data echoed, generation 1; member 1 is as it was
    ∷ example [] (send (write_to 1 0 8 four_bytes) ∷ send (read_from 1 6 6) ∷ send (read_from 0 8 4) ∷ [])
    (has_written 1 1 8 four_bytes ∷ has_read 1 1 6 (0 ∷ 0 ∷ four_bytes) ∷ has_read 0 0 8 (replicate 4 0) ∷ [])
    -- M3 a stale write, with generation 0 or 2 where 1 is current: length 0, no data, and nothing applied
    ∷ example (send (write_to 0 0 0 four_bytes) ∷ [])
    (send (write_to 0 0 0 (7 ∷ [])) ∷ send (write_to 0 2 0 (7 ∷ [])) ∷ send (read_from 0 0 4) ∷ [])
    (has_written 0 1 0 [] ∷ has_written 0 1 0 [] ∷ has_read 0 1 0 four_bytes ∷ [])
    -- M4 a wipe gives the generation to start from; from 4,294,967,295 a write moves it to 0
    ∷ example (hand_back 1 ∷ wipe 1 4294967295 ∷ [])
    (send (write_to 0 4294967295 0 four_bytes) ∷ send (write_to 0 0 4 four_bytes) ∷ [])
    (has_written 0 0 0 four_bytes ∷ has_written 0 1 4 four_bytes ∷ [])
    -- M5 past byte 12: length 0, the offset echoed. The sum of offset and length does not wrap
    ∷ example []
    (send (read_from 0 8 4) ∷ send (read_from 0 8 5) ∷ send (read_from 0 4294967295 2) ∷ send (read_from 0 0 4294967295)
    ∷ send (write_to 0 0 9 four_bytes) ∷ [])
    (has_read 0 0 8 (replicate 4 0) ∷ has_read 0 0 8 [] ∷ has_read 0 0 4294967295 [] ∷ has_read 0 0 0 [] ∷ has_written 0 0 9 [] ∷ [])
    -- M6 too short a buffer: the response to a write of 4 bytes has 24, and with 23 it is not applied; a stale one has 20
    ∷ example []
    (message (write_to 0 0 0 four_bytes) 23 ∷ message (write_to 0 9 0 four_bytes) 20 ∷ message (write_to 0 9 0 four_bytes) 19
    ∷ message (write_to 0 0 0 four_bytes) 24 ∷ message (read_from 0 0 4) 23 ∷ [])
    (bus_outcome ∷ has_written 0 0 0 [] ∷ bus_outcome ∷ has_written 0 1 0 four_bytes ∷ bus_outcome ∷ [])
    -- M7 length 0 is a no-op, whatever the offset and the generation sent
    ∷ example []
    (send (write_to 0 0 0 []) ∷ send (write_to 0 5 100 []) ∷ send (read_from 0 100 0) ∷ [])
    (has_written 0 0 0 [] ∷ has_written 0 0 100 [] ∷ has_read 0 0 100 [] ∷ [])
    -- M8 bytes that are already there are written too, and move the generation
    ∷ example [] (send (write_to 0 0 0 (0 ∷ [])) ∷ []) (has_written 0 1 0 (0 ∷ []) ∷ [])
    -- M9 device number 2 speaks for no member of two
    ∷ example [] (send (read_from 2 0 4) ∷ send (write_to 2 0 0 four_bytes) ∷ []) (bus_outcome ∷ bus_outcome ∷ [])
    -- M10 bits 2 to 7 of the type are ignored; a response, a bus message and another kind are not taken
    ∷ example []
    (send (head 0xfc 0x05 0 16 ++ (bytes 4 0 ++ bytes 4 1)) ∷ send (head 1 0x05 0 16 ++ (bytes 4 0 ++ bytes 4 1))
    ∷ send (head 2 0x05 0 16 ++ (bytes 4 0 ++ bytes 4 1)) ∷ send (head 0 0x45 0 16 ++ (bytes 4 0 ++ bytes 4 1)) ∷ [])
    (has_read 0 0 0 (0 ∷ []) ∷ bus_outcome ∷ bus_outcome ∷ bus_outcome ∷ [])
    -- M11 the bytes handed over, msg_size, the layout and a write's length field agree; a length of 65,540 in 24 bytes does not,
    -- though 20 more are 24 in 16 bits
    ∷ example []
    (send (read_from 0 0 4 ++ (0 ∷ [])) ∷ send (head 0 0x05 0 17 ++ (bytes 4 0 ++ (bytes 4 4 ++ (0 ∷ []))))
    ∷ send (head 0 0x06 0 24 ++ (bytes 4 0 ++ (bytes 4 0 ++ (bytes 4 3 ++ four_bytes))))
    ∷ send (head 0 0x06 0 24 ++ (bytes 4 0 ++ (bytes 4 0 ++ (bytes 4 65540 ++ four_bytes))))
    ∷ send (head 0 0x06 0 16 ++ (bytes 4 0 ++ bytes 4 0)) ∷ send [] ∷ [])
    (bus_outcome ∷ bus_outcome ∷ bus_outcome ∷ bus_outcome ∷ bus_outcome ∷ bus_outcome ∷ [])
    -- M12 a wipe makes the bytes zero and starts from the generation given, that of the card with one for all members
    ∷ example (send (write_to 0 0 0 four_bytes) ∷ send (write_to 1 0 0 four_bytes) ∷ [])
    (hand_back 1 ∷ wipe 1 7 ∷ send (read_from 0 0 4) ∷ send (read_from 1 0 4) ∷ card_reset 9 ∷ send (read_from 0 0 1) ∷ send (read_from 1 0 1) ∷ [])
    (answered 0 ∷ answered 0 ∷ has_read 0 7 0 (replicate 4 0) ∷ has_read 1 1 0 four_bytes ∷ answered 0 ∷ has_read 0 9 0 (0 ∷ []) ∷ has_read 1 9 0 (0 ∷ []) ∷ [])
    ∷ []

abbrev pub MessageExamplesHold : Type 0
MessageExamplesHold = map (replies_to step example_card) message_examples ≡ map (λ (e : Example). e.expected) message_examples
