-- REQUEST 5, SPEC 13.5: queue sizes that no ring has. What a sound card holds, and worked examples, on the card of
-- Examples.antt and in its form. Assumes nothing.
use Rattle.std.specs.Prelude.{◌≡◌, true, List, [], ◌∷◌, ◌++◌, map, ℕ, ◌^◌, ◌≤◌, ◌<◌, take, replicate}
use Rattle.wire.specs.Le.{bytes, number}
use Rattle.inventory.specs.Queue.{queue_value}
use Rattle.card.specs.Layout.{is_member, member_in}
use Rattle.card.specs.Sound.{is_sound}
use Rattle.host.specs.Request.{set_parts}
use Rattle.demands.specs.Calls.{Call, card_store, answered, step}
use Rattle.demands.specs.Examples.{example_card, send, use_list, create, set_mode, refuses, succeeds, header, header_bytes, Example, example, replies_to}

-- a power of two up to 32,768; or 0, in a queue that is not enabled
pub data Ring (size enabled : ℕ) : Type 0 where
  power : {k : ℕ} → k ≤ 15 → size ≡ 2 ^ k → Ring size enabled
  unused : size ≡ 0 → enabled ≡ 0 → Ring size enabled

-- A sound card holds no queue part of another size: k is any queue that member m has got, its size the first two bytes of its
-- value, and its enabled field two from byte 4 on. Every call keeps that: StaysSound. Example:
-- fresh-queue in ../proofs/QueueSizes.antt
abbrev pub RingsOnly : Type 0
RingsOnly =
    (c : List ℕ) → is_sound c ≡ true → (m : ℕ) → is_member c m ≡ true → (k : ℕ) → k < (member_in c m).queues
    → Ring (number 0 2 (queue_value k (member_in c m).values)) (number 4 2 (queue_value k (member_in c m).values))

-- ---- worked examples ----

-- a queue's value with this size and enabled field
abbrev pub queue_with : ℕ → ℕ → List ℕ
queue_with size enabled = bytes 2 size ++ (0 ∷ 0 ∷ (bytes 2 enabled ++ replicate 26 0))

-- parts set, through object 1, of the part of queue k with these flags
abbrev pub set_queue : ℕ → ℕ → ℕ → ℕ → Call
set_queue k flags size enabled = send (set_parts 1 1 (header_bytes (header 0x104 flags k 32) ++ queue_with size enabled))

-- a card store of queue 0
abbrev pub store_queue : ℕ → ℕ → Call
store_queue size enabled = card_store 1 0x104 0 (queue_with size enabled)

-- all commands are used, and the member has set object 1 and is stopped
abbrev pub settable : List Call
settable = use_list 0x3fc03 ∷ create 1 1 ∷ set_mode 1 1 ∷ []

unfoldable pub queue_examples : List Example
queue_examples =
    -- S1 a size of 100 is refused, and so is 65,535; 1 and 32,768 are taken
    example settable (set_queue 0 0 100 0 ∷ set_queue 0 0 65535 0 ∷ set_queue 0 0 1 0 ∷ set_queue 0 0 32768 0 ∷ [])
    (refuses 22 3 ∷ refuses 22 3 ∷ succeeds ∷ succeeds ∷ [])
    -- S2 a size of 0 is taken where the enabled field is 0, all 16 bits of it; another size with any
    ∷ example settable (set_queue 0 0 0 0 ∷ set_queue 0 0 0 1 ∷ set_queue 0 0 0 0x0100 ∷ set_queue 0 0 256 0x0100 ∷ [])
    (succeeds ∷ refuses 22 3 ∷ refuses 22 3 ∷ succeeds ∷ [])
    -- S3 queue 1, which the member has not got, is skipped whatever its size, where it is optional
    ∷ example settable (set_queue 1 1 100 0 ∷ set_queue 1 0 256 0 ∷ []) (succeeds ∷ refuses 22 3 ∷ [])
    -- S4 a card store of such a size answers 5
    ∷ example [] (store_queue 100 0 ∷ store_queue 0 0x0100 ∷ store_queue 32768 1 ∷ store_queue 0 0 ∷ [])
    (answered 5 ∷ answered 5 ∷ answered 0 ∷ answered 0 ∷ [])
    -- S5 after 9, 1, 2 and 3: no member 3, no queue 1, 31 bytes
    ∷ example []
    (card_store 3 0x104 0 (queue_with 100 0) ∷ card_store 1 0x104 1 (queue_with 100 0) ∷ card_store 1 0x104 0 (take 31 (queue_with 100 0)) ∷ [])
    (answered 1 ∷ answered 2 ∷ answered 3 ∷ [])
    -- S6 of no other part the first two bytes are a size
    ∷ example [] (card_store 1 0x105 0 (bytes 8 100) ∷ card_store 1 0x101 0 (bytes 16 100) ∷ []) (answered 0 ∷ answered 0 ∷ [])
    ∷ []

abbrev pub QueueExamplesHold : Type 0
QueueExamplesHold = map (replies_to step example_card) queue_examples ≡ map (λ (e : Example). e.expected) queue_examples
