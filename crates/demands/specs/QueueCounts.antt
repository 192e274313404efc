-- REQUEST 9, SPEC 13.9: packed setups, and queue counts that differ. What is claimed of a card that is set up from a packed setup
-- and of queue counts, and worked examples, in the form of Examples.antt. Assumes nothing.
use Rattle.std.specs.Prelude.{◌≡◌, true, List, [], ◌∷◌, ◌++◌, map, ℕ, ◌≤◌, replicate, take}
use Rattle.setups.specs.Writing.{written as packed_in}
use Rattle.card.specs.Layout.{card_size, is_member, member_in}
use Rattle.card.specs.Sound.{is_sound}
use Rattle.events.specs.Events.{set_up, set_up_from}
use Rattle.host.specs.declared.Command.TheVariants as host
use Rattle.host.specs.Request.{get_all, set_parts}
use Rattle.demands.specs.Calls.{Call, hand_back, wipe, card_reset, card_store, answered, step}
use Rattle.demands.specs.Examples.{Example, example, send_alone, send, use_list, set_mode, gives, succeeds, refuses, a_number, nine_parts, header, header_bytes, replies_to}

-- A setup that is written and then set up gives the card that setup gives for it, byte for byte: n bytes were written
-- at the front of a buffer, which is b now. Example: ../proofs/QueueCounts.antt
abbrev pub SetUpFromPacked : Type 0
SetUpFromPacked =
    (c buffer : List ℕ) (members : ℕ) (queues : List ℕ) (gets sets : ℕ) (features : List ℕ) (n : ℕ) (b : List ℕ)
    → ◌≡◌ {A = ℕ × List ℕ} (n, b) (packed_in buffer members queues gets sets features) → (n ≡ 0 → ⊥)
    → set_up_from c (take n b) ≡ set_up c members queues gets sets features

-- No call changes a queue count, the resets included. Example: ../proofs/QueueCounts.antt
abbrev pub QueuesKept : Type 0
QueuesKept = (c : List ℕ) (m : ℕ) → is_member c m ≡ true → (x : Call) → (member_in (step c x).0 m).queues ≡ (member_in c m).queues

-- A member of a sound card has 1 to 4 queues. Example: ../proofs/QueueCounts.antt
abbrev pub CountsInRange : Type 0
CountsInRange =
    (c : List ℕ) → is_sound c ≡ true → (m : ℕ) → is_member c m ≡ true → (1 ≤ (member_in c m).queues) × ((member_in c m).queues ≤ 4)

-- ---- worked examples ----

-- member 1 has one queue, member 2 two; else as the card of Examples.antt
unfoldable pub counts_card : List ℕ
counts_card = (set_up (replicate (card_size 2) 0) 2 (1 ∷ 2 ∷ []) 1 1 (replicate 16 0)).1

-- a get object 0 and a set object 1 of member m, which is stopped
abbrev pub ready : ℕ → List Call
ready m = send_alone (host.Create m 0 0) ∷ send_alone (host.Create m 1 1) ∷ set_mode m 1 ∷ []

abbrev pub both_ready : List Call
both_ready = use_list 0x3fc03 ∷ (ready 1 ++ ready 2)

-- metadata of member m: 0 size, 1 count
abbrev pub metadata_of : ℕ → ℕ → Call
metadata_of m what = send_alone (host.Metadata m 0 what)

-- the part of queue 1, all zero
abbrev pub second_queue : List ℕ
second_queue = header_bytes (header 0x104 0 1 32) ++ replicate 32 0

unfoldable pub count_examples : List Example
count_examples =
    -- Q1 part count and size are the member's
    example both_ready (metadata_of 1 1 ∷ metadata_of 1 0 ∷ metadata_of 2 1 ∷ metadata_of 2 0 ∷ [])
    (gives (a_number 9) ∷ gives (a_number 229) ∷ gives (a_number 11) ∷ gives (a_number 301) ∷ [])
    -- Q2 queue 1 is a part of member 2 alone: to a card store, and to parts set
    ∷ example both_ready (card_store 1 0x104 1 (replicate 32 0) ∷ card_store 2 0x104 1 (replicate 32 0) ∷ []) (answered 2 ∷ answered 0 ∷ [])
    ∷ example both_ready (send (set_parts 1 1 second_queue) ∷ send (set_parts 2 1 second_queue) ∷ []) (refuses 22 3 ∷ succeeds ∷ [])
    -- Q3 a capture of a member with fewer queues is accepted
    ∷ example both_ready (send (get_all 1 0) ∷ send (set_parts 2 1 nine_parts) ∷ []) (gives nine_parts ∷ succeeds ∷ [])
    -- Q4 neither half of a reset changes a count, nor does a reset of the card
    ∷ example both_ready
    (hand_back 2 ∷ wipe 2 5 ∷ send_alone (host.Create 2 0 0) ∷ metadata_of 2 0 ∷ [])
    (answered 0 ∷ answered 0 ∷ succeeds ∷ gives (a_number 301) ∷ [])
    ∷ example both_ready
    (card_reset 5 ∷ use_list 0x3fc03 ∷ send_alone (host.Create 1 0 0) ∷ send_alone (host.Create 2 0 0) ∷ metadata_of 1 0 ∷ metadata_of 2 0 ∷ [])
    (answered 0 ∷ succeeds ∷ succeeds ∷ succeeds ∷ gives (a_number 229) ∷ gives (a_number 301) ∷ [])
    ∷ []

abbrev pub CountExamplesHold : Type 0
CountExamplesHold = map (replies_to step counts_card) count_examples ≡ map (λ (e : Example). e.expected) count_examples
