-- CALLS FOR THE CARD'S OWN FIRMWARE, SPEC 14: what is claimed of them, and worked examples. They only read, so none is a `Call`.
-- The hypotheses are met in ../proofs/LoadsExample.antt. Assumes nothing.
use Rattle.std.specs.Prelude.{◌≡◌, Bool, true, false, not, List, [], ◌∷◌, ◌++◌, ℕ, ◌^◌, ◌≤◌, ◌<◌, leb, eqb, length, take, replicate, Ok, is_ok}
use Rattle.theory.specs.Logic.{◌and◌}
use Rattle.theory.specs.Machine.{run}
use Rattle.inventory.specs.Inventory.{row_at, selector_of, place_of, on_place}
use Rattle.parts.specs.declared.ListForm.TheVariants.{Parts}
use Rattle.parts.specs.List.{parts_of, value_or, longest_list}
use Rattle.member.specs.Member.{fresh_of}
use Rattle.setups.specs.Writing.{packed_setup}
use Rattle.card.specs.Layout.{card_size, configuration_size, setup_of, is_member, member_in, counts_of, no_configuration}
use Rattle.card.specs.Sound.{is_sound}
use Rattle.events.specs.Events.{set_up_from}
use Rattle.reply.specs.Reply.{head_of}
use Rattle.loads.specs.Loads.{numbered_of, load_in, load, lent, Numbers, member_told, configuration_told, setup_of_card}
use Rattle.demands.specs.Calls.{Call, hand_back, wipe, card_reset, card_store, restore_begin, restore_feed, message, answered, step}
use Rattle.demands.specs.Examples.{example_card}
use Rattle.demands.specs.Lists.{Settable, set_list}
use Rattle.demands.specs.Messages.{write_to, four_bytes}
use Rattle.demands.specs.QueueCounts.{counts_card}

-- ---- exactly when each answers 0; a refusal writes nothing ----

-- the card is sound, m is a member, it has the part, and n is the part's length
unfoldable pub loadable : List ℕ → ℕ → ℕ → ℕ → ℕ → Bool
loadable c m t s n =
    is_sound c and is_member c m
    and on_place (place_of (member_in c m).queues t (selector_of t s)) (λ i. eqb n (row_at i).size) false

-- a card's setup, packed
abbrev pub packed_of : List ℕ → List ℕ
packed_of c = packed_setup (setup_of c).members (counts_of c) (setup_of c).gets (setup_of c).sets (setup_of c).features

pub record AnsweredExactly : Type 0 where
  pub loads : (c : List ℕ) (m t s : ℕ) (b : List ℕ) → is_ok (load c m t s b).0 ≡ loadable c m t s (length b)
  pub members : (c : List ℕ) (m : ℕ) (l : Numbers) → is_ok (member_told c m l).0 ≡ is_sound c and is_member c m
  pub configurations : (c : List ℕ) (m : ℕ) (b : List ℕ) (g : ℕ)
      → is_ok (configuration_told c m (b, g)).0 ≡ is_sound c and is_member c m and eqb (length b) configuration_size
  pub setups : (c b : List ℕ) → not (eqb (setup_of_card c b).0 0) ≡ is_sound c and leb (length (packed_of c)) (length b)

pub record RefusedUnwritten : Type 0 where
  pub loads : (c : List ℕ) (m t s : ℕ) (b : List ℕ) → is_ok (load c m t s b).0 ≡ false → (load c m t s b).1 ≡ b
  pub members : (c : List ℕ) (m : ℕ) (l : Numbers) → is_ok (member_told c m l).0 ≡ false → (member_told c m l).1 ≡ l
  pub configurations : (c : List ℕ) (m : ℕ) (l : List ℕ × ℕ) → is_ok (configuration_told c m l).0 ≡ false → (configuration_told c m l).1 ≡ l
  pub setups : (c b : List ℕ) → (setup_of_card c b).0 ≡ 0 → (setup_of_card c b).1 ≡ b

-- What a load copies out is what a caller that borrows the card finds where it stands.
abbrev pub LoadIsLent : Type 0
LoadIsLent = (c : List ℕ) (m t s : ℕ) (b : List ℕ) → is_ok (load c m t s b).0 ≡ true → (load c m t s b).1 ≡ lent c m t s

-- ---- what a load gives after a change ----

-- A card store that answers 0: its value, in a buffer as long. Example: stored
abbrev pub LoadStored : Type 0
LoadStored =
    (c : List ℕ) (m t s : ℕ) (value : List ℕ) → (step c (card_store m t s value)).1 ≡ answered 0
    → (b : List ℕ) → length b ≡ length value → load (step c (card_store m t s value)).0 m t s b ≡ (Ok tt, value)

-- Parts set that is done: the list's value of the part, or, where the list has none, what a load gave before. Example: set
abbrev pub LoadSet : Type 0
LoadSet =
    (c : List ℕ) (m j : ℕ) → Settable c m j → (list : List ℕ) → length list ≤ longest_list → (r : ℕ) → 8 ≤ r
    → (set_list c m j list r).1 ≡ head_of (Ok tt)
    → (t s : ℕ) (b : List ℕ) → is_ok (load c m t s b).0 ≡ true
    → load (set_list c m j list r).0 m t s b ≡ (Ok tt, value_or t (selector_of t s) (parts_of Parts list) (load c m t s b).1)

-- A wipe that answers 0: every part is that of a fresh member, with the card's device features; the member runs, with the queue
-- count that it had, no live object and no holding place; its configuration is zeros, and its generation the one given. Example:
-- wiped
pub record ReadsFresh (c : List ℕ) (m generation : ℕ) (d : List ℕ) : Type 0 where
  pub parts : (t s : ℕ) (b : List ℕ) → load d m t s b ≡ load_in (fresh_of (member_in c m).queues (setup_of c).features) t (selector_of t s) b
  pub member : (l : Numbers) → member_told d m l ≡ (Ok tt, (0, ((member_in c m).queues, (0, (0, 0)))))
  pub configuration : (b : List ℕ) (g : ℕ) → length b ≡ configuration_size → configuration_told d m (b, g) ≡ (Ok tt, (no_configuration, generation))

abbrev pub LoadWiped : Type 0
LoadWiped =
    (c : List ℕ) (m generation : ℕ) → (step c (wipe m generation)).1 ≡ answered 0 → generation < 2 ^ 32
    → ReadsFresh c m generation (step c (wipe m generation)).0

-- ---- the setup of a card, set up anew ----

-- n bytes were written at the front of a buffer, which is d now. Set up in a buffer x of the card's length they give a sound card
-- of the same setup and queue counts: the one that a reset of the whole card to generation 0 leaves. Example: again
pub record SetUpAgain (c x d : List ℕ) (n : ℕ) : Type 0 where
  pub done : (set_up_from x (take n d)).0 ≡ Ok tt
  pub card : (set_up_from x (take n d)).1 ≡ (step c (card_reset 0)).0
  pub sound : is_sound (set_up_from x (take n d)).1 ≡ true
  pub setup : setup_of (set_up_from x (take n d)).1 ≡ setup_of c
  pub counts : counts_of (set_up_from x (take n d)).1 ≡ counts_of c

abbrev pub SetupAgain : Type 0
SetupAgain =
    (c b x d : List ℕ) (n : ℕ) → ◌≡◌ {A = ℕ × List ℕ} (n, d) (setup_of_card c b) → (n ≡ 0 → ⊥) → length x ≡ length c → SetUpAgain c x d n

-- ---- demand 3 covers them ----

-- two cards of which all four tell the same
pub record ReadAlike (c d : List ℕ) : Type 0 where
  pub loads : (m t s : ℕ) (b : List ℕ) → load c m t s b ≡ load d m t s b
  pub lents : (m t s : ℕ) → lent c m t s ≡ lent d m t s
  pub members : (m : ℕ) (l : Numbers) → member_told c m l ≡ member_told d m l
  pub configurations : (m : ℕ) (l : List ℕ × ℕ) → configuration_told c m l ≡ configuration_told d m l
  pub setups : (b : List ℕ) → setup_of_card c b ≡ setup_of_card d b

-- ---- worked examples: what each answers, and then what is in a buffer, or in numbers, that were 0xee ----

abbrev told : ℕ × List ℕ → List ℕ
told x = x.0 ∷ x.1

abbrev load_of : List ℕ → ℕ → ℕ → ℕ → ℕ → List ℕ
load_of c m t s n = told (numbered_of (load c m t s (replicate n 0xee)))

abbrev numbers_told : ℕ × Numbers → List ℕ
numbers_told x = x.0 ∷ x.1.0 ∷ x.1.1.0 ∷ x.1.1.1.0 ∷ x.1.1.1.1.0 ∷ x.1.1.1.1.1 ∷ []

abbrev member_of : List ℕ → ℕ → List ℕ
member_of c m = numbers_told (numbered_of (member_told c m (0xee, (0xee, (0xee, (0xee, 0xee))))))

abbrev bytes_told : ℕ × (List ℕ × ℕ) → List ℕ
bytes_told x = x.0 ∷ x.1.1 ∷ x.1.0

-- the generation stands before the bytes
abbrev configuration_of : List ℕ → ℕ → ℕ → List ℕ
configuration_of c m n = bytes_told (numbered_of (configuration_told c m (replicate n 0xee, 0xee)))

abbrev setup_told : List ℕ → ℕ → List ℕ
setup_told c n = told (setup_of_card c (replicate n 0xee))

-- the example card after calls
abbrev after : List Call → List ℕ
after calls = run step example_card calls

abbrev a_queue : List ℕ
a_queue = 0 ∷ 1 ∷ replicate 30 0xaa

abbrev stores_queue : Call
stores_queue = card_store 1 0x104 0 a_queue

abbrev unwritten : ℕ → List ℕ
unwritten n = replicate n 0xee

pub record LoadExamplesHold : Type 0 where
  -- F1 a stored queue, and that of the other member; a selector's bytes past those that the type names do not count
  pub f1 : load_of (after (stores_queue ∷ [])) 1 0x104 0 32 ≡ 0 ∷ a_queue
  pub f1-other : load_of (after (stores_queue ∷ [])) 2 0x104 0 32 ≡ 0 ∷ replicate 32 0
  pub f1-selector : load_of (after (stores_queue ∷ [])) 1 0x104 0x10000 32 ≡ 0 ∷ a_queue
  -- F2 a marked member is read too, and a wiped one is fresh
  pub f2-marked : load_of (after (stores_queue ∷ hand_back 1 ∷ [])) 1 0x104 0 32 ≡ 0 ∷ a_queue
  pub f2-wiped : load_of (after (stores_queue ∷ hand_back 1 ∷ wipe 1 7 ∷ [])) 1 0x104 0 32 ≡ 0 ∷ replicate 32 0
  -- F3 the first refusal: an unsound card, no member 3, no part 0x106, no queue 1, a buffer of 31 bytes
  pub f3-unsound : load_of (replicate (card_size 2) 0) 3 0x106 0 31 ≡ 9 ∷ unwritten 31
  pub f3-member : load_of example_card 3 0x106 0 31 ≡ 1 ∷ unwritten 31
  pub f3-part : load_of example_card 1 0x106 0 31 ≡ 2 ∷ unwritten 31
  pub f3-queue : load_of example_card 1 0x104 1 31 ≡ 2 ∷ unwritten 31
  pub f3-length : load_of example_card 1 0x104 0 31 ≡ 3 ∷ unwritten 31
  -- F4 device features, which no store sets, are loaded
  pub f4 : load_of example_card 1 0x100 0 16 ≡ 0 ∷ replicate 16 0
  -- F5 a member: fresh; with 3 bytes held; handed back; none
  pub f5-fresh : member_of example_card 1 ≡ 0 ∷ 0 ∷ 1 ∷ 0 ∷ 0 ∷ 0 ∷ []
  pub f5-held : member_of (after (restore_begin 1 ∷ restore_feed 1 (7 ∷ 7 ∷ 7 ∷ []) ∷ [])) 1 ≡ 0 ∷ 0 ∷ 1 ∷ 0 ∷ 0 ∷ 4 ∷ []
  pub f5-marked : member_of (after (hand_back 1 ∷ [])) 1 ≡ 0 ∷ 2 ∷ 1 ∷ 0 ∷ 0 ∷ 0 ∷ []
  pub f5-none : member_of example_card 0 ≡ 1 ∷ unwritten 5
  -- F6 its configuration: as a message wrote it, as a wipe left it; a buffer of 11 bytes
  pub f6-written : configuration_of (after (message (write_to 0 0 0 four_bytes) 32 ∷ [])) 1 12 ≡ 0 ∷ 1 ∷ (four_bytes ++ replicate 8 0)
  pub f6-wiped : configuration_of (after (hand_back 1 ∷ wipe 1 7 ∷ [])) 1 12 ≡ 0 ∷ 7 ∷ replicate 12 0
  pub f6-length : configuration_of example_card 1 11 ≡ 3 ∷ unwritten 12
  -- F7 the setup: equal counts are version 1, others version 2; too short a buffer
  pub f7-equal : setup_told example_card 19 ≡ 19 ∷ 0x11 ∷ 0x04 ∷ 0x40 ∷ replicate 16 0
  pub f7-others : setup_told counts_card 20 ≡ 20 ∷ 0x21 ∷ 0x04 ∷ 0x40 ∷ 0x10 ∷ replicate 16 0
  pub f7-short : setup_told counts_card 19 ≡ 0 ∷ unwritten 19
