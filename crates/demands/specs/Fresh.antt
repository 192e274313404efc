-- SETUP AND RESETS, SPEC 7.2 to 7.4: when setup is done, and what is fresh (01's term) after it, after a wipe and after a card
-- reset. The numbers are those of the papers, apart from the definitions. Examples: ../proofs/FreshExample.antt. Assumes nothing.
use Rattle.std.specs.Prelude.{◌≡◌, Ok, true, false, List, ◌++◌, ℕ, ◌+◌, ◌-◌, ◌*◌, ◌≤◌, ◌<◌, length, get_or, replicate, None}
use Rattle.protocol.specs.declared.Mode.TheVariants.{Running}
use Rattle.member.specs.Objects.{lookup_of}
use Rattle.setups.specs.declared.Setup as setups
use Rattle.setups.specs.Reading.{read_number, read_setup}
use Rattle.setups.specs.Accepted.{GoodSetup}
use Rattle.setups.specs.Claims.{counts_read}
use Rattle.card.specs.Layout.{setup_of, in_use_of, member_in, counts_of, is_marked, configuration_in, generation_in, holding_in}
use Rattle.card.specs.Sound.{is_sound}
use Rattle.events.specs.Events.{setup_with, set_up, set_up_from, numbered}
use Rattle.demands.specs.Calls.{wipe, card_reset, answered, step}

-- ---- fresh ----

-- It runs and is not marked, has this queue count, no object and no holding place, the setup's device features and zeros for
-- every other value, a configuration of zeros, and this generation
pub record FreshMember (c : List ℕ) (m queues : ℕ) (features : List ℕ) (generation : ℕ) : Type 0 where
  pub runs : (member_in c m).mode ≡ Running
  pub unmarked : (member_in c m).marked ≡ false
  pub count : (member_in c m).queues ≡ queues
  pub no_object : (id : ℕ) → lookup_of (member_in c m) id ≡ None
  pub no_place : (member_in c m).held ≡ 0
  pub values : (member_in c m).values ≡ features ++ replicate 189 0
  pub configuration : configuration_in c m ≡ replicate 12 0
  pub generation_is : generation_in c m ≡ generation
  pub holding : holding_in c m ≡ replicate 1024 0

-- opcodes 0x00 and 0x01 are in use, and each member is fresh, with its own queue count
pub record FreshCard (c : List ℕ) (members : ℕ) (queues : List ℕ) (gets sets : ℕ) (features : List ℕ)
    (generation : ℕ) : Type 0 where
  pub long : length c ≡ 27 + 1266 * members
  pub setup : setup_of c ≡ setup_with members gets sets features
  pub in_use : in_use_of c ≡ 3
  pub member : (m : ℕ) → 1 ≤ m → m ≤ members → FreshMember c m (get_or queues (m - 1) 0) features generation

-- ---- setup ----

-- It answers 0 for a good setup and a buffer that has the length of a card of so many members, and then makes a fresh card with
-- generation 0; else 4, and every byte of the buffer becomes zero
pub record SetupDone (b : List ℕ) (members : ℕ) (queues : List ℕ) (gets sets : ℕ) (features : List ℕ) : Type 0 where
  pub done : GoodSetup members queues gets sets features → length b ≡ 27 + 1266 * members
      → ((numbered (set_up b members queues gets sets features)).0 ≡ 0)
      × FreshCard (set_up b members queues gets sets features).1 members queues gets sets features 0
  pub bad : (GoodSetup members queues gets sets features → ⊥)
      → numbered (set_up b members queues gets sets features) ≡ (4, replicate (length b) 0)
  pub other_length : (length b ≡ 27 + 1266 * members → ⊥)
      → numbered (set_up b members queues gets sets features) ≡ (4, replicate (length b) 0)

-- The same of the bytes of a packed setup, which is one that is read
pub record SetupFromDone (b l : List ℕ) : Type 0 where
  pub done : (s : setups.Setup) → read_setup l ≡ Ok s → length b ≡ 27 + 1266 * s.members
      → ((numbered (set_up_from b l)).0 ≡ 0)
      × FreshCard (set_up_from b l).1 s.members (counts_read s) s.gets s.sets s.features 0
  pub bad : (read_number (read_setup l) ≡ 0 → ⊥) → numbered (set_up_from b l) ≡ (4, replicate (length b) 0)
  pub other_length : (s : setups.Setup) → read_setup l ≡ Ok s → (length b ≡ 27 + 1266 * s.members → ⊥)
      → numbered (set_up_from b l) ≡ (4, replicate (length b) 0)

pub record SetupsDone : Type 0 where
  pub given : (b : List ℕ) (members : ℕ) (queues : List ℕ) (gets sets : ℕ) (features : List ℕ)
      → SetupDone b members queues gets sets features
  pub packed : (b l : List ℕ) → SetupFromDone b l

-- ---- resets ----

-- On a sound card a wipe of a marked member and a card reset answer 0, and give the generation that they carry
pub record ResetsDone : Type 0 where
  pub wipes : (c : List ℕ) (m generation : ℕ) → is_sound c ≡ true → is_marked c m ≡ true → generation < 4294967296
      → ((step c (wipe m generation)).1 ≡ answered 0)
      × FreshMember (step c (wipe m generation)).0 m (member_in c m).queues (setup_of c).features generation
  pub resets : (c : List ℕ) (generation : ℕ) → is_sound c ≡ true → generation < 4294967296
      → ((step c (card_reset generation)).1 ≡ answered 0)
      × FreshCard (step c (card_reset generation)).0 (setup_of c).members (counts_of c) (setup_of c).gets (setup_of c).sets
      (setup_of c).features generation
