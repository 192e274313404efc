-- CARD STORES, SPEC 7.5: when one is done, what it leaves, and how it is refused. The numbers are those of the papers, apart from
-- the definitions. Examples: ../proofs/StoresExample.antt. Assumes nothing.
use Rattle.std.specs.Prelude.{◌≡◌, true, false, List, ◌++◌, ℕ, ◌+◌, ◌-◌, ◌*◌, ◌%◌, ◌≤◌, ◌<◌, length, take, drop}
use Rattle.wire.specs.Le.{number}
use Rattle.member.specs.Member.{with_values}
use Rattle.card.specs.Layout.{setup_of, member_in}
use Rattle.card.specs.Sound.{is_sound}
use Rattle.demands.specs.Calls.{card_store, answered, step}
use Rattle.demands.specs.QueueSizes.{Ring}

-- The parts that can be stored of a member with so many queues: type, the eight selector bytes as a number, of which a type names
-- four, two or none, the length of the value and its place among the member's 205 bytes of values. Device features are not there
pub data Part (queues : ℕ) : ℕ → ℕ → ℕ → ℕ → Type 0 where
  driver_features : (s : ℕ) → Part queues 0x101 s 16 16
  field0 : (s : ℕ) → s % 4294967296 ≡ 0 → Part queues 0x102 s 4 32
  field8 : (s : ℕ) → s % 4294967296 ≡ 8 → Part queues 0x102 s 4 36
  field16 : (s : ℕ) → s % 4294967296 ≡ 16 → Part queues 0x102 s 2 40
  field22 : (s : ℕ) → s % 4294967296 ≡ 22 → Part queues 0x102 s 2 42
  device_status : (s : ℕ) → Part queues 0x103 s 1 44
  queue : (s : ℕ) → s % 65536 < queues → Part queues 0x104 s 32 (45 + 32 * (s % 65536))
  queue_notify : (s : ℕ) → s % 65536 < queues → Part queues 0x105 s 8 (173 + 8 * (s % 65536))

-- the value stands at its place, and all else is as it was: the member's other values, its mode, mark, queue count, objects and
-- holding place, and every byte of the card before and behind its 226
pub record Stored (c d : List ℕ) (m at : ℕ) (value : List ℕ) : Type 0 where
  pub member : member_in d m
      ≡ with_values (member_in c m) (take at (member_in c m).values ++ (value ++ drop (at + length value) (member_in c m).values))
  pub before : take (27 + 1266 * (m - 1)) d ≡ take (27 + 1266 * (m - 1)) c
  pub behind : drop (27 + 1266 * (m - 1) + 226) d ≡ drop (27 + 1266 * (m - 1) + 226) c

-- of member m of a sound card: a part that it has, of the table's length, and of a queue a size that a ring has
pub record StoreDone (c : List ℕ) (m t s : ℕ) (value : List ℕ) : Type 0 where
  pub done : (at : ℕ) → Part (member_in c m).queues t s (length value) at
      → (t ≡ 0x104 → Ring (number 0 2 value) (number 4 2 value))
      → ((step c (card_store m t s value)).1 ≡ answered 0) × Stored c (step c (card_store m t s value)).0 m at value
  pub no_part : ((n at : ℕ) → Part (member_in c m).queues t s n at → ⊥) → step c (card_store m t s value) ≡ (c, answered 2)
  pub other_length : (n at : ℕ) → Part (member_in c m).queues t s n at → (length value ≡ n → ⊥)
      → step c (card_store m t s value) ≡ (c, answered 3)
  pub no_ring : (at : ℕ) → Part (member_in c m).queues 0x104 s (length value) at → t ≡ 0x104
      → (Ring (number 0 2 value) (number 4 2 value) → ⊥)
      → step c (card_store m t s value) ≡ (c, answered 5)

pub record StoresDone : Type 0 where
  pub unsound : (c : List ℕ) → is_sound c ≡ false → (m t s : ℕ) (value : List ℕ) → step c (card_store m t s value) ≡ (c, answered 9)
  pub no_member : (c : List ℕ) → is_sound c ≡ true → (m : ℕ) → (1 ≤ m → m ≤ (setup_of c).members → ⊥)
      → (t s : ℕ) (value : List ℕ) → step c (card_store m t s value) ≡ (c, answered 1)
  pub member : (c : List ℕ) → is_sound c ≡ true → (m : ℕ) → 1 ≤ m → m ≤ (setup_of c).members
      → (t s : ℕ) (value : List ℕ) → StoreDone c m t s value
