-- WHEN a setup is written and a packed one is read: 02, request 9. The numbers are those of the papers, apart from the
-- definitions. Assumes nothing.
use Rattle.std.specs.Prelude.{◌≡◌, List, ℕ, ◌+◌, ◌-◌, ◌*◌, ◌/◌, ◌≤◌, ◌<◌, length, get_or}
use Rattle.setups.specs.Bits.{bits_at}
use Rattle.setups.specs.Reading.{read_number, read_version1, read_setup}
use Rattle.setups.specs.Writing.{written}

-- ---- setups ----

-- 1 to 16 members, a queue count of 1 to 4 for each, at most 8 get and 8 set objects, 16 bytes of features
pub record GoodSetup (members : ℕ) (queues : List ℕ) (gets sets : ℕ) (features : List ℕ) : Type 0 where
  pub some : 1 ≤ members
  pub few : members ≤ 16
  pub each : length queues ≡ members
  pub least : (i : ℕ) → i < members → 1 ≤ get_or queues i 0
  pub most : (i : ℕ) → i < members → get_or queues i 0 ≤ 4
  pub few_gets : gets ≤ 8
  pub few_sets : sets ≤ 8
  pub long : length features ≡ 16

-- every member has the queue count of the first
abbrev pub EqualCounts : List ℕ → Type 0
EqualCounts queues = (i : ℕ) → i < length queues → get_or queues i 0 ≡ get_or queues 0 0

-- A good setup is written, where the buffer is long enough: 19 bytes for equal counts, for others a byte more for each four
-- members, rounded up. The answer is this length. Anything else is refused, with the answer 0
pub record Writer (buffer : List ℕ) (members : ℕ) (queues : List ℕ) (gets sets : ℕ) (features : List ℕ) : Type 0 where
  pub version1 : GoodSetup members queues gets sets features → EqualCounts queues → 19 ≤ length buffer
      → (written buffer members queues gets sets features).0 ≡ 19
  pub version2 : GoodSetup members queues gets sets features → (EqualCounts queues → ⊥) → 19 + (members + 3) / 4 ≤ length buffer
      → (written buffer members queues gets sets features).0 ≡ 19 + (members + 3) / 4
  pub bad : (GoodSetup members queues gets sets features → ⊥) → (written buffer members queues gets sets features).0 ≡ 0
  pub short1 : EqualCounts queues → length buffer < 19 → (written buffer members queues gets sets features).0 ≡ 0
  pub short2 : (EqualCounts queues → ⊥) → length buffer < 19 + (members + 3) / 4
      → (written buffer members queues gets sets features).0 ≡ 0

-- ---- packed setups ----

-- version 1: 19 bytes, at most 8 get and 8 set objects, six zero bits
pub record Packed1 (l : List ℕ) : Type 0 where
  pub version : bits_at 0 4 l ≡ 1
  pub long : length l ≡ 19
  pub few_gets : bits_at 10 4 l ≤ 8
  pub few_sets : bits_at 14 4 l ≤ 8
  pub zeros : bits_at 18 6 l ≡ 0

-- version 2 of n members: a byte more for each four members, rounded up; its Q field and the bits after the n counts are zero too
pub record Packed2 (n : ℕ) (l : List ℕ) : Type 0 where
  pub version : bits_at 0 4 l ≡ 2
  pub members : bits_at 4 4 l + 1 ≡ n
  pub long : length l ≡ 19 + (n + 3) / 4
  pub no_count : bits_at 8 2 l ≡ 0
  pub few_gets : bits_at 10 4 l ≤ 8
  pub few_sets : bits_at 14 4 l ≤ 8
  pub zeros : bits_at 18 6 l ≡ 0
  pub padding : bits_at (24 + 2 * n) (8 * ((n + 3) / 4) - 2 * n) l ≡ 0

-- The reader of version 1 answers 0 for version 1, 1 for version 2, by the first four bits alone, and 2 for all else; the reader
-- of both answers 0 for either, and 2 for all else
pub record Readers (l : List ℕ) : Type 0 where
  pub read1 : Packed1 l → (read_number (read_version1 l) ≡ 0) × (read_number (read_setup l) ≡ 0)
  pub read2 : (n : ℕ) → Packed2 n l → read_number (read_setup l) ≡ 0
  pub named2 : bits_at 0 4 l ≡ 2 → read_number (read_version1 l) ≡ 1
  pub refused1 : (Packed1 l → ⊥) → (bits_at 0 4 l ≡ 2 → ⊥) → read_number (read_version1 l) ≡ 2
  pub refused : (Packed1 l → ⊥) → (Packed2 (bits_at 4 4 l + 1) l → ⊥) → read_number (read_setup l) ≡ 2
