-- WHAT IS CLAIMED of packed setups: 02, request 9. Assumes nothing.
use Rattle.std.specs.Prelude.{◌≡◌, true, IfSome, Ok, Err, List, ◌++◌, ℕ, ◌≤◌, ◌<◌, length, get_or, take, drop}
use Rattle.theory.specs.Logic.{when◌then◌else◌}
use Rattle.setups.specs.declared.Setup.{Setup}
use Rattle.setups.specs.declared.MemberSetup.{MemberSetup}
use Rattle.setups.specs.declared.ReadRefusal.TheVariants.{Version2}
use Rattle.setups.specs.Setup.{features_size, is_count, in_numbers, setup_with}
use Rattle.setups.specs.Reading.{read_version1, read_setup}
use Rattle.setups.specs.Member.{member_setup}
use Rattle.setups.specs.Bits.{bits_at}
use Rattle.setups.specs.Writing.{are_equal, written}
use Rattle.setups.specs.Accepted.{EqualCounts, Writer, Readers}

-- n bytes of a setup were written at the front of a buffer, which is b now: they read back the same, where the counts are
-- equal by the reader of version 1 too, and the rest of the buffer keeps its bytes
pub record ReadsBack (buffer : List ℕ) (members : ℕ) (queues : List ℕ) (gets sets : ℕ) (features : List ℕ) (n : ℕ) (b : List ℕ) : Type 0 where
  pub same_setup : read_setup (take n b) ≡ Ok (setup_with members queues gets sets features)
  pub by_version1 : read_version1 (take n b)
      ≡ (when are_equal queues then Ok (setup_with members queues gets sets features) else Err Version2)
  pub rest_kept : drop n b ≡ drop n buffer

-- the queue counts of the members of a setup that was read
abbrev pub counts_read : Setup → List ℕ
counts_read s = take s.members s.queues

-- a setup that was read: its numbers are in range, and there are 16 bytes of features
pub record InRange (s : Setup) : Type 0 where
  pub numbers : in_numbers s.members (take s.members s.queues) s.gets s.sets ≡ true
  pub features : length s.features ≡ features_size

-- what a setup says of a member
pub record MemberInRange (s : MemberSetup) : Type 0 where
  pub count : is_count s.queues ≡ true
  pub features : length s.features ≡ features_size

pub record Claims : Type 0 where
  -- which setups are written, and which packed ones are read
  pub writer : (buffer : List ℕ) (members : ℕ) (queues : List ℕ) (gets sets : ℕ) (features : List ℕ)
      → Writer buffer members queues gets sets features
  pub readers : (l : List ℕ) → Readers l
  pub reads_back : (buffer : List ℕ) (members : ℕ) (queues : List ℕ) (gets sets : ℕ) (features : List ℕ) (n : ℕ) (b : List ℕ)
      → ◌≡◌ {A = ℕ × List ℕ} (n, b) (written buffer members queues gets sets features) → (n ≡ 0 → ⊥)
      → ReadsBack buffer members queues gets sets features n b
  -- a refusal writes nothing
  pub unwritten : (buffer : List ℕ) (members : ℕ) (queues : List ℕ) (gets sets : ℕ) (features b : List ℕ)
      → ◌≡◌ {A = ℕ × List ℕ} (0, b) (written buffer members queues gets sets features) → b ≡ buffer
  -- what the reader of version 1 takes the reader of both takes alike
  pub alike : (l : List ℕ) (s : Setup) → read_version1 l ≡ Ok s → read_setup l ≡ Ok s
  -- the reader of both never refuses version 2 by name
  pub never_named : (l : List ℕ) → read_setup l ≡ Err Version2 → ⊥
  pub in_range : (l : List ℕ) (s : Setup) → read_setup l ≡ Ok s → InRange s
  pub member_in_range : (l : List ℕ) (m : ℕ) → IfSome (member_setup l m) MemberInRange
  -- what is read as version 1, or as version 2 with counts that differ, is written back to the same bytes
  pub written_back : (l buffer : List ℕ) → ((i : ℕ) → get_or l i 0 < 256) → length l ≤ length buffer
      → (s : Setup) → read_setup l ≡ Ok s
      → (bits_at 0 4 l ≡ 2 → EqualCounts (counts_read s) → ⊥)
      → written buffer s.members (counts_read s) s.gets s.sets s.features ≡ (length l, l ++ drop (length l) buffer)
