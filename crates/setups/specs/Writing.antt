-- A setup packed and written: 02, request 9. Assumes nothing.
use Rattle.std.specs.Prelude.{◌≡◌, Bool, true, List, [], ◌∷◌, ◌++◌, map, ℕ, ◌-◌, ◌/◌, ◌≤◌, leb, eqb, length, get_or}
use Rattle.theory.specs.Logic.{when◌then◌else◌, unless◌answer◌then◌}
use Rattle.theory.specs.Bytes.{put}
use Rattle.setups.specs.declared.Front.{Front}
use Rattle.setups.specs.Bits.{Field, field, widths, joined, packed}
use Rattle.setups.specs.Setup.{most_members, features_size, all, is_count, in_numbers}
use Rattle.setups.specs.Reading.{padding}

-- ---- the fields ----

-- version 4 bits, N-1 in 4, the Q field in 2, G in 4, S in 4, six zero bits
abbrev pub head_fields : ℕ → ℕ → ℕ → ℕ → ℕ → List Field
head_fields version members q gets sets =
    field 4 version ∷ field 4 (members - 1) ∷ field 2 q ∷ field 4 gets ∷ field 4 sets ∷ field 6 0 ∷ []

-- version 2: a queue count less one in 2 bits
abbrev pub count_field : ℕ → Field
count_field q = field 2 (q - 1)

-- one for each member from member 1, and zero bits to a whole byte
unfoldable pub count_fields : List ℕ → List Field
count_fields queues = map count_field queues ++ (field (padding (length queues)) 0 ∷ [])

abbrev pub first_count : List ℕ → ℕ
first_count queues = get_or queues 0 0

unfoldable pub are_equal : List ℕ → Bool
are_equal queues = all (eqb (first_count queues)) queues

-- equal counts are always written as version 1, others as version 2, of which the Q field is zero
unfoldable pub fields_of : ℕ → List ℕ → ℕ → ℕ → List Field
fields_of members queues gets sets =
    when are_equal queues then head_fields 1 members (first_count queues - 1) gets sets
    else head_fields 2 members 0 gets sets ++ count_fields queues

-- then the features
unfoldable pub packed_setup : ℕ → List ℕ → ℕ → ℕ → List ℕ → List ℕ
packed_setup members queues gets sets features = packed (fields_of members queues gets sets) ++ features

-- ---- into a lent buffer ----

-- a packed setup x at the front of a buffer, and its length; where the buffer is too short 0, and nothing is written
unfoldable pub placed : List ℕ → List ℕ → ℕ × List ℕ
placed x buffer = unless leb (length x) (length buffer) answer (0, buffer) then (length x, put 0 x buffer)

-- a bad setup is refused alike
unfoldable pub written : List ℕ → ℕ → List ℕ → ℕ → ℕ → List ℕ → ℕ × List ℕ
written buffer members queues gets sets features =
    unless in_numbers members queues gets sets answer (0, buffer) then
    unless eqb (length features) features_size answer (0, buffer) then
    placed (packed_setup members queues gets sets features) buffer

-- ---- what the code that packs goes by ----

-- numbers in range, as facts
pub record InNumbers (members : ℕ) (queues : List ℕ) (gets sets : ℕ) : Type 0 where
  pub some : 1 ≤ members
  pub few : members ≤ most_members
  pub each : length queues ≡ members
  pub counts : all is_count queues ≡ true
  pub few_gets : gets ≤ 8
  pub few_sets : sets ≤ 8

-- numbers that fit the head's fields
pub record HeadFits (version members q gets sets : ℕ) : Type 0 where
  pub known : version ≤ 2
  pub some : 1 ≤ members
  pub few : members ≤ most_members
  pub count : q ≤ 3
  pub few_gets : gets ≤ 8
  pub few_sets : sets ≤ 8

-- how many bytes fields fill, and the number that they are
abbrev pub front_of : List Field → Front
front_of fs = record { size = widths fs / 8; number = joined 0 fs }
