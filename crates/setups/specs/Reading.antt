-- Packed setups read: 02, request 9. Assumes nothing.
use Rattle.std.specs.Prelude.{Bool, Result, Ok, Err, List, [], ◌∷◌, ℕ, zero, suc, ◌+◌, ◌*◌, ◌-◌, ◌/◌, leb, eqb, length, drop}
use Rattle.theory.specs.Logic.{when◌then◌else◌, unless◌answer◌then◌, ◌and◌}
use Rattle.setups.specs.declared.Setup.{Setup}
use Rattle.setups.specs.declared.ReadRefusal.{ReadRefusal}
use Rattle.setups.specs.declared.ReadRefusal.TheVariants.{Version2, Malformed}
use Rattle.setups.specs.Bits.{bits_at}
use Rattle.setups.specs.Setup.{features_size, setup_with}

-- ---- the fields ----

-- version 4 bits, N-1 in 4, Q-1 in 2 (zero in version 2), G in 4, S in 4, six zero bits
abbrev pub version_in : List ℕ → ℕ
version_in l = bits_at 0 4 l

abbrev pub members_in : List ℕ → ℕ
members_in l = bits_at 4 4 l + 1

abbrev pub queues_in : List ℕ → ℕ
queues_in l = bits_at 8 2 l

abbrev pub gets_in : List ℕ → ℕ
gets_in l = bits_at 10 4 l

abbrev pub sets_in : List ℕ → ℕ
sets_in l = bits_at 14 4 l

abbrev pub zeros_in : List ℕ → ℕ
zeros_in l = bits_at 18 6 l

-- the bytes of these 24 bits
abbrev pub head_size : ℕ
head_size = 3

-- then in version 2 n fields of 2 bits, and so many zero bits to a whole byte
abbrev pub count_bytes : ℕ → ℕ
count_bytes n = (n + 3) / 4

abbrev pub padding : ℕ → ℕ
padding n = 8 * count_bytes n - 2 * n

-- n queue counts, each less one in 2 bits, from a position on, `step` bits apart
unfoldable pub counts_from : List ℕ → ℕ → ℕ → ℕ → List ℕ
counts_from l at step zero = []
counts_from l at step (suc n) = (bits_at at 2 l + 1) ∷ counts_from l (at + step) step n

-- the features are the last 16 bytes
unfoldable pub setup_at : List ℕ → ℕ → ℕ → Setup
setup_at l at step =
    setup_with (members_in l) (counts_from l at step (members_in l)) (gets_in l) (sets_in l) (drop (length l - features_size) l)

-- ---- what is taken ----

-- the six bits are zero, and G and S in range, as N and Q always are
unfoldable pub head_right : List ℕ → Bool
head_right l = eqb (zeros_in l) 0 and leb (gets_in l) 8 and leb (sets_in l) 8

-- version 1, 19 bytes
unfoldable pub is_version1 : List ℕ → Bool
is_version1 l = eqb (version_in l) 1 and eqb (length l) (head_size + features_size) and head_right l

-- version 2 with n members: the Q field is zero, and so are the bits after the n fields
unfoldable pub is_version2 : ℕ → List ℕ → Bool
is_version2 n l =
    eqb (length l) (head_size + count_bytes n + features_size)
    and head_right l
    and eqb (queues_in l) 0
    and eqb (bits_at (24 + 2 * n) (padding n) l) 0

-- ---- the readers ----

-- what was read, as its number
abbrev pub refusal_number : ReadRefusal → ℕ
refusal_number Version2 = 1
refusal_number Malformed = 2

abbrev pub read_number : {A : Type 0} → Result A ReadRefusal → ℕ
read_number (Ok s) = 0
read_number (Err r) = refusal_number r

-- in version 1 the count at position 8 is every member's; in version 2 the counts stand from position 24 on
unfoldable pub take_version1 : List ℕ → Result Setup ReadRefusal
take_version1 l = unless is_version1 l answer Err Malformed then Ok (setup_at l 8 0)

unfoldable pub take_version2 : List ℕ → Result Setup ReadRefusal
take_version2 l = unless is_version2 (members_in l) l answer Err Malformed then Ok (setup_at l 24 2)

-- the reader of version 1, which refuses version 2 by name, before all else; no bytes have no version
unfoldable pub read_version1 : List ℕ → Result Setup ReadRefusal
read_version1 l = when eqb (version_in l) 2 then Err Version2 else take_version1 l

-- the reader of both versions
unfoldable pub read_setup : List ℕ → Result Setup ReadRefusal
read_setup l = when eqb (version_in l) 2 then take_version2 l else take_version1 l
