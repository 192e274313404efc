-- The card (01's term for the device that owns the group) is a list of bytes, SPEC 2.7: a header, then a record for each
-- of its N members. What is in it, and the card with something else there. Assumes nothing.
use Rattle.std.specs.Prelude.{Bool, List, [], ◌∷◌, ◌++◌, ℕ, zero, suc, ◌+◌, ◌*◌, ◌-◌, ◌≤◌, length, get_or, take, drop, replicate}
use Rattle.theory.specs.Logic.{when◌then◌else◌, ◌and◌, within}
use Rattle.theory.specs.Bytes.{bytes_at, put}
use Rattle.wire.specs.Le.{le, bytes, number}
use Rattle.protocol.specs.Opcodes.{fresh_mask}
use Rattle.member.specs.declared.Member.{Member}
use Rattle.member.specs.Record.{member_size, holding_size, member_of, member_bytes}
use Rattle.member.specs.Member.{fresh_of}
use Rattle.card.specs.declared.Setup.{Setup}

-- raised whenever a card's bytes change their meaning
abbrev pub version : ℕ
version = 5

-- header: N, G, S 1 byte each, device features 16, list in use 8
abbrev pub features_at : ℕ
features_at = 3

abbrev pub in_use_at : ℕ
in_use_at = 19

abbrev pub card_header_size : ℕ
card_header_size = 27

-- a record: the bytes of its member, its configuration and generation (02, request 3), the bytes of its holding place
abbrev pub member_bytes_at : ℕ
member_bytes_at = 0

abbrev pub configuration_at : ℕ
configuration_at = member_bytes_at + member_size

abbrev pub configuration_size : ℕ
configuration_size = 12

abbrev pub generation_at : ℕ
generation_at = configuration_at + configuration_size

abbrev pub generation_size : ℕ
generation_size = 4

abbrev pub holding_at : ℕ
holding_at = generation_at + generation_size

abbrev pub record_size : ℕ
record_size = holding_at + holding_size

abbrev pub card_size : ℕ → ℕ
card_size members = card_header_size + record_size * members

-- the exact length of a card's buffer; 0 where there is no such card
unfoldable pub card_bytes : ℕ → ℕ
card_bytes members = when within 1 16 members then card_size members else 0

unfoldable pub setup_in : List ℕ → Setup
setup_in h =
    record { members = get_or h 0 0; gets = get_or h 1 0; sets = get_or h 2 0; features = drop features_at h }

unfoldable pub setup_of : List ℕ → Setup
setup_of c = setup_in (bytes_at 0 in_use_at c)

-- the list of commands in use
unfoldable pub in_use_of : List ℕ → ℕ
in_use_of c = number in_use_at 8 c

unfoldable pub with_in_use : List ℕ → ℕ → List ℕ
with_in_use c mask = put in_use_at (bytes 8 mask) c

-- members are identified 1 to N
abbrev pub is_member : List ℕ → ℕ → Bool
is_member c m = within 1 (setup_of c).members m

abbrev pub record_at : ℕ → ℕ
record_at m = card_header_size + record_size * (m - 1)

-- the bytes of member m's record are all there
pub record HasRecord (c : List ℕ) (m : ℕ) : Type 0 where
  pub low : 1 ≤ m
  pub high : record_at m + record_size ≤ length c

-- n bytes of member m's record, from an offset; what is put there is cut to their number
unfoldable pub record_bytes : List ℕ → ℕ → ℕ → ℕ → List ℕ
record_bytes c m at n = bytes_at (record_at m + at) n c

unfoldable pub with_record_bytes : List ℕ → ℕ → ℕ → ℕ → List ℕ → List ℕ
with_record_bytes c m at n x = put (record_at m + at) (take n x) c

-- member m
abbrev pub member_bytes_in : List ℕ → ℕ → List ℕ
member_bytes_in c m = record_bytes c m member_bytes_at member_size

unfoldable pub member_in : List ℕ → ℕ → Member
member_in c m = member_of (member_bytes_in c m)

unfoldable pub with_member : List ℕ → ℕ → Member → List ℕ
with_member c m x = with_record_bytes c m member_bytes_at member_size (member_bytes x)

-- the queue counts of n members from m on, and of all members (02, request 9)
unfoldable pub counts_from : List ℕ → ℕ → ℕ → List ℕ
counts_from c m zero = []
counts_from c m (suc n) = (member_in c m).queues ∷ counts_from c (suc m) n

unfoldable pub counts_of : List ℕ → List ℕ
counts_of c = counts_from c 1 (setup_of c).members

-- member m is marked (02's term, request 10): it is handed back and not yet wiped
unfoldable pub is_marked : List ℕ → ℕ → Bool
is_marked c m = is_member c m and (member_in c m).marked

-- the configuration of member m, and how often it was written (02, request 3); a message writes both
unfoldable pub configuration_in : List ℕ → ℕ → List ℕ
configuration_in c m = record_bytes c m configuration_at configuration_size

unfoldable pub generation_in : List ℕ → ℕ → ℕ
generation_in c m = le (record_bytes c m generation_at generation_size)

unfoldable pub with_configuration : List ℕ → ℕ → List ℕ → ℕ → List ℕ
with_configuration c m x generation =
    with_record_bytes c m configuration_at (configuration_size + generation_size) (x ++ bytes generation_size generation)

unfoldable pub no_configuration : List ℕ
no_configuration = replicate configuration_size 0

-- the bytes of member m's holding place; those of none are all zero
unfoldable pub holding_in : List ℕ → ℕ → List ℕ
holding_in c m = record_bytes c m holding_at holding_size

unfoldable pub with_holding : List ℕ → ℕ → List ℕ → List ℕ
with_holding c m x = with_record_bytes c m holding_at holding_size x

unfoldable pub no_bytes : List ℕ
no_bytes = replicate holding_size 0

-- the record of member x with a generation that is given, and zeros in the rest
unfoldable pub record_of : Member → ℕ → List ℕ
record_of x generation = member_bytes x ++ (no_configuration ++ (bytes generation_size generation ++ no_bytes))

unfoldable pub with_record : List ℕ → ℕ → Member → ℕ → List ℕ
with_record c m x generation = with_record_bytes c m 0 record_size (record_of x generation)

-- that of a fresh member; no reset changes a queue count (02, request 9)
abbrev pub fresh_record : ℕ → List ℕ → ℕ → List ℕ
fresh_record queues features generation = record_of (fresh_of queues features) generation

abbrev pub with_fresh : List ℕ → ℕ → List ℕ → ℕ → List ℕ
with_fresh c m features generation = with_record c m (fresh_of (member_in c m).queues features) generation

-- fresh (01's term), SPEC 2.5: opcodes 0x00 and 0x01 are in use, and every member is fresh, with its own queue count
unfoldable pub fresh_header : Setup → List ℕ
fresh_header s = (s.members ∷ s.gets ∷ s.sets ∷ s.features) ++ bytes 8 fresh_mask

unfoldable pub fresh_records : List ℕ → ℕ → List ℕ → List ℕ
fresh_records features generation [] = []
fresh_records features generation (q ∷ counts) = fresh_record q features generation ++ fresh_records features generation counts

unfoldable pub fresh_card : Setup → List ℕ → ℕ → List ℕ
fresh_card s counts generation = fresh_header s ++ fresh_records s.features generation counts
