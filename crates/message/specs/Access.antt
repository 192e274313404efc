-- What a message asks, by its bytes alone: SPEC 13.3. Assumes nothing.
use Rattle.std.specs.Prelude.{ℕ, ◌+◌, ◌%◌, Bool, false, List, length, ◌==◌, nat_eq, nat_le, Option, Some, None}
use Rattle.theory.specs.Logic.{when◌then◌else◌, unless◌answer◌then◌, ◌and◌}
use Rattle.wire.specs.Le.{number}
use Rattle.message.specs.declared.Access.{Access}
use Rattle.message.specs.declared.Access.TheVariants.{Read, Write}
use Rattle.message.specs.Format.{header_size, type_of, msg_id_of, member_for, msg_size_of, read_length_at, read_size, offset_at, data_at, length_of, get_config, set_config}

-- the header is there; type bit 0 clear is a request and bit 1 clear one to a device, bits 2 to 7 are ignored; msg_size is the
-- number of bytes handed over
unfoldable pub is_request : List ℕ → Bool
is_request x = nat_le header_size (length x) and nat_eq (type_of x % 4) 0 and nat_eq (msg_size_of x) (length x)

-- the layout of its kind has as many bytes too, and in a write the length field agrees, without wrap.
unfoldable pub read_in : List ℕ → Option Access
read_in x =
    unless nat_eq (length x) read_size answer None then
    Some (Read (member_for x) (number header_size 4 x) (number read_length_at 4 x))

unfoldable pub write_in : List ℕ → Option Access
write_in x =
    unless nat_eq (data_at + length_of x) (length x) answer None then
    Some (Write (member_for x) (number header_size 4 x) (number offset_at 4 x) (length_of x))

-- one whole request of these two kinds, or nothing
unfoldable pub whole_of : List ℕ → Option Access
whole_of x =
    unless is_request x answer None then
    when msg_id_of x == get_config then read_in x else
    when msg_id_of x == set_config then write_in x else
    None

-- whom such a request names (01's term), whatever the card
unfoldable pub speaks_for : ℕ → Option Access → Bool
speaks_for m None = false
speaks_for m (Some (Read k offset n)) = k == m
speaks_for m (Some (Write k sent offset n)) = k == m
