-- The messages of source 003 that read and write a configuration, GET_CONFIG and SET_CONFIG: their fields and their layouts,
-- SPEC 13.3. Numbers are little-endian. Assumes nothing.
use Rattle.std.specs.Prelude.{ℕ, ◌+◌, List, ◌++◌, length, drop, slice_index}
use Rattle.wire.specs.Le.{bytes, number}

-- the header, both ways: type 1 byte, msg_id 1, dev_num 2, token 2, msg_size 2
abbrev pub msg_id_at : ℕ
msg_id_at = 1

abbrev pub dev_num_at : ℕ
dev_num_at = 2

abbrev pub token_at : ℕ
token_at = 4

abbrev pub msg_size_at : ℕ
msg_size_at = 6

abbrev pub header_size : ℕ
header_size = 8

abbrev pub type_of : List ℕ → ℕ
type_of x = slice_index x 0

abbrev pub msg_id_of : List ℕ → ℕ
msg_id_of x = slice_index x msg_id_at

abbrev pub dev_num_of : List ℕ → ℕ
dev_num_of x = number dev_num_at 2 x

-- device number d speaks for member d + 1
abbrev pub member_for : List ℕ → ℕ
member_for x = dev_num_of x + 1

abbrev pub token_of : List ℕ → ℕ
token_of x = number token_at 2 x

abbrev pub msg_size_of : List ℕ → ℕ
msg_size_of x = number msg_size_at 2 x

-- a read request goes on with offset 4 and length 4
abbrev pub read_length_at : ℕ
read_length_at = header_size + 4

abbrev pub read_size : ℕ
read_size = read_length_at + 4

-- a write request, and the response to both, with generation 4, offset 4, length 4, data
abbrev pub offset_at : ℕ
offset_at = header_size + 4

abbrev pub length_at : ℕ
length_at = offset_at + 4

abbrev pub data_at : ℕ
data_at = length_at + 4

abbrev pub length_of : List ℕ → ℕ
length_of x = number length_at 4 x

abbrev pub data_of : List ℕ → List ℕ
data_of x = drop data_at x

-- the message ids of a request and its response
abbrev pub get_config : ℕ
get_config = 0x05

abbrev pub set_config : ℕ
set_config = 0x06

-- the header of a response to x, of so many bytes in all: type bit 0 set (a response), every other bit clear; msg_id, dev_num
-- and token are those of x
unfoldable pub response_header : List ℕ → ℕ → List ℕ
response_header x size =
    bytes 1 1 ++ (bytes 1 (msg_id_of x) ++ (bytes 2 (dev_num_of x) ++ (bytes 2 (token_of x) ++ bytes 2 size)))

unfoldable pub response_fields : ℕ → ℕ → ℕ → List ℕ
response_fields generation offset n = bytes 4 generation ++ (bytes 4 offset ++ bytes 4 n)

-- its length field is the number of its data bytes
unfoldable pub response_of : List ℕ → ℕ → ℕ → List ℕ → List ℕ
response_of x generation offset bs =
    response_header x (data_at + length bs) ++ (response_fields generation offset (length bs) ++ bs)
