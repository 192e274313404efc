-- The fields of a request, SPEC 3.2, and of its data, SPEC 4. Assumes nothing.
use Rattle.std.specs.Prelude.{List, ℕ, ◌+◌, drop}
use Rattle.wire.specs.Le.{number}

-- opcode 2 bytes, group type 2, reserved 12, member 8, then the data
abbrev pub group_at : ℕ
group_at = 2

abbrev pub member_at : ℕ
member_at = 16

abbrev pub data_at : ℕ
data_at = 24

-- no request is longer
abbrev pub longest : ℕ
longest = 4096

abbrev pub opcode_of : List ℕ → ℕ
opcode_of r = number 0 2 r

abbrev pub group_of : List ℕ → ℕ
group_of r = number group_at 2 r

abbrev pub target_of : List ℕ → ℕ
target_of r = number member_at 8 r

abbrev pub data_of : List ℕ → List ℕ
data_of r = drop data_at r

-- data starts with the object header: type 2 bytes, reserved 2, id 4
abbrev pub id_at : ℕ
id_at = 4

abbrev pub object_size : ℕ
object_size = 8

-- create, modify and query go on with flags 8 bytes, create and modify then with kind 1 byte and reserved 7
abbrev pub flags_at : ℕ
flags_at = object_size

abbrev pub kind_at : ℕ
kind_at = flags_at + 8

-- metadata and parts get go on with type 1 byte and reserved 7, parts get then with headers
abbrev pub type_at : ℕ
type_at = object_size

abbrev pub headers_at : ℕ
headers_at = type_at + 8

-- the list of a request: the headers asked for by parts get, the parts given to parts set
abbrev pub asked_at : ℕ
asked_at = data_at + headers_at

abbrev pub given_at : ℕ
given_at = data_at + object_size

abbrev pub asked_list : List ℕ → List ℕ
asked_list r = drop asked_at r

abbrev pub given_list : List ℕ → List ℕ
given_list r = drop given_at r
