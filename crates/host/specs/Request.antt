-- A command by its fields, and the bytes of its request: SPEC 3, 4 and 13.1. Assumes nothing.
use Rattle.std.specs.Prelude.{◌≡◌, List, [], ◌++◌, ℕ, ◌+◌, ◌-◌, ◌≤◌, leb, length, take, replicate}
use Rattle.theory.specs.Logic.{when◌then◌else◌, unless◌answer◌then◌, ◌and◌}
use Rattle.theory.specs.Bytes.{put}
use Rattle.wire.specs.Le.{bytes}
use Rattle.protocol.specs.Opcodes.{opcode_row, fixed_size}
use Rattle.frame.specs.Frame.{data_at, longest, object_size, flags_at, kind_at, type_at}
use Rattle.host.specs.declared.Command.{Command}
use Rattle.host.specs.declared.Command.TheVariants.{ListQuery, ListUse, Create, Modify, Query, Destroy, Metadata, Get, Set, SetMode}
use Rattle.host.specs.declared.Sent.{Sent}

-- ---- the fields of each command ----

-- opcode, member, object id, and the last field: its place in the data and its value
abbrev pub sent : ℕ → ℕ → ℕ → ℕ → ℕ → Sent
sent op m id place x = record { opcode = op; member = m; id = id; place = place; value = x }

-- the two list commands name no member: 0. Kind, type and mode are the last field that is read, and so is the
-- mask; a command that has none of them ends in the object header, or in the flags, which are 0
unfoldable pub sent_of : Command → Sent
sent_of ListQuery = sent 0x00 0 0 0 0
sent_of (ListUse mask) = sent 0x01 0 0 0 mask
sent_of (Create m id kind) = sent 0x0a m id kind_at kind
sent_of (Modify m id kind) = sent 0x0b m id kind_at kind
sent_of (Query m id) = sent 0x0c m id flags_at 0
sent_of (Destroy m id) = sent 0x0d m id object_size 0
sent_of (Metadata m id what) = sent 0x0e m id type_at what
sent_of (Get m id which) = sent 0x0f m id type_at which
sent_of (Set m id) = sent 0x10 m id object_size 0
sent_of (SetMode m mode) = sent 0x11 m 0 0 mode

-- ---- its bytes ----

-- the object header: type 2 bytes, which is 0, reserved 2, id 4
unfoldable pub object_header : ℕ → List ℕ
object_header id = replicate 4 0 ++ bytes 4 id

-- what stands before the last field: the object header and flags of 0, as far as they reach
unfoldable pub before : Sent → List ℕ
before s = take s.place (object_header s.id ++ replicate 8 0)

-- the fixed fields, as long as the opcode's row says; what 01 does not read is zero
unfoldable pub fixed_of : Sent → List ℕ
fixed_of s = before s ++ bytes (fixed_size s.opcode - s.place) s.value

-- the list goes in as given, where one follows
unfoldable pub list_for : Command → List ℕ → List ℕ
list_for command list = when (opcode_row (sent_of command).opcode).listed then list else []

-- opcode 2 bytes, group type 2, reserved 12, member 8, data
unfoldable pub request : ℕ → ℕ → ℕ → List ℕ → List ℕ
request op group m d = bytes 2 op ++ (bytes 2 group ++ (replicate 12 0 ++ (bytes 8 m ++ d)))

-- the frame and the fixed fields
unfoldable pub start_with : Sent → List ℕ
start_with s = request s.opcode 1 s.member (fixed_of s)

abbrev pub start_of : Command → List ℕ
start_of command = start_with (sent_of command)

unfoldable pub request_of : Command → List ℕ → List ℕ
request_of command list = start_of command ++ list_for command list

-- the two requests of demand 2's round trip: all parts through a get object, and a list of parts through a set object
abbrev pub get_all : ℕ → ℕ → List ℕ
get_all m id = request_of (Get m id 1) []

abbrev pub set_parts : ℕ → ℕ → List ℕ → List ℕ
set_parts m id list = request_of (Set m id) list

-- ---- a request in a lent buffer ----

-- x at the front of a buffer, the start of a request of n bytes. Over 4,096 bytes, or too long for the buffer, it is refused
-- and nothing is written. What is answered is n, or 0 where it is refused
unfoldable pub begun : ℕ → List ℕ → List ℕ → ℕ × List ℕ
begun n x buffer = unless leb n longest and leb n (length buffer) answer (0, buffer) then (n, put 0 x buffer)

unfoldable pub built : Command → List ℕ → List ℕ → ℕ × List ℕ
built command list buffer = begun (length (request_of command list)) (request_of command list) buffer

-- what the code that writes the start asks: it is told the length of the fixed fields
pub record StartFits (s : Sent) (fixed : ℕ) (buffer : List ℕ) : Type 0 where
  pub told : fixed ≡ fixed_size s.opcode
  pub inside : s.place ≤ fixed
  pub object : s.place ≤ kind_at
  pub room : data_at + fixed ≤ length buffer
