-- REQUEST 2, SPEC 13.2: requests of any length. What is claimed of them, and worked examples, on the card of Examples.antt and
-- in its form. The program worked_examples runs L1 to L7. The hypotheses are met in ../proofs/LengthExamples.antt. Assumes
-- nothing.
use Rattle.std.specs.Prelude.{◌≡◌, ◌≢◌, true, false, List, [], ◌∷◌, ◌++◌, map, ℕ, ◌+◌, ◌≤◌, replicate, length}
use Rattle.wire.specs.Le.{bytes}
use Rattle.protocol.specs.Opcodes.{opcode_row, fixed_size, bit}
use Rattle.frame.specs.Frame.{opcode_of}
use Rattle.card.specs.Layout.{in_use_of}
use Rattle.card.specs.Sound.{is_sound}
use Rattle.admin.specs.Command.{respond}
use Rattle.host.specs.Request.{request, object_header, set_parts}
use Rattle.demands.specs.Calls.{Call, command, card_reset, answered, refused, step}
use Rattle.demands.specs.Examples.{example_card, send, use_list, set_mode, all_used, objects_live, refuses, gives, succeeds, a_number, header, header_bytes, nine_parts, driver_part, Example, example, replies_to}

-- Whatever the card is, zeros more at the end of a request change neither the card after it nor its reply, as long as
-- they stay within the fixed fields of its command: what is missing reads as zero. Example: cut-create
abbrev pub MissingIsZero : Type 0
MissingIsZero =
    (c r : List ℕ) (n room : ℕ) → 24 ≤ length r → length r + n ≤ 24 + fixed_size (opcode_of r)
    → respond c (r ++ replicate n 0) room ≡ respond c r room

-- Nor do any bytes past the fixed fields of a command that has no open list, up to 4,096 in all. Example: whole-create
abbrev pub RestIsIgnored : Type 0
RestIsIgnored =
    (c r x : List ℕ) (room : ℕ) → 24 + fixed_size (opcode_of r) ≤ length r → (opcode_row (opcode_of r)).listed ≡ false
    → length r + length x ≤ 4096 → respond c (r ++ x) room ≡ respond c r room

-- Empty list use leaves nothing in use. Then every command is refused, until a reset of the card: no other call puts a command
-- in use. Example: empty-use
pub record NothingInUse : Type 0 where
  pub emptied : (c : List ℕ) (m room : ℕ) → is_sound c ≡ true → bit (in_use_of c) 0x01 ≡ true → 8 ≤ room
      → in_use_of (step c (command (request 0x01 1 m []) room)).0 ≡ 0
  pub blocks : (c r : List ℕ) (room : ℕ) → in_use_of c ≡ 0 → refused (step c (command r room)).1 ≡ true
  pub lasts : (c : List ℕ) (x : Call) → in_use_of c ≡ 0 → ((generation : ℕ) → x ≢ card_reset generation) → in_use_of (step c x).0 ≡ 0

-- ---- worked examples ----

-- a command with this data, for member 1
abbrev pub send_data : ℕ → List ℕ → Call
send_data op d = send (request op 1 1 d)

-- an object header of which five bytes came: the id's other three are zero, so it is 1
abbrev pub cut_header : List ℕ
cut_header = replicate 4 0 ++ (1 ∷ [])

-- selected, of the device status and the first eight bytes of another header
abbrev pub get_half : List ℕ
get_half = request 0x0f 1 1 (object_header 0 ++ (replicate 8 0 ++ (header_bytes (header 0x103 0 0 0) ++ (5 ∷ 1 ∷ replicate 6 0))))

unfoldable pub length_examples : List Example
length_examples =
    -- L1 create of set object 1 cut to 17 bytes, without the reserved ones; a query cut to 5 bytes finds it
    example all_used (send_data 0x0a (object_header 1 ++ (replicate 8 0 ++ (1 ∷ []))) ∷ send_data 0x0c cut_header ∷ [])
    (succeeds ∷ gives (1 ∷ replicate 7 0) ∷ [])
    -- L2 create of get object 0 with 30 bytes: the last six are ignored. A query of no data is of object 0
    ∷ example all_used
    (send_data 0x0a (object_header 0 ++ (replicate 16 0 ++ replicate 6 0xff)) ∷ send_data 0x0c [] ∷ [])
    (succeeds ∷ gives (replicate 8 0) ∷ [])
    -- L3 empty mode set resumes the member, so a parts set is 11/7
    ∷ example objects_live (set_mode 1 1 ∷ send_data 0x11 [] ∷ send (set_parts 1 1 (driver_part 7)) ∷ [])
    (succeeds ∷ succeeds ∷ refuses 11 7 ∷ [])
    -- L4 empty list use, and then list query: 22/2
    ∷ example all_used (send_data 0x01 [] ∷ send_data 0x00 [] ∷ []) (succeeds ∷ refuses 22 2 ∷ [])
    -- L5 list use of 9 bytes with a bit in the last
    ∷ example [] (send_data 0x01 (bytes 8 3 ++ (1 ∷ [])) ∷ []) (refuses 22 3 ∷ [])
    -- L6 get-all with one byte past 16, a zero: 22/3, ahead of the object that is not live
    ∷ example all_used (send_data 0x0f (object_header 0 ++ (1 ∷ replicate 8 0)) ∷ []) (refuses 22 3 ∷ [])
    -- L7 selected, of one header and a half: 22/3, ahead of a buffer that is too short
    ∷ example objects_live (command get_half 8 ∷ []) (refuses 22 3 ∷ [])
    -- L8 after empty list use, list use is blocked too, until a reset of the card
    ∷ example (use_list 0x3fc03 ∷ send_data 0x01 [] ∷ []) (send_data 0x01 (bytes 8 3) ∷ card_reset 0 ∷ send_data 0x00 [] ∷ [])
    (refuses 22 2 ∷ answered 0 ∷ gives (bytes 8 0x3fc03) ∷ [])
    -- L9 list use of 9 bytes, the last zero; of 3 bytes, the whole mask
    ∷ example [] (send_data 0x01 (bytes 8 3 ++ (0 ∷ [])) ∷ send_data 0x01 (0x03 ∷ 0xfc ∷ 0x03 ∷ []) ∷ set_mode 1 1 ∷ [])
    (succeeds ∷ succeeds ∷ succeeds ∷ [])
    -- L10 a field of which some bytes came is not zero for that: id 256 of two bytes, flags 1 of one byte
    ∷ example all_used
    (send_data 0x0a (replicate 4 0 ++ (0 ∷ 1 ∷ [])) ∷ send_data 0x0a (object_header 0 ++ (1 ∷ [])) ∷ [])
    (refuses 22 3 ∷ refuses 22 3 ∷ [])
    -- L11 get-all cut after its type byte
    ∷ example objects_live (send_data 0x0f (object_header 0 ++ (1 ∷ [])) ∷ []) (gives nine_parts ∷ [])
    -- L12 the request of L7 through an object that is not live: 6/1
    ∷ example all_used (send get_half ∷ []) (refuses 6 1 ∷ [])
    -- L13 parts get and metadata of no data: object 0, selected, an empty list; and the size
    ∷ example objects_live (send_data 0x0f [] ∷ send_data 0x0e [] ∷ []) (succeeds ∷ gives (a_number 229) ∷ [])
    -- L14 parts set of 5 bytes: object 1 and an empty list; of 9, a list that is cut
    ∷ example objects_live (set_mode 1 1 ∷ send_data 0x10 cut_header ∷ send_data 0x10 (object_header 1 ++ (0 ∷ [])) ∷ [])
    (succeeds ∷ succeeds ∷ refuses 22 3 ∷ [])
    -- L15 step 2 stays: a request of 23 bytes is 22/1
    ∷ example all_used (send (replicate 23 0) ∷ []) (refuses 22 1 ∷ [])
    ∷ []

abbrev pub LengthExamplesHold : Type 0
LengthExamplesHold = map (replies_to step example_card) length_examples ≡ map (λ (e : Example). e.expected) length_examples
