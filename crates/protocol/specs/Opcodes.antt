-- The opcodes and the fixed fields of their data: SPEC 3.4. Assumes nothing.
use Rattle.std.specs.Prelude.{Bool, true, false, List, [], ◌∷◌, ℕ, ◌/◌, ◌%◌, ◌^◌, ltb, eqb, get_or}
use Rattle.theory.specs.Logic.{◌and◌, within}

-- Data may have any length. An opcode that is served has fixed fields of so many bytes: those that are missing read as
-- zero. Where it is listed, what follows the fixed fields is an open list with a rule of its own; else it is ignored.
pub record OpcodeRow : Type 0 where
  pub served : Bool
  pub fixed : ℕ
  pub listed : Bool

abbrev pub fields : ℕ → OpcodeRow
fields n = record { served = true; fixed = n; listed = false }

abbrev pub fields_and_list : ℕ → OpcodeRow
fields_and_list n = record { served = true; fixed = n; listed = true }

abbrev pub unsupported : OpcodeRow
unsupported = record { served = false; fixed = 0; listed = false }

unfoldable pub opcode_rows : List OpcodeRow
opcode_rows =
    fields 0  -- 0x00 list query
    ∷ fields_and_list 8  -- 0x01 list use; the list is further words of the mask
    ∷ unsupported ∷ unsupported ∷ unsupported ∷ unsupported
    ∷ unsupported ∷ unsupported ∷ unsupported ∷ unsupported
    ∷ fields 24  -- 0x0a object create
    ∷ fields 24  -- 0x0b object modify
    ∷ fields 16  -- 0x0c object query
    ∷ fields 8  -- 0x0d object destroy
    ∷ fields 16  -- 0x0e parts metadata
    ∷ fields_and_list 16  -- 0x0f parts get; headers
    ∷ fields_and_list 8  -- 0x10 parts set; parts
    ∷ fields 1  -- 0x11 mode set
    ∷ []

unfoldable pub opcode_row : ℕ → OpcodeRow
opcode_row op = get_or opcode_rows op unsupported

unfoldable pub supported : ℕ → Bool
supported op = (opcode_row op).served

-- the length of an opcode's fixed fields
unfoldable pub fixed_size : ℕ → ℕ
fixed_size op = (opcode_row op).fixed

-- no opcode has longer ones
abbrev pub longest_fixed : ℕ
longest_fixed = 24

-- the commands that name a member: 0x0a to 0x11
unfoldable pub names_member : ℕ → Bool
names_member op = within 0x0a 0x11 op

-- a list of opcodes is a mask; bit k stands for opcode k
unfoldable pub bit : ℕ → ℕ → Bool
bit mask k = eqb (mask / 2 ^ k % 2) 1

-- the ten opcodes
abbrev pub supported_mask : ℕ
supported_mask = 0x3fc03

-- supported bits only: none from 2 to 9, none from 18 up
unfoldable pub supported_only : ℕ → Bool
supported_only mask = eqb (mask / 4 % 256) 0 and ltb mask (2 ^ 18)

-- commands 0x0 and 0x1: the list in use of a fresh card
abbrev pub fresh_mask : ℕ
fresh_mask = 3
