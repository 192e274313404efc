-- Step 7 of SPEC 6.1, the fields of each command's data: SPEC 4. ids is G + S, m the member that the request names, d the
-- data, of any length, SPEC 13.2: `number` and `get_or` read each missing byte as zero, and only list use and parts get read
-- past their fixed fields. Assumes nothing.
use Rattle.std.specs.Prelude.{Bool, List, ℕ, zero, suc, leb, ltb, eqb, length, get_or, Result, Ok, Err}
use Rattle.theory.specs.Logic.{when◌then◌else◌, unless◌answer◌then◌, ◌and◌}
use Rattle.wire.specs.Le.{le, number}
use Rattle.protocol.specs.declared.Refusal.{Refusal}
use Rattle.protocol.specs.declared.Refusal.TheVariants.{BadField}
use Rattle.protocol.specs.declared.ObjectKind.{ObjectKind}
use Rattle.protocol.specs.declared.ObjectKind.TheVariants.{Get, Set}
use Rattle.protocol.specs.declared.Metadata.{Metadata}
use Rattle.protocol.specs.declared.Metadata.TheVariants.{Size, Count, HeaderList}
use Rattle.protocol.specs.declared.ReadOp.TheVariants.{QueryObject, GetMetadata, GetSelected, GetAll}
use Rattle.protocol.specs.declared.ChangeOp.TheVariants.{Create, Modify, Destroy, SetParts, SetMode}
use Rattle.protocol.specs.Answers.{mode_of}
use Rattle.protocol.specs.Opcodes.{supported_only}
use Rattle.frame.specs.Frame.{id_at, flags_at, kind_at, type_at, headers_at}
use Rattle.frame.specs.declared.Ask.{Ask}
use Rattle.frame.specs.declared.Ask.TheVariants.{QueryList, UseList, Read, Change}

-- the object header: its type is 0, its id below G + S
abbrev pub id_of : List ℕ → ℕ
id_of d = number id_at 4 d

unfoldable pub object_valid : ℕ → List ℕ → Bool
object_valid ids d = eqb (number 0 2 d) 0 and ltb (id_of d) ids

-- the flags of create, modify and query are 0; the kind of create and modify: 0 get, 1 set
unfoldable pub flags_valid : List ℕ → Bool
flags_valid d = eqb (number flags_at 8 d) 0

unfoldable pub kind_valid : ℕ → List ℕ → Bool
kind_valid ids d = object_valid ids d and flags_valid d and leb (get_or d kind_at 0) 1

abbrev pub kind_in : ℕ → ObjectKind
kind_in zero = Get
kind_in (suc n) = Set

-- the id of a valid object header; and the kind too, of create and modify
abbrev pub id_in : ℕ → List ℕ → Result ℕ Refusal
id_in ids d = unless object_valid ids d answer Err BadField then Ok (id_of d)

abbrev pub id_and_kind_in : ℕ → List ℕ → Result (ℕ × ObjectKind) Refusal
id_and_kind_in ids d = unless kind_valid ids d answer Err BadField then Ok (id_of d, kind_in (get_or d kind_at 0))

unfoldable pub create_in : ℕ → ℕ → List ℕ → Result Ask Refusal
create_in ids m d =
    unless kind_valid ids d answer Err BadField then
    Ok (Change m (Create (id_of d) (kind_in (get_or d kind_at 0))))

unfoldable pub modify_in : ℕ → ℕ → List ℕ → Result Ask Refusal
modify_in ids m d =
    unless kind_valid ids d answer Err BadField then
    Ok (Change m (Modify (id_of d) (kind_in (get_or d kind_at 0))))

unfoldable pub query_in : ℕ → ℕ → List ℕ → Result Ask Refusal
query_in ids m d =
    unless object_valid ids d and flags_valid d answer Err BadField then
    Ok (Read m (QueryObject (id_of d)))

unfoldable pub destroy_in : ℕ → ℕ → List ℕ → Result Ask Refusal
destroy_in ids m d =
    unless object_valid ids d answer Err BadField then
    Ok (Change m (Destroy (id_of d)))

-- the type of metadata: 0 size, 1 count, 2 list
abbrev pub metadata_is : ℕ → Metadata
metadata_is zero = Size
metadata_is (suc zero) = Count
metadata_is (suc (suc n)) = HeaderList

unfoldable pub metadata_in : ℕ → ℕ → List ℕ → Result Ask Refusal
metadata_in ids m d =
    unless object_valid ids d and leb (get_or d type_at 0) 2 answer Err BadField then
    Ok (Read m (GetMetadata (id_of d) (metadata_is (get_or d type_at 0))))

-- the type of parts get: 0 selected, 1 all; headers with selected only, and any byte after the fixed fields counts as
-- headers given
unfoldable pub get_in : ℕ → ℕ → List ℕ → Result Ask Refusal
get_in ids m d =
    unless object_valid ids d answer Err BadField then
    when eqb (get_or d type_at 0) 0 then Ok (Read m (GetSelected (id_of d))) else
    unless eqb (get_or d type_at 0) 1 and leb (length d) headers_at answer Err BadField then
    Ok (Read m (GetAll (id_of d)))

unfoldable pub set_in : ℕ → ℕ → List ℕ → Result Ask Refusal
set_in ids m d =
    unless object_valid ids d answer Err BadField then
    Ok (Change m (SetParts (id_of d)))

-- mode set: bit 0 set stops, clear resumes; bits 1 to 7 are 0
unfoldable pub mode_in : ℕ → List ℕ → Result Ask Refusal
mode_in m d =
    unless leb (get_or d 0 0) 1 answer Err BadField then
    Ok (Change m (SetMode (mode_of (get_or d 0 0))))

-- list use: all bytes are one long mask, and it has supported bits only
unfoldable pub use_in : List ℕ → Result Ask Refusal
use_in d =
    unless supported_only (le d) answer Err BadField then
    Ok (UseList (le d))

-- by opcode; the last is 0x11, since no other passes step 4
unfoldable pub fields_of : ℕ → ℕ → ℕ → List ℕ → Result Ask Refusal
fields_of ids m op d =
    when eqb op 0x00 then Ok QueryList else
    when eqb op 0x01 then use_in d else
    when eqb op 0x0a then create_in ids m d else
    when eqb op 0x0b then modify_in ids m d else
    when eqb op 0x0c then query_in ids m d else
    when eqb op 0x0d then destroy_in ids m d else
    when eqb op 0x0e then metadata_in ids m d else
    when eqb op 0x0f then get_in ids m d else
    when eqb op 0x10 then set_in ids m d else
    mode_in m d
