-- THE STATUS TABLE, SPEC 6.1, steps 2 to 12, as one list of rows in its order, and the claim that each status is given
-- exactly when its row is the first that applies. The rows read the bytes of the request and the card, and not what the
-- decoder makes of them. Data may have any length, SPEC 13.2: there is no row of step 6, and `number` and `get_or` read each
-- missing byte as zero. Assumes nothing.
use Rattle.std.specs.Prelude.{◌≡◌, Bool, true, false, not, List, [], ◌∷◌, ◌++◌, map, ℕ, ◌+◌, ◌*◌, ◌≤◌, leb, ltb, eqb, length, get_or, take, replicate, Option, Some}
use Rattle.theory.specs.Logic.{when◌then◌else◌, ◌and◌, ◌or◌, within}
use Rattle.wire.specs.Le.{le, bytes, number}
use Rattle.protocol.specs.Answers.{is_stopped, is_get, is_set}
use Rattle.protocol.specs.Opcodes.{supported, bit, names_member, supported_only}
use Rattle.inventory.specs.declared.Row as table_row
use Rattle.inventory.specs.Inventory as inventory
use Rattle.inventory.specs.Inventory.{total, part_count, parts_size}
use Rattle.rules.specs.Rules.{cause_of, is_accepted, asked_of}
use Rattle.capture.specs.Capture.{Asked, asks}
use Rattle.objects.specs.Objects.{on_found}
use Rattle.member.specs.declared.Member.{Member}
use Rattle.member.specs.Objects.{lookup_of, with_object, room_in}
use Rattle.member.specs.Member.{features_in}
use Rattle.card.specs.Layout.{setup_of, in_use_of, is_member, member_in, is_marked}
use Rattle.card.specs.Sound.{is_sound}
use Rattle.frame.specs.Frame.{opcode_of, group_of, target_of, data_of, asked_list, given_list}
use Rattle.frame.specs.Fields.{kind_in}
use Rattle.admin.specs.Command.{respond}
use Rattle.protocol.specs.declared.ObjectKind.{ObjectKind}

-- ---- the first row that applies ----

pub record Row : Type 0 where
  pub applies : Bool
  pub status : ℕ
  pub qualifier : ℕ

abbrev pub row : Bool → ℕ → ℕ → Row
row t s q = record { applies = t; status = s; qualifier = q }

-- its status and qualifier; where none applies success, step 12
unfoldable pub first_of : List Row → ℕ × ℕ
first_of [] = (0, 0)
first_of (x ∷ xs) = when x.applies then (x.status, x.qualifier) else first_of xs

-- ---- what the rows read: c is the card, r the request, op its opcode and d its data ----

-- commands whose data start with an object header: type 2 bytes, reserved 2, id 4
unfoldable pub names_object : ℕ → Bool
names_object op = within 0x0a 0x10 op

abbrev pub object_type : List ℕ → ℕ
object_type d = number 0 2 d

abbrev pub object_id : List ℕ → ℕ
object_id d = number 4 4 d

-- create, modify and query go on with flags 8 bytes, create and modify with kind 1
unfoldable pub has_flags : ℕ → Bool
has_flags op = within 0x0a 0x0c op

unfoldable pub has_kind : ℕ → Bool
has_kind op = within 0x0a 0x0b op

abbrev pub flag_bytes : List ℕ → ℕ
flag_bytes d = number 8 8 d

abbrev pub kind_byte : List ℕ → ℕ
kind_byte d = get_or d 16 0

-- metadata and parts get go on with type 1 byte
abbrev pub type_byte : List ℕ → ℕ
type_byte d = get_or d 8 0

-- metadata and parts get are through a get object, SPEC 4.8 and 4.9
unfoldable pub needs_get : ℕ → Bool
needs_get op = within 0x0e 0x0f op

-- the member that the request names, and the object; and the member as create or modify would make it
abbrev pub member_named : List ℕ → List ℕ → Member
member_named c r = member_in c (target_of r)

abbrev pub object_named : List ℕ → List ℕ → Option ObjectKind
object_named c r = lookup_of (member_named c r) (object_id (data_of r))

abbrev pub member_made : List ℕ → List ℕ → Member
member_made c r = with_object (member_named c r) (object_id (data_of r)) (Some (kind_in (kind_byte (data_of r))))

abbrev pub is_live : Option ObjectKind → Bool
is_live x = on_found x (λ k. true) false

abbrev pub is_live_get : Option ObjectKind → Bool
is_live_get x = on_found x is_get false

abbrev pub is_live_set : Option ObjectKind → Bool
is_live_set x = on_found x is_set false

-- step 7, a field has a value that it may not have; ids is G + S
unfoldable pub bad_field : ℕ → ℕ → List ℕ → Bool
bad_field ids op d =
    (eqb op 0x01 and not (supported_only (le d)))  -- an unsupported bit; all bytes are one mask
    or (names_object op and not (eqb (object_type d) 0))  -- the type of an object
    or (names_object op and not (ltb (object_id d) ids))  -- an id of G + S or more
    or (has_flags op and not (eqb (flag_bytes d) 0))  -- flags
    or (has_kind op and not (leb (kind_byte d) 1))  -- a kind; the types of metadata and of parts get
    or (eqb op 0x0e and not (leb (type_byte d) 2))
    or (eqb op 0x0f and not (leb (type_byte d) 1))
    or (eqb op 0x11 and not (leb (get_or d 0 0) 1))  -- a mode bit other than bit 0
    or (eqb op 0x0f and eqb (type_byte d) 1 and not (leb (length d) 16))  -- any byte past 16 with get type 1

-- step 10, a bad list, SPEC 5.5 and 5.6; an asked list whose last header is incomplete is one
unfoldable pub bad_list : List ℕ → List ℕ → ℕ → Bool
bad_list c r op =
    (eqb op 0x0f and eqb (type_byte (data_of r)) 0 and not (asked_of (member_named c r).queues (asked_list r)))
    or (eqb op 0x10 and not (is_accepted (cause_of (member_named c r).queues (features_in (member_named c r)) (given_list r))))

-- the parts that a list asks for, each a header of 16 bytes and its value
unfoldable pub asked_size : ℕ → List ℕ → ℕ
asked_size queues list =
    total (map (λ (p : table_row.Row). when asks Asked queues list p then 16 + p.size else 0) inventory.rows)

-- the length of a result, SPEC 3.4
unfoldable pub result_size : List ℕ → List ℕ → ℕ → ℕ
result_size c r op =
    when eqb op 0x00 or eqb op 0x0c then 8 else
    when eqb op 0x0e then (when eqb (type_byte (data_of r)) 2 then 8 + 16 * part_count (member_named c r).queues else 8) else
    when eqb op 0x0f and eqb (type_byte (data_of r)) 1 then parts_size (member_named c r).queues else
    when eqb op 0x0f then asked_size (member_named c r).queues (asked_list r) else
    0

-- ---- the table; room is the reply buffer's length ----

unfoldable pub rows_at : List ℕ → List ℕ → ℕ → ℕ → List Row
rows_at c r room op =
    row (not (within 24 4096 (length r))) 22 1  -- 2
    ∷ row (not (eqb (group_of r) 1)) 22 4  -- 3
    ∷ row (not (supported op and bit (in_use_of c) op)) 22 2  -- 4
    ∷ row (names_member op and not (is_member c (target_of r))) 22 5  -- 5
    ∷ row (names_member op and is_marked c (target_of r)) 11 7  -- 02, request 10: handed back and not yet wiped
    ∷ row (bad_field ((setup_of c).gets + (setup_of c).sets) op (data_of r)) 22 3  -- 7
    -- 8a: a create, and the id is live
    ∷ row (eqb op 0x0a and is_live (object_named c r)) 17 1
    -- 8b: another command on an object, and the id is not live
    ∷ row (within 0x0b 0x10 op and not (is_live (object_named c r))) 6 1
    -- 8c: a create or modify, and its kind would then have more objects than there may be
    ∷ row (has_kind op and not (room_in (setup_of c).gets (setup_of c).sets (member_made c r))) 28 1
    -- 8d: the object is of the other kind
    ∷ row ((needs_get op and not (is_live_get (object_named c r))) or (eqb op 0x10 and not (is_live_set (object_named c r)))) 22 3
    ∷ row (eqb op 0x10 and not (is_stopped (member_named c r).mode)) 11 7  -- 9
    ∷ row (bad_list c r op) 22 3  -- 10
    ∷ row (not (leb (8 + result_size c r op) room)) 12 6  -- 11
    ∷ []

abbrev pub rows : List ℕ → List ℕ → ℕ → List Row
rows c r room = rows_at c r room (opcode_of r)

-- Past step 1, which the two hypotheses rule out: the reply starts with the status and the qualifier of the first row
-- that applies and four zero bytes. A refusal has no byte more, and a success has its result after them
pub record FirstRowAnswers (c r : List ℕ) (room : ℕ) : Type 0 where
  pub head : take 8 (respond c r room).1
      ≡ bytes 2 (first_of (rows c r room)).0 ++ (bytes 2 (first_of (rows c r room)).1 ++ replicate 4 0)
  pub size : length (respond c r room).1
      ≡ 8 + (when eqb (first_of (rows c r room)).0 0 then result_size c r (opcode_of r) else 0)

abbrev pub Statuses : Type 0
Statuses = (c r : List ℕ) (room : ℕ) → is_sound c ≡ true → 8 ≤ room → FirstRowAnswers c r room
