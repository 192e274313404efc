-- DEMAND 2: the bytes of a request that are not read are ignored: the reserved ones, and the member field of list query and list use,
-- SPEC 3.2, 4.3, 4.4, 4.8 and 4.9. Assumes nothing.
use Rattle.std.specs.Prelude.{◌≡◌, Bool, false, List, ℕ, leb, length, get_or}
use Rattle.theory.specs.Logic.{◌and◌, ◌or◌, within}
use Rattle.frame.specs.Frame.{opcode_of}
use Rattle.admin.specs.Command.{respond}
use Rattle.demands.specs.Statuses.{names_object, has_kind, needs_get}

-- byte i of a request with this opcode is not read: 12 reserved bytes of the frame, the member field of list query and list use,
-- two reserved bytes of an object header, seven behind a kind, and seven behind the type of metadata and of parts get
unfoldable pub is_unread : ℕ → ℕ → Bool
is_unread op i =
    within 4 15 i
    or (leb op 0x01 and within 16 23 i)
    or (names_object op and within 26 27 i)
    or (has_kind op and within 41 47 i)
    or (needs_get op and within 33 39 i)

-- Whatever the card is: two requests of one length that differ in such bytes at most get the same reply and leave the same card.
-- Example: frame-ignored in ../proofs/Unread.antt
abbrev pub UnreadIgnored : Type 0
UnreadIgnored =
    (c r s : List ℕ) (room : ℕ) → length s ≡ length r → ((i : ℕ) → is_unread (opcode_of r) i ≡ false → get_or s i 0 ≡ get_or r i 0)
    → respond c s room ≡ respond c r room
