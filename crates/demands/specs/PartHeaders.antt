-- DEMAND 2: what is not read of the header of a part, SPEC 5.1, 5.4 and 5.6: its reserved byte, the selector bytes that its type does
-- not name, the flags of a part that the member has got; and of a header that is asked for its flags and its length too. Assumes
-- nothing.
use Rattle.std.specs.Prelude.{◌≡◌, false, List, ◌++◌, ℕ, eqb, length, get_or}
use Rattle.theory.specs.Logic.{when◌then◌else◌, ◌or◌}
use Rattle.theory.specs.Bytes.{bytes_at}
use Rattle.wire.specs.Le.{number}
use Rattle.inventory.specs.Inventory.{selector_of}
use Rattle.rules.specs.Rules.{known}
use Rattle.card.specs.Layout.{member_in}
use Rattle.frame.specs.Frame.{opcode_of, target_of}
use Rattle.admin.specs.Command.{respond}

-- how many of the eight selector bytes, from byte 4 on, a type names: an offset four, a queue index two
unfoldable pub named_bytes : ℕ → ℕ
named_bytes t = when eqb t 0x102 then 4 else when eqb t 0x104 or eqb t 0x105 then 2 else 0

-- two headers of 16 bytes with the same type, and the same bytes of the selector that it names
pub record SamePart (h k : List ℕ) : Type 0 where
  pub long : length h ≡ 16
  pub also_long : length k ≡ 16
  pub part_type : number 0 2 k ≡ number 0 2 h
  pub selector : bytes_at 4 (named_bytes (number 0 2 h)) k ≡ bytes_at 4 (named_bytes (number 0 2 h)) h

-- Two lists of parts for a member with so many queues: the same parts one after the other, x the value of each, and then the same
-- bytes, whatever they are. Headers of a part have the same length; they have the same flags where the member has not got the part
pub data SameGiven (queues : ℕ) : List ℕ → List ℕ → Type 0 where
  same_given : {l : List ℕ} → SameGiven queues l l
  next_given : {h k l m : List ℕ} (x : List ℕ) → SamePart h k → number 12 4 k ≡ number 12 4 h → length x ≡ number 12 4 h
      → (known queues (number 0 2 h) (selector_of (number 0 2 h) (number 4 8 h)) ≡ false → get_or k 2 0 ≡ get_or h 2 0)
      → SameGiven queues l m
      → SameGiven queues (h ++ (x ++ l)) (k ++ (x ++ m))

-- two lists of headers, and then the same bytes
pub data SameAsked : List ℕ → List ℕ → Type 0 where
  same_asked : {l : List ℕ} → SameAsked l l
  next_asked : {h k l m : List ℕ} → SamePart h k → SameAsked l m → SameAsked (h ++ l) (k ++ m)

-- Whatever the card is: two parts sets with the same bytes before their lists, and two parts gets, get the same reply and leave the
-- same card. Examples: given-alike and asked-alike in ../proofs/PartHeadersExample.antt
pub record HeadersNotRead : Type 0 where
  pub given : (c front list other : List ℕ) (room : ℕ) → length front ≡ 32 → opcode_of front ≡ 0x10
      → SameGiven (member_in c (target_of front)).queues list other
      → respond c (front ++ other) room ≡ respond c (front ++ list) room
  pub asked : (c front list other : List ℕ) (room : ℕ) → length front ≡ 40 → opcode_of front ≡ 0x0f → SameAsked list other
      → respond c (front ++ other) room ≡ respond c (front ++ list) room
