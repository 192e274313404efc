-- The parts of a member and their order: SPEC 5.2 and 5.3; their selectors: SPEC 5.1. Assumes nothing.
use Rattle.std.specs.Prelude.{Bool, List, [], ◌∷◌, map, ℕ, ◌+◌, ◌*◌, ◌%◌, ◌^◌, ltb, eqb, get_or, take, Option, Some, None}
use Rattle.theory.specs.Logic.{when◌then◌else◌, ◌and◌, ◌or◌}
use Rattle.theory.specs.Bytes.{bytes_at}
-- a part's type and selector, the length of its value, and where the code's table says that it starts
use Rattle.inventory.specs.declared.Row.{Row}

-- the types of parts
abbrev pub device_features : ℕ
device_features = 0x100

abbrev pub driver_features : ℕ
driver_features = 0x101

abbrev pub pci_common : ℕ
pci_common = 0x102

abbrev pub device_status : ℕ
device_status = 0x103

abbrev pub queue : ℕ
queue = 0x104

abbrev pub queue_notify : ℕ
queue_notify = 0x105

-- the bytes of a feature set
abbrev pub features_size : ℕ
features_size = 16

abbrev pub row : ℕ → ℕ → ℕ → ℕ → Row
row t s n o = record { part_type = t; selector = s; size = n; offset = o }

-- the table of a member with four queues, by type, then selector
unfoldable pub rows : List Row
rows =
    row device_features 0 features_size 0
    ∷ row driver_features 0 features_size 16
    ∷ row pci_common 0 4 32 ∷ row pci_common 8 4 36 ∷ row pci_common 16 2 40 ∷ row pci_common 22 2 42  -- by offset
    ∷ row device_status 0 1 44
    ∷ row queue 0 32 45 ∷ row queue 1 32 77 ∷ row queue 2 32 109 ∷ row queue 3 32 141  -- by index
    ∷ row queue_notify 0 8 173 ∷ row queue_notify 1 8 181 ∷ row queue_notify 2 8 189 ∷ row queue_notify 3 8 197  -- by index
    ∷ []

abbrev pub row_count : ℕ
row_count = 15

-- the row of the device features
abbrev pub features_row : ℕ
features_row = 0

unfoldable pub row_at : ℕ → Row
row_at i = get_or rows i (row 0 0 0 0)

-- a member with so many queues has the part of a row: all but those of queues that it has not got
unfoldable pub present : ℕ → Row → Bool
present queues r = ltb r.part_type queue or ltb r.selector queues

-- A member's values stand one after the other, in the order of the table for four queues. ../proofs/Rules.antt proves that
-- the table's offsets are these sums.
abbrev pub total : List ℕ → ℕ
total [] = 0
total (n ∷ ns) = n + total ns

unfoldable pub offset_of : ℕ → ℕ
offset_of i = total (take i (map (λ (r : Row). r.size) rows))

abbrev pub values_size : ℕ
values_size = 205

-- row i's value among them
abbrev pub value_of : List ℕ → ℕ → List ℕ
value_of values i = bytes_at (offset_of i) (row_at i).size values

-- how many parts a member with so many queues has, and their bytes, headers included
abbrev pub part_count : ℕ → ℕ
part_count queues = 7 + 2 * queues

abbrev pub parts_size : ℕ → ℕ
parts_size queues = 157 + 72 * queues

-- the n low bytes of a number, as a number
abbrev pub low_bytes : ℕ → ℕ → ℕ
low_bytes n x = x % 256 ^ n

-- of the eight selector bytes, as a number, those that the type names: an offset 4, a queue index 2, else none
unfoldable pub selector_of : ℕ → ℕ → ℕ
selector_of t s =
    when eqb t pci_common then low_bytes 4 s else
    when eqb t queue or eqb t queue_notify then low_bytes 2 s else
    0

-- the row of a type and selector that a member with so many queues has
unfoldable pub is_row : ℕ → ℕ → ℕ → Row → Bool
is_row queues t s r = eqb r.part_type t and eqb r.selector s and present queues r

unfoldable pub seek : ℕ → ℕ → ℕ → List Row → ℕ → Option ℕ
seek queues t s [] i = None
seek queues t s (r ∷ rs) i = when is_row queues t s r then Some i else seek queues t s rs (i + 1)

unfoldable pub place_of : ℕ → ℕ → ℕ → Option ℕ
place_of queues t s = seek queues t s rows 0

-- f of the row that has a part, or a where the member has not got the part
abbrev pub on_place {ℓ} : {A : Type ℓ} → Option ℕ → (ℕ → A) → A → A
on_place (Some i) f a = f i
on_place None f a = a
