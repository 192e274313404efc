-- The numbers of the sheet, and what a capture adds to each: 02, request 11. Assumes nothing.
use Rattle.std.specs.Prelude.{List, [], ◌∷◌, map, ℕ, ◌+◌, eqb, length, Result, Ok, Err}
use Rattle.theory.specs.Logic.{when◌then◌else◌, ◌and◌, indicator}
use Rattle.inventory.specs.Inventory.{device_features, driver_features, pci_common, device_status, queue, queue_notify}
use Rattle.parts.specs.declared.ListForm.TheVariants.{Parts}
use Rattle.parts.specs.List.{PartList, end, cut, part, parts_of, longest_list}
use Rattle.rules.specs.declared.Cause.{Cause}
use Rattle.rules.specs.declared.Cause.TheVariants.{Cut, Unknown, Length, Size, Features, Twice}
use Rattle.rules.specs.Rules.{known, cause_of}

-- Each capture is counted in one of the lines 1 to 8, besides `read`: in that of the first cause that occurs anywhere in it
abbrev pub cause_line : Result (Unit {0}) Cause → ℕ
cause_line (Ok u) = 1
cause_line (Err Cut) = 2
cause_line (Err Unknown) = 3
cause_line (Err Length) = 4
cause_line (Err Size) = 5
cause_line (Err Features) = 6
cause_line (Err Twice) = 7

-- or, where it is over 4,064 bytes, the longest list of a request, in a line of its own
abbrev pub long_line : ℕ
long_line = 8

abbrev pub longest : ℕ
longest = longest_list

-- parts of this type that a member with so many queues has; skipped parts are not among them
unfoldable pub parts_of_type : ℕ → ℕ → PartList → ℕ
parts_of_type queues t end = 0
parts_of_type queues t cut = 0
parts_of_type queues t (part p ps) =
    indicator (eqb p.part_type t and known queues p.part_type p.selector) + parts_of_type queues t ps

-- a line: its name, and what a capture that is counted in the line k adds to its number, by the queue count
pub record Row : Type 0 where
  pub name : List ℕ
  pub adds : ℕ → ℕ → List ℕ → ℕ

abbrev pub row : List ℕ → (ℕ → ℕ → List ℕ → ℕ) → Row
row name adds = record { name = name; adds = adds }

-- the captures that are counted in the line i
abbrev captures : ℕ → ℕ → ℕ → List ℕ → ℕ
captures i queues k c = indicator (eqb k i)

-- over accepted captures: their parts of a type, and their bytes without the lengths before them
abbrev over_accepted : ℕ → ℕ → ℕ
over_accepted k n = when eqb k (cause_line (Ok tt)) then n else 0

abbrev parts : ℕ → ℕ → ℕ → List ℕ → ℕ
parts t queues k c = over_accepted k (parts_of_type queues t (parts_of Parts c))

abbrev bytes : ℕ → ℕ → List ℕ → ℕ
bytes queues k c = over_accepted k (length c)

-- the sixteen lines with a number, in their order
unfoldable pub rows : List Row
rows =
    row (0x72 ∷ 0x65 ∷ 0x61 ∷ 0x64 ∷ []) (λ queues k c. 1)  -- read
    ∷ row (0x61 ∷ 0x63 ∷ 0x63 ∷ 0x65 ∷ 0x70 ∷ 0x74 ∷ 0x65 ∷ 0x64 ∷ []) (captures 1)  -- accepted
    ∷ row (0x63 ∷ 0x75 ∷ 0x74 ∷ []) (captures 2)  -- cut
    ∷ row (0x75 ∷ 0x6e ∷ 0x6b ∷ 0x6e ∷ 0x6f ∷ 0x77 ∷ 0x6e ∷ []) (captures 3)  -- unknown
    ∷ row (0x6c ∷ 0x65 ∷ 0x6e ∷ 0x67 ∷ 0x74 ∷ 0x68 ∷ []) (captures 4)  -- length
    ∷ row (0x73 ∷ 0x69 ∷ 0x7a ∷ 0x65 ∷ []) (captures 5)  -- size
    ∷ row (0x66 ∷ 0x65 ∷ 0x61 ∷ 0x74 ∷ 0x75 ∷ 0x72 ∷ 0x65 ∷ 0x73 ∷ []) (captures 6)  -- features
    ∷ row (0x74 ∷ 0x77 ∷ 0x69 ∷ 0x63 ∷ 0x65 ∷ []) (captures 7)  -- twice
    ∷ row (0x6c ∷ 0x6f ∷ 0x6e ∷ 0x67 ∷ []) (captures 8)  -- long
    ∷ row (0x30 ∷ 0x78 ∷ 0x31 ∷ 0x30 ∷ 0x30 ∷ []) (parts device_features)  -- 0x100
    ∷ row (0x30 ∷ 0x78 ∷ 0x31 ∷ 0x30 ∷ 0x31 ∷ []) (parts driver_features)  -- 0x101
    ∷ row (0x30 ∷ 0x78 ∷ 0x31 ∷ 0x30 ∷ 0x32 ∷ []) (parts pci_common)  -- 0x102
    ∷ row (0x30 ∷ 0x78 ∷ 0x31 ∷ 0x30 ∷ 0x33 ∷ []) (parts device_status)  -- 0x103
    ∷ row (0x30 ∷ 0x78 ∷ 0x31 ∷ 0x30 ∷ 0x34 ∷ []) (parts queue)  -- 0x104
    ∷ row (0x30 ∷ 0x78 ∷ 0x31 ∷ 0x30 ∷ 0x35 ∷ []) (parts queue_notify)  -- 0x105
    ∷ row (0x62 ∷ 0x79 ∷ 0x74 ∷ 0x65 ∷ 0x73 ∷ []) bytes  -- bytes
    ∷ []

abbrev pub row_count : ℕ
row_count = 16

-- what a capture adds to each number, by the line in which it is counted
unfoldable pub adds_in : ℕ → ℕ → List ℕ → List ℕ
adds_in queues k c = map (λ (r : Row). r.adds queues k c) rows

abbrev pub adds_of : ℕ → List ℕ → List ℕ → List ℕ
adds_of queues features c = adds_in queues (cause_line (cause_of queues features c)) c

-- a long one is not looked into, so the queue count does not matter
abbrev pub adds_long : List ℕ
adds_long = adds_in 0 long_line []
