-- NUMBERS OF THE PAPERS that no other claim or example has as a literal: worked examples, on the card of Examples.antt and in its
-- form. docs/PROOFS.md lists where each number is pinned. Assumes nothing.
use Rattle.std.specs.Prelude.{◌≡◌, List, [], ◌∷◌, ◌++◌, map, ℕ, replicate}
use Rattle.host.specs.Request.{set_parts}
use Rattle.demands.specs.Calls.{Call, card_store, answered, step}
use Rattle.demands.specs.Examples.{example_card, send, use_list, set_mode, get_selected, objects_live, refuses, gives, succeeds, header, header_bytes, status_part, Example, example, replies_to}

-- a part with this type, flags, selector and value of n bytes, all b
abbrev pub part_of : ℕ → ℕ → ℕ → ℕ → ℕ → List ℕ
part_of t flags s n b = header_bytes (header t flags s n) ++ replicate n b

-- parts set through object 1, parts get of one header through object 0
abbrev pub set_list : List ℕ → Call
set_list list = send (set_parts 1 1 list)

abbrev pub get_one : ℕ → ℕ → Call
get_one t s = get_selected 0 (header_bytes (header t 0 s 0))

abbrev pub stopped : List Call
stopped = objects_live ++ set_mode 1 1 ∷ []

unfoldable pub number_examples : List Example
number_examples =
    -- N1 list use: bits 0, 1 and 10 to 17 alone
    example [] (use_list 4 ∷ use_list 0x200 ∷ use_list 0x40000 ∷ use_list 0x400 ∷ []) (refuses 22 3 ∷ refuses 22 3 ∷ refuses 22 3 ∷ succeeds ∷ [])
    -- N2 a part that the member has not got is skipped, also when repeated, with the optional bit and a type below 0x600
    ∷ example stopped
    (set_list (part_of 0x5ff 1 0 3 7 ++ part_of 0x5ff 1 0 3 7) ∷ set_list (part_of 0x5ff 2 0 3 7) ∷ set_list (part_of 0x600 1 0 3 7) ∷ set_list (part_of 0x106 3 0 0 0) ∷ [])
    (succeeds ∷ refuses 22 3 ∷ refuses 22 3 ∷ succeeds ∷ [])
    -- N3 the lengths of the table: driver features 16, PCI common fields 4, 4, 2, 2, device status 1, queue 32, queue notify 8
    ∷ example stopped
    (set_list (part_of 0x101 0 0 16 1 ++ (part_of 0x102 0 0 4 2 ++ (part_of 0x102 0 8 4 3 ++ (part_of 0x102 0 16 2 4 ++ (part_of 0x102 0 22 2 5
    ++ (part_of 0x103 0 0 1 6 ++ (part_of 0x104 0 0 32 0 ++ part_of 0x105 0 0 8 7))))))) ∷ set_list (part_of 0x101 0 0 15 1) ∷ set_list (part_of 0x102 0 16 4 1)
    ∷ set_list (part_of 0x102 0 8 2 1) ∷ set_list (part_of 0x103 0 0 2 1) ∷ set_list (part_of 0x104 0 0 31 0) ∷ set_list (part_of 0x105 0 0 9 0)
    ∷ get_one 0x102 22 ∷ get_one 0x102 8 ∷ [])
    (succeeds ∷ refuses 22 3 ∷ refuses 22 3 ∷ refuses 22 3 ∷ refuses 22 3 ∷ refuses 22 3 ∷ refuses 22 3
    ∷ gives (part_of 0x102 0 22 2 5) ∷ gives (part_of 0x102 0 8 4 3) ∷ [])
    -- N4 no other selector: a PCI common field at 4, queue 1
    ∷ example stopped (set_list (part_of 0x102 0 4 4 1) ∷ get_one 0x102 4 ∷ get_one 0x104 1 ∷ get_one 0x106 0 ∷ [])
    (refuses 22 3 ∷ refuses 22 3 ∷ refuses 22 3 ∷ refuses 22 3 ∷ [])
    -- N5 device features are compared: those of the setup, others; with another length it is the length that is wrong
    ∷ example stopped (set_list (part_of 0x100 0 0 16 0) ∷ set_list (part_of 0x100 1 0 16 1) ∷ set_list (part_of 0x100 1 0 15 0) ∷ [])
    (succeeds ∷ refuses 22 3 ∷ refuses 22 3 ∷ [])
    -- N6 a header of 15 bytes, a value of which one byte is missing; the empty list
    ∷ example stopped (set_list (replicate 15 0) ∷ set_list (header_bytes (header 0x101 0 0 16) ++ replicate 15 0) ∷ set_list [] ∷ [])
    (refuses 22 3 ∷ refuses 22 3 ∷ succeeds ∷ [])
    -- N7 a known part twice, whatever its flags; asked for twice
    ∷ example stopped
    (set_list (status_part ++ part_of 0x103 1 0 1 5) ∷ get_selected 0 (header_bytes (header 0x103 0 0 0) ++ header_bytes (header 0x103 1 0 0)) ∷ [])
    (refuses 22 3 ∷ refuses 22 3 ∷ [])
    -- N8 a card store: device features and a part that is not there answer 2, another length 3
    ∷ example [] (card_store 1 0x100 0 (replicate 16 0) ∷ card_store 1 0x102 4 (replicate 4 0) ∷ card_store 1 0x101 0 (replicate 17 0)
    ∷ card_store 1 0x102 22 (1 ∷ 2 ∷ []) ∷ card_store 0 0x103 0 (1 ∷ []) ∷ [])
    (answered 2 ∷ answered 2 ∷ answered 3 ∷ answered 0 ∷ answered 1 ∷ [])
    -- N9 a list of 4,064 bytes makes a request of 4,096, and one byte more is 22/1
    ∷ example stopped (set_list (part_of 0x5ff 1 0 4048 0) ∷ set_list (part_of 0x5ff 1 0 4049 0) ∷ []) (succeeds ∷ refuses 22 1 ∷ [])
    ∷ []

abbrev pub NumbersHold : Type 0
NumbersHold = map (replies_to step example_card) number_examples ≡ map (λ (e : Example). e.expected) number_examples
