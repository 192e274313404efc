-- Step 10, a bad list: one given to be set, SPEC 5.5, and one asked for, SPEC 5.6. Assumes nothing.
use Rattle.std.specs.Prelude.{Bool, true, false, not, List, ℕ, ◌%◌, ltb, eqb, length, is_some, Result, Ok, Err}
use Rattle.theory.specs.Logic.{unless◌answer◌then◌, ◌and◌, ◌or◌}
use Rattle.theory.specs.Bytes.{same}
use Rattle.inventory.specs.Inventory.{row_at, device_features, place_of, on_place}
use Rattle.inventory.specs.Queue.{value_allowed}
use Rattle.parts.specs.declared.ListForm.TheVariants.{Parts, Headers}
use Rattle.parts.specs.List.{Part, PartList, end, cut, part, parts_of, whole, among}
use Rattle.rules.specs.declared.Cause.{Cause}
use Rattle.rules.specs.declared.Cause.TheVariants.{Cut, Unknown, Length, Size, Features, Twice}

-- ---- rules of one part ----

-- the member has this part: it is known (01's term)
unfoldable pub known : ℕ → ℕ → ℕ → Bool
known queues t s = is_some (place_of queues t s)

-- the optional bit is bit 0 of the flags; no part of the type 0x600 or above is skipped
abbrev pub is_optional : ℕ → Bool
is_optional flags = eqb (flags % 2) 1

abbrev pub never_skipped : ℕ
never_skipped = 0x600

-- a part that is not known is skipped where its optional bit is set and its type is low enough, and else refused
unfoldable pub known_or_skipped : ℕ → Part → Bool
known_or_skipped queues p =
    known queues p.part_type p.selector
    or (is_optional p.flags and ltb p.part_type never_skipped)

-- the value of a known part is as long as the table says
unfoldable pub length_right : ℕ → Part → Bool
length_right queues p =
    on_place (place_of queues p.part_type p.selector) (λ i. eqb (length p.value) (row_at i).size) true

-- a known queue part has a size that a ring has: SPEC 13.5
unfoldable pub size_right : ℕ → Part → Bool
size_right queues p = not (known queues p.part_type p.selector) or value_allowed p.part_type p.value

-- device features that are given are the member's
unfoldable pub features_same : List ℕ → Part → Bool
features_same features p = not (eqb p.part_type device_features) or same p.value features

-- a header asked for is that of a known part, whatever its flags
unfoldable pub asks_known : ℕ → Part → Bool
asks_known queues p = known queues p.part_type p.selector

-- ---- rules of a list ----

unfoldable pub every : (Part → Bool) → PartList → Bool
every rule end = true
every rule cut = true
every rule (part p ps) = rule p and every rule ps

-- a known part is given or asked for twice: it is among those after it
unfoldable pub repeated : ℕ → PartList → Bool
repeated queues end = false
repeated queues cut = false
repeated queues (part p ps) =
    (known queues p.part_type p.selector and among p.part_type p.selector ps)
    or repeated queues ps

-- a list given to be set: the first cause, in the order of SPEC 5.5, that occurs anywhere in it
unfoldable pub cause_in : ℕ → List ℕ → PartList → Result (Unit {0}) Cause
cause_in queues features ps =
    unless whole ps answer Err Cut then
    unless every (known_or_skipped queues) ps answer Err Unknown then
    unless every (length_right queues) ps answer Err Length then
    unless every (size_right queues) ps answer Err Size then
    unless every (features_same features) ps answer Err Features then
    unless not (repeated queues ps) answer Err Twice then
    Ok tt

abbrev pub cause_of : ℕ → List ℕ → List ℕ → Result (Unit {0}) Cause
cause_of queues features l = cause_in queues features (parts_of Parts l)

abbrev pub is_accepted : Result (Unit {0}) Cause → Bool
is_accepted (Ok u) = true
is_accepted (Err c) = false

-- a list of headers asked for: whole headers, each of a known part, none twice
unfoldable pub asked_in : ℕ → PartList → Bool
asked_in queues ps = whole ps and every (asks_known queues) ps and not (repeated queues ps)

abbrev pub asked_of : ℕ → List ℕ → Bool
asked_of queues l = asked_in queues (parts_of Headers l)
