-- What is wrong with one part, and the first of two causes, for the private functions of the walk that keeps the first. No
-- public contract cites this. Assumes nothing.
use Rattle.std.specs.Prelude.{Bool, true, false, not, List, ℕ, leb, ltb, eqb, length, Result, Ok, Err}
use Rattle.theory.specs.Logic.{when◌then◌else◌, unless◌answer◌then◌, ◌and◌, ◌or◌}
use Rattle.theory.specs.Bytes.{same}
use Rattle.inventory.specs.Inventory.{device_features}
use Rattle.inventory.specs.Queue.{value_allowed}
use Rattle.rules.specs.declared.Cause.{Cause}
use Rattle.rules.specs.declared.Cause.TheVariants.{Cut, Unknown, Length, Size, Features, Twice}
use Rattle.rules.specs.Rules.{is_optional, never_skipped}

-- what obeys these rules, and has no row seen before, is passed; else the first cause
unfoldable pub checked : Bool → Bool → Bool → Bool → Bool → Result (Unit {0}) Cause
checked known_or_skipped length_right size_right features_same seen =
    unless known_or_skipped answer Err Unknown then
    unless length_right answer Err Length then
    unless size_right answer Err Size then
    unless features_same answer Err Features then
    unless not seen answer Err Twice then
    Ok tt

-- a part which the member has not got
unfoldable pub absent_checked : ℕ → ℕ → Result (Unit {0}) Cause
absent_checked t flags = checked (is_optional flags and ltb t never_skipped) true true true false

-- a part which has a row, of this size, and whether the row was seen before
unfoldable pub row_checked : ℕ → Bool → ℕ → List ℕ → List ℕ → Result (Unit {0}) Cause
row_checked size seen t value features =
    checked true (eqb (length value) size) (value_allowed t value) (not (eqb t device_features) or same value features) seen

-- the causes in their order, and none after them
abbrev pub order : Result (Unit {0}) Cause → ℕ
order (Err Cut) = 0
order (Err Unknown) = 1
order (Err Length) = 2
order (Err Size) = 3
order (Err Features) = 4
order (Err Twice) = 5
order (Ok u) = 6

unfoldable pub first_of : Result (Unit {0}) Cause → Result (Unit {0}) Cause → Result (Unit {0}) Cause
first_of a b = when leb (order a) (order b) then a else b

-- where a row was seen again, whether a part is named twice decides
unfoldable pub decided : Result (Unit {0}) Cause → Bool → Result (Unit {0}) Cause
decided (Err Twice) twice = when twice then Err Twice else Ok tt
decided (Err Cut) twice = Err Cut
decided (Err Unknown) twice = Err Unknown
decided (Err Length) twice = Err Length
decided (Err Size) twice = Err Size
decided (Err Features) twice = Err Features
decided (Ok u) twice = Ok u
