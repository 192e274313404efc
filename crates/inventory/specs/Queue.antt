-- Queue sizes that a split ring has, SPEC 13.5: 02, request 5. Assumes nothing.
use Rattle.std.specs.Prelude.{Bool, true, false, List, ℕ, zero, suc, ◌+◌, ◌^◌, leb, eqb, length}
use Rattle.theory.specs.Logic.{unless◌answer◌then◌, ◌and◌, ◌or◌}
use Rattle.theory.specs.Bytes.{bytes_at}
use Rattle.wire.specs.Le.{number}
use Rattle.inventory.specs.Inventory.{queue, offset_of}

-- n is 2 to the k for a k below the bound
unfoldable pub power_below : ℕ → ℕ → Bool
power_below zero n = false
power_below (suc k) n = eqb n (2 ^ k) or power_below k n

-- a power of two up to 32,768, which is 2 to the 15; or 0, where the enabled field is 0 too
unfoldable pub ring_size : ℕ → ℕ → Bool
ring_size size enabled = power_below 16 size or (eqb size 0 and eqb enabled 0)

-- the value of a queue part, 32 bytes: its size is the first two, its enabled field two from byte 4 on (002)
abbrev pub queue_size : ℕ
queue_size = 32

abbrev pub enabled_at : ℕ
enabled_at = 4

unfoldable pub queue_allowed : List ℕ → Bool
queue_allowed value = ring_size (number 0 2 value) (number enabled_at 2 value)

-- the value of a part of type t: only that of a queue has a size; a value of another length is refused for its length
unfoldable pub value_allowed : ℕ → List ℕ → Bool
value_allowed t value =
    unless eqb t queue answer true then
    unless eqb (length value) queue_size answer true then
    queue_allowed value

-- queue k has row 7 + k of the table; its value, among a member's values
abbrev pub queue_row : ℕ → ℕ
queue_row k = 7 + k

abbrev pub queue_value : ℕ → List ℕ → List ℕ
queue_value k values = bytes_at (offset_of (queue_row k)) queue_size values

-- queue k: a member with so many has not got it, so that nobody looks at its bytes, or its value is allowed
abbrev pub absent_or_allowed : ℕ → ℕ → List ℕ → Bool
absent_or_allowed queues k values = leb queues k or queue_allowed (queue_value k values)

-- no queue part among a member's values is one to be refused
unfoldable pub queues_allowed : ℕ → List ℕ → Bool
queues_allowed queues values =
    absent_or_allowed queues 0 values
    and absent_or_allowed queues 1 values
    and absent_or_allowed queues 2 values
    and absent_or_allowed queues 3 values
