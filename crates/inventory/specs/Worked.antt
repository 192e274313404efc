-- The row of a part worked out from its type and selector, and the quick test of queues, for the private functions that do
-- so. No public contract cites this. Assumes nothing.
use Rattle.std.specs.Prelude.{Bool, List, ℕ, ◌+◌, ◌%◌, ◌^◌, min, ltb, eqb, Option, Some, None}
use Rattle.theory.specs.Logic.{when◌then◌else◌, ◌and◌, ◌or◌}
use Rattle.wire.specs.Le.{number}
use Rattle.inventory.specs.Inventory.{offset_of}
use Rattle.inventory.specs.Queue.{power_below, queue_row}

-- the n-th, from 0, of so many rows of one type, which stand one after another from the first
unfoldable pub nth_of : ℕ → ℕ → ℕ → Option ℕ
nth_of first count n = when ltb n count then Some (first + n) else None

-- the row of the PCI common field at an offset
unfoldable pub field_at : ℕ → Option ℕ
field_at offset =
    when eqb offset 0 then Some 2 else
    when eqb offset 8 then Some 3 else
    when eqb offset 16 then Some 4 else
    when eqb offset 22 then Some 5 else
    None

-- the table has rows for four queues
abbrev pub queue_rows : ℕ → ℕ
queue_rows queues = min queues 4

-- the first eight bytes of a queue's value, as a number: all are 0, or the size, which is the first two, is a power of two
unfoldable pub plain_queue : ℕ → Bool
plain_queue first = eqb first 0 or power_below 16 (first % 2 ^ 16)

abbrev pub plain_at : ℕ → List ℕ → Bool
plain_at k values = plain_queue (number (offset_of (queue_row k)) 8 values)

unfoldable pub plain_queues : List ℕ → Bool
plain_queues values = plain_at 0 values and plain_at 1 values and plain_at 2 values and plain_at 3 values
