-- The invariant: the bytes counted and those of the rows left are the whole.
use mathlib.Core.Path.{◌≡◌}
use Prim.Native.Nat.{◌+◌, ◌*◌, ◌-◌, ◌≤◌}
use Rattle.inventory.specs.Inventory.{row_count}
use Rattle.capture.specs.Capture.{Asked}
use Rattle.theory.proofs.Sums.{sum_from}
use Rattle.capture.proofs.Sizes.{item_size}
use Rattle.capture.proofs.asked_bytes.Given as goal

abbrev pub invariant-loop-row : goal.invariant-loop-row
invariant-loop-row l = (l.n ≤ 272 * l.row-index)
    × (l.n + sum_from (item_size Asked l.queues l.asked) (row_count - l.row-index) l.row-index ≡ sum_from (item_size Asked l.queues l.asked) row_count 0)
