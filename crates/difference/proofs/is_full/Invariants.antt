-- The loop keeps that the rows that are left answer for all.
use mathlib.Core.Path.{◌≡◌}
use Prim.Native.Nat.{◌-◌}
use Rattle.inventory.specs.Inventory.{row_count}
use Rattle.parts.specs.declared.ListForm.TheVariants.{Parts}
use Rattle.parts.specs.List.{parts_of}
use Rattle.difference.specs.Difference.{has_rows}
use Rattle.difference.proofs.is_full.Given as goal

abbrev pub invariant-loop-row : goal.invariant-loop-row
invariant-loop-row l = has_rows l.queues (parts_of Parts l.list) row_count 0
    ≡ has_rows l.queues (parts_of Parts l.list) (row_count - l.row-index) l.row-index
