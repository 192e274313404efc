-- The invariant: the parts left, put where the next goes, give the whole.
use Rattle.theory.proofs.Items.{Written}
use Rattle.inventory.specs.Inventory.{row_count}
use Rattle.capture.specs.Capture.{Asked, part_item}
use Rattle.capture.proofs.write_asked.Given as goal

abbrev pub invariant-loop-row : goal.invariant-loop-row
invariant-loop-row l = Written (part_item Asked l.queues l.asked l.values) row_count 0 l.initial.out l.out l.at l.row-index
