-- The invariant: the parts left, put where the next goes, give the whole.
use Rattle.theory.proofs.Items.{Written}
use Rattle.inventory.specs.Inventory.{row_count}
use Rattle.difference.specs.Difference.{made_item}
use Rattle.difference.proofs.write_made.Given as goal

abbrev pub invariant-loop-row : goal.invariant-loop-row
invariant-loop-row l = Written (made_item l.queues l.full l.later) row_count 0 l.initial.out l.out l.at l.row-index
