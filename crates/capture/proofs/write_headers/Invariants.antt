-- The invariant: the headers left, put where the next goes, give the whole.
use Rattle.theory.proofs.Items.{Written}
use Rattle.inventory.specs.Inventory.{row_count}
use Rattle.capture.specs.Capture.{header_item}
use Rattle.capture.proofs.write_headers.Given as goal

abbrev pub invariant-loop-row : goal.invariant-loop-row
invariant-loop-row l = Written (header_item l.queues) row_count 0 l.initial.out l.out l.at l.row-index
