-- The invariant: the bytes left, put where the next goes, give the whole.
use Rattle.theory.proofs.Items.{Written}
use Rattle.inventory.specs.Inventory.{row_count}
use Rattle.salvage.specs.Walk.{flag_item}
use Rattle.salvage.proofs.write_kept.Given as goal

abbrev pub invariant-loop-i : goal.invariant-loop-i
invariant-loop-i l = Written (flag_item l.queues l.rows) row_count 0 l.initial.out l.out l.at l.i
