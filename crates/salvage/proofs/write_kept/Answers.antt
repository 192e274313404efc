use native.Mathlib.Omega.{arith}
use borrow.Author.Rules.{rules}
use Rattle.theory.proofs.Items.{written-end}
use Rattle.inventory.specs.Inventory.{row_at, rows}
use Rattle.salvage.specs.Walk.{flags_of}
use Rattle.salvage.proofs.Flags.{flags-start, flags-room, flags-fits, flags-on, flags-skip}
use Rattle.salvage.proofs.write_kept.Goals.{then-is_present, else-is_present}
use Rattle.salvage.proofs.write_kept.Goals as goal

pub loop-i-init : goal.loop-i-init
unfolding flags_of
loop-i-init c = search (rules, flags-start)

pub bounds-out-at : goal.bounds-out-at
unfolding row_at rows
bounds-out-at c = search (rules, flags-room)

pub overflow_add-at : goal.overflow_add-at
unfolding row_at rows
overflow_add-at c = search (rules, flags-fits)

pub loop-i-preserved : goal.loop-i-preserved
unfolding row_at rows
loop-i-preserved c = elim c.if-is_present.branch [
  | then-is_present w ↦ rw (w.out-is, w.at-is) (search (rules, flags-on))
  | else-is_present w ↦ rw (w.out-is, w.at-is) (search (rules, flags-skip))
]

pub returns : goal.returns
unfolding flags_of
returns c = search (rules, written-end)
