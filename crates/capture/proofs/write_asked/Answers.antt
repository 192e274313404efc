use borrow.Author.Rules.{rules}
use Rattle.theory.proofs.Items.{written_start, written-end}
use Rattle.inventory.specs.Inventory.{row_at, rows}
use Rattle.capture.specs.Capture.{parts_written}
use Rattle.capture.proofs.Writes.{row_small, row_inside, parts-room, parts-on, parts-skip}
use Rattle.capture.proofs.write_asked.Goals.{then-is_asked, else-is_asked}
use Rattle.capture.proofs.write_asked.Goals as goal

pub loop-row-init : goal.loop-row-init
unfolding parts_written
loop-row-init c = search (rules, written_start)

pub write_part-at-requires : goal.write_part-at-requires
unfolding parts_written row_at rows
write_part-at-requires c = (search (rules, row_small), search (rules, row_inside), search (rules, parts-room))

pub loop-row-preserved : goal.loop-row-preserved
unfolding parts_written row_at rows
loop-row-preserved c = elim c.if-is_asked.branch [
  | then-is_asked w ↦ rw (w.out-is, w.at-is) (search (rules, parts-on))
  | else-is_asked w ↦ rw (w.out-is, w.at-is) (search (rules, parts-skip))
]

pub returns : goal.returns
unfolding parts_written
returns c = search (rules, written-end)
