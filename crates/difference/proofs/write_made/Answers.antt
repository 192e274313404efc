use borrow.Author.Rules.{rules}
use Rattle.theory.proofs.Items.{written_start, written-end}
use Rattle.inventory.specs.Inventory.{row_at, rows}
use Rattle.difference.specs.Difference.{made}
use Rattle.difference.proofs.Writing.{made-room, made-on, made-skip}
use Rattle.difference.proofs.write_made.Goals.{then-is_present, else-is_present}
use Rattle.difference.proofs.write_made.Goals as goal

pub loop-row-init : goal.loop-row-init
unfolding made
loop-row-init c = search (rules, written_start)

pub write_part-at-requires : goal.write_part-at-requires
unfolding row_at rows
write_part-at-requires c = made-room _ _ _ _ _ _ _ c.loop-row.invariant c.loop-row-test.true _ c.is_present.ensures c.if-is_present.true

pub loop-row-preserved : goal.loop-row-preserved
unfolding made row_at rows
loop-row-preserved c = elim c.if-is_present.branch [
  | then-is_present w ↦ rw (w.out-is, w.at-is) (search (rules, made-on))
  | else-is_present w ↦ rw (w.out-is, w.at-is) (search (rules, made-skip))
]

pub returns : goal.returns
unfolding made
returns c = search (rules, written-end)
