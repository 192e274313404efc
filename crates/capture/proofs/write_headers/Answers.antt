use borrow.Author.Rules.{rules}
use Rattle.theory.proofs.Items.{written_start, written-end}
use Rattle.inventory.specs.Inventory.{row_at, rows}
use Rattle.capture.specs.Capture.{headers_of}
use Rattle.capture.proofs.Writes.{headers-room, headers-on, headers-skip}
use Rattle.capture.proofs.write_headers.Goals.{then-is_present, else-is_present}
use Rattle.capture.proofs.write_headers.Goals as goal

pub loop-row-init : goal.loop-row-init
unfolding headers_of
loop-row-init c = search (rules, written_start)

pub write_header-requires : goal.write_header-requires
unfolding headers_of row_at rows
write_header-requires c = search (rules, headers-room)

pub loop-row-preserved : goal.loop-row-preserved
unfolding headers_of row_at rows
loop-row-preserved c = elim c.if-is_present.branch [
  | then-is_present w ↦ rw (w.out-is, w.at-is) (search (rules, headers-on))
  | else-is_present w ↦ rw (w.out-is, w.at-is) (search (rules, headers-skip))
]

pub returns : goal.returns
unfolding headers_of
returns c = search (rules, written-end)
