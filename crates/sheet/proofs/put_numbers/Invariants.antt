-- The loop keeps what `Written` says.
use lib.ListN.{length}
use Rattle.theory.proofs.Items.{Written}
use Rattle.tally.specs.Rows.{row_count}
use Rattle.sheet.specs.Text.{number_line}
use Rattle.sheet.proofs.put_numbers.Given as goal

abbrev pub invariant-loop-name : goal.invariant-loop-name
invariant-loop-name l = Written (number_line l.counts) row_count 0 l.initial.out l.out l.at (length l.yielded)
