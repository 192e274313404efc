use Rattle.theory.proofs.Ladder.{ladder, no-not, yes-not}
use Rattle.difference.specs.Difference.{has_row}
use Rattle.difference.proofs.has_row.Goals as goal

pub returns-then-not-is_present : goal.returns-then-not-is_present
unfolding has_row
returns-then-not-is_present c = search (ladder, no-not)

pub returns : goal.returns
unfolding has_row
returns c = search (ladder, yes-not)
