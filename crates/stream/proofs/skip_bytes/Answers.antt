use borrow.Author.Rules.{rules}
use Rattle.theory.proofs.Ladder.{ladder}
use Rattle.stream.proofs.Totals.{counts-room}
use Rattle.stream.specs.Steps.{skipped}
use Rattle.stream.proofs.Feeding.{closes, skips}
use Rattle.stream.proofs.skip_bytes.Goals as goal

pub returns-then-count-p : goal.returns-then-count-p
returns-then-count-p c = search (rules, skips)

pub count_long-requires : goal.count_long-requires
count_long-requires c = search counts-room

pub returns : goal.returns
unfolding skipped
returns c = search (ladder, closes)
