use borrow.Author.Rules.{rules}
use Rattle.tally.proofs.Captures.{room-more, long-counted}
use Rattle.tally.proofs.count_long.Goals as goal

pub with_capture-requires : goal.with_capture-requires
with_capture-requires c = (search (rules, room-more), search rules)

pub returns : goal.returns
returns c = search long-counted
