use borrow.Author.Rules.{rules}
use Rattle.figures.proofs.Taking.{open-refused, open-ready, open-taken}
use Rattle.figures.proofs.open_captures.Goals as goal

pub take_captures-requires : goal.take_captures-requires
take_captures-requires c = search (rules, open-ready)

pub returns-in-Ok : goal.returns-in-Ok
returns-in-Ok c = let read = c.in-Ok.ensures in search (rules, open-taken)

pub returns-in-Err : goal.returns-in-Err
returns-in-Err c = let read = c.in-Err.ensures in search (rules, open-refused)
