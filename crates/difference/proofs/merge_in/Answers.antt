use borrow.Author.Rules.{rules}
use Rattle.difference.proofs.Verdicts.{merge-refused, merge-room, merge-done}
use Rattle.difference.proofs.merge_in.Goals as goal

pub returns-in-Err : goal.returns-in-Err
returns-in-Err c = search (rules, merge-refused)

pub write_made-requires : goal.write_made-requires
write_made-requires c = search (rules, merge-room)

pub returns : goal.returns
returns c = search (rules, merge-done)
