use borrow.Author.Rules.{rules}
use Rattle.difference.proofs.Handed.{later-told, full-told, refused-told}
use Rattle.difference.proofs.find_place.Goals as goal

pub returns-in-Ok-Later : goal.returns-in-Ok-Later
returns-in-Ok-Later c = search (rules, later-told)

pub returns-in-Ok-Full : goal.returns-in-Ok-Full
returns-in-Ok-Full c = search (rules, full-told)

pub returns-in-Err : goal.returns-in-Err
returns-in-Err c = search (rules, refused-told)
