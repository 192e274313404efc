use borrow.Author.Rules.{rules}
use Rattle.events.specs.Events.{set_up_from}
use Rattle.events.proofs.EventLaws.{read-few}
use Rattle.events.proofs.set_up_from.Goals as goal

pub returns-in-Err : goal.returns-in-Err
unfolding set_up_from
returns-in-Err c = search rules

pub set_up_of-requires : goal.set_up_of-requires
set_up_of-requires c = search (rules, read-few)

pub returns-in-Ok : goal.returns-in-Ok
unfolding set_up_from
returns-in-Ok c = search rules
