-- The counts that are lent are those of the members.
use borrow.Author.Rules.{rules}
use Rattle.events.proofs.EventLaws.{set-up-by}
use Rattle.events.proofs.set_up_of.Goals as goal

pub returns : goal.returns
returns c = search (rules, set-up-by)
