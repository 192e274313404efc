use borrow.Author.Rules.{rules}
use Rattle.events.proofs.EventLaws.{member-ended}
use Rattle.events.proofs.end_member.Goals as goal

pub returns : goal.returns
returns c = search (rules, member-ended)
