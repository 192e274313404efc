use borrow.Author.Rules.{rules}
use Rattle.card.proofs.ReadLaws.{member-loaded}
use Rattle.card.proofs.load_member.Goals as goal

pub returns : goal.returns
returns c = search (rules, member-loaded)
