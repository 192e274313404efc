use borrow.Author.Rules.{rules}
use Rattle.card.proofs.WriteLaws.{member-reset}
use Rattle.card.proofs.reset_record.Goals as goal

pub returns : goal.returns
returns c = search (rules, member-reset)
