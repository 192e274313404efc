use borrow.Author.Rules.{rules}
use Rattle.card.proofs.WriteLaws.{holding-lent}
use Rattle.card.proofs.holding.Goals as goal

pub returns : goal.returns
returns c = search (rules, holding-lent)
